use Rattle.std.proofs.Common.{◌≡◌, ◌+◌, Ok, Err, length, subst}
use Rattle.key_journal.specs.Layout.{area_size}
use Rattle.key_journal.specs.States.{other_start}
use Rattle.journal_state.specs.States.{Stood}
use Rattle.journal_state.specs.Keeping.{IsReplaced}
use Rattle.journal_state.proofs.Carried.{switched, switched_standing, not_switched}
use Rattle.journal_state.proofs.standing.Standing.replace.Goals as goal

pub returns-in-Err-clause-replaced : goal.returns-in-Err-clause-replaced
returns-in-Err-clause-replaced g c =
    let told = g.D.Disk.told in
    let step = g.J.Judge.step in
    let start = g.J.Judge.start in
    let old : Stood g.row.D.Denot g.row.J.Denot = record { disk = c.self.inside.ready.disk; gate = c.self.inside.ready.gate; end = c.self.inside.ready.end; state = c.self.inside.state } in
    subst (λ s. IsReplaced step start told s c.args.next (Err c.in-Err.broken)) c.self.view_is
    (not_switched step start told old c.args.next c.self.invariant c.args.frame.now c.requires c.in-Err.broken c.in-Err.ensures)

pub invariant_of-result : goal.invariant_of-result
invariant_of-result g c =
    let inside = c.self.inside in
    let old : Stood g.row.D.Denot g.row.J.Denot = record { disk = inside.ready.disk; gate = inside.ready.gate; end = inside.ready.end; state = inside.state } in
    switched_standing g.J.Judge.step g.J.Judge.start g.D.Disk.told old c.args.next c.self.invariant c.args.frame.now c.requires c.in-Ok.ready c.in-Ok.ensures

pub returns-clause-replaced : goal.returns-clause-replaced
returns-clause-replaced g c =
    let told = g.D.Disk.told in
    let step = g.J.Judge.step in
    let start = g.J.Judge.start in
    let old : Stood g.row.D.Denot g.row.J.Denot = record { disk = c.self.inside.ready.disk; gate = c.self.inside.ready.gate; end = c.self.inside.ready.end; state = c.self.inside.state } in
    let new : Stood g.row.D.Denot g.row.J.Denot = record { disk = c.in-Ok.ready.disk; gate = c.in-Ok.ready.gate; end = c.in-Ok.ready.end; state = c.args.next } in
    subst (λ s. IsReplaced step start told s c.args.next (Ok new)) c.self.view_is
    (switched step start told old c.args.next c.self.invariant c.args.frame.now c.requires c.in-Ok.ready c.in-Ok.ensures)

pub returns-clause-place : goal.returns-clause-place
returns-clause-place g c =
    let new = c.in-Ok.ready in
    subst (λ s. (new.gate ≡ other_start s.end + length c.args.frame.now) × (new.end ≡ other_start s.end + area_size)) c.self.view_is c.in-Ok.ensures.place
