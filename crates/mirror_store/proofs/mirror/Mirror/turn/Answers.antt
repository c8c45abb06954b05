use Rattle.std.proofs.Common.{◌≡◌, ◌≢◌, [], sym, ◌∙◌, ap, subst}
use Rattle.x_base.specs.declared.verdict.Verdict.TheVariants.{Accept}
use Rattle.key_store.specs.Store.{Stored}
use Rattle.node_core.specs.Planned.{PlannedNode}
use Rattle.node_core.specs.Turns.{member_of}
use Rattle.mirror_store.specs.Turns.{IsPairTurn, pair_plan, pair_plan_at}
use Rattle.mirror_store.specs.declared.mirror.PairTurn.TheVariants as turn
use Rattle.mirror_store.proofs.Turned.{no_memory, accepted_plan}
use Rattle.mirror_store.proofs.mirror.Mirror.turn.Goals as goal

pub carry_out-requires-clause-same : goal.carry_out-requires-clause-same
carry_out-requires-clause-same g c = c.self.invariant.same ∙ sym (ap (λ (p : PlannedNode g.row.D.Denot). p.node.party) c.in-Ok.ensures.planned)

pub carry_out-requires-clause-accepted : goal.carry_out-requires-clause-accepted
carry_out-requires-clause-accepted g c =
    subst (λ (p : PlannedNode g.row.D.Denot). p.plan.edits ≢ [] → p.plan.verdict ≡ Accept) (sym c.in-Ok.ensures.planned)
    (accepted_plan c.law_refusal.ensures (member_of c.self.inside.node) c.args.input.now c.args.moment)

pub returns-in-Ok : goal.returns-in-Ok
returns-in-Ok g c =
    let told = g.D.Disk.told in
    subst (λ m. IsPairTurn told m (pair_plan_at (member_of m.first) c.args.input.now c.args.moment) c.carry_out.result) c.self.view_is
    (subst (λ (p : PlannedNode g.row.D.Denot). IsPairTurn told (record { first = p.node; second = c.self.inside.second }) (pair_plan p.node.party p.plan) c.carry_out.result) c.in-Ok.ensures.planned c.carry_out.ensures)

pub returns-in-Err : goal.returns-in-Err
returns-in-Err g c =
    let told = g.D.Disk.told in
    let first = c.self.inside.node in
    let second = c.self.inside.second in
    subst (λ m. IsPairTurn told m (pair_plan_at (member_of m.first) c.args.input.now c.args.moment) (turn.NoMemory (record { first = c.in-Err.node; second = second }))) c.self.view_is
    (subst (λ (n : Stored g.row.D.Denot). IsPairTurn told (record { first = first; second = second }) (pair_plan_at (member_of first) c.args.input.now c.args.moment) (turn.NoMemory (record { first = n; second = second }))) (sym c.in-Err.ensures.same)
    (no_memory told first second (g.met.D.Disk.sound second.disk) c.self.invariant.second_stands c.self.invariant.same (g.met.D.Disk.sound first.disk) c.self.invariant.first_stands (pair_plan_at (member_of first) c.args.input.now c.args.moment)))
