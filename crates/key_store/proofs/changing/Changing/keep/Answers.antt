use Rattle.std.proofs.Common.{Ok, Err, sym, ◌∙◌, subst}
use Rattle.party_state.specs.State.{Party}
use Rattle.change_code.specs.Framed.{AreFramed, IsFramed}
use Rattle.key_store.specs.Store.{Stored, IsStore}
use Rattle.key_store.specs.Keeping.{IsKept}
use Rattle.key_store.proofs.Carrying.{kept_none, not_staged, not_committed, committed, new_stands}
use Rattle.key_store.proofs.changing.Changing.keep.Goals as goal

pub returns-in_default : goal.returns-in_default
returns-in_default g c =
    let told = g.D.Disk.told in
    let edits = c.self.inside.prepared.edits in
    let old : Stored g.row.D.Denot = record { disk = c.self.inside.ready.disk; gate = c.self.inside.ready.gate; end = c.self.inside.ready.end; format = c.self.inside.format; party = c.self.inside.prepared.party } in
    let none = subst (λ f. AreFramed c.self.inside.format edits f) c.in_default.is c.self.invariant.framed in
    let same = c.finish.ensures ∙ sym (kept_none told old edits (g.met.D.Disk.sound old.disk) c.self.invariant.store none).party in
    subst (λ s. IsKept told s.store s.edits (Ok (record { disk = c.self.inside.ready.disk; gate = c.self.inside.ready.gate; end = c.self.inside.ready.end; format = c.self.inside.format; party = c.finish.result }))) c.self.view_is
    (subst (λ p. IsKept told old edits (Ok (record { disk = c.self.inside.ready.disk; gate = c.self.inside.ready.gate; end = c.self.inside.ready.end; format = c.self.inside.format; party = p }))) (sym same)
    (kept_none told old edits (g.met.D.Disk.sound old.disk) c.self.invariant.store none))

pub invariant_of-result-in-Ok-commit : goal.invariant_of-result-in-Ok-commit
invariant_of-result-in-Ok-commit g c =
    let told = g.D.Disk.told in
    let edits = c.self.inside.prepared.edits in
    let old : Stored g.row.D.Denot = record { disk = c.self.inside.ready.disk; gate = c.self.inside.ready.gate; end = c.self.inside.ready.end; format = c.self.inside.format; party = c.self.inside.prepared.party } in
    let framed = subst (λ t. IsFramed c.self.inside.format edits t) (sym c.bytes.ensures) (subst (λ f. AreFramed c.self.inside.format edits f) c.in-Some.is c.self.invariant.framed) in
    subst (λ (p : Party). IsStore (told c.in-Ok-commit.ready.disk) c.in-Ok-commit.ready.gate c.in-Ok-commit.ready.end c.self.inside.format p) (sym c.finish-in-Ok-commit.ensures)
    (new_stands told old edits (g.met.D.Disk.sound old.disk) c.self.invariant.store c.self.invariant.go_on c.bytes.result.now framed c.in-Ok.staged c.in-Ok.ensures c.in-Ok-commit.ready c.in-Ok-commit.ensures)

pub returns-in-Err : goal.returns-in-Err
returns-in-Err g c =
    let told = g.D.Disk.told in
    let edits = c.self.inside.prepared.edits in
    let old : Stored g.row.D.Denot = record { disk = c.self.inside.ready.disk; gate = c.self.inside.ready.gate; end = c.self.inside.ready.end; format = c.self.inside.format; party = c.self.inside.prepared.party } in
    let framed = subst (λ t. IsFramed c.self.inside.format edits t) (sym c.bytes.ensures) (subst (λ f. AreFramed c.self.inside.format edits f) c.in-Some.is c.self.invariant.framed) in
    subst (λ s. IsKept told s.store s.edits (Err c.in-Err.broken)) c.self.view_is
    (not_staged told old edits (g.met.D.Disk.sound old.disk) c.self.invariant.store c.self.invariant.go_on c.bytes.result.now framed c.in-Err.broken c.in-Err.ensures)

pub returns-in-Err-commit : goal.returns-in-Err-commit
returns-in-Err-commit g c =
    let told = g.D.Disk.told in
    let edits = c.self.inside.prepared.edits in
    let old : Stored g.row.D.Denot = record { disk = c.self.inside.ready.disk; gate = c.self.inside.ready.gate; end = c.self.inside.ready.end; format = c.self.inside.format; party = c.self.inside.prepared.party } in
    let framed = subst (λ t. IsFramed c.self.inside.format edits t) (sym c.bytes.ensures) (subst (λ f. AreFramed c.self.inside.format edits f) c.in-Some.is c.self.invariant.framed) in
    subst (λ s. IsKept told s.store s.edits (Err c.in-Err-commit.broken)) c.self.view_is
    (not_committed told old edits (g.met.D.Disk.sound old.disk) c.self.invariant.store c.self.invariant.go_on c.bytes.result.now framed c.in-Ok.staged c.in-Ok.ensures c.in-Err-commit.broken c.in-Err-commit.ensures)

pub returns-in-Ok-commit : goal.returns-in-Ok-commit
returns-in-Ok-commit g c =
    let told = g.D.Disk.told in
    let edits = c.self.inside.prepared.edits in
    let old : Stored g.row.D.Denot = record { disk = c.self.inside.ready.disk; gate = c.self.inside.ready.gate; end = c.self.inside.ready.end; format = c.self.inside.format; party = c.self.inside.prepared.party } in
    let framed = subst (λ t. IsFramed c.self.inside.format edits t) (sym c.bytes.ensures) (subst (λ f. AreFramed c.self.inside.format edits f) c.in-Some.is c.self.invariant.framed) in
    subst (λ s. IsKept told s.store s.edits (Ok (record { disk = c.in-Ok-commit.ready.disk; gate = c.in-Ok-commit.ready.gate; end = c.in-Ok-commit.ready.end; format = c.self.inside.format; party = c.finish-in-Ok-commit.result }))) c.self.view_is
    (subst (λ (p : Party). IsKept told old edits (Ok (record { disk = c.in-Ok-commit.ready.disk; gate = c.in-Ok-commit.ready.gate; end = c.in-Ok-commit.ready.end; format = c.self.inside.format; party = p }))) (sym c.finish-in-Ok-commit.ensures)
    (committed told old edits (g.met.D.Disk.sound old.disk) c.self.invariant.store c.self.invariant.go_on c.bytes.result.now framed c.in-Ok.staged c.in-Ok.ensures c.in-Ok-commit.ready c.in-Ok-commit.ensures))
