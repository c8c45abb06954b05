use Rattle.std.proofs.Common.{◌∙◌, ◌≡◌, Ok, Err, sym, subst}
use Rattle.party_state.specs.State.{Party}
use Rattle.key_journal.specs.Causes.{cause_of}
use Rattle.key_journal.specs.declared.cause.Unmade.{Unmade}
use Rattle.change_code.specs.declared.format.Format.TheVariants.{Two}
use Rattle.key_store.specs.Store.{Stored}
use Rattle.key_store.specs.Replacing.{IsMadeAs}
use Rattle.key_store.proofs.TakenOver.{made_store, made_as, making_failed, place_of}
use Rattle.key_store.proofs.store.Store.made.Goals as goal

pub invariant_of-result : goal.invariant_of-result
invariant_of-result g c =
    let p = c.in-Ok.ensures in
    made_store g.D.Disk.told c.args.disk c.in-Ok.blank.disk c.framed.inside.state c.bytes.result.now (record { is = c.bytes.ensures ∙ c.framed.invariant.is; body = c.framed.invariant.body; fold = c.framed.invariant.fold; small = c.framed.invariant.small })
    p.blank p.nothing_written p.any_moment p.faults p.tells c.in-Ok-create.ready c.in-Ok-create.ensures

pub returns-in-Ok-create-clause-made : goal.returns-in-Ok-create-clause-made
returns-in-Ok-create-clause-made g c =
    let p = c.in-Ok.ensures in
    let new : Stored g.row.D.Denot = record { disk = c.in-Ok-create.ready.disk; gate = c.in-Ok-create.ready.gate; end = c.in-Ok-create.ready.end; format = Two; party = c.framed.inside.state } in
    subst (λ (q : Party). IsMadeAs g.D.Disk.told q c.args.disk (Ok new)) c.framed.view_is
    (made_as g.D.Disk.told c.args.disk c.in-Ok.blank.disk c.framed.inside.state c.bytes.result.now (record { is = c.bytes.ensures ∙ c.framed.invariant.is; body = c.framed.invariant.body; fold = c.framed.invariant.fold; small = c.framed.invariant.small })
    p.blank p.nothing_written p.any_moment p.faults p.tells c.in-Ok-create.ready c.in-Ok-create.ensures)

pub returns-in-Ok-create-clause-place : goal.returns-in-Ok-create-clause-place
returns-in-Ok-create-clause-place g c = place_of c.framed.inside.state c.args.framed c.framed.view_is c.bytes.result.now (c.bytes.ensures ∙ c.framed.invariant.is) c.in-Ok-create.ready.gate c.in-Ok-create.ready.end c.in-Ok-create.ensures.place

pub returns-clause-made : goal.returns-clause-made
returns-clause-made g c =
    let p = c.in-Ok.ensures in
    let b = c.in-Err-create.broken in
    let unmade : Unmade g.row.D.Denot = record { disk = b.disk; cause = cause_of b.cause } in
    let same : unmade ≡ c.give_up.result = (λ i. record { disk = sym c.give_up.ensures.disk i; cause = sym c.give_up.ensures.cause i }) in
    subst (λ u. IsMadeAs g.D.Disk.told c.args.framed c.args.disk (Err u)) same
    (subst (λ (q : Party). IsMadeAs g.D.Disk.told q c.args.disk (Err unmade)) c.framed.view_is
    (making_failed g.D.Disk.told c.args.disk c.in-Ok.blank.disk c.framed.inside.state c.bytes.result.now (record { is = c.bytes.ensures ∙ c.framed.invariant.is; body = c.framed.invariant.body; fold = c.framed.invariant.fold; small = c.framed.invariant.small })
    p.blank p.nothing_written p.any_moment p.faults p.tells b c.in-Err-create.ensures))
