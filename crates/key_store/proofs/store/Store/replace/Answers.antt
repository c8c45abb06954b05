use Rattle.std.proofs.Common.{◌∙◌, Ok, Err, subst}
use Rattle.party_state.specs.State.{Party}
use Rattle.change_code.specs.declared.format.Format.TheVariants.{Two}
use Rattle.key_store.specs.Store.{Stored}
use Rattle.key_store.specs.Replacing.{IsReplacing}
use Rattle.key_store.proofs.TakenOver.{other_store, replaced, replacing_failed}
use Rattle.key_store.proofs.store.Store.replace.Goals as goal

pub invariant_of-result : goal.invariant_of-result
invariant_of-result g c =
    let old : Stored g.row.D.Denot = record { disk = c.self.inside.ready.disk; gate = c.self.inside.ready.gate; end = c.self.inside.ready.end; format = c.self.inside.format; party = c.self.inside.state } in
    other_store g.D.Disk.told old c.self.invariant c.framed.inside.state c.bytes.result.now (record { is = c.bytes.ensures ∙ c.framed.invariant.is; body = c.framed.invariant.body; fold = c.framed.invariant.fold; small = c.framed.invariant.small }) c.in-Ok.ready c.in-Ok.ensures

pub returns-in-Ok : goal.returns-in-Ok
returns-in-Ok g c =
    let told = g.D.Disk.told in
    let old : Stored g.row.D.Denot = record { disk = c.self.inside.ready.disk; gate = c.self.inside.ready.gate; end = c.self.inside.ready.end; format = c.self.inside.format; party = c.self.inside.state } in
    let new : Stored g.row.D.Denot = record { disk = c.in-Ok.ready.disk; gate = c.in-Ok.ready.gate; end = c.in-Ok.ready.end; format = Two; party = c.framed.inside.state } in
    subst (λ (p : Party). IsReplacing told c.args.self p (Ok new)) c.framed.view_is
    (subst (λ s. IsReplacing told s c.framed.inside.state (Ok new)) c.self.view_is
    (replaced told old c.self.invariant c.framed.inside.state c.bytes.result.now (record { is = c.bytes.ensures ∙ c.framed.invariant.is; body = c.framed.invariant.body; fold = c.framed.invariant.fold; small = c.framed.invariant.small }) c.in-Ok.ready c.in-Ok.ensures))

pub returns : goal.returns
returns g c =
    let told = g.D.Disk.told in
    let old : Stored g.row.D.Denot = record { disk = c.self.inside.ready.disk; gate = c.self.inside.ready.gate; end = c.self.inside.ready.end; format = c.self.inside.format; party = c.self.inside.state } in
    subst (λ (p : Party). IsReplacing told c.args.self p (Err c.in-Err.broken)) c.framed.view_is
    (subst (λ s. IsReplacing told s c.framed.inside.state (Err c.in-Err.broken)) c.self.view_is
    (replacing_failed told old c.self.invariant c.framed.inside.state c.bytes.result.now (record { is = c.bytes.ensures ∙ c.framed.invariant.is; body = c.framed.invariant.body; fold = c.framed.invariant.fold; small = c.framed.invariant.small }) c.in-Err.broken c.in-Err.ensures))
