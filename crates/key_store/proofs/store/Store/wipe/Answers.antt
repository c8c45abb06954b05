use Rattle.std.proofs.Common.{Ok, Err, subst}
use Rattle.key_store.specs.Store.{Stored}
use Rattle.key_store.specs.Wiping.{IsStoreWipe}
use Rattle.key_store.proofs.Wiped.{wiped_store, wiped_over, wipe_failed}
use Rattle.key_store.proofs.store.Store.wipe.Goals as goal

pub invariant_of-result : goal.invariant_of-result
invariant_of-result g c =
    wiped_store g.D.Disk.told (record { disk = c.self.inside.ready.disk; gate = c.self.inside.ready.gate; end = c.self.inside.ready.end; format = c.self.inside.format; party = c.self.inside.state })
    c.self.invariant c.in-Ok.ready c.in-Ok.ensures

pub returns-in-Ok : goal.returns-in-Ok
returns-in-Ok g c =
    let told = g.D.Disk.told in
    let old : Stored g.row.D.Denot = record { disk = c.self.inside.ready.disk; gate = c.self.inside.ready.gate; end = c.self.inside.ready.end; format = c.self.inside.format; party = c.self.inside.state } in
    subst (λ s. IsStoreWipe told s (Ok (record { disk = c.in-Ok.ready.disk; gate = c.in-Ok.ready.gate; end = c.in-Ok.ready.end; format = c.self.inside.format; party = c.self.inside.state }))) c.self.view_is
    (wiped_over told old c.self.invariant c.in-Ok.ready c.in-Ok.ensures)

pub returns-in-Err : goal.returns-in-Err
returns-in-Err g c =
    let told = g.D.Disk.told in
    let old : Stored g.row.D.Denot = record { disk = c.self.inside.ready.disk; gate = c.self.inside.ready.gate; end = c.self.inside.ready.end; format = c.self.inside.format; party = c.self.inside.state } in
    subst (λ s. IsStoreWipe told s (Err c.in-Err.broken)) c.self.view_is
    (wipe_failed told old c.self.invariant c.in-Err.broken c.in-Err.ensures)
