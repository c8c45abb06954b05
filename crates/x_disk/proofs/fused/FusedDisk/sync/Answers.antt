use Rattle.std.proofs.Common.{◌≡◌, Err, rules, sym, subst}
use Rattle.x_disk.specs.Calls.{IsSyncing}
use Rattle.x_disk.specs.Fuse.{with_fuse}
use Rattle.x_disk.proofs.FusedCalls.{passed_syncing, refused_syncing}
use Rattle.x_disk.proofs.fused.FusedDisk.sync.Goals as goal

pub returns-in_err-burn-clause-call : goal.returns-in_err-burn-clause-call
returns-in_err-burn-clause-call g c =
    let e = c.in_err-burn.field-0.0 in
    let i : c.from_residual.result ≡ Err e = search rules in
    subst (λ f. IsSyncing (with_fuse f.fuse (g.D.Disk.told f.disk)) (with_fuse c.burn.new.self (g.D.Disk.told c.self.inside.disk)) c.from_residual.result) c.self.view_is
    (subst (λ r. IsSyncing (with_fuse c.self.inside.fuse (g.D.Disk.told c.self.inside.disk)) (with_fuse c.burn.new.self (g.D.Disk.told c.self.inside.disk)) r) (sym i)
    (refused_syncing c.self.inside.fuse c.burn.new.self (g.D.Disk.told c.self.inside.disk) e (g.met.D.Disk.sound c.self.inside.disk) c.in_err-burn.ensures))

pub returns-clause-call : goal.returns-clause-call
returns-clause-call g c =
    subst (λ f. IsSyncing (with_fuse f.fuse (g.D.Disk.told f.disk)) (with_fuse c.burn.new.self (g.D.Disk.told c.sync.new.self)) c.sync.result) c.self.view_is
    (passed_syncing c.self.inside.fuse c.burn.new.self (g.D.Disk.told c.self.inside.disk) (g.D.Disk.told c.sync.new.self) c.sync.result c.in_ok-burn.ensures c.sync.ensures)
