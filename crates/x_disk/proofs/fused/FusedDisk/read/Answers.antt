use Rattle.std.proofs.Common.{◌≡◌, Err, rules, sym, subst}
use Rattle.x_disk.specs.Calls.{IsFilled}
use Rattle.x_disk.specs.Fuse.{with_fuse}
use Rattle.x_disk.proofs.FusedCalls.{passed_filled, refused_filled}
use Rattle.x_disk.proofs.fused.FusedDisk.read.Goals as goal

pub returns-in_err-burn-clause-call : goal.returns-in_err-burn-clause-call
returns-in_err-burn-clause-call g c =
    let e = c.in_err-burn.field-0.0 in
    let i : c.from_residual.result ≡ Err e = search rules in
    subst (λ f. IsFilled c.args.at c.args.buf.now c.args.buf.now (with_fuse f.fuse (g.D.Disk.told f.disk)) (with_fuse c.burn.new.self (g.D.Disk.told c.self.inside.disk)) c.from_residual.result) c.self.view_is
    (subst (λ r. IsFilled c.args.at c.args.buf.now c.args.buf.now (with_fuse c.self.inside.fuse (g.D.Disk.told c.self.inside.disk)) (with_fuse c.burn.new.self (g.D.Disk.told c.self.inside.disk)) r) (sym i)
    (refused_filled c.args.at c.args.buf.now c.args.buf.now c.self.inside.fuse c.burn.new.self (g.D.Disk.told c.self.inside.disk) e c.in_err-burn.ensures))

pub returns-clause-call : goal.returns-clause-call
returns-clause-call g c =
    subst (λ f. IsFilled c.args.at c.args.buf.now c.read.new.buf (with_fuse f.fuse (g.D.Disk.told f.disk)) (with_fuse c.burn.new.self (g.D.Disk.told c.read.new.self)) c.read.result) c.self.view_is
    (passed_filled c.args.at c.args.buf.now c.read.new.buf c.self.inside.fuse c.burn.new.self (g.D.Disk.told c.self.inside.disk) (g.D.Disk.told c.read.new.self) c.read.result c.in_ok-burn.ensures c.read.ensures)
