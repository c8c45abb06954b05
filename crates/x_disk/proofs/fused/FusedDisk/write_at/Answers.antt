use Rattle.std.proofs.Common.{Err, subst, sym, ◌∙◌}
use Rattle.x_disk.specs.Calls.{IsWriting}
use Rattle.x_disk.specs.Fuse.{with_fuse}
use Rattle.x_disk.proofs.FusedCalls.{begun_writing, is_last_call, passed_writing, refused_writing}
use Rattle.x_disk.proofs.fused.FusedDisk.write_at.Goals as goal

pub returns-in-Ok-clause-call : goal.returns-in-Ok-clause-call
returns-in-Ok-clause-call g c =
    subst (λ f. IsWriting c.args.at c.args.bytes.now (with_fuse f.fuse (g.D.Disk.told f.disk)) (with_fuse c.burn.new.self (g.D.Disk.told c.write_at.new.self)) c.write_at.result) c.self.view_is
    (passed_writing c.args.at c.args.bytes.now c.self.inside.fuse c.burn.new.self (g.D.Disk.told c.self.inside.disk) (g.D.Disk.told c.write_at.new.self) c.write_at.result c.in-Ok.ensures c.write_at.ensures)

pub returns-else-last-clause-call : goal.returns-else-last-clause-call
returns-else-last-clause-call g c =
    let e = c.in-Err.cause in
    subst (λ f. IsWriting c.args.at c.args.bytes.now (with_fuse f.fuse (g.D.Disk.told f.disk)) (with_fuse c.burn.new.self (g.D.Disk.told c.self.inside.disk)) (Err e)) c.self.view_is
    (refused_writing c.args.at c.args.bytes.now c.self.inside.fuse c.burn.new.self (g.D.Disk.told c.self.inside.disk) e (g.met.D.Disk.sound c.self.inside.disk) c.in-Err.ensures)

pub returns-then-last-clause-call : goal.returns-then-last-clause-call
returns-then-last-clause-call g c =
    let e = c.in-Err.cause in
    let told = g.D.Disk.told in
    subst (λ f. IsWriting c.args.at c.args.bytes.now (with_fuse f.fuse (told f.disk)) (with_fuse c.burn.new.self (told c.write_at-then-last.new.self)) (Err e)) c.self.view_is
    (begun_writing c.args.at c.args.bytes.now c.self.inside.fuse c.burn.new.self (told c.self.inside.disk) (told c.write_at-then-last.new.self) c.write_at-then-last.result e (is_last_call c.self.inside.fuse (sym c.is_last-last.ensures ∙ c.if-last.true)) c.in-Err.ensures c.write_at-then-last.ensures)
