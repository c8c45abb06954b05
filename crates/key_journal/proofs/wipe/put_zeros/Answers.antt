use Rattle.std.proofs.Common.{subst}
use Rattle.std.proofs.lemmas.List.{take-replicate}
use Rattle.x_disk.specs.Calls.{IsWriting}
use Rattle.key_journal.proofs.wipe.put_zeros.Goals as goal

pub returns : goal.returns
returns g c =
    subst (λ bytes. IsWriting c.args.at bytes (g.D.Disk.told c.args.disk.now) (g.D.Disk.told c.write_at.new.self) c.write_at.result)
    (take-replicate c.args.count 65536 0 c.requires.few) c.write_at.ensures
