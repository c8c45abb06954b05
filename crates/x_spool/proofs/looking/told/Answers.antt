use Rattle.std.proofs.Common.{arith}
use Rattle.x_spool.proofs.looking.told.Goals as goal

pub overflow_cast-missing : goal.overflow_cast-missing
overflow_cast-missing g c =
    let p = c.progress.ensures.spool.progress in
    omega (arith, p.few, p.sized.few, c.open_entries-missing.ensures)
