use Rattle.std.proofs.Common.{Some, ap}
use Rattle.spool_store.proofs.First.{read_again}
use Rattle.spool_store.proofs.beginning.first_contents.Goals as goal

pub returns-in-Ok : goal.returns-in-Ok
returns-in-Ok c =
    ap Some
    (read_again c.args.batch.now.0 c.args.batch.now.1 c.bytes.result.now c.in-Ok.batch c.new.result.items c.law_one_reading.ensures c.bytes.ensures.batch c.bytes.ensures.bytes c.in-Ok.ensures.reading
    c.new.ensures.items)
