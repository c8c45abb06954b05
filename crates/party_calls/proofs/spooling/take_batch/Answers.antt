use Rattle.party_calls.proofs.BatchEnds.{bad_batch, batch_read}
use Rattle.party_calls.proofs.spooling.take_batch.Goals as goal

pub returns-in-Ok-read-clause-takes : goal.returns-in-Ok-read-clause-takes
returns-in-Ok-read-clause-takes g c =
    batch_read _ _ c.in-Ok.input c.bytes.result.now _ c.in-Ok.ensures.took c.in-Ok.ensures.end c.bytes.ensures c.in-Ok-read.ensures.reading.0 c.in-Ok-read.ensures.sized.short

pub returns-in-Err-BadLine-clause-none : goal.returns-in-Err-BadLine-clause-none
returns-in-Err-BadLine-clause-none g c =
    bad_batch c.law_bad_in_front.ensures _ c.in-Ok.input c.bytes.result.now c.in-Err-BadLine.number c.in-Ok.ensures.front c.bytes.ensures
    (rw c.in-Err-BadLine.field-0-is at c.in-Err-BadLine.ensures.reading)
