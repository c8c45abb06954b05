use Rattle.x917.proofs.ScenarioBytes.{scenario_read, bad_read}
use Rattle.x917.proofs.replaying.take_scenario.Goals as goal

pub returns-in-Ok-read-clause-read : goal.returns-in-Ok-read-clause-read
returns-in-Ok-read-clause-read g c =
    scenario_read c.law_few_bytes.ensures _ _ c.in-Ok.input c.bytes.result.now c.in-Ok-read.scenario c.in-Ok.ensures.took c.in-Ok.ensures.end c.bytes.ensures c.in-Ok-read.ensures

pub returns-in-Err-BadLine-clause-unread : goal.returns-in-Err-BadLine-clause-unread
returns-in-Err-BadLine-clause-unread g c =
    bad_read c.law_bad_in_front.ensures _ c.in-Ok.input c.bytes.result.now c.in-Err-BadLine.number c.in-Ok.ensures.front c.bytes.ensures
    (rw c.in-Err-BadLine.field-0-is at c.in-Err-BadLine.ensures)
