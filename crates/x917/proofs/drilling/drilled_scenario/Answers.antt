use Rattle.std.proofs.Common.{◌∙◌}
use Rattle.x917.proofs.Drills.{never_read_bad}
use Rattle.x917.proofs.drilling.drilled_scenario.Goals as goal

pub unreachable-requires : goal.unreachable-requires
unreachable-requires c =
    never_read_bad c.law_drills_read.ensures c.law_never_both.ensures c.args.seed c.args.events c.requires.high c.bytes.result.now (c.bytes.ensures ∙ c.in-Ok.ensures)
    _ _ c.in-Err-BadLine.field-0-is c.in-Err-BadLine.ensures
