use Rattle.std.proofs.Common.{subst}
use Rattle.course.specs.Starts.{AreLinesInRange}
use Rattle.course.proofs.laws.law_scenario_starts.Goals as goal

pub returns : goal.returns
returns c = c.law_starts.ensures.start c.args.scenario.now (subst AreLinesInRange c.lines.ensures.lines c.law_lines.ensures) c.lines.ensures.rules
