use Rattle.scenario_drill.proofs.Drilling.{IsDrilled}
use Rattle.scenario_drill.proofs.drill_text.drill.Given as goal

abbrev pub invariant-loop-number : goal.invariant-loop-number
invariant-loop-number l = IsDrilled l.fn.seed l.number l.script.text l.draws.number
