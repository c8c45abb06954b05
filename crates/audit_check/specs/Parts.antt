-- The parts of the auditor's input.
use Rattle.std.specs.Prelude.{ℕ, List}
use Rattle.scenario.specs.declared.line.Line.{Line}

-- the lines of the scenario, the letters, and the transcript
pub record Parts : Type 0 where
  pub lines : List Line
  pub letters : List ℕ
  pub transcript : List ℕ
