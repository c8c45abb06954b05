-- What holds of the text of each drill: this project's profile.
use Rattle.std.specs.Prelude.{ℕ, ◌≤◌, List}
use Rattle.scenario.specs.declared.line.Line.{Line}
use Rattle.scenario.specs.Reading.{IsScenario}
use Rattle.scenario_drill.specs.Drill.{drill_text}

-- with 10,000 events or fewer it is a scenario
abbrev pub DrillsRead : Type 0
DrillsRead = (seed events : ℕ) → events ≤ 10000 → (lines : List Line) × IsScenario (drill_text seed events) lines
