-- What the course of a scenario is: a run of events (this project's profile).
use Rattle.std.specs.Prelude.{◌≡◌, ◌++◌, Bool, true, false, List}
use Rattle.scenario.specs.declared.line.Line.{Line}
use Rattle.world_laws.specs.Events.{AreEvents}
use Rattle.world_laws.specs.Steps.{run, number_after}
use Rattle.world_laws.specs.Honest.{HonestRun}
use Rattle.course.specs.Course.{Course, Happened, events_of}
use Rattle.scenario.specs.declared.line.Line.TheVariants as line

-- whether a line is an event
abbrev pub is_event : Line → Bool
is_event (line.Party name role pair v) = false
is_event (line.Link origin recipient label pair) = false
is_event (line.Time moment) = false
is_event (line.Stop n choice) = false
is_event l = true

-- from one course to another this happened: the network is the end of the run of its events, and each was honest
pub record Ran (c e : Course) : Type 0 where
  pub happened : List Happened
  pub listed : e.happened ≡ c.happened ++ happened
  pub are : AreEvents (events_of happened)
  pub ran : e.world ≡ run c.now.number c.world (events_of happened)
  pub honest : HonestRun c.now.number c.world (events_of happened)
  pub numbers : e.now.number ≡ number_after c.now.number (events_of happened)
