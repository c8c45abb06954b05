-- The audits to which lines lead are those of honest runs.
use Rattle.std.proofs.Common.{◌≡◌, ℕ, Bool, false, List, sym, subst}
use Rattle.scenario.specs.declared.line.Line.{Line}
use Rattle.world_laws.specs.World.{World}
use Rattle.world_laws.specs.Events.{Event, AreEvents}
use Rattle.world_laws.specs.Steps.{run}
use Rattle.world_laws.specs.Honest.{HonestRun}
use Rattle.world_laws.specs.Starts.{IsStart}
use Rattle.course.specs.Course.{Course, Happened, LinesLead, events_of}
use Rattle.course.specs.Ends.{Ran}
use Rattle.course.specs.Lawful.{IsLawful}
use Rattle.course.specs.Starts.{start_course, start_world}
use Rattle.audit_check.specs.Laws.{RunsLawful}
use Rattle.audit_check.proofs.Courses.{run_leads}

module _ (lawful : (start w : World) (events : List Event) → IsStart start → AreEvents events → w ≡ run 1 start events → HonestRun 1 start events → IsLawful start events w)
    (runs : (tell : Bool) (before after : ℕ) (lines : List Line) (c e : Course) → LinesLead tell before after lines c e → Ran c e) where
  pub runs_lawful : RunsLawful
  runs_lawful lines letters end begins leads =
      let r : Ran (start_course lines) end = runs false 0 0 lines (start_course lines) end (run_leads 0 0 lines letters end leads) in
      subst (λ (h : List Happened). IsLawful (start_world lines) (events_of h) end.world) (sym r.listed) (lawful (start_world lines) end.world (events_of r.happened) begins r.are r.ran r.honest)
