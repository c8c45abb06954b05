-- The networks of a scenario are ends of honest runs.
use Rattle.std.proofs.Common.{◌≡◌, ℕ, Bool, List, [], ◌∷◌, ◌++◌, sym, ap, ◌∙◌, subst}
use Rattle.scenario.specs.declared.line.Line.{Line}
use Rattle.world_laws.specs.World.{World, member_at}
use Rattle.world_laws.specs.Events.{Event, AreEvents, IsAction}
use Rattle.world_laws.specs.Honest.{HonestAt, HonestRun}
use Rattle.world_laws.specs.Starts.{IsStart}
use Rattle.world_laws.specs.Steps.{run, step, number_after}
use Rattle.course.specs.Course.{Course, Happened, LinesLead, events_of}
use Rattle.course.specs.Ends.{Ran}
use Rattle.course.specs.Lawful.{IsLawful}
use Rattle.course.specs.Starts.{start_course, start_world}

are_more : (events : List Event) (e : Event) → AreEvents events → IsAction e.action → AreEvents (events ++ e ∷ [])
are_more [] e are is = (is, tt)
are_more (x ∷ events) e are is = (are.0, are_more events e are.1 is)

module _ (lawful : (start w : World) (events : List Event) → IsStart start → AreEvents events → w ≡ run 1 start events → HonestRun 1 start events → IsLawful start events w)
    (runs : (tell : Bool) (before after : ℕ) (lines : List Line) (c e : Course) → LinesLead tell before after lines c e → Ran c e) where
  pub reached : (lines front : List Line) (tell : Bool) (before after : ℕ) (c : Course) → IsStart (start_world lines) → LinesLead tell before after front (start_course lines) c → IsLawful (start_world lines) (events_of c.happened) c.world
  reached lines front tell before after c begins leads =
      let r = runs tell before after front (start_course lines) c leads in
      subst (λ (h : List Happened). IsLawful (start_world lines) (events_of h) c.world) (sym r.listed) (lawful (start_world lines) c.world (events_of r.happened) begins r.are r.ran r.honest)

  pub behind : (goes_on : (n : ℕ) (w : World) (es : List Event) (e : Event) → run n w (es ++ e ∷ []) ≡ step (number_after n es) (run n w es) e)
      → (stays : (n : ℕ) (w : World) (es : List Event) (e : Event) → HonestRun n w es → HonestAt (run n w es).facts (member_at e.party (run n w es).members) e.action → HonestRun n w (es ++ e ∷ []))
      → (lines front : List Line) (tell : Bool) (before after : ℕ) (c : Course) (e : Event) → IsStart (start_world lines) → LinesLead tell before after front (start_course lines) c
      → IsAction e.action → HonestAt c.world.facts (member_at e.party c.world.members) e.action → IsLawful (start_world lines) (events_of c.happened ++ e ∷ []) (step c.now.number c.world e)
  behind goes_on stays lines front tell before after c e begins leads is honest =
      let r = runs tell before after front (start_course lines) c leads in
      let es = events_of r.happened in
      subst (λ (h : List Happened). IsLawful (start_world lines) (events_of h ++ e ∷ []) (step c.now.number c.world e)) (sym r.listed)
      (lawful (start_world lines) (step c.now.number c.world e) (es ++ e ∷ []) begins (are_more es e r.are is)
      (ap (λ (n : ℕ). step n c.world e) r.numbers ∙ (ap (λ (w : World). step (number_after 1 es) w e) r.ran ∙ sym (goes_on 1 (start_world lines) es e)))
      (stays 1 (start_world lines) es e r.honest (subst (λ (w : World). HonestAt w.facts (member_at e.party w.members) e.action) r.ran honest)))
