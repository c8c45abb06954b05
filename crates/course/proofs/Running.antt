-- The courses to which lines lead are those of runs.
use Rattle.std.proofs.Common.{◌≡◌, ℕ, suc, Bool, List, [], ◌∷◌, ◌++◌, Option, Some, None, refl, sym, ◌∙◌, ap, subst, arith}
use Rattle.std.proofs.lemmas.List.{append-nil, append_assoc}
use Rattle.scenario.specs.declared.line.Line.{Line}
use Rattle.scenario.specs.declared.line.Line.TheVariants as line
use Rattle.member.specs.Member.{Member}
use Rattle.world_laws.specs.World.{World, member_at}
use Rattle.world_laws.specs.Events.{Event, IsAction}
use Rattle.world_laws.specs.Steps.{step, run, number_after}
use Rattle.world_laws.specs.Honest.{HonestAt, HonestRun}
use Rattle.course.specs.LineEvents.{LineEvent, Nothing, At, IsFormed}
use Rattle.course.specs.Course.{Course, Happened, events_of, no_event, IsDoneBy, IsDone, IsEvent, IsNext, LinesLead}
use Rattle.course.specs.Ends.{Ran}
use Rattle.course.specs.declared.progress.EventOutcome.{EventOutcome}

-- one event more, in front
ran_on : (c mid e : Course) (event : Event) (o : EventOutcome) → IsAction event.action → HonestAt c.world.facts (member_at event.party c.world.members) event.action → mid.world ≡ step c.now.number c.world event → mid.now.number ≡ suc c.now.number → mid.happened ≡ c.happened ++ record { event = event; outcome = o } ∷ [] → Ran mid e → Ran c e
ran_on c mid e event o formed honest world number more r = record {
  happened = record { event = event; outcome = o } ∷ r.happened;
  listed = r.listed ∙ (ap (λ (l : List Happened). l ++ r.happened) more ∙ append_assoc c.happened (record { event = event; outcome = o } ∷ []) r.happened);
  are = (formed, r.are);
  ran = r.ran ∙ λ i. run (number i) (world i) (events_of r.happened);
  honest = (honest, subst (λ (n : ℕ). HonestRun n (step c.now.number c.world event) (events_of r.happened)) number (subst (λ (w : World). HonestRun mid.now.number w (events_of r.happened)) world r.honest));
  numbers = r.numbers ∙ ap (λ (n : ℕ). number_after n (events_of r.happened)) number;
}

quiet_honest : (c : Course) → HonestAt c.world.facts (member_at [] c.world.members) (no_event c.now.moment).action
quiet_honest c = go (member_at [] c.world.members)
  where
    go : (o : Option Member) → HonestAt c.world.facts o (no_event c.now.moment).action
    go None = tt
    go (Some x) = tt

record Fair (c : Course) (event : Event) : Type 0 where
  pub formed : IsAction event.action
  pub honest : HonestAt c.world.facts (member_at event.party c.world.members) event.action

nothing_fair : (c : Course) (event : Event) → event ≡ no_event c.now.moment → Fair c event
nothing_fair c event is = subst (Fair c) (sym is) (record { formed = tt; honest = quiet_honest c })

done_fair : (tell : Bool) (before after : ℕ) (c : Course) (h : LineEvent) (event : Event) (o : EventOutcome) → IsFormed h → IsDone tell before after c h event o → Fair c event
done_fair tell before after c Nothing event o formed done = nothing_fair c event done.0
done_fair tell before after c (At own action) event o formed done = go (member_at own c.world.members) refl done
  where
    go : (m : Option Member) → member_at own c.world.members ≡ m → IsDoneBy tell before after c own m action event o → Fair c event
    go None is d = nothing_fair c event d.0
    go (Some x) is d = subst (Fair c) (sym d.is) (record {
      formed = formed;
      honest = subst (λ (m : Option Member). HonestAt c.world.facts m action) (sym is) d.honest;
    })

event_ran : (tell : Bool) (before after : ℕ) (l : Line) (c mid e : Course) → IsEvent tell before after l c mid → Ran mid e → Ran c e
event_ran tell before after l c mid e is r =
    let fair : Fair c is.event = done_fair tell before after c is.line_event is.event is.outcome is.formed is.done in
    ran_on c mid e is.event is.outcome fair.formed fair.honest (ap (λ (x : Course). x.world) is.leads) (ap (λ (x : Course). x.now.number) is.leads ∙ omega arith) (ap (λ (x : Course). x.happened) is.leads) r

still_ran : (c mid e : Course) → mid.world ≡ c.world → mid.now.number ≡ c.now.number → mid.happened ≡ c.happened → Ran mid e → Ran c e
still_ran c mid e world number same r = record {
  happened = r.happened;
  listed = r.listed ∙ ap (λ (l : List Happened). l ++ r.happened) same;
  are = r.are;
  ran = r.ran ∙ λ i. run (number i) (world i) (events_of r.happened);
  honest = subst (λ (n : ℕ). HonestRun n c.world (events_of r.happened)) number (subst (λ (w : World). HonestRun mid.now.number w (events_of r.happened)) world r.honest);
  numbers = r.numbers ∙ ap (λ (n : ℕ). number_after n (events_of r.happened)) number;
}

next_ran : (tell : Bool) (before after : ℕ) (l : Line) (c mid e : Course) → IsNext tell before after l c mid → Ran mid e → Ran c e
next_ran tell before after (line.Party name role pair v) c mid e is r = still_ran c mid e (ap (λ (x : Course). x.world) is) (ap (λ (x : Course). x.now.number) is) (ap (λ (x : Course). x.happened) is) r
next_ran tell before after (line.Link origin recipient label pair) c mid e is r = still_ran c mid e (ap (λ (x : Course). x.world) is) (ap (λ (x : Course). x.now.number) is) (ap (λ (x : Course). x.happened) is) r
next_ran tell before after (line.Time moment) c mid e is r = still_ran c mid e (ap (λ (x : Course). x.world) is) (ap (λ (x : Course). x.now.number) is) (ap (λ (x : Course). x.happened) is) r
next_ran tell before after (line.Stop n choice) c mid e is r = still_ran c mid e (ap (λ (x : Course). x.world) is) (ap (λ (x : Course). x.now.number) is) (ap (λ (x : Course). x.happened) is) r
next_ran tell before after l c mid e is r = event_ran tell before after l c mid e is r

pub ran_by : (tell : Bool) (before after : ℕ) (lines : List Line) (c e : Course) → LinesLead tell before after lines c e → Ran c e
ran_by tell before after [] c e is = still_ran c c e refl refl refl (subst (λ (x : Course). Ran c x) (sym is) (record { happened = []; listed = sym (append-nil c.happened); are = tt; ran = refl; honest = tt; numbers = refl }))
ran_by tell before after (l ∷ lines) c e leads = next_ran tell before after l c leads.0 e leads.1 (ran_by tell before after lines leads.0 e leads.2)
