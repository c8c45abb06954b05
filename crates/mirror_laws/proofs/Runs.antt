-- A run with lost disks is a run of the network: a first disk that is lost is a migration, or a compaction, and a second one an
-- event that is cut off.
use Rattle.std.proofs.Common.{◌≡◌, ℕ, suc, Option, Some, None, List, [], ◌∷◌, refl, sym, ◌∙◌, ap, subst}
use Rattle.change_code.specs.declared.format.Format.{Format}
use Rattle.change_code.specs.declared.format.Format.TheVariants.{One, Two}
use Rattle.member.specs.Member.{Member}
use Rattle.member.specs.Acts.{compacted_in, migrated_in}
use Rattle.world_laws.specs.World.{Fact, World, member_at}
use Rattle.world_laws.specs.Events.{Action, Compacts, Migrates, Completion, Whole, CutOld, Event, IsAction, AreEvents}
use Rattle.world_laws.specs.Steps.{step, step_at, run, world_after_action, world_rewritten}
use Rattle.world_laws.specs.Honest.{HonestAt, HonestRun}
use Rattle.world_laws.specs.Starts.{HasAcceptedNothing, IsBareStart, IsStart}
use Rattle.world_laws.specs.Laws.{OneKeyPerCount, Once, Agreement, EndedBoth}
use Rattle.mirror_laws.specs.Runs.{Which, FirstDisk, SecondDisk, PairEvent, Happens, Loses, world_after_loss, pair_step, pair_run, ArePairEvents, HonestPairAt, HonestPairRun}

-- what writes a party whole in format 2
abbrev rewriting_action : Format → Action
rewriting_action One = Migrates
rewriting_action Two = Compacts

abbrev loss_action : Which → Option Member → Action
loss_action FirstDisk (Some x) = rewriting_action x.space.format
loss_action FirstDisk None = Compacts
loss_action SecondDisk o = Compacts

abbrev completion_of : Which → Completion
completion_of FirstDisk = Whole
completion_of SecondDisk = CutOld

abbrev loss_event : List ℕ → Which → Option Member → Event
loss_event party which o = record { party = party; moment = 0; action = loss_action which o; completion = completion_of which }

abbrev event_of : World → PairEvent → Event
event_of w (Happens e) = e
event_of w (Loses party which) = loss_event party which (member_at party w.members)

abbrev events_of : ℕ → World → List PairEvent → List Event
events_of n w [] = []
events_of n w (e ∷ es) = event_of w e ∷ events_of (suc n) (pair_step n w e) es

rewritten_is : (f : Format) (n : ℕ) (w : World) (x : Member) → x.space.format ≡ f → world_after_action n w x 0 Whole (rewriting_action f) ≡ world_rewritten (Some Two) w x Whole
rewritten_is One n w x is = ap (λ (g : Format). world_rewritten (migrated_in g) w x Whole) is
rewritten_is Two n w x is = ap (λ (g : Format). world_rewritten (compacted_in g) w x Whole) is

loss_is : (n : ℕ) (w : World) (party : List ℕ) (which : Which) (o : Option Member) → step_at n w (loss_event party which o) o ≡ world_after_loss w which o
loss_is n w party FirstDisk None = refl
loss_is n w party FirstDisk (Some x) = rewritten_is x.space.format n w x refl
loss_is n w party SecondDisk None = refl
loss_is n w party SecondDisk (Some x) = refl

step_is : (n : ℕ) (w : World) (e : PairEvent) → step n w (event_of w e) ≡ pair_step n w e
step_is n w (Happens e) = refl
step_is n w (Loses party which) = loss_is n w party which (member_at party w.members)

run_is : (n : ℕ) (w : World) (es : List PairEvent) → run n w (events_of n w es) ≡ pair_run n w es
run_is n w [] = refl
run_is n w (e ∷ es) = ap (λ (v : World). run (suc n) v (events_of (suc n) (pair_step n w e) es)) (step_is n w e) ∙ run_is (suc n) (pair_step n w e) es

rewriting_is_action : (f : Format) → IsAction (rewriting_action f)
rewriting_is_action One = tt
rewriting_is_action Two = tt

loss_is_action : (which : Which) (o : Option Member) → IsAction (loss_action which o)
loss_is_action FirstDisk None = tt
loss_is_action FirstDisk (Some x) = rewriting_is_action x.space.format
loss_is_action SecondDisk o = tt

are_events : (n : ℕ) (w : World) (es : List PairEvent) → ArePairEvents es → AreEvents (events_of n w es)
are_events n w [] all = tt
are_events n w (Happens e ∷ es) all = (all.0, are_events (suc n) (step n w e) es all.1)
are_events n w (Loses party which ∷ es) all = (loss_is_action which (member_at party w.members), are_events (suc n) (pair_step n w (Loses party which)) es all.1)

rewriting_honest : (facts : List Fact) (x : Member) (f : Format) → HonestAt facts (Some x) (rewriting_action f)
rewriting_honest facts x One = tt
rewriting_honest facts x Two = tt

loss_honest : (facts : List Fact) (which : Which) (o : Option Member) → HonestAt facts o (loss_action which o)
loss_honest facts FirstDisk None = tt
loss_honest facts FirstDisk (Some x) = rewriting_honest facts x x.space.format
loss_honest facts SecondDisk None = tt
loss_honest facts SecondDisk (Some x) = tt

honest_at : (w : World) (e : PairEvent) → HonestPairAt w e → HonestAt w.facts (member_at (event_of w e).party w.members) (event_of w e).action
honest_at w (Happens e) honest = honest
honest_at w (Loses party which) honest = loss_honest w.facts which (member_at party w.members)

honest_run : (n : ℕ) (w : World) (es : List PairEvent) → HonestPairRun n w es → HonestRun n w (events_of n w es)
honest_run n w [] honest = tt
honest_run n w (e ∷ es) honest = (
  honest_at w e honest.0,
  subst (λ (v : World). HonestRun (suc n) v (events_of (suc n) (pair_step n w e) es)) (sym (step_is n w e)) (honest_run (suc n) (pair_step n w e) es honest.1),
)

module _ (start : World) (events : List PairEvent) where
  abbrev all : List Event
  all = events_of 1 start events

  pub counted : ((start : World) (events : List Event) → IsBareStart start → AreEvents events → OneKeyPerCount (run 1 start events)) → IsBareStart start → ArePairEvents events → OneKeyPerCount (pair_run 1 start events)
  counted law bare are = subst OneKeyPerCount (run_is 1 start events) (law start all bare (are_events 1 start events are))

  pub happens_once : ((start : World) (events : List Event) → HasAcceptedNothing start → AreEvents events → Once (run 1 start events)) → HasAcceptedNothing start → ArePairEvents events → Once (pair_run 1 start events)
  happens_once law none are = subst Once (run_is 1 start events) (law start all none (are_events 1 start events are))

  pub agreed : ((start : World) (events : List Event) → IsStart start → AreEvents events → HonestRun 1 start events → Agreement (run 1 start events)) → IsStart start → ArePairEvents events → HonestPairRun 1 start events → Agreement (pair_run 1 start events)
  agreed law is are honest = subst Agreement (run_is 1 start events) (law start all is (are_events 1 start events are) (honest_run 1 start events honest))

  pub ended : ((start : World) (events : List Event) → IsStart start → AreEvents events → HonestRun 1 start events → EndedBoth (run 1 start events)) → IsStart start → ArePairEvents events → HonestPairRun 1 start events → EndedBoth (pair_run 1 start events)
  ended law is are honest = subst EndedBoth (run_is 1 start events) (law start all is (are_events 1 start events are) (honest_run 1 start events honest))
