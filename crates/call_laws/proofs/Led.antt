-- What a session may have come to, by the events of its deeds: whichever images a crash may leave, there is a run that they stand
-- for.
use Rattle.std.proofs.Common.{◌≡◌, ◌≢◌, ℕ, List, [], ◌∷◌, ◌++◌, Some, refl, sym, ◌∙◌, ap, subst, append-nil, append_assoc}
use Rattle.x_disk.specs.Disk.{View, Tells}
use Rattle.key_store.specs.Store.{StandsWith}
use Rattle.member.specs.Member.{Member}
use Rattle.world_laws.specs.World.{World, HasMember, member_at}
use Rattle.world_laws.specs.Events.{Action, Completion, Event, IsAction, AreEvents}
use Rattle.call_laws.specs.Sessions.{Deed}
use Rattle.world_laws.specs.Steps.{step, run, number_after}
use Rattle.call_laws.specs.Calls.{event_at}
use Rattle.world_laws.proofs.Nodes.Longer.{run_more, events_more}
use Rattle.call_laws.proofs.Others.{Beside, step_beside}
use Rattle.call_laws.proofs.Reaching.{IsAt, IsPossible, one_more}
use Rattle.call_laws.specs.Deeds.{IsOfDeed, AreOfDeeds}

pub record Led (start : World) (ds : List Deed) (texts : List (List ℕ)) (image : List ℕ → List ℕ) : Type 0 where
  pub events : List Event
  pub of_deeds : AreOfDeeds ds events
  pub are_events : AreEvents events
  pub at : IsAt start texts image (run 1 start events)

pub record GoesOn (start : World) (ds : List Deed) (texts : List (List ℕ)) (disks : List ℕ → View) : Type 0 where
  pub tells : (q : List ℕ) (x : Member) → member_at q start.members ≡ Some x → Tells (disks q)
  pub reach : (image : List ℕ → List ℕ) → IsPossible start disks image → Led start ds texts image

-- one deed more
of_more : (ds : List Deed) (d : Deed) (es more : List Event) → AreOfDeeds ds es → IsOfDeed d more → AreOfDeeds (ds ++ d ∷ []) (es ++ more)
of_more [] d es more is last = record { first = more; others = []; whole = ap (λ (fs : List Event). fs ++ more) is ∙ sym (append-nil more); is = last; follow = refl }
of_more (c ∷ ds) d es more is last = record {
  first = is.first;
  others = is.others ++ more;
  whole = ap (λ (fs : List Event). fs ++ more) is.whole ∙ append_assoc is.first is.others more;
  is = is.is;
  follow = of_more ds d is.others more is.follow last;
}

-- with no event
pub led_still : (start : World) (ds : List Deed) (texts : List (List ℕ)) (image : List ℕ → List ℕ) (d : Deed) → IsOfDeed d [] → Led start ds texts image → Led start (ds ++ d ∷ []) texts image
led_still start ds texts image d none r = record {
  events = r.events;
  of_deeds = subst (AreOfDeeds (ds ++ d ∷ [])) (append-nil r.events) (of_more ds d r.events [] r.of_deeds none);
  are_events = r.are_events;
  at = r.at;
}

-- with an event, at the member of this name
pub led_on : (start : World) (ds : List Deed) (texts more : List (List ℕ)) (image new : List ℕ → List ℕ) (name : List ℕ) (r : Led start ds texts image) (d : Deed) (x : Member) (moment : ℕ) (action : Action) (c : Completion)
    → IsOfDeed d (event_at x moment action c ∷ []) → IsAction action → member_at name (run 1 start r.events).members ≡ Some x → name ≡ x.party.own → ((q : List ℕ) → q ≢ name → new q ≡ image q)
    → HasMember (step (number_after 1 r.events) (run 1 start r.events) (event_at x moment action c)) x.party.own (StandsWith (new name))
    → (step (number_after 1 r.events) (run 1 start r.events) (event_at x moment action c)).texts ≡ (run 1 start r.events).texts ++ more
    → Led start (ds ++ d ∷ []) (texts ++ more) new
led_on start ds texts more image new name r d x moment action c last is at own others stood wrote =
    let at_own : member_at x.party.own (run 1 start r.events).members ≡ Some x = subst (λ (a : List ℕ). member_at a (run 1 start r.events).members ≡ Some x) own at in
    let b : Beside x (run 1 start r.events) (step (number_after 1 r.events) (run 1 start r.events) (event_at x moment action c)) c = step_beside x moment (number_after 1 r.events) (run 1 start r.events) c action at_own in
    record {
      events = r.events ++ event_at x moment action c ∷ [];
      of_deeds = of_more ds d r.events (event_at x moment action c ∷ []) r.of_deeds last;
      are_events = events_more r.events (event_at x moment action c) r.are_events is;
      at = subst (IsAt start (texts ++ more) new) (sym (run_more 1 start r.events (event_at x moment action c)))
          (one_more start texts more image new name (run 1 start r.events) r.at x at own others (step (number_after 1 r.events) (run 1 start r.events) (event_at x moment action c)) b.others stood wrote);
    }

pub same_led : (start : World) (ds : List Deed) (texts : List (List ℕ)) (image : List ℕ → List ℕ) → Led start ds texts image → Led start ds (texts ++ []) image
same_led start ds texts image r = subst (λ (ts : List (List ℕ)). Led start ds ts image) (sym (append-nil texts)) r
