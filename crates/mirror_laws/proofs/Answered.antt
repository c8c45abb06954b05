-- By which events a member goes on from a call over its two disks.
use Rattle.std.proofs.Common.{◌≡◌, inl, inr, ℕ, Option, Some, None, List, [], ◌∷◌, refl, sym, ◌∙◌, subst, option_to_list}
use Rattle.x_base.specs.declared.verdict.Verdict.{Verdict}
use Rattle.x_base.specs.declared.verdict.Verdict.TheVariants.{JournalFull}
use Rattle.x_disk.specs.Disk.{View, Tells, IsUntouched}
use Rattle.key_journal.specs.declared.cause.Cause.TheVariants as cause
use Rattle.party_state.specs.declared.command.Input.{Input}
use Rattle.party_state.specs.State.{Party}
use Rattle.change_code.specs.Whole.{IsTooLarge}
use Rattle.change_code.specs.declared.format.Format.TheVariants.{Two}
use Rattle.member.specs.Member.{Member, plan_at}
use Rattle.member.specs.Acts.{taking}
use Rattle.mirror_store.specs.Pairs.{PairStands, Recovers}
use Rattle.mirror_store.specs.Opening.{IsPairRefusal, IsTooLargeToWrite}
use Rattle.mirror_store.specs.Recovering.{IsPairFailure}
use Rattle.mirror_store.specs.declared.pair.PairCause.{PairCause}
use Rattle.mirror_store.specs.declared.pair.PairCause.TheVariants.{First, Second, OtherParty}
use Rattle.x_party.specs.declared.outcome.Outcome.{Outcome}
use Rattle.x_party.specs.declared.outcome.Outcome.TheVariants as outcome
use Rattle.x_pair.specs.Outcomes.{BothStand, OfOpened, MakesOf, turning}
use Rattle.world_laws.specs.World.{World, HasMember, member_at}
use Rattle.world_laws.specs.Events.{Whole, IsAction}
use Rattle.world_laws.specs.Steps.{step}
use Rattle.world_laws.specs.Nodes.{IsEventOf, input_event}
use Rattle.call_laws.specs.Deeds.{event_of}
use Rattle.call_laws.specs.Sessions.{reply_of}
use Rattle.call_laws.proofs.Others.{Beside, step_beside}
use Rattle.mirror_laws.specs.Runs.{PairEvent, Happens}
use Rattle.mirror_laws.specs.Turns.{action_of, turn_event}
use Rattle.mirror_laws.specs.Calls.{IsWholePairCall, AnswersPair}
use Rattle.mirror_laws.specs.Deeds.{IsPairCallOf}
use Rattle.mirror_laws.proofs.Moves.{Moved, own_found}
use Rattle.mirror_laws.proofs.Images.{StandsFor, MayBe, Known, told, fewer, both_stand}
use Rattle.mirror_laws.proofs.Ways.{Somebody, Arrives, Going, Way, still_going, untouched_way}
use Rattle.mirror_laws.proofs.TurnWays.{nothing}

module _ (known : Known) (inputs : (x : Member) (i : Input) (moment : ℕ) → IsEventOf x (taking (plan_at x i moment)) (input_event x i moment))
    (one_pair : (i j : List ℕ) (p q : Party) → Recovers i j p → Recovers i j q → p ≡ q)
    (refused : (i j : List ℕ) (p : Party) (reason : PairCause) → Recovers i j p → IsPairRefusal i j reason → IsPairFailure p reason)
    (name bytes : List ℕ) (i : Input) (moment : ℕ) (is_action : IsAction (action_of bytes i)) (first second first_after second_after : View)
    (some : (f : Option (List ℕ)) (d : List ℕ) → MayBe first.may_leave second.may_leave f d → Somebody name f d)
    (was_first was_second : List ℕ) (first_left : first.may_leave was_first) (second_left : second.may_leave was_second)
    (first_tells : Tells first_after) (second_tells : Tells second_after) where
  abbrev here : Somebody name (Some was_first) was_second
  here = some (Some was_first) was_second (first_left, second_left)

  abbrev x : Member
  x = here.member

  abbrev CallOf : Outcome → List PairEvent → Type 0
  CallOf o es = IsPairCallOf o name (action_of bytes i) moment first es

  abbrev WayBy : (List PairEvent → Type 0) → List (List ℕ) → Option (List ℕ) → List ℕ → Type 0
  WayBy are texts f d = Way name first.may_leave second.may_leave some texts are f d

  abbrev whole_event : PairEvent
  whole_event = Happens (event_of name (action_of bytes i) moment Whole)

  -- both disks stand for a member then
  stand_for : (y : Member) → y.party.own ≡ name → BothStand first_after second_after y → (f : Option (List ℕ)) (d : List ℕ) → MayBe first_after.may_leave second_after.may_leave f d → StandsFor f d y
  stand_for y own both f d may =
      let now = told first_after first_tells in
      let then = told second_after second_tells in
      both_stand known first_after second_after y both now.0 then.0 now.1 then.1 name own f d may

  -- the whole event
  whole_going : (reply : Option (List ℕ)) → IsWholePairCall x (turn_event x bytes i moment Whole) first_after second_after reply → (are : List PairEvent → Type 0) → are (whole_event ∷ [])
      → (f : Option (List ℕ)) (d : List ℕ) → MayBe first_after.may_leave second_after.may_leave f d → Going name x (option_to_list reply) are f d
  whole_going reply call are is f d may = record { events = whole_event ∷ []; is = is; are_events = (is_action, tt); arrives = arrives }
    where
      arrives : (n : ℕ) (w : World) → member_at name w.members ≡ Some x → Arrives name w (step n w (event_of name (action_of bytes i) moment Whole)) (option_to_list reply) f d
      arrives n w at =
          let own_at : member_at x.party.own w.members ≡ Some x = subst (λ (q : List ℕ). member_at q w.members ≡ Some x) (sym here.own) at in
          let later : World = step n w (turn_event x bytes i moment Whole) in
          let has : HasMember later x.party.own (λ party space. BothStand first_after second_after (record { party = party; space = space })) = call.stand n w own_at in
          let beside : Beside x w later Whole = step_beside x moment n w Whole (action_of bytes i) own_at in
          let y : Member = has.member in
          let own : y.party.own ≡ name = sym (own_found x.party.own later y has.at) ∙ here.own in
          let moved : Moved x.party.own w later (option_to_list reply) y = record { at = has.at; others = beside.others; texts_are = call.texts n w own_at } in
          record {
            member = y;
            moved = subst (λ (q : List ℕ). Moved q w (step n w (event_of q (action_of bytes i) moment Whole)) (option_to_list reply) y) here.own moved;
            stands = stand_for y own has.holds f d may;
          }

  here_way : (are : List PairEvent → Type 0) (texts : List (List ℕ)) (f : Option (List ℕ)) (d : List ℕ) → Going name x texts are f d → WayBy are texts f d
  here_way are texts f d going = record { from_first = Some was_first; from_second = was_second; possible = (first_left, second_left); going = going }

  -- where the call was held back
  silent : (reply : Option (List ℕ)) → reply ≡ None → (are : List PairEvent → Type 0) (f : Option (List ℕ)) (d : List ℕ) → WayBy are [] f d → WayBy are (option_to_list reply) f d
  silent reply none are f d way = subst (λ (o : Option (List ℕ)). WayBy are (option_to_list o) f d) (sym none) way

  held_back : (verdict : Verdict) (reply : Option (List ℕ)) → verdict ≡ JournalFull → reply ≡ None → CallOf (outcome.Refused verdict reply) []
  held_back verdict reply said none = inr (record { said = said; silent = none; none = refl })

  unanswered : CallOf outcome.Fault []
  unanswered = nothing known inputs name bytes i moment is_action first second some was_first was_second first_left second_left

  untouched_answer : (are : List PairEvent → Type 0) → are [] → IsUntouched first first_after × IsUntouched second second_after → (f : Option (List ℕ)) (d : List ℕ) → MayBe first_after.may_leave second_after.may_leave f d → WayBy are [] f d
  untouched_answer are none still f d may =
      untouched_way name first.may_leave second.may_leave some are none f d
      (fewer first_after.may_leave second_after.may_leave first.may_leave second.may_leave still.0.images still.1.images f d may)

  -- the party isn't on both, and is too large to be written: nothing is
  module _ (large : IsTooLargeToWrite was_first was_second) (still : IsUntouched first first_after × IsUntouched second second_after) (f : Option (List ℕ)) (d : List ℕ) (may : MayBe first_after.may_leave second_after.may_leave f d) where
    not_opened : {A : Type 0} (o : Outcome) → OfOpened (turning name i moment) was_first was_second first_after second_after o → A
    not_opened o opened =
        let same : large.party ≡ opened.member.party = one_pair was_first was_second large.party opened.member.party large.recovers opened.recovers in
        let apart : PairStands was_first was_second opened.member.party → ⊥ = subst (λ (p : Party). PairStands was_first was_second p → ⊥) same large.apart in
        let too_large : IsTooLarge Two opened.member.party = subst (IsTooLarge Two) same large.too_large in
        absurd (opened.small apart too_large)

    pub large_way : (o : Outcome) → MakesOf (turning name i moment) was_first was_second first_after second_after o → WayBy (CallOf o) (reply_of o) f d
    large_way (outcome.Done reply) opened = not_opened (outcome.Done reply) opened
    large_way (outcome.Refused verdict reply) (inl opened) = not_opened (outcome.Refused verdict reply) opened
    large_way (outcome.Refused verdict reply) (inr (inl none)) = absurd (refused was_first was_second large.party (First cause.Blank) large.recovers (none.first_blank, none.second_blank))
    large_way (outcome.Refused verdict reply) (inr (inr held)) =
        silent reply held.written (CallOf (outcome.Refused verdict reply)) f d
        (untouched_answer (CallOf (outcome.Refused verdict reply)) (held_back verdict reply held.said held.written) still f d may)
    large_way (outcome.OtherParty asked found) (inl opened) = not_opened (outcome.OtherParty asked found) opened
    large_way (outcome.OtherParty asked found) (inr apart) = absurd (refused was_first was_second large.party (OtherParty asked found) large.recovers apart)
    large_way (outcome.Damaged place) (inl damage) = absurd (refused was_first was_second large.party (First (cause.Damaged place)) large.recovers damage)
    large_way (outcome.Damaged place) (inr damage) = absurd (refused was_first was_second large.party (Second (cause.Damaged place)) large.recovers damage)
    large_way outcome.Fault makes = untouched_answer (CallOf outcome.Fault) unanswered still f d may
    large_way outcome.NoMemory makes = untouched_answer (CallOf outcome.NoMemory) unanswered still f d may

  -- the member is opened
  module _ (untouched : IsTooLargeToWrite was_first was_second → IsUntouched first first_after × IsUntouched second second_after) (f : Option (List ℕ)) (d : List ℕ) (may : MayBe first_after.may_leave second_after.may_leave f d)
      (failed : WayBy (CallOf outcome.Fault) [] f d) where
    pub answered_way : (o : Outcome) → AnswersPair x i moment (turn_event x bytes i moment) was_first was_second first_after second_after o → WayBy (CallOf o) (reply_of o) f d
    answered_way (outcome.Done reply) call =
        here_way (CallOf (outcome.Done reply)) (option_to_list reply) f d
        (whole_going reply call (CallOf (outcome.Done reply)) refl f d may)
    answered_way (outcome.Refused verdict reply) (inl call) =
        here_way (CallOf (outcome.Refused verdict reply)) (option_to_list reply) f d
        (whole_going reply call (CallOf (outcome.Refused verdict reply)) (inl refl) f d may)
    answered_way (outcome.Refused verdict reply) (inr (inl held)) =
        silent reply held.0.silent (CallOf (outcome.Refused verdict reply)) f d
        (here_way (CallOf (outcome.Refused verdict reply)) [] f d
        (still_going name x (CallOf (outcome.Refused verdict reply)) (held_back verdict reply held.0.said held.0.silent) f d (stand_for x here.own held.1 f d may)))
    answered_way (outcome.Refused verdict reply) (inr (inr large)) =
        silent reply large.written (CallOf (outcome.Refused verdict reply)) f d
        (untouched_answer (CallOf (outcome.Refused verdict reply)) (held_back verdict reply large.said large.written) (untouched large.too_large) f d may)
    answered_way (outcome.OtherParty asked found) none = absurd none
    answered_way (outcome.Damaged place) none = absurd none
    answered_way outcome.Fault call = failed
    answered_way outcome.NoMemory call = failed
