-- A turn of a member over its two disks goes on by its event that is cut off.
use Rattle.std.proofs.Common.{◌≡◌, ◌≢◌, inl, inr, ℕ, suc, Option, Some, List, [], ◌∷◌, refl, sym, ◌∙◌, subst}
use Rattle.x_disk.specs.Disk.{View}
use Rattle.party_state.specs.declared.command.Input.{Input}
use Rattle.member.specs.Member.{Member, plan_at, after}
use Rattle.member.specs.Acts.{taking}
use Rattle.mirror_store.specs.Turns.{pair_plan_at}
use Rattle.world_laws.specs.World.{World, member_at}
use Rattle.world_laws.specs.Events.{CutNew, IsAction}
use Rattle.world_laws.specs.Steps.{step}
use Rattle.world_laws.specs.Nodes.{IsEventOf, input_event}
use Rattle.call_laws.specs.Deeds.{event_of}
use Rattle.mirror_laws.specs.Runs.{FirstDisk, PairEvent, Happens, Loses, pair_step}
use Rattle.mirror_laws.specs.Turns.{action_of}
use Rattle.mirror_laws.specs.Deeds.{MayBeBlank, IsUnanswered}
use Rattle.mirror_laws.proofs.Left.{to_next}
use Rattle.mirror_laws.proofs.Moves.{Moved, moved_on, after_lost, lost_moves, new_moves}
use Rattle.mirror_laws.proofs.Images.{StandsFor, MayBe, Known}
use Rattle.mirror_laws.proofs.Ways.{Somebody, Going, Way, FirstLeft, SecondLeft, left_way}

module _ (known : Known) (inputs : (x : Member) (i : Input) (moment : ℕ) → IsEventOf x (taking (plan_at x i moment)) (input_event x i moment))
    (name bytes : List ℕ) (i : Input) (moment : ℕ) (is_action : IsAction (action_of bytes i)) (first second : View)
    (some : (f : Option (List ℕ)) (d : List ℕ) → MayBe first.may_leave second.may_leave f d → Somebody name f d)
    (was_first was_second : List ℕ) (first_left : first.may_leave was_first) (second_left : second.may_leave was_second) where
  abbrev here : Somebody name (Some was_first) was_second
  here = some (Some was_first) was_second (first_left, second_left)

  abbrev x : Member
  x = here.member

  abbrev next : Member
  next = after x (pair_plan_at x i moment).edits

  abbrev Change : Type 0
  Change = (pair_plan_at x i moment).edits ≢ []

  abbrev Unanswered : List PairEvent → Type 0
  Unanswered es = IsUnanswered name (action_of bytes i) moment first es

  pub nothing : Unanswered []
  nothing = record { event = []; loss = []; whole = refl; is_event = inl refl; is_loss = inl refl }

  loss_alone : MayBeBlank first → Unanswered (Loses name FirstDisk ∷ [])
  loss_alone blank = record { event = []; loss = Loses name FirstDisk ∷ []; whole = refl; is_event = inl refl; is_loss = inr (blank, refl) }

  next_own : Change → next.party.own ≡ name
  next_own change = (to_next x bytes i moment (inputs x i moment)).own ∙ here.own

  cut_moves : Change → (n : ℕ) (w : World) → member_at name w.members ≡ Some x → Moved name w (step n w (event_of name (action_of bytes i) moment CutNew)) [] next
  cut_moves change n w at =
      let own_at : member_at x.party.own w.members ≡ Some x = subst (λ (q : List ℕ). member_at q w.members ≡ Some x) (sym here.own) at in
      subst (λ (q : List ℕ). Moved q w (step n w (event_of q (action_of bytes i) moment CutNew)) [] next) here.own (new_moves x bytes i moment (inputs x i moment) change n w own_at)

  cut_going : Change → (f : Option (List ℕ)) (d : List ℕ) → StandsFor f d next → Going name x [] Unanswered f d
  cut_going change f d stands = record {
    events = Happens (event_of name (action_of bytes i) moment CutNew) ∷ [];
    is = record { event = Happens (event_of name (action_of bytes i) moment CutNew) ∷ []; loss = []; whole = refl; is_event = inr refl; is_loss = inl refl };
    are_events = (is_action, tt);
    arrives = λ n w at. record { member = next; moved = cut_moves change n w at; stands = stands };
  }

  cut_lost_going : Change → MayBeBlank first → (f : Option (List ℕ)) (d : List ℕ) → StandsFor f d (after_lost FirstDisk next) → Going name x [] Unanswered f d
  cut_lost_going change blank f d stands = record {
    events = Happens (event_of name (action_of bytes i) moment CutNew) ∷ Loses name FirstDisk ∷ [];
    is = record {
      event = Happens (event_of name (action_of bytes i) moment CutNew) ∷ [];
      loss = Loses name FirstDisk ∷ [];
      whole = refl;
      is_event = inr refl;
      is_loss = inr (blank, refl);
    };
    are_events = (is_action, (tt, tt));
    arrives = λ n w at. (
        let mid : World = step n w (event_of name (action_of bytes i) moment CutNew) in
        let cut : Moved name w mid [] next = cut_moves change n w at in
        record {
          member = after_lost FirstDisk next;
          moved = moved_on name w mid (pair_step (suc n) mid (Loses name FirstDisk)) [] next (after_lost FirstDisk next) cut (lost_moves name mid next cut.at FirstDisk (suc n));
          stands = stands;
        });
  }

  pub unanswered_way : (f : Option (List ℕ)) (d : List ℕ) → MayBe (FirstLeft x next Change first.may_leave was_first) (SecondLeft x next Change second.may_leave was_second) f d
      → Way name first.may_leave second.may_leave some [] Unanswered f d
  unanswered_way = left_way known name first second some was_first was_second first_left second_left Unanswered nothing loss_alone next Change next_own cut_going cut_lost_going
