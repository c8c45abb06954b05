-- What events at one member make of a network.
use Rattle.std.proofs.Common.{◌≡◌, ◌≢◌, ℕ, suc, Bool, true, false, cond, Option, Some, None, List, [], ◌∷◌, ◌++◌, refl, sym, ◌∙◌, ap, subst, bytes_eq, append-nil, append_assoc}
use Rattle.party_tables.proofs.Keys.{test_idents}
use Rattle.party_tables.proofs.Tables.{find_key}
use Rattle.party_state.specs.declared.command.Input.{Input}
use Rattle.party_state.specs.declared.edit.Edit.{Edit}
use Rattle.change_code.specs.Cost.{can_compact, is_change, space_of_whole}
use Rattle.change_code.specs.declared.format.Format.{Format}
use Rattle.change_code.specs.declared.format.Format.TheVariants.{Two}
use Rattle.member.specs.Member.{Member, Plan, plan_at, as_full, after}
use Rattle.member.specs.Acts.{taking}
use Rattle.mirror_store.specs.Turns.{fits_frame, pair_plan_at}
use Rattle.world_laws.specs.World.{World, own_of, member_at}
use Rattle.world_laws.specs.Events.{Whole, CutNew}
use Rattle.world_laws.specs.Steps.{step, world_with_space, world_rewritten}
use Rattle.world_laws.specs.Nodes.{IsEventOf, input_event}
use Rattle.call_laws.proofs.Members.{put_here, put_there}
use Rattle.call_laws.proofs.Others.{Beside, step_beside}
use Rattle.mirror_laws.specs.Runs.{Which, FirstDisk, SecondDisk, PairEvent, Loses, world_after_loss, pair_step, pair_run, ArePairEvents}
use Rattle.mirror_laws.specs.Turns.{action_of, turn_event}
use Rattle.mirror_laws.proofs.Turned.{cut_new}

pub own_found : (name : List ℕ) (w : World) (x : Member) → member_at name w.members ≡ Some x → name ≡ x.party.own
own_found name w x at = find_key own_of bytes_eq test_idents name x w.members at

-- the network after events at the member of this name, which is this one then: these texts were written
pub record Moved (name : List ℕ) (w later : World) (texts : List (List ℕ)) (y : Member) : Type 0 where
  pub at : member_at name later.members ≡ Some y
  pub others : (q : List ℕ) → q ≢ name → member_at q later.members ≡ member_at q w.members
  pub texts_are : later.texts ≡ w.texts ++ texts

pub unmoved : (name : List ℕ) (w : World) (x : Member) → member_at name w.members ≡ Some x → Moved name w w [] x
unmoved name w x at = record { at = at; others = λ q ne. refl; texts_are = sym (append-nil w.texts) }

-- and after more, which write nothing
pub moved_on : (name : List ℕ) (w mid later : World) (texts : List (List ℕ)) (y z : Member) → Moved name w mid texts y → Moved name mid later [] z → Moved name w later texts z
moved_on name w mid later texts y z first next = record {
  at = next.at;
  others = λ q ne. next.others q ne ∙ first.others q ne;
  texts_are = next.texts_are ∙ (append-nil mid.texts ∙ first.texts_are);
}

-- and after more, which write more
pub moved_then : (name : List ℕ) (w mid later : World) (texts more : List (List ℕ)) (y z : Member) → Moved name w mid texts y → Moved name mid later more z → Moved name w later (texts ++ more) z
moved_then name w mid later texts more y z first next = record {
  at = next.at;
  others = λ q ne. next.others q ne ∙ first.others q ne;
  texts_are = next.texts_are ∙ (ap (λ (ts : List (List ℕ)). ts ++ more) first.texts_are ∙ append_assoc w.texts texts more);
}

-- ---- the party is written whole

abbrev pub written_whole : Format → Member → Member
written_whole f x = record { party = x.party; space = space_of_whole f x.party }

-- the member after its party was to be written whole in this format, if in any
abbrev pub after_written : Option Format → Member → Member
after_written None x = x
after_written (Some f) x = cond (can_compact f x.party) (written_whole f x) x

pub party_kept : (o : Option Format) (x : Member) → (after_written o x).party ≡ x.party
party_kept None x = refl
party_kept (Some f) x = go (can_compact f x.party)
  where
    go : (b : Bool) → (cond b (written_whole f x) x).party ≡ x.party
    go true = refl
    go false = refl

-- the member after the loss of this disk
abbrev pub after_lost : Which → Member → Member
after_lost FirstDisk x = after_written (Some Two) x
after_lost SecondDisk x = x

module _ (name : List ℕ) (w : World) (x : Member) (at : member_at name w.members ≡ Some x) where
  rewritten : (f : Format) (b : Bool) → Moved name w (cond b (world_with_space w x (space_of_whole f x.party)) w) [] (cond b (written_whole f x) x)
  rewritten f true = record {
    at = put_here (written_whole f x) w.members name (own_found name w x at);
    others = λ q ne. put_there (written_whole f x) w.members q (λ is. ne (is ∙ sym (own_found name w x at)));
    texts_are = sym (append-nil w.texts);
  }
  rewritten f false = unmoved name w x at

  pub written_moves : (o : Option Format) → Moved name w (world_rewritten o w x Whole) [] (after_written o x)
  written_moves None = unmoved name w x at
  written_moves (Some f) = rewritten f (can_compact f x.party)

  pub cut_written_moves : (o : Option Format) → Moved name w (world_rewritten o w x CutNew) [] (after_written o x)
  cut_written_moves None = unmoved name w x at
  cut_written_moves (Some f) = rewritten f (can_compact f x.party)

  lost_by : (which : Which) → Moved name w (world_after_loss w which (Some x)) [] (after_lost which x)
  lost_by FirstDisk = written_moves (Some Two)
  lost_by SecondDisk = unmoved name w x at

  pub lost_moves : (which : Which) (n : ℕ) → Moved name w (pair_step n w (Loses name which)) [] (after_lost which x)
  lost_moves which n = subst (λ (o : Option Member). Moved name w (world_after_loss w which o) [] (after_lost which x)) (sym at) (lost_by which)

-- ---- an event that is cut off with the new state

changes_is : (es : List Edit) → es ≢ [] → is_change es ≡ true
changes_is [] some = absurd (some refl)
changes_is (e ∷ es) some = refl

module _ (x : Member) (bytes : List ℕ) (i : Input) (moment : ℕ) (event : IsEventOf x (taking (plan_at x i moment)) (input_event x i moment)) where
  abbrev plan : Plan
  plan = plan_at x i moment

  by_frame : (b : Bool) → (cond b plan (as_full plan.lead)).edits ≢ [] → (n : ℕ) (w : World) → member_at x.party.own w.members ≡ Some x
      → Moved x.party.own w (step n w (turn_event x bytes i moment CutNew)) [] (after x (cond b plan (as_full plan.lead)).edits)
  by_frame true some n w at =
      let beside : Beside x w (step n w (turn_event x bytes i moment CutNew)) CutNew = step_beside x moment n w CutNew (action_of bytes i) at in
      record { at = cut_new x bytes i moment event (changes_is plan.edits some) n w at; others = beside.others; texts_are = beside.texts tt ∙ sym (append-nil w.texts) }
  by_frame false some n w at = absurd (some refl)

  pub new_moves : (pair_plan_at x i moment).edits ≢ [] → (n : ℕ) (w : World) → member_at x.party.own w.members ≡ Some x
      → Moved x.party.own w (step n w (turn_event x bytes i moment CutNew)) [] (after x (pair_plan_at x i moment).edits)
  new_moves = by_frame (fits_frame x.party plan.edits)

-- ---- more events

-- the number of the event behind these
abbrev pub pair_number_after : ℕ → List PairEvent → ℕ
pair_number_after n [] = n
pair_number_after n (e ∷ es) = pair_number_after (suc n) es

pub pair_run_more : (n : ℕ) (w : World) (es more : List PairEvent) → pair_run n w (es ++ more) ≡ pair_run (pair_number_after n es) (pair_run n w es) more
pair_run_more n w [] more = refl
pair_run_more n w (e ∷ es) more = pair_run_more (suc n) (pair_step n w e) es more

pub pair_events_more : (es more : List PairEvent) → ArePairEvents es → ArePairEvents more → ArePairEvents (es ++ more)
pair_events_more [] more are rest = rest
pair_events_more (e ∷ es) more are rest = (are.0, pair_events_more es more are.1 rest)
