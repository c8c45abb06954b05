-- What a member plans for an input is the event of that input at it.
use Rattle.std.proofs.Common.{arith, ◌≡◌, ℕ, Bool, true, false, cond, ◌&&◌, Option, Some, None, List, [], ◌++◌, map, option_map, refl, sym, ◌∙◌, ap, bytes_eq}
use Rattle.std.proofs.lemmas.List.{append-nil}
use Rattle.party_state.specs.declared.edit.Edit.{Edit}
use Rattle.party_state.specs.declared.command.Input.{Input}
use Rattle.party_state.specs.declared.decision.Decision.{Decision}
use Rattle.party_state.specs.declared.decision.Lead.{Lead}
use Rattle.party_state.specs.State.{apply}
use Rattle.party_tables.specs.Tables.{put_row}
use Rattle.party_state.specs.Verdicts.{is_accept}
use Rattle.party_state.specs.Rows.{Row}
use Rattle.role_base.specs.Texts.{text_of}
use Rattle.role_base.specs.Differing.{differing}
use Rattle.role_base.specs.Deciding.{name_of}
use Rattle.change_code.specs.Cost.{fits, is_change, space_after}
use Rattle.member.specs.Deciding.{decision}
use Rattle.member.specs.Leads.{lead_in}
use Rattle.member.specs.Rows.{row_at}
use Rattle.member.specs.Member.{Member, Plan, plan_of, plan_at, as_decided, as_full, after}
use Rattle.member.specs.Acts.{taking}
use Rattle.world_laws.specs.World.{World, own_of, member_at}
use Rattle.world_laws.specs.Honest.{named_text}
use Rattle.world_laws.specs.Noted.{noted}
use Rattle.world_laws.specs.Steps.{received_text, member_after, world_after_row, world_with_answer, world_with_text}
use Rattle.world_laws.specs.Nodes.{IsAfter, IsEventOf, input_event}
use Rattle.world_laws.proofs.Lists.Members.{put_stands}
use Rattle.world_laws.proofs.Nodes.Going.{own_stays}
use Rattle.world_laws.proofs.Nodes.GoingRows.{row_goes, differing_goes}
use Rattle.world_laws.proofs.Nodes.Noting.{texts_same, facts_noted}

-- a member stays where no edits are kept
pub same_member : (x : Member) → after x [] ≡ x
same_member x = let room : (space_after x.space []).room ≡ x.space.room = omega arith in λ i. record { party = x.party; space = record { format = x.space.format; room = room i } }

-- nothing happens
pub nothing_after : (x : Member) (w : World) → member_at x.party.own w.members ≡ Some x → IsAfter w w (after x []) None []
nothing_after x w at = record {
  members = sym (ap (λ (y : Member). put_row own_of bytes_eq y w.members) (same_member x) ∙ put_stands x w.members at);
  texts = sym (append-nil w.texts);
  facts_are = sym (append-nil (map named_text w.facts));
}

-- a row at a member, by its verdict, and what is planned of it
module _ (x : Member) (text : List ℕ) (r : Row) (l : Option Lead) where
  abbrev pub edits : List Edit
  edits = differing x.party r.edits

  abbrev pub decided : Bool → Decision
  decided b = record {
    change = cond b edits [];
    reply = option_map text_of (cond b r.reply r.answer);
    under = name_of (cond b r.reply r.answer);
    verdict = r.verdict;
  }

  abbrev pub planned : Bool → Plan
  planned b = plan_of x.space l (decided b)

  abbrev pub IsPlanned : World → World → Plan → Option (List ℕ) → Type 0
  IsPlanned w later plan reply = IsAfter w later (after x plan.edits) reply (noted plan.under plan.reply)

  abbrev pub accepted : ℕ → World → World
  accepted n w = world_after_row n w x.party.own text r (member_after x r)

  row_after : (n : ℕ) (w : World) → IsPlanned w (world_with_text (accepted n w) r.reply) (as_decided l (decided true)) (option_map text_of r.reply)
  row_after n w = record {
    members = refl;
    texts = ap (λ (o : List (List ℕ)). w.texts ++ o) (texts_same r.reply);
    facts_are = facts_noted w.facts x.party.own r.reply;
  }

  row_cut : (n : ℕ) (w : World) → IsPlanned w (accepted n w) (as_decided l (decided true)) None
  row_cut n w = record {
    members = refl;
    texts = sym (append-nil w.texts);
    facts_are = facts_noted w.facts x.party.own r.reply;
  }

  answer_after : (w : World) → member_at x.party.own w.members ≡ Some x → IsPlanned w (world_with_text (world_with_answer w x.party.own r) r.answer) (as_decided l (decided false)) (option_map text_of r.answer)
  answer_after w at = record {
    members = sym (ap (λ (y : Member). put_row own_of bytes_eq y w.members) (same_member x) ∙ put_stands x w.members at);
    texts = ap (λ (o : List (List ℕ)). w.texts ++ o) (texts_same r.answer);
    facts_are = facts_noted w.facts x.party.own r.answer;
  }

  whole : (b : Bool) (n : ℕ) (w : World) → member_at x.party.own w.members ≡ Some x
      → IsPlanned w (cond b (cond (fits x.space edits) (world_with_text (accepted n w) r.reply) w) (world_with_text (world_with_answer w x.party.own r) r.answer)) (planned b) (planned b).reply
  whole false n w at = answer_after w at
  whole true n w at = go (fits x.space edits)
    where
      go : (c : Bool) → IsPlanned w (cond c (world_with_text (accepted n w) r.reply) w) (cond c (as_decided l (decided true)) (as_full l)) (cond c (as_decided l (decided true)) (as_full l)).reply
      go true = row_after n w
      go false = nothing_after x w at

  new : (b : Bool) (n : ℕ) (w : World) → is_change (planned b).edits ≡ true → IsPlanned w (cond (b && (is_change edits && fits x.space edits)) (accepted n w) w) (planned b) None
  new false n w some = absurd (cc some)
  new true n w some = go (fits x.space edits) some
    where
      by_change : (d : Bool) → d ≡ true → IsPlanned w (cond (d && true) (accepted n w) w) (as_decided l (decided true)) None
      by_change true is = row_cut n w
      by_change false is = absurd (cc is)

      go : (c : Bool) → is_change (cond c (as_decided l (decided true)) (as_full l)).edits ≡ true
          → IsPlanned w (cond (is_change edits && c) (accepted n w) w) (cond c (as_decided l (decided true)) (as_full l)) None
      go true is = by_change (is_change edits) is
      go false is = absurd (cc is)

  none : (b : Bool) (n : ℕ) (w : World) → is_change (planned b).edits ≡ false → cond (b && (is_change edits && fits x.space edits)) (accepted n w) w ≡ w
  none false n w is = refl
  none true n w is = go (fits x.space edits) is
    where
      by_change : (d c : Bool) → d ≡ false → cond (d && c) (accepted n w) w ≡ w
      by_change true c still = absurd (cc still)
      by_change false c still = refl

      unfit : (d : Bool) → cond (d && false) (accepted n w) w ≡ w
      unfit true = refl
      unfit false = refl

      go : (c : Bool) → is_change (cond c (as_decided l (decided true)) (as_full l)).edits ≡ false → cond (is_change edits && c) (accepted n w) w ≡ w
      go true still = by_change (is_change edits) true still
      go false still = unfit (is_change edits)

  own_after : (apply edits x.party).own ≡ x.party.own → (b : Bool) → (apply (planned b).edits x.party).own ≡ x.party.own
  own_after stays false = refl
  own_after stays true = go (fits x.space edits)
    where
      go : (c : Bool) → (apply (cond c (as_decided l (decided true)) (as_full l)).edits x.party).own ≡ x.party.own
      go true = stays
      go false = refl

pub input_is : (x : Member) (i : Input) (moment : ℕ) → IsEventOf x (taking (plan_at x i moment)) (input_event x i moment)
unfolding decision
input_is x i moment = record {
  own = own_after x text r l (own_stays (differing x.party r.edits) x.party (differing_goes x.party r.edits (row_goes x.party i moment))) b;
  whole = whole x text r l b;
  old = λ n w. refl;
  new = λ n w at some. new x text r l b n w some;
  none = none x text r l b;
} where
  text : List ℕ
  text = received_text i

  r : Row
  r = row_at x.party i moment

  l : Option Lead
  l = lead_in x.party i

  b : Bool
  b = is_accept r.verdict
