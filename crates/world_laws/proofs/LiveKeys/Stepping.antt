-- One event whose row is accepted, and whose change fits.
use Rattle.std.proofs.Common.{arith, ◌≡◌, ◌≤◌, ◌+◌, ◌&&◌, ℕ, suc, Bool, true, cond, Option, Some, List, [], ◌∷◌, Contains, refl, sym, ◌∙◌, ap, subst}
use Rattle.std.proofs.lemmas.Bool.{le-leb}
use Rattle.x_base.specs.declared.key_name.FullName.{FullName}
use Rattle.x_mac.specs.declared.pair.Pair.{Pair}
use Rattle.csm_grammar.specs.declared.arrival.Arrival.{Arrival}
use Rattle.party_state.specs.declared.command.Input.{Input}
use Rattle.party_state.specs.declared.decision.Lead.{Lead}
use Rattle.party_state.specs.declared.edit.Edit.{Edit}
use Rattle.party_state.specs.State.{Party, apply}
use Rattle.party_state.specs.Verdicts.{is_accept}
use Rattle.party_state.specs.Rows.{Row}
use Rattle.role_base.specs.Differing.{differing}
use Rattle.csm_grammar.specs.Arrivals.{authenticated_text}
use Rattle.role_base.specs.Texts.{lead_under}
use Rattle.member.specs.Member.{Member}
use Rattle.world_laws.specs.World.{World, Fact, member_at}
use Rattle.member.specs.Rows.{row_at}
use Rattle.member.specs.Leads.{lead_at}
use Rattle.change_code.specs.Cost.{cost, fits, is_change, space_after}
use Rattle.change_code.specs.declared.space.Space.{Space}
use Rattle.world_laws.specs.Events.{Event, Whole, CutNew}
use Rattle.world_laws.specs.Steps.{received_text, member_after, world_after_row, world_with_answer, world_with_text, world_by_row, world_after_input, step, run}
use Rattle.world_laws.specs.Honest.{HonestAt, HonestArrival, HonestRun}
use Rattle.world_laws.proofs.Roles.Inputs.{IsInput}
use Rattle.world_laws.proofs.Counting.Roles.{row_left_out}
use Rattle.world_laws.proofs.Links.Found.{HasLinks}

pub fits_large : (es : List Edit) (s : Space) → cost s.format es + 1 ≤ s.room → fits s es ≡ true
fits_large [] s h = refl
fits_large (e ∷ es) s h = le-leb _ _ h

pub room_left : (es : List Edit) (s : Space) (more : ℕ) → cost s.format es + more ≤ s.room → more ≤ (space_after s es).room
room_left [] s more h = omega (arith, h)
room_left (e ∷ es) s more h = omega (arith, h)

by_tests : (n : ℕ) (w : World) (x : Member) (text : List ℕ) (r : Row) → is_accept r.verdict ≡ true → fits x.space (differing x.party r.edits) ≡ true → world_by_row n w x text r Whole ≡ world_with_text (world_after_row n w x.party.own text r (member_after x r)) r.reply
by_tests n w x text r h f = go (is_accept r.verdict) h (fits x.space (differing x.party r.edits)) f
  where
    go : (b : Bool) → b ≡ true → (c : Bool) → c ≡ true → cond b (cond c (world_with_text (world_after_row n w x.party.own text r (member_after x r)) r.reply) w) (world_with_text (world_with_answer w x.party.own r) r.answer) ≡ world_with_text (world_after_row n w x.party.own text r (member_after x r)) r.reply
    go b e c k = rw (e, k) refl

-- the member afterwards has the party that the row's edits make
pub accepted_step : (n : ℕ) (w : World) (x : Member) (i : Input) (moment : ℕ) (r : Row) (p : Party) → row_at x.party i moment ≡ r → is_accept r.verdict ≡ true → fits x.space (differing x.party r.edits) ≡ true
    → apply (differing x.party r.edits) x.party ≡ p
    → world_after_input n w x i moment Whole ≡ world_with_text (world_after_row n w x.party.own (received_text i) r (record { party = p; space = space_after x.space (differing x.party r.edits) })) r.reply
accepted_step n w x i moment r p row h f is =
    ap (λ (z : Row). world_by_row n w x (received_text i) z Whole) row
    ∙ (by_tests n w x (received_text i) r h f
    ∙ ap (λ (q : Party). world_with_text (world_after_row n w x.party.own (received_text i) r (record { party = q; space = space_after x.space (differing x.party r.edits) })) r.reply) is)

-- the member and the network after an accepted row, by all of its edits
abbrev pub next_member : Member → Row → Member
next_member x r = record { party = apply r.edits x.party; space = space_after x.space (differing x.party r.edits) }

abbrev pub next_world : ℕ → World → Member → Input → Row → World
next_world n w x i r = world_with_text (world_after_row n w x.party.own (received_text i) r (next_member x r)) r.reply

pub row_step : (n : ℕ) (w : World) (x : Member) (i : Input) (moment : ℕ) (r : Row) → IsInput i → HasLinks x.party → row_at x.party i moment ≡ r → is_accept r.verdict ≡ true
    → cost x.space.format (differing x.party r.edits) + 1 ≤ x.space.room → world_after_input n w x i moment Whole ≡ next_world n w x i r
row_step n w x i moment r input links row h room =
    let there : is_accept (row_at x.party i moment).verdict ≡ true = ap (λ (z : Row). is_accept z.verdict) row ∙ h in
    accepted_step n w x i moment r (apply r.edits x.party) row h (fits_large (differing x.party r.edits) x.space room)
    (ap (λ (z : Row). apply (differing x.party z.edits) x.party) (sym row) ∙ (row_left_out x.party i moment links there ∙ ap (λ (z : Row). apply z.edits x.party) row))

-- the network after an accepted row that was cut off with the new state: nothing is written
abbrev pub cut_world : ℕ → World → Member → Input → Row → World
cut_world n w x i r = world_after_row n w x.party.own (received_text i) r (next_member x r)

cut_by_tests : (n : ℕ) (w : World) (x : Member) (text : List ℕ) (r : Row) → is_accept r.verdict ≡ true → is_change (differing x.party r.edits) ≡ true → fits x.space (differing x.party r.edits) ≡ true → world_by_row n w x text r CutNew ≡ world_after_row n w x.party.own text r (member_after x r)
cut_by_tests n w x text r h d f = go (is_accept r.verdict) h (is_change (differing x.party r.edits)) d (fits x.space (differing x.party r.edits)) f
  where
    go : (b : Bool) → b ≡ true → (d : Bool) → d ≡ true → (c : Bool) → c ≡ true → cond (b && (d && c)) (world_after_row n w x.party.own text r (member_after x r)) w ≡ world_after_row n w x.party.own text r (member_after x r)
    go b e d k c l = rw (e, k, l) refl

-- edits that change a party are some
changed : (es : List Edit) (s : Party) → (apply es s ≡ s → ⊥) → is_change es ≡ true
changed [] s differs = absurd (differs refl)
changed (e ∷ es) s differs = refl

pub row_cut : (n : ℕ) (w : World) (x : Member) (i : Input) (moment : ℕ) (r : Row) → IsInput i → HasLinks x.party → row_at x.party i moment ≡ r → is_accept r.verdict ≡ true
    → (apply r.edits x.party ≡ x.party → ⊥) → cost x.space.format (differing x.party r.edits) + 1 ≤ x.space.room → world_after_input n w x i moment CutNew ≡ cut_world n w x i r
row_cut n w x i moment r input links row h differs room =
    let there : is_accept (row_at x.party i moment).verdict ≡ true = ap (λ (z : Row). is_accept z.verdict) row ∙ h in
    let is : apply (differing x.party r.edits) x.party ≡ apply r.edits x.party =
    ap (λ (z : Row). apply (differing x.party z.edits) x.party) (sym row) ∙ (row_left_out x.party i moment links there ∙ ap (λ (z : Row). apply z.edits x.party) row) in
    ap (λ (z : Row). world_by_row n w x (received_text i) z CutNew) row
    ∙ (cut_by_tests n w x (received_text i) r h (changed (differing x.party r.edits) x.party (λ same. differs (sym is ∙ same))) (fits_large (differing x.party r.edits) x.space room)
    ∙ ap (λ (q : Party). world_after_row n w x.party.own (received_text i) r (record { party = q; space = space_after x.space (differing x.party r.edits) })) is)

-- a run goes on by an honest event
pub honest_on : (n : ℕ) (w v : World) (e : Event) (es : List Event) → step n w e ≡ v → HonestAt w.facts (member_at e.party w.members) e.action → HonestRun (suc n) v es → HonestRun n w (e ∷ es)
honest_on n w v e es is h rest = (h, subst (λ (z : World). HonestRun (suc n) z es) (sym is) rest)

pub run_on : (n : ℕ) (w v u : World) (e : Event) (es : List Event) → step n w e ≡ v → run (suc n) v es ≡ u → run n w (e ∷ es) ≡ u
run_on n w v u e es is rest = ap (λ (z : World). run (suc n) z es) is ∙ rest

-- the lead of an arrival, whose code agrees, is that of a fact
pub fact_at : {opened : Option Pair} (facts : List Fact) (p : Party) (a : Arrival) (under : FullName) (value : ℕ) (text maker : List ℕ) → lead_at p a ≡ Some (record (lead_under a under value) { opened = opened }) → Contains facts (record { under = under; text = text; maker = maker })
    → authenticated_text a ≡ text → HonestArrival facts p a
fact_at {opened = opened} facts p a under value text maker lead stands is l e verified =
    let same : record (lead_under a under value) { opened = opened } ≡ l = some_same (record (lead_under a under value) { opened = opened }) l (sym lead ∙ e) in
    record { fact = record { under = under; text = text; maker = maker }; stands = stands; under_is = ap (λ (z : Lead). z.under) same; text_is = sym is }
  where
    some_same : (x y : Lead) → Some x ≡ Some y → x ≡ y
    some_same x y q = cc
