-- What is known of a plan: its edits fit, and its lead is the party's.
use Rattle.std.proofs.Common.{◌≡◌, ◌≢◌, ◌⊎◌, inl, inr, ℕ, ◌+◌, ◌-◌, ◌≤◌, Bool, true, false, cond, List, [], ◌∷◌, length, Option, Some, None, refl, arith}
use Rattle.std.proofs.lemmas.Bool.{leb-true}
use Rattle.party_state.specs.declared.command.Input.{Input}
use Rattle.party_state.specs.declared.decision.Decision.{Decision}
use Rattle.party_state.specs.declared.decision.Lead.{Lead}
use Rattle.party_state.specs.declared.edit.Edit.{Edit}
use Rattle.change_code.specs.Code.{code_of_change}
use Rattle.change_code.specs.Cost.{fits, is_change}
use Rattle.change_code.specs.declared.space.Space.{Space}
use Rattle.member.specs.Member.{Member, Plan, as_decided, as_full, plan_of, plan_at, after}
use Rattle.member.specs.Deciding.{decision}
use Rattle.member.specs.Leads.{lead_in}
use Rattle.course.specs.Stops.{KeepsChange, member_next}
use Rattle.open_parties.proofs.Planning.{same_none, changes_or_not}

plan_by : (space : Space) (l : Option Lead) (d : Decision) (P : Plan → Type 0) → (fits space d.change ≡ true → P (as_decided l d)) → P (as_full l) → P (plan_of space l d)
plan_by space l d P decided full = go (fits space d.change) refl
  where
    go : (b : Bool) → fits space d.change ≡ b → P (cond b (as_decided l d) (as_full l))
    go true is = decided is
    go false is = full

pub plan_fits : (x : Member) (i : Input) (moment : ℕ) → fits x.space (plan_at x i moment).edits ≡ true
plan_fits x i moment = plan_by x.space (lead_in x.party i) (decision x.party i moment) (λ (p : Plan). fits x.space p.edits ≡ true) (λ is. is) refl

pub plan_lead : (x : Member) (i : Input) (moment : ℕ) → (plan_at x i moment).lead ≡ lead_in x.party i
plan_lead x i moment = plan_by x.space (lead_in x.party i) (decision x.party i moment) (λ (p : Plan). p.lead ≡ lead_in x.party i) (λ is. refl) refl

-- a change that is kept takes room
less_room : (x : Member) (es : List Edit) → is_change es ≡ true → fits x.space es ≡ true → (after x es).space.room ≢ x.space.room
less_room x [] change fit = λ same. absurd (cc change)
less_room x (e ∷ es) change fit = λ same.
    let taken : ℕ = length (code_of_change x.space.format (e ∷ es)) + 5 in
    let wide : taken + 1 ≤ x.space.room = leb-true (taken + 1) x.space.room fit in
    let left : x.space.room - taken ≡ x.space.room = same in
    omega (arith, wide, left)

pub takes_room : (x : Member) (i : Option Input) (moment : ℕ) → KeepsChange x i moment → (member_next x i moment).space.room ≢ x.space.room
takes_room x None moment keep = absurd keep
takes_room x (Some i) moment keep = less_room x (plan_at x i moment).edits keep (plan_fits x i moment)

-- a change is kept or not, and where none is, the member stays
pub keeps_or_not : (x : Member) (i : Option Input) (moment : ℕ) → KeepsChange x i moment ⊎ (KeepsChange x i moment → ⊥)
keeps_or_not x None moment = inr (λ keep. absurd keep)
keeps_or_not x (Some i) moment = changes_or_not (plan_at x i moment).edits (KeepsChange x (Some i) moment ⊎ (KeepsChange x (Some i) moment → ⊥)) (λ some. inl some) (λ none. inr none)

pub same_next : (x : Member) (i : Option Input) (moment : ℕ) → (KeepsChange x i moment → ⊥) → member_next x i moment ≡ x
same_next x None moment none = refl
same_next x (Some i) moment none = same_none x (plan_at x i moment).edits none
