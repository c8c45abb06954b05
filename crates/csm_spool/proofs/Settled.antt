-- Whether the change of a plan is done.
use Rattle.std.proofs.Common.{◌≡◌, inl, inr, ℕ, List, [], ◌∷◌, ◌==◌, Bool, true, false, length, arith, sym, ap, subst, ◌∙◌}
use Rattle.std.proofs.lemmas.Bool.{eqb-true}
use Rattle.party_state.specs.State.{Party}
use Rattle.party_state.specs.declared.edit.Edit.{Edit}
use Rattle.party_state.specs.Ranges.{HasNoBegin}
use Rattle.role_base.specs.Apart.{AreDone}
use Rattle.change_code.specs.declared.format.Format.{Format}
use Rattle.change_code.specs.declared.format.Format.TheVariants.{One, Two}
use Rattle.change_code.specs.Code.{IsCode, IsNoCode}
use Rattle.spool_store.specs.declared.entry_plan.EntryPlan.{EntryPlan}
use Rattle.spool_store.specs.Plans.{IsChange}
use Rattle.csm_spool.specs.Drives.{IsSettled}
use Rattle.csm_spool.proofs.PlanEdits.{OneChange, no_code}

never_empty : (format : Format) (edits : List Edit) → IsCode format [] edits → ⊥
never_empty One edits is = cc is.is
never_empty Two edits is = cc is.is

pub is_nothing : (code change : List ℕ) (b : Bool) → code ≡ change → b ≡ (length code == 0) → b ≡ true → change ≡ []
is_nothing [] change b same is holds = sym same
is_nothing (x ∷ code) change b same is holds = absurd (omega (arith, eqb-true (length (x ∷ code)) 0 (sym is ∙ holds)))

pub is_something : (code change : List ℕ) (b : Bool) → code ≡ change → b ≡ (length code == 0) → b ≡ false → change ≡ [] → ⊥
is_something code change b same is fails none =
    let both : false ≡ true = sym fails ∙ (is ∙ ap (λ (l : List ℕ). length l == 0) (same ∙ none)) in
    cc both

-- a plan without a change
pub empty : (party : Party) (plan : EntryPlan) → plan.change ≡ [] → IsSettled party plan
empty party plan none = λ edits is. absurd (no_code edits (subst (λ (l : List ℕ). IsCode Two l edits) none is))

-- a change has a code
pub coded : (plan : EntryPlan) → IsChange plan.change → (plan.change ≡ [] → ⊥) → IsNoCode plan.change → ⊥
coded plan (inl none) some never = some none
coded plan (inr (edits, is, begins)) some never = never Two edits is

module _ (one : OneChange) (party : Party) (plan : EntryPlan) (change : IsChange plan.change) (format : Format) (edits : List Edit) (is : IsCode format plan.change edits) where
  real : IsCode Two plan.change edits × HasNoBegin edits
  real = go change
    where
      go : IsChange plan.change → IsCode Two plan.change edits × HasNoBegin edits
      go (inl none) = absurd (never_empty format edits (subst (λ (l : List ℕ). IsCode format l edits) none is))
      go (inr (es, code, none)) =
          let same = one format Two plan.change edits es is code in
          (subst (λ (f : Format). IsCode f plan.change edits) same.0 is, subst HasNoBegin (sym same.1) none)

  pub no_begin : HasNoBegin edits
  no_begin = real.1

  pub settled : AreDone party edits → IsSettled party plan
  settled done = λ es code. subst (AreDone party) (one format Two plan.change edits es is code).1 done

  pub done : IsSettled party plan → AreDone party edits
  done settled = settled edits real.0
