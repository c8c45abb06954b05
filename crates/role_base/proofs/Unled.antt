-- Where a key to test the code of an arrival under is missing.
use Rattle.std.proofs.Common.{◌≡◌, ◌↔◌, ◌⊎◌, inl, inr, ℕ, Bool, true, ◌||◌, Option, Some, None, List, [], ◌∷◌, refl, sym, ap, ◌∙◌}
use Rattle.std.specs.Prelude.{is_none}
use Rattle.std.proofs.lemmas.Bool.{or_cases, or_left, or_right}
use Rattle.x_base.specs.declared.verdict.Verdict.TheVariants.{NotForMe, UnknownPeer, WrongClass}
use Rattle.party_state.specs.declared.decision.Lead.{Lead}
use Rattle.party_state.specs.State.{Party, knows}
use Rattle.role_base.specs.Conditions.{is_for, other_class}
use Rattle.role_base.specs.Errors.{is_early}
use Rattle.role_base.proofs.Early.{early_refusal}

-- a message that isn't served
pub other_early : (p : Party) (receiver originator known : List ℕ) → true ≡ is_early (other_class p receiver originator known).verdict
other_early p receiver originator known = early_refusal ((is_for p receiver originator, NotForMe) ∷ (knows known p, UnknownPeer) ∷ []) WrongClass refl refl

none_is : (o : Option Lead) → is_none o ≡ true → o ≡ None
none_is None h = refl
none_is (Some l) h = cc

-- no key is there exactly where the arrival is closed by an error detection code, or refused early
pub none_exactly : (o : Option Lead) (plain early : Bool) → is_none o ≡ (plain || early) → (o ≡ None) ↔ ((plain ≡ true) ⊎ (early ≡ true))
none_exactly o plain early h = (λ e. or_cases plain early (sym h ∙ ap is_none e), λ w. none_is o (h ∙ either w))
  where
    either : (plain ≡ true) ⊎ (early ≡ true) → (plain || early) ≡ true
    either (inl e) = or_left plain early e
    either (inr e) = or_right plain early e
