-- An answer at a centre is refused before its code is looked at.
use Rattle.std.proofs.Common.{◌≡◌, ℕ, true, List, [], ◌∷◌, refl}
use Rattle.x_base.specs.declared.verdict.Verdict.TheVariants.{NotForMe, WrongClass}
use Rattle.party_state.specs.State.{Party}
use Rattle.role_base.specs.Conditions.{is_for}
use Rattle.role_base.specs.Errors.{is_early}
use Rattle.role_base.proofs.Early.{early_refusal}
use Rattle.role_base.specs.Centres.{unserved}

pub unserved_early : (p : Party) (receiver originator : List ℕ) → true ≡ is_early (unserved p receiver originator).verdict
unserved_early p receiver originator = early_refusal ((is_for p receiver originator, NotForMe) ∷ []) WrongClass refl refl
