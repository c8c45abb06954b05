-- Decoding undoes encoding.
use Rattle.std.proofs.Common.{◌≡◌, ℕ, List, subst}
use Rattle.party_state.specs.declared.edit.Edit.{Edit}
use Rattle.change_code.specs.declared.format.Format.{Format}
use Rattle.change_code.specs.Code.{code_of_change, IsCode, IsNoCode}
use Rattle.change_code.proofs.Changes.{one_change}

pub undone : (format other : Format) (bytes : List ℕ) (edits back : List Edit) → bytes ≡ code_of_change format edits → IsCode format (code_of_change format edits) edits → IsCode other bytes back → (other ≡ format) × (back ≡ edits)
undone format other bytes edits back is code read = one_change other format (code_of_change format edits) back edits (subst (λ (l : List ℕ). IsCode other l back) is read) code

pub never_bad : (format : Format) (bytes : List ℕ) (edits : List Edit) → bytes ≡ code_of_change format edits → IsCode format (code_of_change format edits) edits → IsNoCode bytes → ⊥
never_bad format bytes edits is code none = subst (λ (l : List ℕ). IsNoCode l) is none format edits code
