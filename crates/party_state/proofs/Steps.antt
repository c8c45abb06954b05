-- One edit of a list of edits.
use Rattle.std.proofs.Common.{◌≡◌, ℕ, ◌+◌, ◌<◌, zero, suc, List, [], ◌∷◌, length, drop, slice_index_or, slice_set, refl, subst, add-one, arith, Result, Ok, Err, IsOk, OnOk}
use Rattle.std.specs.List.{All}
use Rattle.std.proofs.lemmas.List.Elements.{All-head, All-tail}
use Rattle.party_state.specs.declared.edit.Edit.{Edit}

next_first : (es : List Edit) (i : ℕ) (d e : Edit) → i < length es → drop i es ≡ slice_index_or es i d ∷ drop (suc i) (slice_set es i e)
next_first [] i d e within = absurd (omega (arith, within))
next_first (x ∷ es) zero d e within = refl
next_first (x ∷ es) (suc i) d e within = next_first es i d e (omega (arith, within))

-- the edits from edit i on are edit i, and those behind it, whatever becomes of edit i
pub from_edit : (es : List Edit) (i : ℕ) (d e : Edit) → i < length es → drop i es ≡ slice_index_or es i d ∷ drop (i + 1) (slice_set es i e)
from_edit es i d e within = rw add-one (next_first es i d e within)

pub first_all : (P : Edit → Type 0) (e : Edit) (es rest : List Edit) → es ≡ e ∷ rest → All P es → P e
first_all P e es rest i a = All-head P e rest (subst (All P) i a)

pub rest_all : (P : Edit → Type 0) (e : Edit) (es rest : List Edit) → es ≡ e ∷ rest → All P es → All P rest
rest_all P e es rest i a = All-tail P e rest (subst (All P) i a)

pub is_done : {A E : Type 0} (r : Result A E) (P : Type 0) → IsOk r → OnOk r P → P
is_done (Ok a) P ok done = done
is_done (Err a) P ok done = cc
