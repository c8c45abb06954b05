-- A list of bytes cut at its first period.
use Rattle.std.proofs.Common.{◌≡◌, ◌==◌, ℕ, ◌+◌, ◌-◌, ◌<◌, ◌≤◌, Bool, true, false, List, [], ◌∷◌, length, take, drop, Some, None, arith, refl, ap, ◌∙◌}
use Rattle.std.proofs.lemmas.Bool.Decides.{nat_tests}
use Rattle.std.proofs.lemmas.List.{take_rest}
use Rattle.std.specs.List.{onto_first, position, position_or_len}
use Rattle.std.proofs.lemmas.List.Splits.{slice_split-cons_no, slice_split_first, length-slice_split}
use Rattle.x_base.specs.KeyName.{parts_of}

abbrev is_period : ℕ → Bool
is_period b = b == 46

whole_step : (b : ℕ) (bs : List ℕ) (t : Bool) → is_period b ≡ t → length (b ∷ bs) ≤ position_or_len is_period (b ∷ bs) → (length bs ≤ position_or_len is_period bs → parts_of bs ≡ bs ∷ []) → parts_of (b ∷ bs) ≡ (b ∷ bs) ∷ []
whole_step b bs true e h next = absurd (let k = rw e at h in omega arith)
whole_step b bs false e h next = let k = rw e at h in slice_split-cons_no is_period b bs e ∙ ap (onto_first b) (next (omega arith))

whole_part : (bytes : List ℕ) → length bytes ≤ position_or_len is_period bytes → parts_of bytes ≡ bytes ∷ []
whole_part [] h = refl
whole_part (b ∷ bs) h = whole_step b bs (is_period b) refl h (whole_part bs)

pub cut_none : (bytes : List ℕ) → position is_period bytes ≡ None → parts_of bytes ≡ bytes ∷ []
cut_none bytes e = whole_part bytes (grind (arith, nat_tests))

pub cut_some : (bytes : List ℕ) (at : ℕ) → position is_period bytes ≡ Some at → parts_of bytes ≡ take at bytes ∷ parts_of (take (length bytes - (at + 1)) (drop (at + 1) bytes))
cut_some bytes at e =
    let found : (position_or_len is_period bytes ≡ at) × (at < length bytes) = grind (arith, nat_tests) in
    let first = slice_split_first is_period bytes 0 (omega (arith, found.0, found.1)) in
    rw take_rest (rw found.0 at first)

pub some_parts : (bytes : List ℕ) → 0 < length (parts_of bytes)
some_parts bytes = omega (arith, length-slice_split is_period bytes)
