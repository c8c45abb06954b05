-- The rule of the combined tables, computed over each whole table.
use Rattle.std.proofs.Common.{◌≡◌, ℕ, ◌<◌, ◌^◌, Bool, true, eqb, [], get_or, length, refl, ap, ◌∙◌, subst}
use Rattle.std.proofs.lemmas.Bool.{eqb-true, agree_below, agree_below_at}
use Rattle.x_des.specs.Bits.{bits_of, number, pick}
use Rattle.x_des.specs.Block.{doubled, half, sixes}
use Rattle.x_des.specs.Des.{substituted}
use Rattle.x_des.specs.Combined.{placed, box_and_permutation_of}
use Rattle.x_des.specs.Tables.{permutation, s_boxes}
use Rattle.x_des.specs.declared.combined.TheConstants.{COMBINED}
use Rattle.x_des.proofs.BitsLemmas.{bits-number_at, length-pick, number-lt, same_from_lists}
use Rattle.x_des.proofs.Blocks.{half-doubled}

-- each entry, doubled
abbrev agrees : ℕ → ℕ → Bool
agrees which six = eqb (get_or (get_or COMBINED which []) six 0) (number (doubled (bits_of 32 (box_and_permutation_of which six))))

all_agree : agree_below (λ w. agree_below (agrees w) (λ n. true) 64) (λ n. true) 8 ≡ true
unfolding box_and_permutation_of substituted bits_of number pick sixes
all_agree = refl

length-doubled : (n : ℕ) → length (doubled (bits_of 32 n)) ≡ 64
unfolding bits_of sixes
length-doubled n = refl

-- the bits of an entry
pub entry_is : (which six : ℕ) → which < 8 → six < 64 → bits_of 64 (get_or (get_or COMBINED which []) six 0) ≡ doubled (bits_of 32 (box_and_permutation_of which six))
entry_is which six p q =
    let whole : agree_below (agrees which) (λ n. true) 64 ≡ true
    = agree_below_at (λ w. agree_below (agrees w) (λ n. true) 64) (λ n. true) 8 which all_agree p in
    ap (bits_of 64) (eqb-true (get_or (get_or COMBINED which []) six 0) (number (doubled (bits_of 32 (box_and_permutation_of which six)))) (agree_below_at (agrees which) (λ n. true) 64 six whole q))
    ∙ bits-number_at 64 (doubled (bits_of 32 (box_and_permutation_of which six))) (length-doubled (box_and_permutation_of which six))

box_and_permutation_of-lt : (which six : ℕ) → box_and_permutation_of which six < 2 ^ 32
unfolding box_and_permutation_of
box_and_permutation_of-lt which six =
    let bs = pick permutation (placed which (substituted (get_or s_boxes which []) (bits_of 6 six))) in
    subst (λ n. number bs < 2 ^ n) (length-pick permutation (placed which (substituted (get_or s_boxes which []) (bits_of 6 six)))) (number-lt bs)

-- the half that an entry doubles
pub box_and_permutation_is : (which six n : ℕ) → which < 8 → six < 64 → n < 2 ^ 32 → bits_of 32 n ≡ half (get_or (get_or COMBINED which []) six 0) → n ≡ box_and_permutation_of which six
box_and_permutation_is which six n p q small e =
    same_from_lists 32 n (box_and_permutation_of which six) small (box_and_permutation_of-lt which six)
    (e ∙ half-doubled (get_or (get_or COMBINED which []) six 0) (box_and_permutation_of which six) (entry_is which six p q))
