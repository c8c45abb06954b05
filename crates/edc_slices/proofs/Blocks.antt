-- The blocks of a text, one by one.
use Rattle.std.proofs.Common.{◌≡◌, ◌∙◌, ℕ, zero, suc, ◌+◌, ◌-◌, ◌*◌, ◌/◌, ◌%◌, ◌^◌, ◌<◌, ◌≤◌, List, [], ◌∷◌, ◌++◌, length, take, drop, replicate, refl, sym, ap, arith}
use Rattle.std.specs.Prelude.{fold}
use Rattle.std.proofs.lemmas.List.{drop-append-le, drop-drop, length-drop, take_all, take-append-le, length-append, length-replicate}
use Rattle.std.proofs.lemmas.List.Sums.{fold-append}
use Rattle.x_mac.specs.Code.{blocks, chained, code_from, edc_of, filled, word_of}
use Rattle.x_mac.proofs.ChainLemmas.{length-filled}
use Rattle.edc_slices.specs.Chains.{block_at_step, block_count, chain_after, edc_key}

-- the number of zeros behind a list doesn't matter where there are enough
pub enough_zeros : (n j k : ℕ) (xs : List ℕ) → n ≤ length xs + j → n ≤ length xs + k → take n (xs ++ replicate j 0) ≡ take n (xs ++ replicate k 0)
enough_zeros zero j k xs p q = refl
enough_zeros (suc n) zero k [] p q = absurd (omega arith)
enough_zeros (suc n) (suc j) zero [] p q = absurd (omega arith)
enough_zeros (suc n) (suc j) (suc k) [] p q = ap (λ ys. 0 ∷ ys) (enough_zeros n j k [] (omega arith) (omega arith))
enough_zeros (suc n) j k (x ∷ xs) p q = ap (λ ys. x ∷ ys) (enough_zeros n j k xs (omega arith) (omega arith))

-- a whole block, and a block that a text's end cuts
pub whole_block : (text : List ℕ) → 8 ≤ length text → take 8 text ≡ block_at_step text 0
unfolding block_at_step
whole_block text h = sym (take-append-le 8 text (replicate 8 0) h)

pub cut_block : (text : List ℕ) → length text ≤ 8 → text ++ replicate (8 - length text) 0 ≡ block_at_step text 0
unfolding block_at_step
cut_block text h =
    let size : length (text ++ replicate (8 - length text) 0) ≡ 8
    = length-append text (replicate (8 - length text) 0) ∙ ap (λ k. length text + k) (length-replicate (8 - length text) 0) ∙ (omega arith) in
    sym (take_all 8 (text ++ replicate (8 - length text) 0) (omega arith))
    ∙ enough_zeros 8 (8 - length text) 8 text (omega arith) (omega arith)

pub same_block : (text rest : List ℕ) (n : ℕ) → rest ≡ drop (8 * n) text → block_at_step rest 0 ≡ block_at_step text n
unfolding block_at_step
same_block text rest n e = ap (λ xs. take 8 (xs ++ replicate 8 0)) e

-- one block more
blocks_more : (n : ℕ) (t : List ℕ) → blocks (suc n) t ≡ blocks n t ++ word_of (take 8 (drop (8 * n) t)) ∷ []
unfolding blocks
blocks_more zero t = refl
blocks_more (suc n) t =
    ap (λ ws. word_of (take 8 t) ∷ ws)
    (blocks_more n (drop 8 t)
    ∙ ap (λ xs. blocks n (drop 8 t) ++ word_of (take 8 xs) ∷ []) (drop-drop (8 * n) 8 t ∙ ap (λ m. drop m t) (let e : 8 + 8 * n ≡ 8 * suc n = omega arith in e)))

-- a block of the filled text
block_of_filled : (t : List ℕ) (n : ℕ) → n < block_count t → take 8 (drop (8 * n) (filled t)) ≡ block_at_step t n
unfolding filled block_at_step
block_of_filled t n h =
    let fill = (8 - length t % 8) % 8 in
    let within : 8 * n ≤ length t = omega arith in
    let rest : length (drop (8 * n) t) + 8 * n ≡ length t = omega (arith, length-drop (8 * n) t) in
    ap (take 8) (drop-append-le (8 * n) t (replicate fill 0) within)
    ∙ enough_zeros 8 fill 8 (drop (8 * n) t) (omega arith) (omega arith)

chain_is : (t : List ℕ) (n : ℕ) → n ≤ block_count t → fold (chained edc_key) 0 (blocks n (filled t)) ≡ chain_after t n
unfolding chain_after blocks
chain_is t zero h = refl
chain_is t (suc n) h =
    ap (fold (chained edc_key) 0) (blocks_more n (filled t))
    ∙ fold-append (chained edc_key) 0 (blocks n (filled t)) (word_of (take 8 (drop (8 * n) (filled t))) ∷ [])
    ∙ ap (λ y. chained edc_key y (word_of (take 8 (drop (8 * n) (filled t))))) (chain_is t n (omega arith))
    ∙ ap (λ bytes. chained edc_key (chain_after t n) (word_of bytes)) (block_of_filled t n (omega arith))

-- the code of a text is the left half of the chain over all its blocks
pub code_is : (t : List ℕ) → chain_after t (block_count t) / 2 ^ 32 ≡ edc_of t
unfolding code_from
code_is t =
    let count : length (filled t) / 8 ≡ block_count t = omega (arith, length-filled t) in
    ap (λ y. y / 2 ^ 32) (sym (chain_is t (block_count t) (omega arith)) ∙ ap (λ n. fold (chained edc_key) 0 (blocks n (filled t))) (sym count))
