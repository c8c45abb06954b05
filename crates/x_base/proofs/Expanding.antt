-- Eight bytes of a list over and over.
use Rattle.std.proofs.Common.{◌≡◌, ℕ, zero, suc, ◌+◌, ◌-◌, ◌*◌, ◌%◌, ◌<◌, ◌≤◌, List, length, get_or, take, drop, length-append, length-drop, arith, sym, ◌∙◌, ap, ⊎_elim}
use Rattle.std.specs.List.{repeat}
use Rattle.std.proofs.lemmas.List.{get_or_append_left, get_or-take, get_or-drop, length-take-le}
use Rattle.std.proofs.lemmas.Grind.{same_number_lists}
use Rattle.std.proofs.lemmas.Bool.{cases_lt}
use Rattle.std.proofs.Math.Seq.{get_or-append_right}
use Rattle.std.proofs.Math.Nat.{mod-eq_of_lt, mul-add-mod_self_right, mul-le-mul_left, suc-mul}
use Rattle.x_base.specs.Ident.{repeated}

length-repeat : (n : ℕ) (xs : List ℕ) → length (repeat n xs) ≡ n * length xs
length-repeat zero xs = omega arith
length-repeat (suc n) xs = omega (arith, length-append xs (repeat n xs), length-repeat n xs, suc-mul n (length xs))

mod_behind : (j m : ℕ) → m ≤ j → (j - m) % m ≡ j % m
mod_behind j m h =
    let e : 1 * m + (j - m) ≡ j = omega arith in
    sym (mul-add-mod_self_right 1 m (j - m)) ∙ ap (λ (i : ℕ). i % m) e

get_or-repeat : (n : ℕ) (xs : List ℕ) (j : ℕ) → j < n * length xs → get_or (repeat n xs) j 0 ≡ get_or xs (j % length xs) 0
get_or-repeat zero xs j h = absurd (omega arith)
get_or-repeat (suc n) xs j h =
    ⊎_elim
    (λ (k : j < length xs). get_or_append_left xs (repeat n xs) 0 j k ∙ ap (λ (i : ℕ). get_or xs i 0) (sym (mod-eq_of_lt k)))
    (λ (k : length xs ≤ j). get_or-append_right xs (repeat n xs) j 0 k
    ∙ get_or-repeat n xs (j - length xs) (omega (arith, suc-mul n (length xs)))
    ∙ ap (λ (i : ℕ). get_or xs i 0) (mod_behind j (length xs) k))
    (cases_lt j (length xs))

long_enough : (n : ℕ) (xs : List ℕ) → 0 < length xs → n ≤ length (repeat n xs)
long_enough n xs h = omega (arith, length-repeat n xs, mul-le-mul_left {m = 1} {n = length xs} n h)

length-repeated : (name : List ℕ) → 0 < length name → length (repeated name) ≡ 16
unfolding repeated
length-repeated name h = length-take-le 16 (repeat 16 name) (long_enough 16 name h)

get_or-repeated : (name : List ℕ) (j : ℕ) → 0 < length name → j < 16 → get_or (repeated name) j 0 ≡ get_or name (j % length name) 0
unfolding repeated
get_or-repeated name j h k = get_or-take 16 (repeat 16 name) j 0 k ∙ get_or-repeat 16 name j (omega arith)

-- the eight bytes from a start on
pub eight_bytes : (name half : List ℕ) (start : ℕ) → 0 < length name → start ≤ 8 → length half ≡ 8 → ((k : ℕ) → k < 8 → get_or half k 0 ≡ get_or name ((start + k) % length name) 0) → half ≡ take 8 (drop start (repeated name))
eight_bytes name half start h s len each =
    let whole = length-repeated name h in
    let rest : length (drop start (repeated name)) ≡ 16 - start = length-drop start (repeated name) ∙ ap (λ (n : ℕ). n - start) whole in
    let eight : length (take 8 (drop start (repeated name))) ≡ 8 = length-take-le 8 (drop start (repeated name)) (omega arith) in
    same_number_lists half (take 8 (drop start (repeated name))) (len ∙ sym eight)
    (λ (k : ℕ) (lt : k < length half).
    let low : k < 8 = omega arith in
    each k low ∙ sym (get_or-take 8 (drop start (repeated name)) k 0 low ∙ get_or-drop start (repeated name) k 0 ∙ get_or-repeated name (start + k) h (omega arith)))
