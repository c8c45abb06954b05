-- Shifts, rotations and choices of words, as lists of bits.
use Rattle.std.proofs.Common.{◌≡◌, ℕ, zero, suc, ◌+◌, ◌-◌, ◌*◌, ◌/◌, ◌%◌, ◌^◌, ◌<◌, ◌≤◌, min, false, cond, eqb, [], ◌∷◌, ◌++◌, take, drop, replicate, refl, sym, ap, ◌∙◌, arith}
use Rattle.std.specs.Prelude.{bit_and, bit_or, bit_xor}
use Rattle.std.proofs.lemmas.Nat.Bits.{bit_at-lt, bit_at_xor, bit_at_and, bit_at-zero}
use Rattle.std.proofs.lemmas.List.{take-take}
use Rattle.std.proofs.lemmas.Nat.{and_mask, or_shifted, shl_whole, shr_below, pow-add, shl-shr}
use Rattle.std.proofs.Math.Arith.{mod-mul}
use Rattle.std.proofs.Math.Nat.{mul-mod_left, pow-suc}
use Rattle.std.specs.Int.{bit_at}
use Rattle.std.specs.Int.Bits.{xor_zero_l, xor_zero_r}
use Rattle.x_des.specs.Bits.{bit, bits_of, chosen, number, rotated, shifted_left, shifted_right}
use Rattle.x_des.specs.Block.{sixes}
use Rattle.x_des.proofs.BitsLemmas.{length-bits, number-bits_mod, bits_mod, bits_cat, take-bits, drop-bits}

pub bits-zero : (w : ℕ) → bits_of w 0 ≡ replicate w false
unfolding bits_of
bits-zero zero = refl
bits-zero (suc w) = ap (λ n. eqb n 1 ∷ bits_of w 0) (bit_at-zero w) ∙ ap (λ bs. false ∷ bs) (bits-zero w)

-- one bit of a choice
one_chosen : (m a b : ℕ) → m < 2 → a < 2 → b < 2 → eqb ((b + min ((a + b) % 2) m) % 2) 1 ≡ cond (eqb m 1) (eqb a 1) (eqb b 1)
one_chosen zero zero zero p q r = refl
one_chosen zero zero (suc zero) p q r = refl
one_chosen zero (suc zero) zero p q r = refl
one_chosen zero (suc zero) (suc zero) p q r = refl
one_chosen (suc zero) zero zero p q r = refl
one_chosen (suc zero) zero (suc zero) p q r = refl
one_chosen (suc zero) (suc zero) zero p q r = refl
one_chosen (suc zero) (suc zero) (suc zero) p q r = refl
one_chosen (suc (suc m)) a b p q r = absurd (omega arith)
one_chosen zero (suc (suc a)) b p q r = absurd (omega arith)
one_chosen (suc zero) (suc (suc a)) b p q r = absurd (omega arith)
one_chosen zero zero (suc (suc b)) p q r = absurd (omega arith)
one_chosen zero (suc zero) (suc (suc b)) p q r = absurd (omega arith)
one_chosen (suc zero) zero (suc (suc b)) p q r = absurd (omega arith)
one_chosen (suc zero) (suc zero) (suc (suc b)) p q r = absurd (omega arith)

pub chosen_is : (w m a b : ℕ) → bits_of w (bit_xor b (bit_and (bit_xor a b) m)) ≡ chosen (bits_of w m) (bits_of w a) (bits_of w b)
unfolding bits_of chosen
chosen_is zero m a b = refl
chosen_is (suc w) m a b =
    ap (λ n. eqb n 1 ∷ bits_of w (bit_xor b (bit_and (bit_xor a b) m)))
    (bit_at_xor b (bit_and (bit_xor a b) m) w ∙ ap (λ n. (bit_at b w + n) % 2) (bit_at_and (bit_xor a b) m w ∙ ap (λ n. min n (bit_at m w)) (bit_at_xor a b w)))
    ∙ ap (λ x. x ∷ bits_of w (bit_xor b (bit_and (bit_xor a b) m))) (one_chosen (bit_at m w) (bit_at a w) (bit_at b w) (bit_at-lt m w) (bit_at-lt a w) (bit_at-lt b w))
    ∙ ap (λ bs. cond (bit m w) (bit a w) (bit b w) ∷ bs) (chosen_is w m a b)

-- the last six bits of each byte of a word
sixes_chosen : (n : ℕ) → chosen (bits_of 64 4557430888798830399) (bits_of 64 n) (bits_of 64 0) ≡ sixes 8 (bits_of 64 n)
unfolding bits_of chosen sixes
sixes_chosen n = refl

pub bits-sixes : (n : ℕ) → bits_of 64 (bit_and n 4557430888798830399) ≡ sixes 8 (bits_of 64 n)
bits-sixes n =
    ap (λ x. bits_of 64 (bit_and x 4557430888798830399)) (sym (xor_zero_r n))
    ∙ ap (bits_of 64) (sym (xor_zero_l (bit_and (bit_xor n 0) 4557430888798830399)))
    ∙ chosen_is 64 4557430888798830399 n 0 ∙ sixes_chosen n

pow_pos : (k : ℕ) → 0 < 2 ^ k
pow_pos zero = omega arith
pow_pos (suc k) = let h = pow_pos k in rw pow-suc (omega (arith, h))

-- what is left of a word that is shifted to the left
cut_shl : (w k n : ℕ) → k ≤ w → n * 2 ^ k % 2 ^ w ≡ n % 2 ^ (w - k) * 2 ^ k
cut_shl w k n h =
    let sum : w ≡ w - k + k = omega arith in
    let power : 2 ^ w ≡ 2 ^ (w - k) * 2 ^ k = ap (λ m. 2 ^ m) sum ∙ pow-add 2 (w - k) k in
    ap (λ m. n * 2 ^ k % m) power
    ∙ mod-mul (n * 2 ^ k) (pow_pos (w - k)) (pow_pos k)
    ∙ ap (λ m. m % 2 ^ (w - k) * 2 ^ k + n * 2 ^ k % 2 ^ k) (shl-shr n k)
    ∙ ap (λ m. n % 2 ^ (w - k) * 2 ^ k + m) (mul-mod_left n (2 ^ k))
    ∙ (omega arith)

pub bits_shl : (w k n : ℕ) → k ≤ w → bits_of w (n * 2 ^ k % 2 ^ w) ≡ shifted_left k (bits_of w n)
bits_shl w k n h =
    let sum : w ≡ w - k + k = omega arith in
    let sum' : w ≡ k + (w - k) = omega arith in
    bits_mod w (n * 2 ^ k)
    ∙ ap (bits_of w) (let e : n * 2 ^ k ≡ n * 2 ^ k + 0 = omega arith in e)
    ∙ bits_cat (w - k) k w n 0 sum (pow_pos k)
    ∙ ap (λ bs. bs ++ bits_of k 0) (sym (drop-bits k (w - k) w n sum'))
    ∙ ap (λ bs. drop k (bits_of w n) ++ bs) (bits-zero k)

pub bits_shr : (w k n : ℕ) → k ≤ w → n < 2 ^ w → bits_of w (n / 2 ^ k) ≡ shifted_right k (bits_of w n)
bits_shr w k n h small =
    let sum : w ≡ w - k + k = omega arith in
    let sum' : w ≡ k + (w - k) = omega arith in
    let top : n / 2 ^ k < 2 ^ (w - k) = shr_below n (w - k) k (let e : n < 2 ^ (w - k + k) = rw (← sum) small in e) in
    ap (bits_of w) (let e : n / 2 ^ k ≡ 0 * 2 ^ (w - k) + n / 2 ^ k = omega arith in e)
    ∙ bits_cat k (w - k) w 0 (n / 2 ^ k) sum' top
    ∙ ap (λ bs. bs ++ bits_of (w - k) (n / 2 ^ k)) (bits-zero k)
    ∙ ap (λ bs. replicate k false ++ bs) (sym (take-bits (w - k) k w n sum))
    ∙ ap (λ l. replicate k false ++ take (l - k) (bits_of w n)) (sym (length-bits w n))

pub bits_rotated : (w k n : ℕ) → k ≤ w → n < 2 ^ w → bits_of w (bit_or (n * 2 ^ k % 2 ^ w) (n / 2 ^ (w - k))) ≡ rotated k (bits_of w n)
bits_rotated w k n h small =
    let sum : w ≡ w - k + k = omega arith in
    let sum' : w ≡ k + (w - k) = omega arith in
    let top : n / 2 ^ (w - k) < 2 ^ k = shr_below n k (w - k) (let e : n < 2 ^ (k + (w - k)) = rw (← sum') small in e) in
    ap (λ x. bits_of w (bit_or x (n / 2 ^ (w - k)))) (cut_shl w k n h)
    ∙ ap (bits_of w) (or_shifted (n % 2 ^ (w - k)) k (n / 2 ^ (w - k)) top)
    ∙ bits_cat (w - k) k w (n % 2 ^ (w - k)) (n / 2 ^ (w - k)) sum top
    ∙ ap (λ bs. bs ++ bits_of k (n / 2 ^ (w - k))) (bits_mod (w - k) n ∙ sym (drop-bits k (w - k) w n sum'))
    ∙ ap (λ bs. drop k (bits_of w n) ++ bs) (sym (take-bits k (w - k) w n sum'))

-- six bits of a word, which end a byte that begins with two zeros
pub bits_six : (n k : ℕ) → k ≤ 56 → bits_of 6 (bit_and (n / 2 ^ k) 255) ≡ take 6 (drop (58 - k) (bits_of 64 n))
bits_six n k h =
    ap (bits_of 6) (and_mask (n / 2 ^ k) 8) ∙ bits_low_six (n / 2 ^ k)
    ∙ sym (take-bits 6 k (6 + k) n refl)
    ∙ ap (take 6) (sym (drop-bits (58 - k) (6 + k) 64 n (omega arith)))
  where
    bits_low_six : (x : ℕ) → bits_of 6 (x % 2 ^ 8) ≡ bits_of 6 x
    bits_low_six x = sym (drop-bits 2 6 8 (x % 2 ^ 8) refl) ∙ ap (drop 2) (bits_mod 8 x) ∙ drop-bits 2 6 8 x refl

pub six_below : (n k : ℕ) → k ≤ 56 → take 2 (drop (56 - k) (bits_of 64 n)) ≡ false ∷ false ∷ [] → bit_and (n / 2 ^ k) 255 < 64
unfolding number
six_below n k h e =
    let x = n / 2 ^ k in
    let high : bits_of 2 (x / 2 ^ 6) ≡ false ∷ false ∷ []
    = sym (take-bits 2 6 8 x refl) ∙ ap (take 2) (sym (take-bits 8 k (8 + k) n refl))
    ∙ ap (λ bs. take 2 (take 8 bs)) (sym (drop-bits (56 - k) (8 + k) 64 n (omega arith)))
    ∙ take-take 2 8 (drop (56 - k) (bits_of 64 n)) (omega arith) ∙ e in
    let none : x / 2 ^ 6 % 2 ^ 2 ≡ 0 = sym (number-bits_mod 2 (x / 2 ^ 6)) ∙ ap number high in
    rw (and_mask x 8) (omega (arith, none))

-- four words of 16 bits side by side
pub bits_quarters : (a b c d : ℕ) → a < 2 ^ 16 → b < 2 ^ 16 → c < 2 ^ 16 → d < 2 ^ 16
    → bits_of 64 (bit_or (bit_or (bit_or (a * 2 ^ 48 % 2 ^ 64) (b * 2 ^ 32 % 2 ^ 64)) (c * 2 ^ 16 % 2 ^ 64)) d) ≡ ((bits_of 16 a ++ bits_of 16 b) ++ bits_of 16 c) ++ bits_of 16 d
bits_quarters a b c d p q r s =
    let first : a * 2 ^ 48 % 2 ^ 64 ≡ a * 2 ^ 48 = shl_whole a 16 48 64 p (omega arith) in
    let second : b * 2 ^ 32 % 2 ^ 64 ≡ b * 2 ^ 32 = shl_whole b 16 32 64 q (omega arith) in
    let third : c * 2 ^ 16 % 2 ^ 64 ≡ c * 2 ^ 16 = shl_whole c 16 16 64 r (omega arith) in
    let two : bit_or (a * 2 ^ 48) (b * 2 ^ 32) ≡ (a * 2 ^ 16 + b) * 2 ^ 32 = or_shifted a 48 (b * 2 ^ 32) (omega arith) ∙ (omega arith) in
    let three : bit_or ((a * 2 ^ 16 + b) * 2 ^ 32) (c * 2 ^ 16) ≡ ((a * 2 ^ 16 + b) * 2 ^ 16 + c) * 2 ^ 16 = or_shifted (a * 2 ^ 16 + b) 32 (c * 2 ^ 16) (omega arith) ∙ (omega arith) in
    let whole : bit_or (bit_or (bit_or (a * 2 ^ 48 % 2 ^ 64) (b * 2 ^ 32 % 2 ^ 64)) (c * 2 ^ 16 % 2 ^ 64)) d ≡ ((a * 2 ^ 16 + b) * 2 ^ 16 + c) * 2 ^ 16 + d
    = ap (λ x. bit_or (bit_or (bit_or x (b * 2 ^ 32 % 2 ^ 64)) (c * 2 ^ 16 % 2 ^ 64)) d) first
    ∙ ap (λ x. bit_or (bit_or (bit_or (a * 2 ^ 48) x) (c * 2 ^ 16 % 2 ^ 64)) d) second
    ∙ ap (λ x. bit_or (bit_or (bit_or (a * 2 ^ 48) (b * 2 ^ 32)) x) d) third
    ∙ ap (λ x. bit_or (bit_or x (c * 2 ^ 16)) d) two
    ∙ ap (λ x. bit_or x d) three
    ∙ or_shifted ((a * 2 ^ 16 + b) * 2 ^ 16 + c) 16 d s in
    ap (bits_of 64) whole
    ∙ bits_cat 48 16 64 ((a * 2 ^ 16 + b) * 2 ^ 16 + c) d refl s
    ∙ ap (λ bs. bs ++ bits_of 16 d) (bits_cat 32 16 48 (a * 2 ^ 16 + b) c refl r
    ∙ ap (λ bs. bs ++ bits_of 16 c) (bits_cat 16 16 32 a b refl q))
