-- Blocks behind IP.
use Rattle.std.proofs.Common.{◌≡◌, ℕ, ◌+◌, ◌*◌, ◌/◌, ◌%◌, ◌^◌, ◌<◌, ◌++◌, List, Bool, length, map, reverse, take, drop, refl, sym, ap, ◌∙◌, arith, subst}
use Rattle.std.specs.Prelude.{bit_and, bit_or, bit_xor, fold}
use Rattle.std.proofs.lemmas.List.{take-append-drop, take_at, drop_at, length-append}
use Rattle.std.proofs.lemmas.Nat.{xor_lt}
use Rattle.x_des.specs.Bits.{bits_of, chosen, number, pick, exclusive_or}
use Rattle.x_des.specs.Block.{IsDoubled, doubled, half, sixes, undoubled}
use Rattle.x_des.specs.Des.{Halves, cipher, crypted, encrypted, decrypted, enciphered, deciphered, exchanged, halved, joined, round, round_keys}
use Rattle.x_des.specs.Tables.{ip, ip_inverse}
use Rattle.x_des.proofs.BitsLemmas.{length-bits, length-pick, number-bits, number-lt, bits-number_at, bits-bit_xor, word_is}
use Rattle.x_des.proofs.ExclusiveOr.{pick-exclusive_or, exclusive_or-append}
use Rattle.x_des.proofs.Inverse.{final-initial, initial-final}
use Rattle.x_des.proofs.Steps.{high_half, low_half, joined_words, joined_words-lt, map-reverse}
use Rattle.x_des.proofs.Permuting.{halves}

-- the block that IP makes two halves of
abbrev pub permuted_back : ℕ → ℕ → ℕ
permuted_back l r = number (pick ip_inverse (half l ++ half r))

pub length-half : (n : ℕ) → length (half n) ≡ 32
unfolding bits_of chosen
length-half n = refl

length-halves : (l r : ℕ) → length (half l ++ half r) ≡ 64
length-halves l r = length-append (half l) (half r) ∙ ap (λ n. n + length (half r)) (length-half l) ∙ ap (λ n. 32 + n) (length-half r)

-- the half of an exclusive or
exclusive_or-half : (a b : ℕ) → undoubled (exclusive_or (bits_of 64 a) (bits_of 64 b)) ≡ exclusive_or (half a) (half b)
unfolding bits_of chosen exclusive_or
exclusive_or-half a b = refl

pub half-xor : (a b : ℕ) → half (bit_xor a b) ≡ exclusive_or (half a) (half b)
half-xor a b = ap undoubled (bits-bit_xor 64 a b) ∙ exclusive_or-half a b

doubled-half : (a b : ℕ) → exclusive_or (doubled (half a)) (doubled (half b)) ≡ doubled (exclusive_or (half a) (half b))
unfolding bits_of chosen exclusive_or sixes
doubled-half a b = refl

pub doubled-xor : (a b : ℕ) → IsDoubled a → IsDoubled b → IsDoubled (bit_xor a b)
doubled-xor a b p q =
    bits-bit_xor 64 a b ∙ ap (λ bs. exclusive_or bs (bits_of 64 b)) p ∙ ap (exclusive_or (doubled (half a))) q
    ∙ doubled-half a b ∙ ap doubled (sym (half-xor a b))

-- a word that doubles a word of 32 bits
single_of : (n : ℕ) → undoubled (doubled (bits_of 32 n)) ≡ bits_of 32 n
unfolding bits_of chosen sixes
single_of n = refl

pub half-doubled : (w n : ℕ) → bits_of 64 w ≡ doubled (bits_of 32 n) → half w ≡ bits_of 32 n
half-doubled w n e = ap undoubled e ∙ single_of n

pub is_doubled : (w n : ℕ) → bits_of 64 w ≡ doubled (bits_of 32 n) → IsDoubled w
is_doubled w n e = e ∙ ap doubled (sym (half-doubled w n e))

-- and one that doubles what the cipher function gives
single_cipher : (bs key : List Bool) → undoubled (doubled (cipher bs key)) ≡ cipher bs key
unfolding bits_of chosen cipher pick sixes
single_cipher bs key = refl

pub half-cipher : (w : ℕ) (bs key : List Bool) → bits_of 64 w ≡ doubled (cipher bs key) → half w ≡ cipher bs key
half-cipher w bs key e = ap undoubled e ∙ single_cipher bs key

pub is_doubled_cipher : (w : ℕ) (bs key : List Bool) → bits_of 64 w ≡ doubled (cipher bs key) → IsDoubled w
is_doubled_cipher w bs key e = e ∙ ap doubled (sym (half-cipher w bs key e))

pub bits-permuted_back : (l r : ℕ) → bits_of 64 (permuted_back l r) ≡ pick ip_inverse (half l ++ half r)
bits-permuted_back l r = bits-number_at 64 (pick ip_inverse (half l ++ half r)) (length-pick ip_inverse (half l ++ half r))

pub permuted_back-lt : (l r : ℕ) → permuted_back l r < 2 ^ 64
permuted_back-lt l r =
    let bs = pick ip_inverse (half l ++ half r) in
    subst (λ n. number bs < 2 ^ n) (length-pick ip_inverse (half l ++ half r)) (number-lt bs)

-- a word made into halves by IP
pub new_is : (x l r a b : ℕ) → x < 2 ^ 64 → half l ≡ bits_of 32 a → half r ≡ bits_of 32 b
    → bits_of 32 a ++ bits_of 32 b ≡ pick ip (bits_of 32 (x / 2 ^ 32) ++ bits_of 32 (bit_and x 4294967295)) → permuted_back l r ≡ x
new_is x l r a b small p q e =
    let whole : bits_of 32 (x / 2 ^ 32) ++ bits_of 32 (bit_and x 4294967295) ≡ bits_of 64 x
    = ap (λ bs. bs ++ bits_of 32 (bit_and x 4294967295)) (high_half 32 32 64 x refl) ∙ ap (λ bs. take 32 (bits_of 64 x) ++ bs) (low_half 32 32 64 x refl) ∙ take-append-drop 32 (bits_of 64 x) in
    ap (λ bs. number (pick ip_inverse (bs ++ half r))) p
    ∙ ap (λ bs. number (pick ip_inverse (bits_of 32 a ++ bs))) q
    ∙ ap (λ bs. number (pick ip_inverse bs)) (e ∙ ap (pick ip) whole)
    ∙ ap number (final-initial (bits_of 64 x) (length-bits 64 x))
    ∙ number-bits 64 x small

-- the word of two halves
pub word_of_halves : (l r m s a b : ℕ) → a < 2 ^ 32 → b < 2 ^ 32 → bits_of 32 m ≡ half l → bits_of 32 s ≡ half r
    → bits_of 32 a ++ bits_of 32 b ≡ pick ip_inverse (bits_of 32 m ++ bits_of 32 s) → bit_or (a * 2 ^ 32 % 2 ^ 64) b ≡ permuted_back l r
word_of_halves l r m s a b p q f g e =
    word_is 64 (bit_or (a * 2 ^ 32 % 2 ^ 64) b) (pick ip_inverse (half l ++ half r)) (joined_words-lt 32 32 a b (omega arith) p q)
    (joined_words 32 32 64 a b refl (omega arith) p q ∙ e ∙ ap (λ bs. pick ip_inverse (bs ++ bits_of 32 s)) f ∙ ap (λ bs. pick ip_inverse (half l ++ bs)) g)

pub permuted_back-xor : (l r m s : ℕ) → permuted_back (bit_xor l m) (bit_xor r s) ≡ bit_xor (permuted_back l r) (permuted_back m s)
permuted_back-xor l r m s =
    let x = half l ++ half r in
    let y = half m ++ half s in
    let bits : bits_of 64 (bit_xor (permuted_back l r) (permuted_back m s)) ≡ pick ip_inverse (half (bit_xor l m) ++ half (bit_xor r s))
    = bits-bit_xor 64 (permuted_back l r) (permuted_back m s)
    ∙ ap (λ bs. exclusive_or bs (bits_of 64 (permuted_back m s))) (bits-permuted_back l r)
    ∙ ap (exclusive_or (pick ip_inverse x)) (bits-permuted_back m s)
    ∙ sym (pick-exclusive_or ip_inverse x y (length-halves l r ∙ sym (length-halves m s)))
    ∙ ap (pick ip_inverse) (exclusive_or-append (half l) (half r) (half m) (half s) (length-half l ∙ sym (length-half m))
    ∙ ap (λ bs. bs ++ exclusive_or (half r) (half s)) (sym (half-xor l m))
    ∙ ap (λ bs. half (bit_xor l m) ++ bs) (sym (half-xor r s))) in
    sym (word_is 64 (bit_xor (permuted_back l r) (permuted_back m s)) (pick ip_inverse (half (bit_xor l m) ++ half (bit_xor r s)))
    (xor_lt 64 (permuted_back l r) (permuted_back m s) (permuted_back-lt l r) (permuted_back-lt m s)) bits)

-- rounds from two halves on
pub crypted-permuted_back : (ks : List (List Bool)) (l r : ℕ)
    → crypted ks (bits_of 64 (permuted_back l r)) ≡ pick ip_inverse (joined (exchanged (fold round (halves (half l) (half r)) ks)))
unfolding crypted
crypted-permuted_back ks l r =
    let x = half l ++ half r in
    let in_front : pick ip (bits_of 64 (permuted_back l r)) ≡ x = ap (pick ip) (bits-permuted_back l r) ∙ initial-final x (length-halves l r) in
    ap (λ bs. pick ip_inverse (joined (exchanged (fold round (halved bs) ks)))) in_front
    ∙ ap (λ bs. pick ip_inverse (joined (exchanged (fold round (halves bs (drop 32 x)) ks)))) (take_at (half l) (half r) 32 (length-half l))
    ∙ ap (λ bs. pick ip_inverse (joined (exchanged (fold round (halves (half l) bs) ks)))) (drop_at (half l) (half r) 32 (length-half l))

-- a block that has passed the rounds of a key
pub encrypted-permuted_back : (f : ℕ → List Bool) (words : List ℕ) (key l r a b : ℕ) → map f words ≡ round_keys (bits_of 64 key)
    → halves (half a) (half b) ≡ fold round (halves (half l) (half r)) (map f words)
    → permuted_back b a ≡ enciphered key (permuted_back l r)
unfolding enciphered encrypted
encrypted-permuted_back f words key l r a b keys e =
    ap (λ (h : Halves). number (pick ip_inverse (joined (exchanged h)))) (e ∙ ap (fold round (halves (half l) (half r))) keys)
    ∙ sym (ap number (crypted-permuted_back (round_keys (bits_of 64 key)) l r))

-- and those from the last round key to the first
pub decrypted-permuted_back : (f : ℕ → List Bool) (words : List ℕ) (key l r a b : ℕ) → map f words ≡ round_keys (bits_of 64 key)
    → halves (half a) (half b) ≡ fold round (halves (half l) (half r)) (map f (reverse words))
    → permuted_back b a ≡ deciphered key (permuted_back l r)
unfolding deciphered decrypted
decrypted-permuted_back f words key l r a b keys e =
    ap (λ (h : Halves). number (pick ip_inverse (joined (exchanged h)))) (e ∙ ap (fold round (halves (half l) (half r))) (map-reverse f words ∙ ap reverse keys))
    ∙ sym (ap number (crypted-permuted_back (reverse (round_keys (bits_of 64 key))) l r))
