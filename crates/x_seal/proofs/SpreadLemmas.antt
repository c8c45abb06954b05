-- Counts that are not equal give effective keys that are not equal.
use Rattle.std.proofs.Common.{◌≡◌, ℕ, ◌+◌, ◌*◌, ◌/◌, ◌%◌, ◌^◌, ◌<◌, Bool, true, false, List, [], ◌∷◌, ◌++◌, length, drop, get_or, refl, sym, ap, ◌∙◌, arith}
use Rattle.std.specs.Prelude.{bit_xor}
use Rattle.std.specs.Int.{w64, from_be_bytes}
use Rattle.std.proofs.lemmas.List.{take-append-drop}
use Rattle.x_des.specs.Bits.{bits_of, pick, exclusive_or, differ}
use Rattle.x_des.specs.Des.{effective, key_places, SameButParity}
use Rattle.x_des.proofs.BitsLemmas.{bits_cat, bits_push, take-bits, drop-bits, bits_mod, bits-bit_xor, same_from_lists, length-bits, length-pick, exclusive_or-exclusive_or}
use Rattle.x_des.proofs.ExclusiveOr.{pick-exclusive_or}
use Rattle.x_seal.specs.Offset.{spread_byte, spread_of}

-- the bits of a number, seven in front
front : (k n : ℕ) → bits_of (7 + k) n ≡ bits_of 7 (n / 2 ^ k) ++ bits_of k n
front k n =
    sym (take-append-drop 7 (bits_of (7 + k) n))
    ∙ ap (λ bs. bs ++ drop 7 (bits_of (7 + k) n)) (take-bits 7 k (7 + k) n refl)
    ∙ ap (λ bs. bits_of 7 (n / 2 ^ k) ++ bs) (drop-bits 7 k (7 + k) n refl)

-- the bits of a word of eight bytes
word_bits : (b0 b1 b2 b3 b4 b5 b6 b7 : ℕ) → b1 < 256 → b2 < 256 → b3 < 256 → b4 < 256 → b5 < 256 → b6 < 256 → b7 < 256
    → bits_of 64 (b0 * 2 ^ 56 + b1 * 2 ^ 48 + b2 * 2 ^ 40 + b3 * 2 ^ 32 + b4 * 2 ^ 24 + b5 * 2 ^ 16 + b6 * 2 ^ 8 + b7)
    ≡ bits_of 8 b0 ++ bits_of 8 b1 ++ bits_of 8 b2 ++ bits_of 8 b3 ++ bits_of 8 b4 ++ bits_of 8 b5 ++ bits_of 8 b6 ++ bits_of 8 b7
word_bits b0 b1 b2 b3 b4 b5 b6 b7 h1 h2 h3 h4 h5 h6 h7 =
    let n1 = b0 * 2 ^ 8 + b1 in
    let n2 = n1 * 2 ^ 8 + b2 in
    let n3 = n2 * 2 ^ 8 + b3 in
    let n4 = n3 * 2 ^ 8 + b4 in
    let n5 = n4 * 2 ^ 8 + b5 in
    let n6 = n5 * 2 ^ 8 + b6 in
    let nested : b0 * 2 ^ 56 + b1 * 2 ^ 48 + b2 * 2 ^ 40 + b3 * 2 ^ 32 + b4 * 2 ^ 24 + b5 * 2 ^ 16 + b6 * 2 ^ 8 + b7 ≡ n6 * 2 ^ 8 + b7 = omega arith in
    ap (bits_of 64) nested
    ∙ bits_cat 56 8 64 n6 b7 refl h7
    ∙ ap (λ bs. bs ++ bits_of 8 b7) (bits_cat 48 8 56 n5 b6 refl h6
    ∙ ap (λ bs. bs ++ bits_of 8 b6) (bits_cat 40 8 48 n4 b5 refl h5
    ∙ ap (λ bs. bs ++ bits_of 8 b5) (bits_cat 32 8 40 n3 b4 refl h4
    ∙ ap (λ bs. bs ++ bits_of 8 b4) (bits_cat 24 8 32 n2 b3 refl h3
    ∙ ap (λ bs. bs ++ bits_of 8 b3) (bits_cat 16 8 24 n1 b2 refl h2
    ∙ ap (λ bs. bs ++ bits_of 8 b2) (bits_cat 8 8 16 b0 b1 refl h1))))))

-- a byte of a spread count: seven bits and a zero
spread_bits : (n : ℕ) → bits_of 8 (2 * (n % 2 ^ 7)) ≡ bits_of 7 n ++ false ∷ []
spread_bits n =
    ap (bits_of 8) (let e : 2 * (n % 2 ^ 7) ≡ (n % 2 ^ 7) * 2 + 0 = omega arith in e)
    ∙ bits_push 7 (n % 2 ^ 7) 0 (omega arith)
    ∙ ap (λ bs. bs ++ false ∷ []) (bits_mod 7 n)

spread-byte_lt : (n : ℕ) → 2 * (n % 2 ^ 7) < 256
spread-byte_lt n = omega arith

-- eight groups of seven bits, each before a zero
abbrev grouped : ℕ → ℕ → ℕ → ℕ → ℕ → ℕ → ℕ → ℕ → List Bool
grouped n0 n1 n2 n3 n4 n5 n6 n7 =
    (bits_of 7 n0 ++ false ∷ []) ++ (bits_of 7 n1 ++ false ∷ []) ++ (bits_of 7 n2 ++ false ∷ []) ++ (bits_of 7 n3 ++ false ∷ [])
    ++ (bits_of 7 n4 ++ false ∷ []) ++ (bits_of 7 n5 ++ false ∷ []) ++ (bits_of 7 n6 ++ false ∷ []) ++ (bits_of 7 n7 ++ false ∷ [])

grouped_word : (n0 n1 n2 n3 n4 n5 n6 n7 : ℕ)
    → bits_of 64 (2 * (n0 % 2 ^ 7) * 2 ^ 56 + 2 * (n1 % 2 ^ 7) * 2 ^ 48 + 2 * (n2 % 2 ^ 7) * 2 ^ 40 + 2 * (n3 % 2 ^ 7) * 2 ^ 32
    + 2 * (n4 % 2 ^ 7) * 2 ^ 24 + 2 * (n5 % 2 ^ 7) * 2 ^ 16 + 2 * (n6 % 2 ^ 7) * 2 ^ 8 + 2 * (n7 % 2 ^ 7))
    ≡ grouped n0 n1 n2 n3 n4 n5 n6 n7
grouped_word n0 n1 n2 n3 n4 n5 n6 n7 =
    word_bits (2 * (n0 % 2 ^ 7)) (2 * (n1 % 2 ^ 7)) (2 * (n2 % 2 ^ 7)) (2 * (n3 % 2 ^ 7)) (2 * (n4 % 2 ^ 7)) (2 * (n5 % 2 ^ 7)) (2 * (n6 % 2 ^ 7)) (2 * (n7 % 2 ^ 7))
    (spread-byte_lt n1) (spread-byte_lt n2) (spread-byte_lt n3) (spread-byte_lt n4) (spread-byte_lt n5) (spread-byte_lt n6) (spread-byte_lt n7)
    ∙ simp spread_bits

bits-spread : (c : ℕ) → bits_of 64 (spread_of c) ≡ grouped (c / 2 ^ 49) (c / 2 ^ 42) (c / 2 ^ 35) (c / 2 ^ 28) (c / 2 ^ 21) (c / 2 ^ 14) (c / 2 ^ 7) c
unfolding spread_of
bits-spread c =
    grouped_word (c / 2 ^ 49) (c / 2 ^ 42) (c / 2 ^ 35) (c / 2 ^ 28) (c / 2 ^ 21) (c / 2 ^ 14) (c / 2 ^ 7) (c / 2 ^ 0)
    ∙ ap (grouped (c / 2 ^ 49) (c / 2 ^ 42) (c / 2 ^ 35) (c / 2 ^ 28) (c / 2 ^ 21) (c / 2 ^ 14) (c / 2 ^ 7)) (let e : c / 2 ^ 0 ≡ c = omega arith in e)

-- the places without parity hold the groups alone
gathered : (n0 n1 n2 n3 n4 n5 n6 n7 : ℕ)
    → pick key_places (grouped n0 n1 n2 n3 n4 n5 n6 n7)
    ≡ bits_of 7 n0 ++ (bits_of 7 n1 ++ (bits_of 7 n2 ++ (bits_of 7 n3 ++ (bits_of 7 n4 ++ (bits_of 7 n5 ++ (bits_of 7 n6 ++ bits_of 7 n7))))))
unfolding pick bits_of
gathered n0 n1 n2 n3 n4 n5 n6 n7 = refl

effective-spread : (c : ℕ) → effective (bits_of 64 (spread_of c)) ≡ bits_of 56 c
unfolding effective
effective-spread c = ap (pick key_places) (bits-spread c) ∙ gathered (c / 2 ^ 49) (c / 2 ^ 42) (c / 2 ^ 35) (c / 2 ^ 28) (c / 2 ^ 21) (c / 2 ^ 14) (c / 2 ^ 7) c
    ∙ sym (front 49 c
    ∙ ap (λ bs. bits_of 7 (c / 2 ^ 49) ++ bs) (front 42 c
    ∙ ap (λ bs. bits_of 7 (c / 2 ^ 42) ++ bs) (front 35 c
    ∙ ap (λ bs. bits_of 7 (c / 2 ^ 35) ++ bs) (front 28 c
    ∙ ap (λ bs. bits_of 7 (c / 2 ^ 28) ++ bs) (front 21 c
    ∙ ap (λ bs. bits_of 7 (c / 2 ^ 21) ++ bs) (front 14 c
    ∙ ap (λ bs. bits_of 7 (c / 2 ^ 14) ++ bs) (front 7 c)))))))

-- ---- exclusive or

differ_comm : (b c : Bool) → differ b c ≡ differ c b
differ_comm true true = refl
differ_comm true false = refl
differ_comm false true = refl
differ_comm false false = refl

exclusive_or_comm : (bs cs : List Bool) → length bs ≡ length cs → exclusive_or bs cs ≡ exclusive_or cs bs
unfolding exclusive_or
exclusive_or_comm [] [] e = refl
exclusive_or_comm [] (c ∷ cs) e = absurd (omega arith)
exclusive_or_comm (b ∷ bs) [] e = absurd (omega arith)
exclusive_or_comm (b ∷ bs) (c ∷ cs) e =
    ap (λ x. x ∷ exclusive_or bs cs) (differ_comm b c) ∙ ap (λ xs. differ c b ∷ xs) (exclusive_or_comm bs cs (omega arith))

exclusive_or_cancel : (bs cs ds : List Bool) → length bs ≡ length cs → length bs ≡ length ds → exclusive_or bs cs ≡ exclusive_or bs ds → cs ≡ ds
exclusive_or_cancel bs cs ds p q e =
    sym (exclusive_or-exclusive_or cs bs) ∙ ap (λ xs. exclusive_or xs bs) (exclusive_or_comm cs bs (sym p) ∙ e ∙ exclusive_or_comm bs ds q) ∙ exclusive_or-exclusive_or ds bs

effective-bit_xor : (k s : ℕ) → effective (bits_of 64 (bit_xor k s)) ≡ exclusive_or (effective (bits_of 64 k)) (effective (bits_of 64 s))
unfolding effective
effective-bit_xor k s = ap (pick key_places) (bits-bit_xor 64 k s) ∙ pick-exclusive_or key_places (bits_of 64 k) (bits_of 64 s) (length-bits 64 k ∙ sym (length-bits 64 s))

length-effective : (bs : List Bool) → length (effective bs) ≡ 56
unfolding effective
length-effective bs = length-pick key_places bs

pub counts_apart : (k c d : ℕ) → c < 2 ^ 56 → d < 2 ^ 56 → SameButParity (bit_xor k (spread_of c)) (bit_xor k (spread_of d)) → c ≡ d
unfolding SameButParity
counts_apart k c d p q e =
    let key = effective (bits_of 64 k) in
    let sc = effective (bits_of 64 (spread_of c)) in
    let sd = effective (bits_of 64 (spread_of d)) in
    let same : sc ≡ sd = exclusive_or_cancel key sc sd (length-effective (bits_of 64 k) ∙ sym (length-effective (bits_of 64 (spread_of c)))) (length-effective (bits_of 64 k) ∙ sym (length-effective (bits_of 64 (spread_of d))))
    (sym (effective-bit_xor k (spread_of c)) ∙ e ∙ effective-bit_xor k (spread_of d)) in
    same_from_lists 56 c d p q (sym (effective-spread c) ∙ same ∙ effective-spread d)

-- the word that the code makes
pub spread_is : (bytes : List ℕ) (c : ℕ) → ((k : ℕ) → k < 8 → get_or bytes k 0 ≡ spread_byte c k) → from_be_bytes w64 bytes ≡ spread_of c
unfolding spread_of
spread_is bytes c h =
    let h0 = h 0 (omega arith) in
    let h1 = h 1 (omega arith) in
    let h2 = h 2 (omega arith) in
    let h3 = h 3 (omega arith) in
    let h4 = h 4 (omega arith) in
    let h5 = h 5 (omega arith) in
    let h6 = h 6 (omega arith) in
    let h7 = h 7 (omega arith) in
    cc
