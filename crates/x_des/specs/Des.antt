-- DES, as FIPS 46 defines it over lists of bits.
use Rattle.std.specs.Prelude.{◌≡◌, ℕ, ◌+◌, ◌*◌, ◌%◌, ◌==◌, not, filter, Bool, List, [], ◌∷◌, ◌++◌, take, drop, fold, reverse, slice_index}
use Rattle.std.specs.List.{range_with_len}
use Rattle.x_des.specs.Tables.{ip, ip_inverse, expansion, permutation, choice_1, choice_2, shifts, s_boxes}
use Rattle.x_des.specs.Bits.{bits_of, number, pick, exclusive_or, rotated}

-- FIPS 46, Appendix 1 (S1 to S8): of six bits the first and the last name the row, the middle four
-- the column
unfoldable pub substituted : List ℕ → List Bool → List Bool
substituted box six =
    bits_of 4 (slice_index box (16 * number (pick (1 ∷ 6 ∷ []) six) + number (pick (2 ∷ 3 ∷ 4 ∷ 5 ∷ []) six)))

-- each box gives four bits for the six bits at its turn
unfoldable pub substitution : List (List ℕ) → List Bool → List Bool
substitution [] bs = []
substitution (box ∷ boxes) bs = substituted box (take 6 bs) ++ substitution boxes (drop 6 bs)

-- FIPS 46, The Cipher Function f: P(S(E(R) xor K))
unfoldable pub cipher : List Bool → List Bool → List Bool
cipher half key = pick permutation (substitution s_boxes (exclusive_or (pick expansion half) key))

-- FIPS 46, Enciphering: a block is L followed by R
pub record Halves : Type 0 where
  pub left : List Bool
  pub right : List Bool

-- L' = R and R' = L xor f(R, K)
abbrev pub round : Halves → List Bool → Halves
round h key = record { left = h.right; right = exclusive_or h.left (cipher h.right key) }

abbrev pub halved : List Bool → Halves
halved bs = record { left = take 32 bs; right = drop 32 bs }

abbrev pub exchanged : Halves → Halves
exchanged h = record { left = h.right; right = h.left }

abbrev pub joined : Halves → List Bool
joined h = h.left ++ h.right

-- FIPS 46, Appendix 1 (KS): the round keys from C and D, given the left shifts that are to come
unfoldable pub keys_from : List ℕ → List Bool → List Bool → List (List Bool)
keys_from [] c d = []
keys_from (n ∷ ns) c d = pick choice_2 (rotated n c ++ rotated n d) ∷ keys_from ns (rotated n c) (rotated n d)

-- the sixteen round keys of a key
unfoldable pub round_keys : List Bool → List (List Bool)
round_keys key = keys_from shifts (take 28 (pick choice_1 key)) (drop 28 (pick choice_1 key))

-- FIPS 46, Enciphering: IP, a round for each of these keys, the exchange, and the inverse of IP
unfoldable pub crypted : List (List Bool) → List Bool → List Bool
crypted keys block = pick ip_inverse (joined (exchanged (fold round (halved (pick ip block)) keys)))

-- FIPS 46, Enciphering: E(k, x)
unfoldable pub encrypted : List Bool → List Bool → List Bool
encrypted key block = crypted (round_keys key) block

-- FIPS 46, Deciphering: D(k, x), with the round keys from the last to the first
unfoldable pub decrypted : List Bool → List Bool → List Bool
decrypted key block = crypted (reverse (round_keys key)) block

-- E(k, x) and D(k, x) of words of 64 bits
unfoldable pub enciphered : ℕ → ℕ → ℕ
enciphered key block = number (encrypted (bits_of 64 key) (bits_of 64 block))

unfoldable pub deciphered : ℕ → ℕ → ℕ
deciphered key block = number (decrypted (bits_of 64 key) (bits_of 64 block))

-- FIPS 46, Appendix 1 (KS): bits 8, 16, .., 64 of a key are parity bits; the others are the effective key
abbrev pub key_places : List ℕ
key_places = filter (λ p. not (p % 8 == 0)) (range_with_len 1 64)

unfoldable pub effective : List Bool → List Bool
effective key = pick key_places key

-- two keys that differ in parity bits alone
unfoldable pub SameButParity : ℕ → ℕ → Type 0
SameButParity key other = effective (bits_of 64 key) ≡ effective (bits_of 64 other)
