-- The authentication code of a text (FIPS 113, the algorithm with cipher block chaining).
use Rattle.std.specs.Prelude.{ℕ, zero, suc, ◌-◌, ◌/◌, ◌%◌, ◌^◌, List, [], ◌∷◌, ◌++◌, length, take, drop, replicate, fold, bit_xor}
use Rattle.std.specs.Int.{w64, from_be_bytes}
use Rattle.x_des.specs.Des.{enciphered}

-- the text, filled with zero bytes to a multiple of eight
unfoldable pub filled : List ℕ → List ℕ
filled t = t ++ replicate ((8 - length t % 8) % 8) 0

-- eight bytes as a word, the first byte most significant
unfoldable pub word_of : List ℕ → ℕ
word_of bytes = from_be_bytes w64 bytes

-- the first n blocks of eight bytes, each as a word
unfoldable pub blocks : ℕ → List ℕ → List ℕ
blocks zero t = []
blocks (suc n) t = word_of (take 8 t) ∷ blocks n (drop 8 t)

-- one step of the chain: y goes to E(k, y xor block)
abbrev pub chained : ℕ → ℕ → ℕ → ℕ
chained key y block = enciphered key (bit_xor y block)

-- the chain over a text, begun at y
unfoldable pub code_from : ℕ → ℕ → List ℕ → ℕ
code_from key y t = fold (chained key) y (blocks (length (filled t) / 8) (filled t))

-- the code of a text: the chain begun at zero
abbrev pub code_of : ℕ → List ℕ → ℕ
code_of key t = code_from key 0 t

-- its first 32 bits
abbrev pub mac_of : ℕ → List ℕ → ℕ
mac_of key t = code_of key t / 2 ^ 32

-- the error detection code (ANSI X9.17 / ISO 8732), under the fixed key that the standard gives
abbrev pub edc_of : List ℕ → ℕ
edc_of t = mac_of 0x0123456789ABCDEF t
