-- Key offset (ANSI X9.17 / ISO 8732) with a spread count, and notarization (the spreading and the
-- formula of notarization are this project's profile).
use Rattle.std.specs.Prelude.{ℕ, ◌-◌, ◌*◌, ◌/◌, ◌%◌, ◌^◌, map, bit_xor}
use Rattle.std.specs.Int.{w64, from_be_bytes}
use Rattle.std.specs.List.{range_with_len}
use Rattle.x_des.specs.Des.{enciphered}
use Rattle.x_mac.specs.declared.pair.Pair.{Pair}

-- byte i, from 0 at the left: bits 7 * (7 - i) to 7 * (7 - i) + 6 of the count, doubled
abbrev pub spread_byte : ℕ → ℕ → ℕ
spread_byte count i = 2 * (count / 2 ^ (7 * (7 - i)) % 2 ^ 7)

unfoldable pub spread_of : ℕ → ℕ
spread_of count = from_be_bytes w64 (map (spread_byte count) (range_with_len 0 8))

-- both halves of a key-encrypting key, exclusive or the spread count
abbrev pub offset_of : Pair → ℕ → Pair
offset_of kk count = record { left = bit_xor kk.left (spread_of count); right = bit_xor kk.right (spread_of count) }

-- notarized for the expansions of two identities, A B of the sender and C D of the receiver, and
-- offset: with S the spread count, L xor E(R xor A, D) xor S and R xor E(L xor C, B) xor S
abbrev pub notary_of : Pair → ℕ × ℕ → ℕ × ℕ → ℕ → Pair
notary_of kk from to count = record {
  left = bit_xor (bit_xor kk.left (enciphered (bit_xor kk.right from.0) to.1)) (spread_of count);
  right = bit_xor (bit_xor kk.right (enciphered (bit_xor kk.left to.0) from.1)) (spread_of count);
}
