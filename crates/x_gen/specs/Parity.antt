-- Odd parity in every byte of a key (FIPS 46), and the weak keys.
use Rattle.std.specs.Prelude.{ℕ, ◌+◌, ◌*◌, ◌/◌, ◌%◌, ◌==◌, ◌-◌, List, [], ◌∷◌, Bool, map, count_ones}
use Rattle.std.specs.List.{list_any}
use Rattle.std.specs.Int.{w64, to_be_bytes, from_be_bytes}

-- a byte whose lowest bit is set so that it has an odd number of ones
abbrev pub odd_byte : ℕ → ℕ
odd_byte b = b / 2 * 2 + (1 - count_ones (b / 2) % 2)

-- a key with odd parity in every byte
unfoldable pub odd_parity_of : ℕ → ℕ
odd_parity_of key = from_be_bytes w64 (map odd_byte (to_be_bytes w64 key))

-- the four weak keys and the twelve semi-weak keys of DES, with odd parity (this project's profile)
abbrev pub weak_keys : List ℕ
weak_keys =
    0x0101010101010101 ∷ 0xFEFEFEFEFEFEFEFE ∷ 0xE0E0E0E0F1F1F1F1 ∷ 0x1F1F1F1F0E0E0E0E
    ∷ 0x01FE01FE01FE01FE ∷ 0xFE01FE01FE01FE01 ∷ 0x1FE01FE00EF10EF1 ∷ 0xE01FE01FF10EF10E
    ∷ 0x01E001E001F101F1 ∷ 0xE001E001F101F101 ∷ 0x1FFE1FFE0EFE0EFE ∷ 0xFE1FFE1FFE0EFE0E
    ∷ 0x011F011F010E010E ∷ 0x1F011F010E010E01 ∷ 0xE0FEE0FEF1FEF1FE ∷ 0xFEE0FEE0FEF1FEF1 ∷ []

abbrev pub is_weak_key : ℕ → Bool
is_weak_key key = list_any (λ w. odd_parity_of key == w) weak_keys
