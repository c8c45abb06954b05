-- The bytes of identities and labels: this project's profile of ANSI X9.17.
use Rattle.std.specs.Prelude.{ℕ, ◌==◌, nat_le, ◌&&◌, ◌||◌, Bool, List, length, IsTrue}
use Rattle.std.specs.List.{list_all}

-- a capital letter, a digit or a dash
abbrev pub is_name_byte : ℕ → Bool
is_name_byte b = ((nat_le 65 b && nat_le b 90) || (nat_le 48 b && nat_le b 57)) || (b == 45)

-- between low and high of them
abbrev pub is_name : ℕ → ℕ → List ℕ → Bool
is_name low high bytes = (nat_le low (length bytes) && nat_le (length bytes) high) && list_all is_name_byte bytes

-- 4 to 16 of them
abbrev pub IsIdent : List ℕ → Type 0
IsIdent bytes = IsTrue (is_name 4 16 bytes)

-- 1 to 16 of them
abbrev pub IsLabel : List ℕ → Type 0
IsLabel bytes = IsTrue (is_name 1 16 bytes)
