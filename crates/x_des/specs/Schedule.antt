-- A key schedule (this project's profile).
use Rattle.std.specs.Prelude.{◌≡◌, ℕ, List, map}
use Rattle.x_des.specs.Bits.{bits_of}
use Rattle.x_des.specs.Des.{round_keys}
use Rattle.x_des.specs.RoundKey.{gathered}
use Rattle.x_des.specs.declared.schedule.Schedule.TheInside.{Inside}

-- the words keep the round keys that FIPS 46's KS makes of the key
abbrev pub KeepRoundKeys : List ℕ → ℕ → Type 0
KeepRoundKeys words key = map (λ word. gathered (bits_of 64 word)) words ≡ round_keys (bits_of 64 key)

abbrev pub HasRoundKeys : Inside → Type 0
HasRoundKeys s = KeepRoundKeys s.round_keys s.key
