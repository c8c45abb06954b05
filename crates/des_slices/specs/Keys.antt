-- A key whose round keys stand in all lanes (this project's profile).
use Rattle.std.specs.Prelude.{◌≡◌, ℕ, ◌<◌, Bool, List, map}
use Rattle.std.specs.Simd.Lanes.{Each1}
use Rattle.x_des.specs.Bits.{bits_of}
use Rattle.x_des.specs.Des.{round_keys}
use Rattle.des_slices.specs.Vectors.{AreVectors, lane, words_of}
use Rattle.des_slices.specs.declared.key.RoundKey.{RoundKey}
use Rattle.des_slices.specs.declared.key.SlicedKey.TheInside.{Inside}

-- the low 48 bits of these words are the round keys that FIPS 46's KS makes of the key
abbrev pub AreRoundKeys : List ℕ → ℕ → Type 0
AreRoundKeys words key = map (bits_of 48) words ≡ round_keys (bits_of 64 key)

-- the round keys of a lane
abbrev pub keys_in : ℕ → List RoundKey → List (List Bool)
keys_in l rounds = map (λ (r : RoundKey). lane l (words_of r.bits)) rounds

-- in each lane they are those of the key
pub record HasRoundKeys (k : Inside) : Type 0 where
  pub lanes : (l : ℕ) → l < 128 → keys_in l k.rounds ≡ round_keys (bits_of 64 k.key)
  pub vectors : Each1 (λ (r : RoundKey). AreVectors r.bits) k.rounds
