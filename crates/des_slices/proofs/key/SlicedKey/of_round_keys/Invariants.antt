use Rattle.std.proofs.Common.{◌≡◌, ◌<◌, ℕ, length, map, take}
use Rattle.std.specs.Simd.Lanes.{Each1}
use Rattle.x_des.specs.Bits.{bits_of}
use Rattle.des_slices.specs.declared.key.RoundKey.{RoundKey}
use Rattle.des_slices.specs.Keys.{keys_in}
use Rattle.des_slices.specs.Vectors.{AreVectors}
use Rattle.des_slices.proofs.key.SlicedKey.of_round_keys.Given as goal

abbrev pub invariant-loop-i : goal.invariant-loop-i
invariant-loop-i l = record {
  lanes : (n : ℕ) → n < 128 → keys_in n (take l.i l.rounds) ≡ take l.i (map (bits_of 48) l.round_keys);
  vectors : Each1 (λ (r : RoundKey). AreVectors r.bits) l.rounds;
  size : length l.rounds ≡ 16;
}
