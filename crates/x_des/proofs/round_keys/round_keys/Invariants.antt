use Rattle.std.proofs.Common.{◌≡◌, map, take, length}
use Rattle.x_des.specs.Bits.{bits_of}
use Rattle.x_des.specs.Des.{round_keys}
use Rattle.x_des.specs.RoundKey.{gathered}
use Rattle.x_des.proofs.round_keys.round_keys.Given as goal

-- the round keys so far
abbrev pub invariant-loop-i : goal.invariant-loop-i
invariant-loop-i l = record {
  so_far : map (λ word. gathered (bits_of 64 word)) (take l.i l.keys) ≡ take l.i (round_keys (bits_of 64 l.key));
  sixteen : length l.keys ≡ 16;
}
