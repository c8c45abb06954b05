use Rattle.std.proofs.Common.{◌≡◌, map, drop, reverse}
use Rattle.std.specs.Prelude.{fold}
use Rattle.x_des.specs.Bits.{bits_of}
use Rattle.x_des.specs.Block.{IsDoubled, half}
use Rattle.x_des.specs.Des.{round}
use Rattle.x_des.specs.RoundKey.{gathered}
use Rattle.x_des.proofs.Permuting.{halves}
use Rattle.x_des.proofs.schedule.Schedule.decrypt_block.Given as goal

-- the rounds to come lead where all the rounds lead
abbrev pub invariant-loop-i : goal.invariant-loop-i
invariant-loop-i l = record {
  ahead : fold round (halves (half l.left) (half l.right)) (map (λ word. gathered (bits_of 64 word)) (drop l.i (reverse l.self-inside.round_keys)))
      ≡ fold round (halves (half l.initial.left) (half l.initial.right)) (map (λ word. gathered (bits_of 64 word)) (reverse l.self-inside.round_keys));
  left_doubled : IsDoubled l.left;
  right_doubled : IsDoubled l.right;
}
