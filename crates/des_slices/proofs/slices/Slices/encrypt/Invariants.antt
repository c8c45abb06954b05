use Rattle.std.proofs.Common.{◌≡◌, ◌<◌, ◌*◌, ℕ, drop}
use Rattle.std.specs.Prelude.{fold}
use Rattle.x_des.specs.Des.{round}
use Rattle.x_des.proofs.Permuting.{halves}
use Rattle.des_slices.specs.Keys.{keys_in}
use Rattle.des_slices.specs.Vectors.{AreVectors, lane, words_of}
use Rattle.des_slices.proofs.slices.Slices.encrypt.Given as goal

-- in each lane the rounds to come lead where all the rounds lead
abbrev pub invariant-loop-i : goal.invariant-loop-i
invariant-loop-i l = record {
  lanes : (n : ℕ) → n < 128 → fold round (halves (lane n (words_of l.left)) (lane n (words_of l.right))) (drop (2 * l.i) (keys_in n l.key-inside.rounds))
      ≡ fold round (halves (lane n (words_of l.self-inside.left)) (lane n (words_of l.self-inside.right))) (keys_in n l.key-inside.rounds);
  left : AreVectors l.left;
  right : AreVectors l.right;
}
