use Rattle.std.proofs.Common.{◌∙◌, arith}
use Rattle.std.proofs.lemmas.List.{length-set}
use Rattle.des_slices.specs.Vectors.{IsVector, lane, lane_bit, words_of}
use Rattle.des_slices.proofs.Filling.{Each1-set, filled, filled_more}
use Rattle.des_slices.proofs.Rounds.{length-six, six, six_at, vector_six}
use Rattle.des_slices.proofs.round.six_bits.Goals as goal

pub loop-i-preserved : goal.loop-i-preserved
loop-i-preserved c =
    let l = c.loop-i in
    record {
      lanes = λ n h.
          let half = lane n (words_of c.args.half.now) in
          let key = lane n (words_of c.args.key.now) in
          filled_more (lane_bit n) l.bits (six c.args.turn half key) l.i _ _ (omega arith) (omega (arith, length-six c.args.turn half key c.requires.turn)) (l.invariant.lanes n h)
          (six_at n c.args.turn l.i c.args.half.now c.args.key.now h c.requires.turn c.loop-i-test.true c.told-half c.told-key c.requires.half c.requires.key);
      vectors = Each1-set IsVector l.bits l.i _ (vector_six c.args.turn l.i c.args.half.now c.args.key.now c.requires.turn c.loop-i-test.true c.told-half c.told-key c.requires.half c.requires.key) l.invariant.vectors;
      size = length-set l.bits l.i _ ∙ l.invariant.size;
    }

pub returns-clause-lanes : goal.returns-clause-lanes
unfolding lane six
returns-clause-lanes c n h =
    let l = c.loop-i in
    let half = lane n (words_of c.args.half.now) in
    let key = lane n (words_of c.args.key.now) in
    filled (lane_bit n) l.bits (six c.args.turn half key) l.i (omega arith) (omega (arith, length-six c.args.turn half key c.requires.turn)) (l.invariant.lanes n h)
