use Rattle.std.proofs.Common.{◌≡◌, ◌-◌, ◌/◌, ◌^◌, false, eqb, get_or, ap, sym, ◌∙◌, arith}
use Rattle.std.specs.Prelude.{bit_and}
use Rattle.std.proofs.lemmas.Nat.Bits.{shr_and_one}
use Rattle.std.proofs.lemmas.Simd.{map-map}
use Rattle.std.proofs.lemmas.List.{length-set}
use Rattle.x_des.specs.Bits.{bit, bits_of}
use Rattle.x_des.proofs.BitsLemmas.{get_or-bits, length-bits}
use Rattle.des_slices.specs.declared.vector.Vector.{Vector}
use Rattle.des_slices.specs.Vectors.{lane, lane_bit}
use Rattle.des_slices.proofs.Filling.{filled, filled_more, vectors-set}
use Rattle.des_slices.proofs.key.round_key_in_lanes.Goals as goal

pub loop-i-preserved : goal.loop-i-preserved
loop-i-preserved c =
    let l = c.loop-i in
    let word = c.args.word in
    let size = length-bits 48 word in
    let place : 48 - 1 - l.i ≡ 47 - l.i = omega arith in
    let at : eqb (bit_and (word / 2 ^ (47 - l.i)) 1) 1 ≡ get_or (bits_of 48 word) l.i false
    = ap (λ n. eqb n 1) (shr_and_one word (47 - l.i)) ∙ sym (get_or-bits 48 word l.i false (omega arith) ∙ ap (bit word) place) in
    record {
      lanes = λ n h. filled_more (λ (v : Vector). lane_bit n v.words) l.bits (bits_of 48 word) l.i c.bit_in_lanes.result false (omega arith) (omega (arith, size)) (l.invariant.lanes n h) (c.bit_in_lanes.ensures.lanes n h ∙ at);
      vectors = vectors-set l.bits l.i c.bit_in_lanes.result c.bit_in_lanes.ensures.vector l.invariant.vectors;
      size = length-set l.bits l.i c.bit_in_lanes.result ∙ l.invariant.size;
    }

pub returns-clause-lanes : goal.returns-clause-lanes
unfolding lane
returns-clause-lanes c n h =
    let l = c.loop-i in
    let size = length-bits 48 c.args.word in
    map-map (lane_bit n) (λ (v : Vector). v.words) l.bits
    ∙ filled (λ (v : Vector). lane_bit n v.words) l.bits (bits_of 48 c.args.word) l.i (omega arith) (omega (arith, size)) (l.invariant.lanes n h)
