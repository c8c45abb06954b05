use Rattle.std.proofs.Common.{◌≡◌, ◌&&◌, false, length, map, ap, sym, ◌∙◌, arith}
use Rattle.std.proofs.lemmas.Simd.{map-map}
use Rattle.std.proofs.lemmas.List.{get_or-map, length-map, length-set}
use Rattle.des_slices.specs.declared.vector.Vector.{Vector}
use Rattle.des_slices.specs.Vectors.{lane, lane_bit, words_of}
use Rattle.des_slices.proofs.Blocks.{bit_in, length-lane}
use Rattle.des_slices.proofs.Filling.{filled, filled_more, vectors-set}
use Rattle.des_slices.proofs.Lanes.{vector_at}
use Rattle.des_slices.proofs.mask.masked.Goals as goal

pub masked_vector-requires-clause-vector : goal.masked_vector-requires-clause-vector
masked_vector-requires-clause-vector c = vector_at c.args.half.now c.loop-i.i _ (omega arith) c.requires.half

pub loop-i-preserved : goal.loop-i-preserved
loop-i-preserved c =
    let l = c.loop-i in
    let half = c.args.half.now in
    record {
      lanes = λ n h.
          let keep = lane_bit n c.args.mask.words in
          let bits = lane n (words_of half) in
          let wide : length bits ≡ 32 = length-lane n 32 half (omega arith) in
          let size = length-map bits (λ b. b && keep) in
          filled_more (λ (v : Vector). lane_bit n v.words) l.result (map (λ b. b && keep) bits) l.i c.masked_vector.result false (omega arith) (omega (arith, size, wide)) (l.invariant.lanes n h)
          (c.masked_vector.ensures.lanes n h ∙ ap (λ b. b && keep) (bit_in n half l.i _ (omega arith)) ∙ sym (get_or-map (λ b. b && keep) bits l.i false false (omega (arith, wide))));
      vectors = vectors-set l.result l.i c.masked_vector.result c.masked_vector.ensures.vector l.invariant.vectors;
      size = length-set l.result l.i c.masked_vector.result ∙ l.invariant.size;
    }

pub returns-clause-lanes : goal.returns-clause-lanes
unfolding lane
returns-clause-lanes c n h =
    let l = c.loop-i in
    let half = c.args.half.now in
    let keep = lane_bit n c.args.mask.words in
    let wide : length (lane n (words_of half)) ≡ 32 = length-lane n 32 half (omega arith) in
    let size = length-map (lane n (words_of half)) (λ b. b && keep) in
    map-map (lane_bit n) (λ (v : Vector). v.words) l.result
    ∙ filled (λ (v : Vector). lane_bit n v.words) l.result (map (λ b. b && keep) (lane n (words_of half))) l.i (omega arith) (omega (arith, size, wide)) (l.invariant.lanes n h)
