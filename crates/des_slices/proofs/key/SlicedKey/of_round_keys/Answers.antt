use Rattle.std.proofs.Common.{[], map, sym, ◌∙◌, arith}
use Rattle.std.proofs.lemmas.List.{get_or-map, length-map, length-set}
use Rattle.x_des.specs.Bits.{bits_of}
use Rattle.des_slices.specs.declared.key.RoundKey.{RoundKey}
use Rattle.des_slices.specs.Vectors.{AreVectors, lane, words_of}
use Rattle.des_slices.proofs.Filling.{Each1-set, filled, filled_more}
use Rattle.des_slices.proofs.key.SlicedKey.of_round_keys.Goals as goal

pub loop-i-preserved : goal.loop-i-preserved
loop-i-preserved c =
    let l = c.loop-i in
    let words = c.args.round_keys.now in
    let size = length-map words (bits_of 48) in
    record {
      lanes = λ n h. filled_more (λ (r : RoundKey). lane n (words_of r.bits)) l.rounds (map (bits_of 48) words) l.i c.round_key_in_lanes.result [] (omega arith) (omega (arith, size)) (l.invariant.lanes n h)
          (c.round_key_in_lanes.ensures.lanes n h ∙ sym (get_or-map (bits_of 48) words l.i 0 [] (omega arith)));
      vectors = Each1-set (λ (r : RoundKey). AreVectors r.bits) l.rounds l.i c.round_key_in_lanes.result c.round_key_in_lanes.ensures.vectors l.invariant.vectors;
      size = length-set l.rounds l.i c.round_key_in_lanes.result ∙ l.invariant.size;
    }

pub invariant_of-result : goal.invariant_of-result
invariant_of-result c =
    let l = c.loop-i in
    let words = c.args.round_keys.now in
    let size = length-map words (bits_of 48) in
    record {
      lanes = λ n h. filled (λ (r : RoundKey). lane n (words_of r.bits)) l.rounds (map (bits_of 48) words) l.i (omega arith) (omega (arith, size)) (l.invariant.lanes n h) ∙ c.requires;
      vectors = l.invariant.vectors;
    }
