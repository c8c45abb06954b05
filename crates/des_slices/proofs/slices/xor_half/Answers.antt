use Rattle.std.proofs.Common.{◌≡◌, ◌∷◌, [], ◌+◌, ◌-◌, ◌*◌, refl, ap, sym, ◌∙◌, add-one, arith}
use Rattle.des_slices.specs.Vectors.{lane, put_at, words_of}
use Rattle.des_slices.proofs.Blocks.{length-lane}
use Rattle.des_slices.proofs.Lanes.{vector_at}
use Rattle.des_slices.proofs.Rounds.{column_is, columns, columns_are}
use Rattle.des_slices.proofs.slices.xor_half.Goals as goal

pub loop-i-init : goal.loop-i-init
unfolding columns
loop-i-init c = record { lanes = λ n h. refl; vectors = c.requires.half; size = c.told-half }

pub put-requires-clause-vectors : goal.put-requires-clause-vectors
put-requires-clause-vectors c =
    let bits = c.args.bits.now in
    let first = 57 - c.args.side - 8 * c.loop-i.i in
    let vectors = c.requires.bits in
    (vector_at bits first _ (omega arith) vectors, (vector_at bits (first + 2) _ (omega arith) vectors, (vector_at bits (first + 4) _ (omega arith) vectors, (vector_at bits (first + 6) _ (omega arith) vectors, tt))))

pub loop-i-preserved : goal.loop-i-preserved
unfolding columns
loop-i-preserved c =
    let l = c.loop-i in
    let side = c.args.side in
    let i = l.i in
    record {
      lanes = λ n h.
          let bits = lane n (words_of c.args.bits.now) in
          let half = lane n (words_of c.args.half.now) in
          let places = i ∷ (8 + i) ∷ (16 + i) ∷ (24 + i) ∷ [] in
          c.put.ensures.lanes n h
          ∙ ap (λ bs. put_at places bs (lane n (words_of l.half))) (column_is n side i c.args.bits.now c.requires.side c.loop-i-test.true c.told-bits)
          ∙ ap (put_at places _) (l.invariant.lanes n h)
          ∙ ap (λ m. columns side m bits half) (sym (add-one i));
      vectors = c.put.ensures.vectors;
      size = omega arith;
    }

pub returns-clause-lanes : goal.returns-clause-lanes
returns-clause-lanes c n h =
    let l = c.loop-i in
    let bits = lane n (words_of c.args.bits.now) in
    let half = lane n (words_of c.args.half.now) in
    let all : l.i ≡ 8 = omega arith in
    l.invariant.lanes n h ∙ ap (λ m. columns c.args.side m bits half) all
    ∙ columns_are c.args.side half bits c.requires.side (length-lane n 32 c.args.half.now c.told-half) (length-lane n 64 c.args.bits.now c.told-bits)
