use Rattle.std.proofs.Common.{◌<◌, get_or, take, refl, arith, ap, ◌∙◌}
use Rattle.std.proofs.lemmas.List.{length-set, take_all}
use Rattle.des_slices.specs.Vectors.{lane, put_at, words_of}
use Rattle.des_slices.proofs.Blocks.{length-lane}
use Rattle.des_slices.proofs.Rounds.{place_small, put_next, vectors_put}
use Rattle.des_slices.proofs.vector.put.Goals as goal

pub loop-i-init : goal.loop-i-init
unfolding put_at
loop-i-init c = record {
  lanes = λ n h. refl;
  vectors = c.requires.half;
  size = c.told-half;
}

pub loop-i-preserved : goal.loop-i-preserved
loop-i-preserved c =
    let l = c.loop-i in
    let places = c.args.places in
    let vectors = c.args.vectors in
    let place : get_or places l.i 0 < 32 = place_small places l.i c.requires.places (omega arith) in
    record {
      lanes = λ n h. put_next n places vectors l.half (lane n (words_of c.args.half.now)) l.i h (omega arith) (omega arith) (omega (arith, place)) l.invariant.vectors c.requires.vectors (l.invariant.lanes n h);
      vectors = vectors_put l.half vectors (get_or places l.i 0) l.i (omega (arith, place)) (omega arith) l.invariant.vectors c.requires.vectors;
      size = length-set l.half (get_or places l.i 0) _ ∙ l.invariant.size;
    }

pub returns-clause-lanes : goal.returns-clause-lanes
returns-clause-lanes c n h =
    let l = c.loop-i in
    let bits = lane n (words_of c.args.vectors) in
    let size = length-lane n 4 c.args.vectors (omega arith) in
    l.invariant.lanes n h
    ∙ ap (λ ps. put_at ps (take l.i bits) (lane n (words_of c.args.half.now))) (take_all l.i c.args.places (omega arith))
    ∙ ap (λ bs. put_at c.args.places bs (lane n (words_of c.args.half.now))) (take_all l.i bits (omega (arith, size)))
