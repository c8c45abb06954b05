use Rattle.std.proofs.Common.{◌∙◌, arith}
use Rattle.std.proofs.lemmas.List.{length-set}
use Rattle.des_slices.specs.declared.vector.Vector.{Vector}
use Rattle.des_slices.proofs.Filling.{filled, filled_more, vectors-set}
use Rattle.des_slices.proofs.vector.vectors_of.Goals as goal

pub loop-i-preserved : goal.loop-i-preserved
loop-i-preserved c =
    let l = c.loop-i in
    record {
      words = filled_more (λ (v : Vector). v.words) l.vectors c.args.words.now l.i c.vector_of.result _ (omega arith) (omega arith) l.invariant.words c.vector_of.ensures.words;
      vectors = vectors-set l.vectors l.i c.vector_of.result c.vector_of.ensures.vector l.invariant.vectors;
      size = length-set l.vectors l.i c.vector_of.result ∙ l.invariant.size;
    }

pub returns-clause-words : goal.returns-clause-words
returns-clause-words c = filled (λ (v : Vector). v.words) c.loop-i.vectors c.args.words.now c.loop-i.i (omega arith) (omega arith) c.loop-i.invariant.words
