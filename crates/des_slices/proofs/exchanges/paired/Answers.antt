use Rattle.std.proofs.Common.{◌-◌, [], ◌∷◌, get_or, ◌∙◌, arith}
use Rattle.std.proofs.lemmas.List.{length-set}
use Rattle.des_slices.proofs.Exchanging.{paired_more}
use Rattle.des_slices.proofs.exchanges.paired.Goals as goal

pub loop-i-preserved : goal.loop-i-preserved
loop-i-preserved c =
    let l = c.loop-i in
    let numbers = c.args.numbers.now in
    record {
      words = paired_more numbers l.words l.i (omega arith) l.invariant.size l.invariant.words;
      size = length-set l.words l.i (get_or numbers (63 - l.i) 0 ∷ get_or numbers (127 - l.i) 0 ∷ []) ∙ l.invariant.size;
    }
