use Rattle.std.proofs.Common.{[], get_or, arith}
use Rattle.des_slices.proofs.Exchanging.{length-set-set, level_more}
use Rattle.des_slices.proofs.exchanges.exchange_level.Goals as goal

pub loop-k-preserved : goal.loop-k-preserved
loop-k-preserved c =
    let l = c.loop-k in
    let pair = c.exchanged.result in
    record {
      bits = level_more c.args.distance c.args.mask l.k c.args.words.now l.after pair (omega arith) l.invariant.size c.exchanged.ensures l.invariant.bits;
      size = length-set-set l.after l.k (get_or pair 0 []) (get_or pair 1 []) l.invariant.size;
    }
