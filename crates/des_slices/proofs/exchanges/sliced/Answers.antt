use Rattle.std.proofs.Common.{ap, ◌∙◌, arith}
use Rattle.des_slices.specs.Vectors.{lane}
use Rattle.des_slices.proofs.Exchanging.{lane_is, six_levels}
use Rattle.des_slices.proofs.exchanges.sliced.Goals as goal

pub returns-clause-lanes : goal.returns-clause-lanes
returns-clause-lanes c l h =
    let words = c.paired-words.result in
    let v1 = c.exchange_level.new.after in
    let v2 = c.exchange_level-2.new.after in
    let v3 = c.exchange_level-3.new.after in
    let v4 = c.exchange_level-4.new.after in
    let v5 = c.exchange_level-5.new.after in
    let v6 = c.exchange_level-6.new.after in
    ap (lane l) c.vectors_of.ensures.words
    ∙ lane_is c.args.numbers.now words v6 (omega arith) c.paired-words.ensures
    (six_levels words v1 v2 v3 v4 v5 v6 c.exchange_level.ensures c.exchange_level-2.ensures c.exchange_level-3.ensures c.exchange_level-4.ensures c.exchange_level-5.ensures c.exchange_level-6.ensures)
    l h
