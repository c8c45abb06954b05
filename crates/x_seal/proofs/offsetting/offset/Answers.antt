use Rattle.std.proofs.Common.{arith, subst, ◌<◌, ◌^◌}
use Rattle.std.specs.Prelude.{bit_xor}
use Rattle.x_des.specs.Des.{SameButParity}
use Rattle.x_seal.specs.Offset.{spread_of}
use Rattle.x_seal.proofs.SpreadLemmas.{counts_apart}
use Rattle.x_seal.proofs.offsetting.offset.Goals as goal

pub returns-clause-left_apart : goal.returns-clause-left_apart
returns-clause-left_apart c = λ d h e.
    let small : c.args.count < 2 ^ 56 = (let top = c.spread-spread.ensures.count.high in omega arith) in
    counts_apart c.args.kk.left c.args.count d small h
    (subst (λ s. SameButParity (bit_xor c.args.kk.left s) (bit_xor c.args.kk.left (spread_of d))) c.spread-spread.ensures.spread e)

pub returns-clause-right_apart : goal.returns-clause-right_apart
returns-clause-right_apart c = λ d h e.
    let small : c.args.count < 2 ^ 56 = (let top = c.spread-spread.ensures.count.high in omega arith) in
    counts_apart c.args.kk.right c.args.count d small h
    (subst (λ s. SameButParity (bit_xor c.args.kk.right s) (bit_xor c.args.kk.right (spread_of d))) c.spread-spread.ensures.spread e)
