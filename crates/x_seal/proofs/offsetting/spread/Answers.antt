use Rattle.std.proofs.Common.{arith, ap, ◌∙◌}
use Rattle.x_seal.specs.Offset.{spread_of}
use Rattle.x_seal.proofs.SpreadLemmas.{spread_is}
use Rattle.x_seal.proofs.offsetting.spread.Goals as goal

pub returns-clause-spread : goal.returns-clause-spread
returns-clause-spread c =
    c.from_be_bytes.ensures ∙ spread_is c.loop-i.bytes c.value-value.result (λ k h. c.loop-i.invariant.so_far k (omega arith))
    ∙ ap spread_of c.value-value.ensures.value
