use Rattle.std.proofs.Common.{◌<◌, ◌^◌, ℕ, sym, subst, arith}
use Rattle.csm_spool.proofs.Numbers.{verdict_small, listed_as}
use Rattle.csm_spool.proofs.planning.short_number.Goals as goal

pub overflow_cast-result : goal.overflow_cast-result
overflow_cast-result c =
    let small : c.number.result < 2 ^ 16 = subst (λ (n : ℕ). n < 2 ^ 16) (sym c.number.ensures) (verdict_small c.args.verdict.now) in
    omega arith

pub returns-clause-listed : goal.returns-clause-listed
returns-clause-listed c = listed_as c.args.verdict.now c.number.result c.number.ensures
