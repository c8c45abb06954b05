use Rattle.std.proofs.Common.{◌<◌, ◌^◌, ℕ, sym, subst, arith}
use Rattle.csm_spool.proofs.Numbers.{unheard_small}
use Rattle.csm_spool.proofs.planning.short_refusal.Goals as goal

pub overflow_cast-result : goal.overflow_cast-result
overflow_cast-result c =
    let small : c.number.result < 2 ^ 16 = subst (λ (n : ℕ). n < 2 ^ 16) (sym c.number.ensures) (unheard_small c.args.unheard) in
    omega arith
