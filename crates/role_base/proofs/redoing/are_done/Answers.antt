use Rattle.std.proofs.Common.{◌≡◌, true, false, refl, sym, arith}
use Rattle.role_base.proofs.Redone.{done_more, not_all_done, all_done}
use Rattle.role_base.proofs.redoing.are_done.Goals as goal

pub returns-then-not-is_done : goal.returns-then-not-is_done
returns-then-not-is_done c = (
  λ is. let never : false ≡ true = is in cc,
  λ done. absurd (not_all_done c.args.state.now c.args.change.now c.loop-i.i c.in-Some.edit.now (sym c.in-Some.ensures) (λ same. let never : false ≡ true = c.if-not-is_done.ensures.1 same in cc) done),
)

pub loop-i-preserved : goal.loop-i-preserved
loop-i-preserved c = done_more c.args.state.now c.args.change.now c.loop-i.i c.in-Some.edit.now (sym c.in-Some.ensures) c.loop-i.invariant (c.is_done.ensures.0 c.if-not-is_done.false)

pub returns : goal.returns
returns c = (λ is. all_done c.args.state.now c.args.change.now c.loop-i.i (omega arith) c.loop-i.invariant, λ done. refl)
