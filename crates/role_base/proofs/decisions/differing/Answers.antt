use Rattle.std.proofs.Common.{◌≡◌, ◌∙◌, sym, subst}
use Rattle.role_base.specs.Differing.{differing}
use Rattle.role_base.proofs.Filtering.{differing_same}
use Rattle.role_base.proofs.decisions.differing.Goals as goal

pub returns-then-all_differ : goal.returns-then-all_differ
returns-then-all_differ c = c.of.ensures ∙ subst (λ es. es ≡ differing c.args.state.now es) c.as_slice.ensures.value (sym (c.all_differ.ensures c.if-all_differ.true))

pub loop-edit-preserved : goal.loop-edit-preserved
loop-edit-preserved c = c.loop-edit.invariant ∙ sym (differing_same c.args.state.now c.loop-edit.yielded c.in-Some.edit (sym c.differs.ensures ∙ c.if-differs.false))
