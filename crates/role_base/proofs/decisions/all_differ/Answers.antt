use Rattle.std.proofs.Common.{arith, ◌≡◌, ◌∙◌, ◌+◌, ◌++◌, ◌∷◌, [], take, ap, sym, subst}
use Rattle.std.proofs.lemmas.List.{take_all, take_more}
use Rattle.role_base.specs.Differing.{differing}
use Rattle.role_base.proofs.Filtering.{differing_more}
use Rattle.role_base.proofs.decisions.all_differ.Goals as goal

pub loop-edit-preserved : goal.loop-edit-preserved
loop-edit-preserved c =
    let e = c.edit-item.result in
    let i = c.loop-edit.edit-index in
    let es = c.args.edits.now in
    let more : take (i + 1) es ≡ take i es ++ e ∷ [] = take_more es i e c.loop-edit-test.true ∙ ap (λ x. take i es ++ x ∷ []) (sym c.edit-item.is) in
    ap (differing c.args.state.now) more ∙ (differing_more c.args.state.now (take i es) e (sym c.differs.ensures ∙ c.if-not-differs.false) ∙ (ap (λ fs. fs ++ e ∷ []) c.loop-edit.invariant ∙ sym more))

pub returns : goal.returns
returns c = λ is. subst (λ es. differing c.args.state.now es ≡ es) (take_all c.loop-edit.edit-index c.args.edits.now (omega arith)) c.loop-edit.invariant
