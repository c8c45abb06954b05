use Rattle.std.proofs.Common.{ℕ, List, ◌∷◌, refl, ap, sym, ◌∙◌}
use Rattle.std.proofs.lemmas.Result.{IfOk-weaker}
use Rattle.change_code.specs.Code.{closed, number_of, change_text}
use Rattle.change_code.proofs.Steps.{is_step, is_no_step}
use Rattle.change_code.proofs.following.follow_as.Goals as goal

pub returns-in-Some-clause-yes : goal.returns-in-Some-clause-yes
returns-in-Some-clause-yes c =
    IfOk-weaker c.follow_change.result _ _
    (is_step c.args.format c.args.bytes.now c.new.result c.args.state.now c.follow_change.new.state
    (c.in-Some.ensures.text ∙ ap (λ (l : List ℕ). closed c.args.format (number_of c.args.format ∷ l)) (sym c.new.ensures)))
    c.follow_change.ensures

pub returns-in-Some-clause-no : goal.returns-in-Some-clause-no
returns-in-Some-clause-no c =
    IfOk-weaker c.follow_change.result _ _
    (is_no_step c.args.format c.args.bytes.now c.new.result c.args.state.now c.follow_change.new.state
    (c.in-Some.ensures.text ∙ ap (λ (l : List ℕ). closed c.args.format (number_of c.args.format ∷ l)) (sym c.new.ensures)))
    c.follow_change.ensures

pub returns-in-None-clause-no : goal.returns-in-None-clause-no
returns-in-None-clause-no c = λ is p step. c.in-None.ensures.none refl (change_text step.edits) step.code.is
