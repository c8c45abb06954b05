use Rattle.std.proofs.Common.{ℕ, List, ◌∷◌, refl, ap, sym, ◌∙◌}
use Rattle.change_code.specs.Code.{closed, number_of}
use Rattle.party_state.specs.declared.edit.Edit.TheVariants.{Begin}
use Rattle.change_code.proofs.FirstBodies.{not_opened, no_first}
use Rattle.change_code.proofs.first.begin_party.Goals as goal

pub returns-in_default-clause-no : goal.returns-in_default-clause-no
returns-in_default-clause-no c = λ is format party first. c.in_default.ensures.none refl format (Begin first.own first.role first.generator ∷ first.edits) first.code

pub returns-in_default-opened-clause-no : goal.returns-in_default-opened-clause-no
returns-in_default-opened-clause-no c = λ is format party first. not_opened c.in-Some.format format c.args.body.now party c.in-Some.ensures.is (c.in_default-opened.ensures.none refl) first

pub returns-in_default-2-clause-no : goal.returns-in_default-2-clause-no
returns-in_default-2-clause-no c = λ is format party first.
    no_first c.in-Some.format format c.args.body.now c.new.result party c.in-Some.ensures.is
    (c.in-Some-opened.ensures.text ∙ ap (λ (l : List ℕ). closed c.in-Some.format (number_of c.in-Some.format ∷ l)) (sym c.new.ensures))
    (rw c.in_default-2.is at c.in_ok-state.ensures) first
