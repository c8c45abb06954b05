use Rattle.std.proofs.Common.{IfOk, Some, None, sym, subst}
use Rattle.course.specs.declared.progress.EventOutcome.TheVariants as outcome
use Rattle.audit_check.specs.Events.{PlaysAt}
use Rattle.audit_check.specs.States.{Acts, ActsWrongly}
use Rattle.audit_check.proofs.Happened.{acts_given, acts_unheard, acts_nothing, acts_nobody, acts_unheard_nobody, wrong_given, wrong_unheard}
use Rattle.audit_check.proofs.Results.{if_ok}
use Rattle.audit_check.proofs.acting.perform.Goals as goal

pub returns-in-Nothing-clause-acted : goal.returns-in-Nothing-clause-acted
returns-in-Nothing-clause-acted c = subst (λ a. Acts a c.args.state.now c.args.state.now outcome.Nothing) (sym c.in-Nothing.is) (acts_nothing c.args.state.now)

pub returns-in-Some-clause-acted : goal.returns-in-Some-clause-acted
returns-in-Some-clause-acted c =
    let old = c.args.state.now in
    let new = c.input_at.new.state in
    subst (λ a. IfOk c.input_at.result (λ o. Acts a old new o)) (sym c.in-Give.is)
    (if_ok c.input_at.result (λ o. PlaysAt old new c.in-Some.place (Some c.in-Give.input) 0 o) _ (λ o plays. acts_given old new o c.in-Give.party c.in-Some.place c.in-Give.input c.in-Some.ensures.placed plays) c.input_at.ensures.played)

pub returns-in-Some-clause-wrong : goal.returns-in-Some-clause-wrong
returns-in-Some-clause-wrong c = λ f is.
    subst (λ a. ActsWrongly a c.args.state.now f) (sym c.in-Give.is) (wrong_given c.args.state.now c.in-Give.party c.in-Some.place c.in-Give.input f c.in-Some.ensures.placed (c.input_at.ensures.wrong f is))

pub returns-in-None-clause-acted : goal.returns-in-None-clause-acted
returns-in-None-clause-acted c = subst (λ a. Acts a c.args.state.now c.args.state.now outcome.Nothing) (sym c.in-Give.is) (acts_nobody c.args.state.now c.in-Give.party c.in-Give.input c.in-None.ensures.none)

pub returns-in-Some-place_of-clause-acted : goal.returns-in-Some-place_of-clause-acted
returns-in-Some-place_of-clause-acted c =
    let old = c.args.state.now in
    let new = c.unheard_at.new.state in
    subst (λ a. IfOk c.unheard_at.result (λ o. Acts a old new o)) (sym c.in-Refuse.is)
    (if_ok c.unheard_at.result (λ o. PlaysAt old new c.in-Some-place_of.place None c.in-Refuse.number o) _ (λ o plays. acts_unheard old new o c.in-Refuse.party c.in-Some-place_of.place c.in-Refuse.number c.in-Some-place_of.ensures.placed plays) c.unheard_at.ensures.played)

pub returns-in-Some-place_of-clause-wrong : goal.returns-in-Some-place_of-clause-wrong
returns-in-Some-place_of-clause-wrong c = λ f is.
    subst (λ a. ActsWrongly a c.args.state.now f) (sym c.in-Refuse.is) (wrong_unheard c.args.state.now c.in-Refuse.party c.in-Some-place_of.place c.in-Refuse.number f c.in-Some-place_of.ensures.placed (c.unheard_at.ensures.wrong f is))

pub returns-in-None-place_of-clause-acted : goal.returns-in-None-place_of-clause-acted
returns-in-None-place_of-clause-acted c = subst (λ a. Acts a c.args.state.now c.args.state.now outcome.Nothing) (sym c.in-Refuse.is) (acts_unheard_nobody c.args.state.now c.in-Refuse.party c.in-Refuse.number c.in-None-place_of.ensures.none)
