use Rattle.std.proofs.Common.{◌≡◌, Err, Some, None, get_or, set, sym, ◌∙◌, ap}
use Rattle.std.proofs.lemmas.Result.{err_from_is_err_and}
use Rattle.audit_check.specs.declared.failure.Failure.TheVariants as failure
use Rattle.audit_check.proofs.Carrying.{plays_at, held_then, wrong_held}
use Rattle.audit_check.proofs.Results.{one_err}
use Rattle.audit_check.proofs.HeldMembers.{read_at}
use Rattle.audit_check.proofs.acting.input_at.Goals as goal

pub unreachable-requires : goal.unreachable-requires
unreachable-requires c =
    let t = read_at c.args.state.now.parties c.requires.holds_each.0 c.args.place c.index_mut.result.now c.requires.holds_each.1 c.requires.within c.index_mut.ensures.value in
    let lie : None ≡ Some t.0 = sym c.in_default.is ∙ (c.take.ensures.value ∙ t.1) in
    cc lie

pub returns-in_err-held-clause-wrong : goal.returns-in_err-held-clause-wrong
returns-in_err-held-clause-wrong c = λ f is.
    let e = err_from_is_err_and c.from_residual.result c.from_residual.ensures.1 in
    let one = sym e.2 ∙ one_err c.from_residual.result e.0 (failure.Wrong f) e.1 is in
    let held_at = sym c.take.ensures.value ∙ c.in-Some.is in
    wrong_held c.args.state.now c.args.place c.in-Some.held c.args.input.now f (sym held_at ∙ (c.index_mut.ensures.value ∙ ap (get_or c.args.state.now.parties.members_held.items c.args.place) held_at)) (c.in_err-held.ensures.wrong f (ap Err one))

pub returns-clause-played : goal.returns-clause-played
returns-clause-played c =
    let held_at = sym c.take.ensures.value ∙ c.in-Some.is in
    let acted = c.in_ok-held.ensures.acted in
    plays_at c.law_inputs.ensures c.args.state.now c.input_held.new.state _ _ c.args.place c.in-Some.held c.in_ok-held.held c.args.input.now c.in_ok-held.outcome
    (sym held_at ∙ (c.index_mut.ensures.value ∙ ap (get_or c.args.state.now.parties.members_held.items c.args.place) held_at)) acted (ap (λ p. p.names.keys) acted.parties) (ap (λ p. set p.members_held.items c.args.place (Some c.in_ok-held.held)) acted.parties) (ap (set c.args.state.now.parties.members_held.items c.args.place) c.take.ensures.after)

pub returns-clause-holds_each : goal.returns-clause-holds_each
returns-clause-holds_each c =
    let held_at = sym c.take.ensures.value ∙ c.in-Some.is in
    let acted = c.in_ok-held.ensures.acted in
    held_then c.law_inputs.ensures c.args.state.now c.input_held.new.state _ _ c.args.place c.in-Some.held c.in_ok-held.held c.args.input.now c.in_ok-held.outcome
    (sym held_at ∙ (c.index_mut.ensures.value ∙ ap (get_or c.args.state.now.parties.members_held.items c.args.place) held_at)) acted (ap (λ p. p.names.keys) acted.parties) (ap (λ p. set p.members_held.items c.args.place (Some c.in_ok-held.held)) acted.parties) (ap (set c.args.state.now.parties.members_held.items c.args.place) c.take.ensures.after)
    c.requires.within c.requires.holds_each
