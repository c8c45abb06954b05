use Rattle.std.proofs.Common.{sym, ◌∙◌}
use Rattle.course.proofs.Judging.{honest_by, forged_by}
use Rattle.course.proofs.forging.is_honest.Goals as goal

pub returns-clause-honest : goal.returns-clause-honest
returns-clause-honest c = λ known p facts_are lead_is is. honest_by c.law_runs.ensures.test c.args.facts.now known facts_are p c.args.input.now c.args.lead.now lead_is (sym c.is_honest_input.ensures ∙ is)

pub returns-clause-forged : goal.returns-clause-forged
returns-clause-forged c = λ known p facts_are lead_is is. forged_by c.law_runs.ensures.test c.args.facts.now known facts_are p c.args.input.now c.args.lead.now lead_is (sym c.is_honest_input.ensures ∙ is)
