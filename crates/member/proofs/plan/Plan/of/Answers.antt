use Rattle.std.proofs.Common.{sym, ◌∙◌, ap}
use Rattle.member.proofs.Plans.{edits_are, fitting_plan}
use Rattle.member.proofs.plan.Plan.of.Goals as goal

pub returns-then-fits : goal.returns-then-fits
returns-then-fits c =
    let d = c.in_ok-change.field-0 in
    let change = edits_are c.into_change.result d.change c.new.result c.unwrap_or-change.result c.into_change.ensures.some c.into_change.ensures.none c.new.ensures c.unwrap_or-change.ensures in
    fitting_plan (record { party = c.args.state.now; space = c.args.space }) c.args.input.now c.args.moment c.lead-lead.result c.lead-lead.ensures d c.in_ok-change.ensures
    c.in_ok-framed.framed (ap (λ f. f.format) c.in_ok-framed.ensures) (ap (λ f. f.edits) c.in_ok-framed.ensures ∙ change) (sym c.fits.ensures ∙ c.if-fits.true)
