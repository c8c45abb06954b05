use Rattle.std.proofs.Common.{◌≡◌, Some, sym, ◌∙◌}
use Rattle.distribution_role.proofs.Answered.{drawn_none, drawn_sent, drawn_refused}
use Rattle.distribution_role.proofs.answering.answer_drawn.Goals as goal

pub returns-in-None : goal.returns-in-None
returns-in-None c =
    c.refusal.ensures ∙ drawn_none c.args.state.now c.args.asked.now.requester c.args.asked.now.ultimate c.args.tests.now c.args.links.now.requester c.args.links.now.ultimate c.args.drawn c.verdict_behind-verdict.result c.in-None.is c.verdict_behind-verdict.ensures

pub returns-then-is_accept : goal.returns-then-is_accept
returns-then-is_accept c =
    let i : c.args.drawn ≡ Some (c.in-Some.key, c.in-Some.after) = first_of (search (c.in-Some.is), cc (c.in-Some.is, c.in-Some.key-is, c.in-Some.after-is), grind (c.in-Some.is, c.in-Some.key-is, c.in-Some.after-is)) in
    drawn_sent c.answer_with.result c.args.state.now c.args.asked.now.requester c.args.asked.now.ultimate c.args.tests.now c.args.links.now.requester c.args.links.now.ultimate c.args.drawn c.in-Some.key c.in-Some.after c.verdict_behind-verdict.result
    i c.answer_with.ensures c.verdict_behind-verdict.ensures (sym c.is_accept.ensures ∙ c.if-is_accept.true)

pub returns-else-is_accept : goal.returns-else-is_accept
returns-else-is_accept c =
    c.refusal-else-is_accept.ensures ∙ drawn_refused c.args.state.now c.args.asked.now.requester c.args.asked.now.ultimate c.args.tests.now c.args.links.now.requester c.args.links.now.ultimate c.args.drawn c.verdict_behind-verdict.result
    c.verdict_behind-verdict.ensures (sym c.is_accept.ensures ∙ c.if-is_accept.false)
