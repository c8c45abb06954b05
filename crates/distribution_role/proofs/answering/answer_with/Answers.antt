use Rattle.std.proofs.Common.{Some}
use Rattle.role_base.proofs.Decided.{accepts}
use Rattle.distribution_role.specs.Answering.{answer_edits, answer_reply}
use Rattle.distribution_role.proofs.answering.answer_with.Goals as goal

pub returns : goal.returns
returns c =
    let p = c.args.state.now in
    let asked = c.args.asked.now in
    let links = c.args.links.now in
    accepts c.accept.result p c.in_ok-edits.edits.items (answer_edits asked.requester asked.ultimate links.requester links.ultimate c.args.key c.args.v) (Some c.in_ok-written.written) (Some (answer_reply p asked.requester asked.ultimate links.requester links.ultimate c.args.key))
    c.accept.ensures c.in_ok-edits.ensures c.in_ok-written.ensures
