use Rattle.std.proofs.Common.{◌≡◌, ◌≤◌, Some, length, lit≤, ◌∙◌}
use Rattle.party_tables.specs.Ranges.{longest_text}
use Rattle.party_state.specs.Rows.{Plain}
use Rattle.role_base.specs.Texts.{text_of}
use Rattle.role_base.proofs.Decided.{accepts_with}
use Rattle.bank_orders.specs.Ask.{centre_request, asked_edits}
use Rattle.bank_orders.proofs.CentresAsked.{asked_keepable, asked_same}
use Rattle.bank_orders.proofs.ask.centre_asked.Goals as goal

pub returns : goal.returns
returns c =
    let p = c.args.state.now in
    let centre = c.args.centre.now in
    let u = c.args.ultimate.now in
    let e : c.in_ok-edits.edits.items ≡ asked_edits p centre u = c.in_ok-edits.ensures ∙ asked_same p centre u c.in_ok-copy.field-0 c.asked-exchange.result c.asked-exchange.ensures (c.in_ok-copy.ensures ∙ c.in_ok-written.ensures.written.text) in
    let short : length (text_of (Plain (centre_request p centre u))) ≤ longest_text = rw (← c.in_ok-written.ensures.written.text) c.in_ok-written.ensures.short in
    accepts_with c.accept.result p c.in_ok-edits.edits.items (asked_edits p centre u) (Some c.in_ok-written.written) (Some (Plain (centre_request p centre u))) c.accept.ensures e c.in_ok-written.ensures.written
    (asked_keepable p _ (record { kind = tt; text = short })) (lit≤ tt)
