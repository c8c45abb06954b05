use Rattle.std.proofs.Common.{◌≡◌, ◌≤◌, Some, length, lit≤, ◌∙◌}
use Rattle.party_tables.specs.Ranges.{longest_text}
use Rattle.role_base.specs.Texts.{text_of}
use Rattle.bank_orders.specs.Ending.{end_reply, ended_edits}
use Rattle.role_base.proofs.Decided.{accepts_with}
use Rattle.bank_orders.proofs.OrdersKept.{ended_keepable, ended_same}
use Rattle.bank_orders.proofs.ending.end_key.Goals as goal

pub returns : goal.returns
returns c =
    let p = c.args.state.now in
    let k = c.args.key.now in
    let e : c.in_ok-list_of.field-0.items ≡ ended_edits p k =
    c.in_ok-list_of.ensures ∙ ended_same p k c.in_ok-copy.field-0 (c.in_ok-copy.ensures ∙ c.in_ok-written.ensures.written.text) in
    let short : length (text_of (end_reply p k)) ≤ longest_text = rw (← c.in_ok-written.ensures.written.text) c.in_ok-written.ensures.short in
    accepts_with c.accept.result p c.in_ok-list_of.field-0.items (ended_edits p k) (Some c.in_ok-written.written) (Some (end_reply p k)) c.accept.ensures e c.in_ok-written.ensures.written
    (ended_keepable p k _ c.requires (record { kind = tt; text = short })) (lit≤ tt)
