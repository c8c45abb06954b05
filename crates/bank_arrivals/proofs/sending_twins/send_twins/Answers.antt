use Rattle.std.proofs.Common.{◌≡◌, ◌≤◌, Some, length, lit≤, ◌∙◌}
use Rattle.party_tables.specs.Ranges.{longest_text}
use Rattle.role_base.specs.Texts.{text_of}
use Rattle.role_base.proofs.Decided.{accepts_with}
use Rattle.bank_arrivals.specs.SendingTwins.{twins_reply, twins_edits}
use Rattle.bank_arrivals.proofs.TwinsSent.{twins_same, twins_keepable}
use Rattle.bank_arrivals.proofs.sending_twins.send_twins.Goals as goal

pub returns : goal.returns
returns c =
    let p = c.args.state.now in
    let l = c.args.link.now in
    let d = c.args.drawn.now in
    let e : c.in_ok-list_of.field-0.items ≡ twins_edits p l d =
    c.in_ok-list_of.ensures ∙ twins_same p l c.used_twice.result d c.next_name-name.result c.second_name-second.result c.pending.result c.pending-2.result c.in_ok-copy.field-0 c.used_twice.ensures.used c.pending.ensures c.pending-2.ensures c.next_name-name.ensures c.second_name-second.ensures (c.in_ok-copy.ensures ∙ c.in_ok-written.ensures.written.text) in
    let short : length (text_of (twins_reply p l d)) ≤ longest_text = rw (← c.in_ok-written.ensures.written.text) c.in_ok-written.ensures.short in
    accepts_with c.accept.result p c.in_ok-list_of.field-0.items (twins_edits p l d) (Some c.in_ok-written.written) (Some (twins_reply p l d))
    c.accept.ensures e c.in_ok-written.ensures.written (twins_keepable p l _ _ _ _ c.requires.stands (rw (← c.requires.at_next) c.requires.behind) c.requires.room (record { kind = rw (← c.requires.at_next) c.requires.behind; text = short })) (lit≤ tt)
