use Rattle.std.proofs.Common.{◌≡◌, ◌≤◌, Some, length, refl, lit≤, ◌∙◌}
use Rattle.party_tables.specs.Ranges.{longest_text}
use Rattle.x_base.specs.Count.{IsCount}
use Rattle.role_base.specs.Texts.{text_of}
use Rattle.role_base.specs.Sending.{data_key_reply, sent_edits}
use Rattle.role_base.proofs.Decided.{accepts_with}
use Rattle.role_base.proofs.Keeping.{sent_keepable}
use Rattle.role_base.proofs.Spent.{sent_same}
use Rattle.role_base.proofs.sending.send_key.Goals as goal

pub returns : goal.returns
returns c =
    let p = c.args.state.now in
    let l = c.args.link.now in
    let e : c.in_ok-list_of.field-0.items ≡ sent_edits p l c.args.key c.args.after.now.v =
    c.in_ok-list_of.ensures ∙ sent_same p l c.link_after_use.result c.args.key c.args.after.now.v c.pending.result c.next_name-name.result c.in_ok-copy.field-0 c.link_after_use.ensures.used c.pending.ensures c.next_name-name.ensures (c.in_ok-copy.ensures ∙ c.in_ok-written.ensures.written.text) in
    let short : length (text_of (data_key_reply p l c.args.key)) ≤ longest_text = rw (← c.in_ok-written.ensures.written.text) c.in_ok-written.ensures.short in
    let count : IsCount l.next = c.link_after_use.ensures.count in
    accepts_with c.accept.result p c.in_ok-list_of.field-0.items (sent_edits p l c.args.key c.args.after.now.v) (Some c.in_ok-written.written) (Some (data_key_reply p l c.args.key))
    c.accept.ensures e c.in_ok-written.ensures.written (sent_keepable p l _ _ _ l.next c.requires.stands count refl c.requires.room (record { kind = tt; text = short })) (lit≤ tt)
