use Rattle.std.proofs.Common.{◌≡◌, ◌≤◌, Some, length, refl, lit≤, ◌∙◌}
use Rattle.x_base.specs.Count.{IsCount}
use Rattle.party_tables.specs.Ranges.{longest_text}
use Rattle.role_base.specs.Texts.{text_of}
use Rattle.role_base.proofs.Decided.{accepts_with}
use Rattle.bank_orders.specs.StartKk.{kk_reply, kk_edits, fresh_link}
use Rattle.bank_orders.proofs.KkSent.{kk_same, kk_keepable}
use Rattle.bank_orders.proofs.start_kk.send_kk.Goals as goal

pub returns : goal.returns
returns c =
    let p = c.args.state.now in
    let l = c.args.link.now in
    let new = c.args.wanted.now.label in
    let single = c.args.wanted.now.single in
    let d = c.args.drawn.now in
    let e : c.in_ok-list_of.field-0.items ≡ kk_edits p l new single d =
    c.in_ok-list_of.ensures ∙ (c.kk_changes-changes.ensures.edits ∙ kk_same p l new single d c.next_name-name.result c.in_ok-copy.field-0 c.next_name-name.ensures (c.in_ok-copy.ensures ∙ c.in_ok-written.ensures.written.text)) in
    let short : length (text_of (kk_reply p l new single d)) ≤ longest_text = rw (← c.in_ok-written.ensures.written.text) c.in_ok-written.ensures.short in
    let count : IsCount l.next = c.kk_changes-changes.ensures.count in
    accepts_with c.accept.result p c.in_ok-list_of.field-0.items (kk_edits p l new single d) (Some c.in_ok-written.written) (Some (kk_reply p l new single d))
    c.accept.ensures e c.in_ok-written.ensures.written (kk_keepable p l (fresh_link l new d.pair) _ _ _ l.next c.requires.stands count refl refl c.requires.place c.requires.room (record { kind = tt; text = short })) (lit≤ tt)
