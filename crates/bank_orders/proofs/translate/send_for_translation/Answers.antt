use Rattle.std.proofs.Common.{◌≡◌, ◌≤◌, Some, length, refl, lit≤, ◌∙◌}
use Rattle.x_base.specs.Count.{IsCount}
use Rattle.party_tables.specs.Ranges.{longest_text}
use Rattle.role_base.specs.Texts.{text_of}
use Rattle.role_base.proofs.Decided.{accepts_with}
use Rattle.bank_orders.specs.Translate.{translate_reply, translate_edits}
use Rattle.bank_orders.proofs.CentresAsked.{translate_same, translated_keepable}
use Rattle.bank_orders.proofs.translate.send_for_translation.Goals as goal

pub returns : goal.returns
returns c =
    let p = c.args.state.now in
    let centre = c.args.centre.now in
    let u = c.args.ultimate.now in
    let l = c.args.link.now in
    let d = c.args.drawn.now in
    let e : c.in_ok-list_of.field-0.items ≡ translate_edits p centre u l d.0 d.1.v =
    c.in_ok-list_of.ensures ∙ (c.translate_changes-changes.ensures.edits ∙ translate_same p centre u l c.args.count d.0 d.1.v c.in_ok-copy.field-0 c.requires.at_next (c.in_ok-copy.ensures ∙ c.in_ok-written.ensures.written.text)) in
    let short : length (text_of (translate_reply p centre u l d.0)) ≤ longest_text = rw (← c.in_ok-written.ensures.written.text) c.in_ok-written.ensures.short in
    let count : IsCount l.next = c.translate_changes-changes.ensures.count in
    accepts_with c.accept.result p c.in_ok-list_of.field-0.items (translate_edits p centre u l d.0 d.1.v) (Some c.in_ok-written.written) (Some (translate_reply p centre u l d.0))
    c.accept.ensures e c.in_ok-written.ensures.written (translated_keepable p l _ _ l.next c.requires.stands count refl (record { kind = tt; text = short })) (lit≤ tt)
