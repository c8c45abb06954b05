use Rattle.std.proofs.Common.{◌≡◌, ◌≤◌, Some, List, length, ◌++◌, ◌∙◌, ap}
use Rattle.party_state.specs.declared.edit.Edit.{Edit}
use Rattle.party_tables.specs.Ranges.{longest_text}
use Rattle.role_base.specs.Texts.{text_of}
use Rattle.role_base.proofs.Decided.{accepts_with}
use Rattle.bank_keys.specs.Rtr.{passed_reply, used_edits, passed_on}
use Rattle.bank_keys.proofs.CentreAnswers.{passed_keepable, passed_few}
use Rattle.bank_keys.proofs.passing.pass_on.Goals as goal

pub returns : goal.returns
returns c =
    let p = c.args.state.now in
    let m = c.args.message.now in
    let e : c.in_ok-edits.edits.items ≡ used_edits c.args.used ++ passed_on p m c.args.value c.args.via =
    c.in_ok-edits.ensures ∙ (ap (λ (xs : List Edit). xs ++ c.in_ok-passed_on.field-0.items) c.in_ok-links.ensures ∙ ap (λ (xs : List Edit). used_edits c.args.used ++ xs) c.in_ok-passed_on.ensures) in
    let short : length (text_of (passed_reply p m c.args.value)) ≤ longest_text = rw (← c.in_ok-written.ensures.written.text) c.in_ok-written.ensures.short in
    accepts_with c.accept.result p c.in_ok-edits.edits.items _ (Some c.in_ok-written.written) (Some (passed_reply p m c.args.value))
    c.accept.ensures e c.in_ok-written.ensures.written (passed_keepable p m c.args.used c.args.value c.args.via c.requires.used c.requires.room short) (passed_few p m c.args.used c.args.value c.args.via)
