use Rattle.std.proofs.Common.{◌≡◌, arith, subst, sym, ◌∙◌, ap}
use Rattle.x_mac.specs.Code.{edc_of}
use Rattle.change_code.specs.declared.format.Format.{Format}
use Rattle.change_code.specs.Code.{closed}
use Rattle.change_code.proofs.Closings.{ends_in, not_closed, too_short}
use Rattle.change_code.proofs.decoding.closed_text.Goals as goal

pub returns-in_err-text-in-Two-clause-none : goal.returns-in_err-text-in-Two-clause-none
returns-in_err-text-in-Two-clause-none c = λ none other closes.
    too_short c.args.bytes.now c.in_err-text-in-Two.ensures.cases other (subst (λ (f : Format). c.args.bytes.now ≡ closed f other) c.in-Two.is closes)

pub returns-else-edc-code_of-clause-none : goal.returns-else-edc-code_of-clause-none
returns-else-edc-code_of-clause-none c = λ none other closes.
    let parts = c.in_ok-text-in-Two.ensures.cases in
    not_closed c.args.bytes.now c.in_ok-text-in-Two.text.now c.args.edc c.code_of.result (omega arith) (omega arith) (c.requires c.in-Two.is ∙ ap edc_of (sym parts.0))
    (ends_in c.args.bytes.now c.in_ok-text-in-Two.text.now c.in_ok-text-in-Two.end.now c.code_of.result parts.0 parts.1 c.code_of.ensures)
    (λ same. omega (arith, same, c.if-edc-code_of.false)) other (subst (λ (f : Format). c.args.bytes.now ≡ closed f other) c.in-Two.is closes)
