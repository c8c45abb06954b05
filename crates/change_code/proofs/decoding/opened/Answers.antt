use Rattle.change_code.proofs.Closings.{not_empty}
use Rattle.change_code.proofs.decoding.opened.Goals as goal

pub returns-in_err-number-clause-none : goal.returns-in_err-number-clause-none
returns-in_err-number-clause-none c = λ none text code.
    not_empty c.args.format c.args.bytes.now c.in_ok-closed_text.field-0.now text c.in_ok-closed_text.ensures.text c.in_err-number.ensures.cases code
