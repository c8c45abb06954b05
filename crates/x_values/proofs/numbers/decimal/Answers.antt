use Rattle.std.proofs.Common.{sym, ◌∙◌}
use Rattle.x_values.proofs.Decimals.{decimal_read, digits_utf8}
use Rattle.x_values.proofs.numbers.decimal.Goals as goal

pub returns-in_default : goal.returns-in_default
returns-in_default c = absurd (c.in_default.ensures.cases.0 (digits_utf8 c.args.digits.now (sym c.are_digits.ensures ∙ c.if-not-are_digits.false)))

pub returns : goal.returns
returns c = c.ok.ensures.value ∙ decimal_read c.args.digits.now c.parse.result (sym c.are_digits.ensures ∙ c.if-not-are_digits.false) (rw c.in-Ok.ensures.cases.0 at c.parse.ensures.value.0)
