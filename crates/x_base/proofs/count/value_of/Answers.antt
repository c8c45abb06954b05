use Rattle.std.proofs.Common.{sym, ◌∙◌}
use Rattle.x_base.proofs.Digits.{no_digits, digits_utf8, digits_parsed}
use Rattle.x_base.proofs.count.value_of.Goals as goal

pub returns-then-not-are_digits : goal.returns-then-not-are_digits
returns-then-not-are_digits c = λ h. no_digits c.args.digits.now (sym c.are_digits.ensures ∙ c.if-not-are_digits.true) h.1

pub returns-in_default : goal.returns-in_default
returns-in_default c = absurd (c.in_default.ensures.cases.0 (digits_utf8 c.args.digits.now (sym c.are_digits.ensures ∙ c.if-not-are_digits.false)))

pub returns : goal.returns
returns c = rw c.ok.ensures.value (digits_parsed c.args.digits.now c.parse.result c.requires (sym c.are_digits.ensures ∙ c.if-not-are_digits.false) (rw c.in-Ok.ensures.cases.0 at c.parse.ensures.value.0))
