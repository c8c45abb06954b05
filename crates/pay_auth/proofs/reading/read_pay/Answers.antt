use Rattle.std.proofs.Common.{◌∙◌, length, ap, subst, arith}
use Rattle.pay_auth.specs.Texts.{without_line_end}
use Rattle.pay_auth.specs.Scanning.{StopsPay}
use Rattle.pay_auth.proofs.Wholly.{no_pay}
use Rattle.pay_auth.proofs.reading.read_pay.Goals as goal

pub returns-in-None : goal.returns-in-None
returns-in-None c =
    let left = c.without_line_end-bytes.ensures in
    no_pay (without_line_end c.args.bytes.now) c.whole.new.scanner _ (subst (λ l. StopsPay l c.whole.new.scanner) (c.new-scanner.ensures ∙ left) c.in-None.ensures)
    (omega (arith, ap length left, c.len.ensures))
