use Rattle.std.proofs.Common.{arith}
use Rattle.pay_auth.proofs.Wholly.{no_front, no_code, more_behind, all_read}
use Rattle.pay_auth.proofs.reading.whole.Goals as goal

pub returns-in_err-pay : goal.returns-in_err-pay
returns-in_err-pay c = rw c.from_residual.ensures (no_front _ _ c.in_err-pay.ensures)

pub returns-in_err-mac : goal.returns-in_err-mac
returns-in_err-mac c = rw c.from_residual-in_err-mac.ensures (no_code _ _ _ _ c.in_ok-pay.ensures c.in_err-mac.ensures)

pub returns-then-len-gt0 : goal.returns-then-len-gt0
returns-then-len-gt0 c =
    more_behind c.args.scanner.now c.payment.new.self c.mac.new.self c.in_ok-pay.pay c.in_ok-mac.mac c.in_ok-pay.ensures c.in_ok-mac.ensures (omega (arith, c.if-len-gt0.true, c.len-2.ensures))

pub returns : goal.returns
returns c =
    all_read c.args.scanner.now c.payment.new.self c.mac.new.self c.in_ok-pay.pay c.in_ok-mac.mac c.in_ok-pay.ensures c.in_ok-mac.ensures _
    (λ some. omega (arith, some, c.if-len-gt0.false, c.len-2.ensures)) (omega (arith, c.len-all.ensures, c.len.ensures))
