use Rattle.pay_auth.specs.declared.scanner.Run.TheVariants as run
use Rattle.pay_auth.specs.Scanning.{label_form, run_form}
use Rattle.pay_auth.proofs.Stopping.{stops_by}
use Rattle.pay_auth.proofs.Named.{label_recode, label_read}
use Rattle.pay_auth.proofs.scanner.Scanner.label.Goals as goal

pub returns-in_err-run : goal.returns-in_err-run
returns-in_err-run c = rw c.from_residual.ensures (stops_by (label_form c.args.last) (run_form run.Label c.args.last) _ _ (label_recode c.args.last) c.in_err-run.ensures)

pub returns : goal.returns
returns c = rw c.ok.ensures.value (label_read c.args.last _ _ c.in_ok-run.field-0.now c.read.result c.in_ok-run.ensures c.read.ensures.value c.read.ensures.found)
