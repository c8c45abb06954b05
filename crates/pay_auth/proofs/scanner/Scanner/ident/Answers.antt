use Rattle.pay_auth.specs.declared.scanner.Run.TheVariants as run
use Rattle.pay_auth.specs.Scanning.{ident_form, run_form}
use Rattle.pay_auth.proofs.Stopping.{stops_by}
use Rattle.pay_auth.proofs.Named.{ident_recode, ident_read}
use Rattle.pay_auth.proofs.scanner.Scanner.ident.Goals as goal

pub returns-in_err-run : goal.returns-in_err-run
returns-in_err-run c = rw c.from_residual.ensures (stops_by (ident_form c.args.last) (run_form run.Ident c.args.last) _ _ (ident_recode c.args.last) c.in_err-run.ensures)

pub returns : goal.returns
returns c = rw c.ok.ensures.value (ident_read c.args.last _ _ c.in_ok-run.field-0.now c.read.result c.in_ok-run.ensures c.read.ensures.value c.read.ensures.found)
