use Rattle.pay_auth.specs.declared.scanner.Run.TheVariants as run
use Rattle.pay_auth.specs.Scanning.{code_form, run_form}
use Rattle.pay_auth.proofs.Stopping.{stops_by}
use Rattle.pay_auth.proofs.Hexed.{code_recode, code_read, code_decoded}
use Rattle.pay_auth.proofs.scanner.Scanner.code.Goals as goal

pub returns-in_err-run : goal.returns-in_err-run
returns-in_err-run c = rw c.from_residual.ensures (stops_by (code_form c.args.last) (run_form run.Code c.args.last) _ _ (code_recode c.args.last) c.in_err-run.ensures)

pub returns-in-Ok : goal.returns-in-Ok
returns-in-Ok c = code_read c.args.last _ _ c.in_ok-run.field-0.now c.in-Ok.bytes c.from_be_bytes.result c.in_ok-run.ensures c.in-Ok.ensures c.from_be_bytes.ensures

pub returns-in-Err : goal.returns-in-Err
returns-in-Err c = absurd (code_decoded c.args.last _ _ c.in_ok-run.field-0.now c.in-Err.field-0 c.in_ok-run.ensures c.in-Err.ensures)
