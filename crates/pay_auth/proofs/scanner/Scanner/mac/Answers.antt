use Rattle.std.proofs.Common.{codes, lit<}
use Rattle.change_code.proofs.Joining.{both}
use Rattle.pay_auth.specs.Scanning.{literal_form, code_form, mac_form}
use Rattle.pay_auth.proofs.Stopping.{stops_by, stops_first}
use Rattle.pay_auth.proofs.Fields.{mac_recode, mac_from, behind_tag}
use Rattle.pay_auth.proofs.scanner.Scanner.mac.Goals as goal

pub returns-in_err-literal : goal.returns-in_err-literal
returns-in_err-literal c =
    rw c.from_residual.ensures
    (stops_by mac_form (both (literal_form (codes "MAC/")) (code_form 41)) _ _ mac_recode (stops_first (literal_form (codes "MAC/")) (code_form 41) _ _ 0 (lit< tt) c.in_err-literal.ensures))

pub returns : goal.returns
returns c = behind_tag mac_form (code_form 41) (codes "MAC/") _ _ _ c.in_ok-literal.field-0 c.code.result mac_recode (mac_from c.in_ok-literal.field-0) c.in_ok-literal.ensures c.code.ensures
