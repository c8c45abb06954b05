use Rattle.change_code.proofs.Joining.{both}
use Rattle.pay_auth.specs.Scanning.{literal_form, count_form, count_field}
use Rattle.pay_auth.proofs.Stopping.{stops_by, stops_first}
use Rattle.pay_auth.proofs.Fields.{one_is_count, count_field_recode, count_from, behind_tag}
use Rattle.pay_auth.proofs.scanner.Scanner.count_behind.Goals as goal

pub returns-in_err-literal : goal.returns-in_err-literal
returns-in_err-literal c =
    let tag = c.args.tag.now in
    rw c.from_residual.ensures
    (stops_by (count_field tag) (both (literal_form tag) (count_form 32)) _ _ (count_field_recode tag) (stops_first (literal_form tag) (count_form 32) _ _ 1 one_is_count c.in_err-literal.ensures))

pub returns : goal.returns
returns c = behind_tag (count_field c.args.tag.now) (count_form 32) c.args.tag.now _ _ _ c.in_ok-literal.field-0 c.count.result (count_field_recode c.args.tag.now) (count_from c.args.tag.now c.in_ok-literal.field-0) c.in_ok-literal.ensures c.count.ensures
