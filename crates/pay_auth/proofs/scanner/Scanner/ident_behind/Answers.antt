use Rattle.change_code.proofs.Joining.{both}
use Rattle.pay_auth.specs.Scanning.{literal_form, ident_form, ident_field}
use Rattle.pay_auth.proofs.Stopping.{stops_by, stops_first}
use Rattle.pay_auth.proofs.Fields.{some_name, some_is_ident, ident_field_recode, ident_from, behind_tag}
use Rattle.pay_auth.proofs.scanner.Scanner.ident_behind.Goals as goal

pub returns-in_err-literal : goal.returns-in_err-literal
returns-in_err-literal c =
    let tag = c.args.tag.now in
    rw c.from_residual.ensures
    (stops_by (ident_field tag) (both (literal_form tag) (ident_form 32)) _ _ (ident_field_recode tag) (stops_first (literal_form tag) (ident_form 32) _ _ some_name some_is_ident c.in_err-literal.ensures))

pub returns : goal.returns
returns c = behind_tag (ident_field c.args.tag.now) (ident_form 32) c.args.tag.now _ _ _ c.in_ok-literal.field-0 c.ident.result (ident_field_recode c.args.tag.now) (ident_from c.args.tag.now c.in_ok-literal.field-0) c.in_ok-literal.ensures c.ident.ensures
