use Rattle.std.proofs.Common.{codes}
use Rattle.pay_auth.specs.Scanning.{literal_form, ident_field, count_field, name_form, pay_form}
use Rattle.pay_auth.proofs.Stopping.{stops_by, stops_first, stops_second, literal_apart}
use Rattle.pay_auth.proofs.Fields.{some_name, some_key, one_is_count, pay2_fits, pay3_fits, pay4_fits, pay5_fits, ident_field_apart, count_field_apart, name_apart, pay_recode, pay_starts, Pay1, Pay2, Pay3, Pay4, Pay5}
use Rattle.pay_auth.proofs.scanner.Scanner.payment.Goals as goal

pub returns-in_err-from : goal.returns-in_err-from
returns-in_err-from c =
    rw c.from_residual.ensures
    (stops_by pay_form Pay1 _ _ pay_recode
    (stops_first (ident_field (codes "PAY(FROM/")) Pay2 _ _ (some_name, (tt, (some_key, (1, 1)))) pay2_fits c.in_err-from.ensures))

pub returns-in_err-to : goal.returns-in_err-to
returns-in_err-to c =
    rw c.from_residual-in_err-to.ensures
    (stops_by pay_form Pay1 _ _ pay_recode
    (stops_second (ident_field (codes "PAY(FROM/")) Pay2 _ _ _ _ (ident_field_apart (codes "PAY(FROM/")) c.in_ok-from.ensures
    (stops_first (ident_field (codes "TO/")) Pay3 _ _ (tt, (some_key, (1, 1))) pay3_fits c.in_err-to.ensures)))

pub returns-in_err-literal : goal.returns-in_err-literal
returns-in_err-literal c =
    rw c.from_residual-in_err-literal.ensures
    (stops_by pay_form Pay1 _ _ pay_recode
    (stops_second (ident_field (codes "PAY(FROM/")) Pay2 _ _ _ _ (ident_field_apart (codes "PAY(FROM/")) c.in_ok-from.ensures
    (stops_second (ident_field (codes "TO/")) Pay3 _ _ _ _ (ident_field_apart (codes "TO/")) c.in_ok-to.ensures
    (stops_first (literal_form (codes "KEY/")) Pay4 _ _ (some_key, (1, 1)) pay4_fits c.in_err-literal.ensures))))

pub returns-in_err-key : goal.returns-in_err-key
returns-in_err-key c =
    rw c.from_residual-in_err-key.ensures
    (stops_by pay_form Pay1 _ _ pay_recode
    (stops_second (ident_field (codes "PAY(FROM/")) Pay2 _ _ _ _ (ident_field_apart (codes "PAY(FROM/")) c.in_ok-from.ensures
    (stops_second (ident_field (codes "TO/")) Pay3 _ _ _ _ (ident_field_apart (codes "TO/")) c.in_ok-to.ensures
    (stops_second (literal_form (codes "KEY/")) Pay4 _ _ _ _ (literal_apart (codes "KEY/")) c.in_ok-literal.ensures
    (stops_first name_form Pay5 _ _ (1, 1) pay5_fits c.in_err-key.ensures)))))

pub returns-in_err-number : goal.returns-in_err-number
returns-in_err-number c =
    rw c.from_residual-in_err-number.ensures
    (stops_by pay_form Pay1 _ _ pay_recode
    (stops_second (ident_field (codes "PAY(FROM/")) Pay2 _ _ _ _ (ident_field_apart (codes "PAY(FROM/")) c.in_ok-from.ensures
    (stops_second (ident_field (codes "TO/")) Pay3 _ _ _ _ (ident_field_apart (codes "TO/")) c.in_ok-to.ensures
    (stops_second (literal_form (codes "KEY/")) Pay4 _ _ _ _ (literal_apart (codes "KEY/")) c.in_ok-literal.ensures
    (stops_second name_form Pay5 _ _ _ _ name_apart c.in_ok-key.ensures
    (stops_first (count_field (codes "NUM/")) (count_field (codes "AMT/")) _ _ 1 one_is_count c.in_err-number.ensures))))))

pub returns-in_err-amount : goal.returns-in_err-amount
returns-in_err-amount c =
    rw c.from_residual-in_err-amount.ensures
    (stops_by pay_form Pay1 _ _ pay_recode
    (stops_second (ident_field (codes "PAY(FROM/")) Pay2 _ _ _ _ (ident_field_apart (codes "PAY(FROM/")) c.in_ok-from.ensures
    (stops_second (ident_field (codes "TO/")) Pay3 _ _ _ _ (ident_field_apart (codes "TO/")) c.in_ok-to.ensures
    (stops_second (literal_form (codes "KEY/")) Pay4 _ _ _ _ (literal_apart (codes "KEY/")) c.in_ok-literal.ensures
    (stops_second name_form Pay5 _ _ _ _ name_apart c.in_ok-key.ensures
    (stops_second (count_field (codes "NUM/")) (count_field (codes "AMT/")) _ _ _ _ (count_field_apart (codes "NUM/")) c.in_ok-number.ensures
    c.in_err-amount.ensures))))))

pub returns : goal.returns
returns c =
    pay_starts _ _ _ _ _ _ _ c.in_ok-from.from c.in_ok-to.to c.in_ok-literal.field-0 c.in_ok-key.key c.in_ok-number.number c.in_ok-amount.amount
    c.in_ok-from.ensures c.in_ok-to.ensures c.in_ok-literal.ensures c.in_ok-key.ensures c.in_ok-number.ensures c.in_ok-amount.ensures
