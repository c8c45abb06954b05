use Rattle.pay_auth.specs.Scanning.{ident_form, label_form, count_form, name_form}
use Rattle.pay_auth.proofs.Stopping.{stops_by, stops_first, stops_second}
use Rattle.pay_auth.proofs.Fields.{some_name, name2_fits, name3_fits, one_is_count, ident_apart, label_apart, period_ends_ident, period_ends_label, name_recode, Name1, Name2, Name3}
use Rattle.pay_auth.proofs.scanner.Scanner.name.Goals as goal

pub returns-in_err-issuer : goal.returns-in_err-issuer
returns-in_err-issuer c =
    rw c.from_residual.ensures
    (stops_by name_form Name1 _ _ name_recode
    (stops_first (ident_form 46) Name2 _ _ (some_name, (some_name, 1)) name2_fits c.in_err-issuer.ensures))

pub returns-in_err-originator : goal.returns-in_err-originator
returns-in_err-originator c =
    rw c.from_residual-in_err-originator.ensures
    (stops_by name_form Name1 _ _ name_recode
    (stops_second (ident_form 46) Name2 _ _ _ _ (ident_apart 46 period_ends_ident) c.in_ok-issuer.ensures
    (stops_first (ident_form 46) Name3 _ _ (some_name, 1) name3_fits c.in_err-originator.ensures)))

pub returns-in_err-label : goal.returns-in_err-label
returns-in_err-label c =
    rw c.from_residual-in_err-label.ensures
    (stops_by name_form Name1 _ _ name_recode
    (stops_second (ident_form 46) Name2 _ _ _ _ (ident_apart 46 period_ends_ident) c.in_ok-issuer.ensures
    (stops_second (ident_form 46) Name3 _ _ _ _ (ident_apart 46 period_ends_ident) c.in_ok-originator.ensures
    (stops_first (label_form 46) (count_form 32) _ _ 1 one_is_count c.in_err-label.ensures))))

pub returns-in_err-count : goal.returns-in_err-count
returns-in_err-count c =
    rw c.from_residual-in_err-count.ensures
    (stops_by name_form Name1 _ _ name_recode
    (stops_second (ident_form 46) Name2 _ _ _ _ (ident_apart 46 period_ends_ident) c.in_ok-issuer.ensures
    (stops_second (ident_form 46) Name3 _ _ _ _ (ident_apart 46 period_ends_ident) c.in_ok-originator.ensures
    (stops_second (label_form 46) (count_form 32) _ _ _ _ (label_apart 46 period_ends_label) c.in_ok-label.ensures c.in_err-count.ensures))))
