use Rattle.change_code.specs.Reading.{ident_form, label_form, count_form, name_form}
use Rattle.change_code.proofs.Joining.{both, lacks_first, lacks_second, lacks_as}
use Rattle.change_code.proofs.Names.{name_shape, ident_apart, label_apart}
use Rattle.change_code.proofs.reader.Reader.key_name.Goals as goal

pub returns-in_err-originator : goal.returns-in_err-originator
returns-in_err-originator c =
    rw c.from_residual-in_err-originator.ensures
    (lacks_as name_form (both ident_form (both ident_form (both label_form count_form))) _ name_shape
    (lacks_second ident_form (both ident_form (both label_form count_form)) _ _ _ ident_apart c.in_ok-issuer.ensures
    (lacks_first ident_form (both label_form count_form) _ c.in_err-originator.ensures)))

pub returns-in_err-label : goal.returns-in_err-label
returns-in_err-label c =
    rw c.from_residual-in_err-label.ensures
    (lacks_as name_form (both ident_form (both ident_form (both label_form count_form))) _ name_shape
    (lacks_second ident_form (both ident_form (both label_form count_form)) _ _ _ ident_apart c.in_ok-issuer.ensures
    (lacks_second ident_form (both label_form count_form) _ _ _ ident_apart c.in_ok-originator.ensures
    (lacks_first label_form count_form _ c.in_err-label.ensures))))

pub returns-in_err-count : goal.returns-in_err-count
returns-in_err-count c =
    rw c.from_residual-in_err-count.ensures
    (lacks_as name_form (both ident_form (both ident_form (both label_form count_form))) _ name_shape
    (lacks_second ident_form (both ident_form (both label_form count_form)) _ _ _ ident_apart c.in_ok-issuer.ensures
    (lacks_second ident_form (both label_form count_form) _ _ _ ident_apart c.in_ok-originator.ensures
    (lacks_second label_form count_form _ _ _ label_apart c.in_ok-label.ensures c.in_err-count.ensures))))
