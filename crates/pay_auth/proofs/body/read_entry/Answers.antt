use Rattle.change_code.specs.Reading.{ident_form, name_form, side_form, count_form}
use Rattle.change_code.proofs.Joining.{both, lacks_first, lacks_second, lacks_as}
use Rattle.change_code.proofs.Names.{ident_apart, name_apart}
use Rattle.change_code.proofs.RowForms.{side_apart}
use Rattle.pay_auth.specs.Forms.{entry_form}
use Rattle.pay_auth.specs.EntryLaws.{entry_shape}
use Rattle.pay_auth.proofs.body.read_entry.Goals as goal

pub returns-in_err-name : goal.returns-in_err-name
returns-in_err-name c =
    rw c.from_residual-in_err-name.ensures
    (lacks_as entry_form (both ident_form (both name_form (both side_form count_form))) _ entry_shape
    (lacks_second ident_form (both name_form (both side_form count_form)) _ _ _ ident_apart c.in_ok-peer.ensures
    (lacks_first name_form (both side_form count_form) _ c.in_err-name.ensures)))

pub returns-in_err-side : goal.returns-in_err-side
returns-in_err-side c =
    rw c.from_residual-in_err-side.ensures
    (lacks_as entry_form (both ident_form (both name_form (both side_form count_form))) _ entry_shape
    (lacks_second ident_form (both name_form (both side_form count_form)) _ _ _ ident_apart c.in_ok-peer.ensures
    (lacks_second name_form (both side_form count_form) _ _ _ name_apart c.in_ok-name.ensures
    (lacks_first side_form count_form _ c.in_err-side.ensures))))

pub returns-in_err-last : goal.returns-in_err-last
returns-in_err-last c =
    rw c.from_residual-in_err-last.ensures
    (lacks_as entry_form (both ident_form (both name_form (both side_form count_form))) _ entry_shape
    (lacks_second ident_form (both name_form (both side_form count_form)) _ _ _ ident_apart c.in_ok-peer.ensures
    (lacks_second name_form (both side_form count_form) _ _ _ name_apart c.in_ok-name.ensures
    (lacks_second side_form count_form _ _ _ side_apart c.in_ok-side.ensures c.in_err-last.ensures))))
