use Rattle.change_code.specs.Reading.{ident_form, key_form, name_form, status_form, word_form}
use Rattle.change_code.proofs.Joining.{both, lacks_first, lacks_second, lacks_as}
use Rattle.change_code.proofs.Names.{ident_apart, name_apart}
use Rattle.change_code.proofs.Numbers.{word_apart}
use Rattle.change_code.proofs.RowForms.{key_shape}
use Rattle.change_code.proofs.reader.Reader.key.Goals as goal

pub returns-in_err-name : goal.returns-in_err-name
returns-in_err-name c =
    rw c.from_residual-in_err-name.ensures
    (lacks_as key_form (both ident_form (both name_form (both word_form status_form))) _ key_shape
    (lacks_second ident_form (both name_form (both word_form status_form)) _ _ _ ident_apart c.in_ok-peer.ensures
    (lacks_first name_form (both word_form status_form) _ c.in_err-name.ensures)))

pub returns-in_err-value : goal.returns-in_err-value
returns-in_err-value c =
    rw c.from_residual-in_err-value.ensures
    (lacks_as key_form (both ident_form (both name_form (both word_form status_form))) _ key_shape
    (lacks_second ident_form (both name_form (both word_form status_form)) _ _ _ ident_apart c.in_ok-peer.ensures
    (lacks_second name_form (both word_form status_form) _ _ _ name_apart c.in_ok-name.ensures
    (lacks_first word_form status_form _ c.in_err-value.ensures))))

pub returns-in_err-status : goal.returns-in_err-status
returns-in_err-status c =
    rw c.from_residual-in_err-status.ensures
    (lacks_as key_form (both ident_form (both name_form (both word_form status_form))) _ key_shape
    (lacks_second ident_form (both name_form (both word_form status_form)) _ _ _ ident_apart c.in_ok-peer.ensures
    (lacks_second name_form (both word_form status_form) _ _ _ name_apart c.in_ok-name.ensures
    (lacks_second word_form status_form _ _ _ word_apart c.in_ok-value.ensures
    c.in_err-status.ensures))))
