use Rattle.change_code.specs.Reading.{kind_form, name_form, via_form}
use Rattle.change_code.proofs.Joining.{both, lacks_first, lacks_second}
use Rattle.change_code.proofs.ExchangeForms.{key_sent, key_sent_tagged}
use Rattle.change_code.proofs.Names.{name_apart}
use Rattle.change_code.proofs.Tags.{lacks_tagged}
use Rattle.change_code.proofs.reader.Reader.key_sent.Goals as goal

pub returns-in_err-name : goal.returns-in_err-name
returns-in_err-name c =
    rw c.from_residual.ensures
    (lacks_tagged kind_form 3 (both name_form via_form) key_sent _ key_sent_tagged
    (lacks_first name_form via_form _ c.in_err-name.ensures))

pub returns-in_err-via : goal.returns-in_err-via
returns-in_err-via c =
    rw c.from_residual-in_err-via.ensures
    (lacks_tagged kind_form 3 (both name_form via_form) key_sent _ key_sent_tagged
    (lacks_second name_form via_form _ _ _ name_apart c.in_ok-name.ensures
    c.in_err-via.ensures))
