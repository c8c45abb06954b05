use Rattle.change_code.specs.Reading.{label_form, maybe_form, via_form}
use Rattle.change_code.proofs.Joining.{both, lacks_first, lacks_second}
use Rattle.change_code.proofs.ExchangeForms.{direct, direct_tagged}
use Rattle.change_code.proofs.Names.{label_apart}
use Rattle.change_code.proofs.Tags.{lacks_tagged}
use Rattle.change_code.proofs.reader.Reader.direct.Goals as goal

pub returns-in_err-label : goal.returns-in_err-label
returns-in_err-label c =
    rw c.from_residual.ensures
    (lacks_tagged via_form 1 (both label_form maybe_form) direct _ direct_tagged
    (lacks_first label_form maybe_form _ c.in_err-label.ensures))

pub returns-in_err-new : goal.returns-in_err-new
returns-in_err-new c =
    rw c.from_residual-in_err-new.ensures
    (lacks_tagged via_form 1 (both label_form maybe_form) direct _ direct_tagged
    (lacks_second label_form maybe_form _ _ _ label_apart c.in_ok-label.ensures
    c.in_err-new.ensures))
