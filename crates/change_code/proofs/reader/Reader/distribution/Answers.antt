use Rattle.change_code.specs.Reading.{count_form, ident_form, via_form}
use Rattle.change_code.proofs.Joining.{both, lacks_first, lacks_second}
use Rattle.change_code.proofs.ExchangeForms.{distribution, distribution_tagged}
use Rattle.change_code.proofs.Names.{ident_apart}
use Rattle.change_code.proofs.Tags.{lacks_tagged}
use Rattle.change_code.proofs.reader.Reader.distribution.Goals as goal

pub returns-in_err-centre : goal.returns-in_err-centre
returns-in_err-centre c =
    rw c.from_residual.ensures
    (lacks_tagged via_form 2 (both ident_form count_form) distribution _ distribution_tagged
    (lacks_first ident_form count_form _ c.in_err-centre.ensures))

pub returns-in_err-cta : goal.returns-in_err-cta
returns-in_err-cta c =
    rw c.from_residual-in_err-cta.ensures
    (lacks_tagged via_form 2 (both ident_form count_form) distribution _ distribution_tagged
    (lacks_second ident_form count_form _ _ _ ident_apart c.in_ok-centre.ensures
    c.in_err-cta.ensures))
