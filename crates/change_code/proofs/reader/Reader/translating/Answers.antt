use Rattle.change_code.specs.Reading.{count_form, ident_form, kind_form, word_form}
use Rattle.change_code.proofs.Joining.{both, lacks_first, lacks_second}
use Rattle.change_code.proofs.ExchangeForms.{translating, translating_tagged}
use Rattle.change_code.proofs.Names.{ident_apart}
use Rattle.change_code.proofs.Numbers.{word_apart}
use Rattle.change_code.proofs.Tags.{lacks_tagged}
use Rattle.change_code.proofs.reader.Reader.translating.Goals as goal

pub returns-in_err-ultimate : goal.returns-in_err-ultimate
returns-in_err-ultimate c =
    rw c.from_residual.ensures
    (lacks_tagged kind_form 2 (both ident_form (both word_form count_form)) translating _ translating_tagged
    (lacks_first ident_form (both word_form count_form) _ c.in_err-ultimate.ensures))

pub returns-in_err-value : goal.returns-in_err-value
returns-in_err-value c =
    rw c.from_residual-in_err-value.ensures
    (lacks_tagged kind_form 2 (both ident_form (both word_form count_form)) translating _ translating_tagged
    (lacks_second ident_form (both word_form count_form) _ _ _ ident_apart c.in_ok-ultimate.ensures
    (lacks_first word_form count_form _ c.in_err-value.ensures)))

pub returns-in_err-cta : goal.returns-in_err-cta
returns-in_err-cta c =
    rw c.from_residual-in_err-cta.ensures
    (lacks_tagged kind_form 2 (both ident_form (both word_form count_form)) translating _ translating_tagged
    (lacks_second ident_form (both word_form count_form) _ _ _ ident_apart c.in_ok-ultimate.ensures
    (lacks_second word_form count_form _ _ _ word_apart c.in_ok-value.ensures
    c.in_err-cta.ensures)))
