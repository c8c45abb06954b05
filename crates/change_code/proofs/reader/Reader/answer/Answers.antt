use Rattle.change_code.specs.Reading.{answer_form, count_form, ident_form, word_form}
use Rattle.change_code.proofs.Joining.{both, lacks_first, lacks_second, lacks_as}
use Rattle.change_code.proofs.Names.{ident_apart}
use Rattle.change_code.proofs.Numbers.{count_apart}
use Rattle.change_code.proofs.RowForms.{answer_shape}
use Rattle.change_code.proofs.reader.Reader.answer.Goals as goal

pub returns-in_err-ultimate : goal.returns-in_err-ultimate
returns-in_err-ultimate c =
    rw c.from_residual-in_err-ultimate.ensures
    (lacks_as answer_form (both ident_form (both ident_form (both count_form word_form))) _ answer_shape
    (lacks_second ident_form (both ident_form (both count_form word_form)) _ _ _ ident_apart c.in_ok-requester.ensures
    (lacks_first ident_form (both count_form word_form) _ c.in_err-ultimate.ensures)))

pub returns-in_err-cta : goal.returns-in_err-cta
returns-in_err-cta c =
    rw c.from_residual-in_err-cta.ensures
    (lacks_as answer_form (both ident_form (both ident_form (both count_form word_form))) _ answer_shape
    (lacks_second ident_form (both ident_form (both count_form word_form)) _ _ _ ident_apart c.in_ok-requester.ensures
    (lacks_second ident_form (both count_form word_form) _ _ _ ident_apart c.in_ok-ultimate.ensures
    (lacks_first count_form word_form _ c.in_err-cta.ensures))))

pub returns-in_err-value : goal.returns-in_err-value
returns-in_err-value c =
    rw c.from_residual-in_err-value.ensures
    (lacks_as answer_form (both ident_form (both ident_form (both count_form word_form))) _ answer_shape
    (lacks_second ident_form (both ident_form (both count_form word_form)) _ _ _ ident_apart c.in_ok-requester.ensures
    (lacks_second ident_form (both count_form word_form) _ _ _ ident_apart c.in_ok-ultimate.ensures
    (lacks_second count_form word_form _ _ _ count_apart c.in_ok-cta.ensures
    c.in_err-value.ensures))))
