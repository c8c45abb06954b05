use Rattle.change_code.specs.Reading.{edit_form, gen_form, ident_form, role_form}
use Rattle.change_code.proofs.Joining.{both, lacks_first, lacks_second}
use Rattle.change_code.proofs.EditForms.{begin, begin_tagged}
use Rattle.change_code.proofs.Names.{ident_apart}
use Rattle.change_code.proofs.RowForms.{role_apart}
use Rattle.change_code.proofs.Tags.{lacks_tagged}
use Rattle.change_code.proofs.reader.Reader.begin.Goals as goal

pub returns-in_err-own : goal.returns-in_err-own
returns-in_err-own c =
    rw c.from_residual.ensures
    (lacks_tagged edit_form 1 (both ident_form (both role_form gen_form)) begin _ begin_tagged
    (lacks_first ident_form (both role_form gen_form) _ c.in_err-own.ensures))

pub returns-in_err-role : goal.returns-in_err-role
returns-in_err-role c =
    rw c.from_residual-in_err-role.ensures
    (lacks_tagged edit_form 1 (both ident_form (both role_form gen_form)) begin _ begin_tagged
    (lacks_second ident_form (both role_form gen_form) _ _ _ ident_apart c.in_ok-own.ensures
    (lacks_first role_form gen_form _ c.in_err-role.ensures)))

pub returns-in_err-generator : goal.returns-in_err-generator
returns-in_err-generator c =
    rw c.from_residual-in_err-generator.ensures
    (lacks_tagged edit_form 1 (both ident_form (both role_form gen_form)) begin _ begin_tagged
    (lacks_second ident_form (both role_form gen_form) _ _ _ ident_apart c.in_ok-own.ensures
    (lacks_second role_form gen_form _ _ _ role_apart c.in_ok-role.ensures
    c.in_err-generator.ensures)))
