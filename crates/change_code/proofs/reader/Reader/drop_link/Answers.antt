use Rattle.change_code.specs.Reading.{edit_form, ident_form, label_form, side_form}
use Rattle.change_code.proofs.Joining.{both, lacks_first, lacks_second}
use Rattle.change_code.proofs.EditForms.{drop_link, drop_link_tagged}
use Rattle.change_code.proofs.Names.{ident_apart, label_apart}
use Rattle.change_code.proofs.Tags.{lacks_tagged}
use Rattle.change_code.proofs.reader.Reader.drop_link.Goals as goal

pub returns-in_err-peer : goal.returns-in_err-peer
returns-in_err-peer c =
    rw c.from_residual.ensures
    (lacks_tagged edit_form 3 (both ident_form (both label_form side_form)) drop_link _ drop_link_tagged
    (lacks_first ident_form (both label_form side_form) _ c.in_err-peer.ensures))

pub returns-in_err-label : goal.returns-in_err-label
returns-in_err-label c =
    rw c.from_residual-in_err-label.ensures
    (lacks_tagged edit_form 3 (both ident_form (both label_form side_form)) drop_link _ drop_link_tagged
    (lacks_second ident_form (both label_form side_form) _ _ _ ident_apart c.in_ok-peer.ensures
    (lacks_first label_form side_form _ c.in_err-label.ensures)))

pub returns-in_err-side : goal.returns-in_err-side
returns-in_err-side c =
    rw c.from_residual-in_err-side.ensures
    (lacks_tagged edit_form 3 (both ident_form (both label_form side_form)) drop_link _ drop_link_tagged
    (lacks_second ident_form (both label_form side_form) _ _ _ ident_apart c.in_ok-peer.ensures
    (lacks_second label_form side_form _ _ _ label_apart c.in_ok-label.ensures
    c.in_err-side.ensures)))
