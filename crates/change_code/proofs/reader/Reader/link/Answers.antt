use Rattle.change_code.specs.Reading.{flag_form, ident_form, label_form, link_form, next_form, pair_form, side_form}
use Rattle.change_code.proofs.Joining.{both, lacks_first, lacks_second, lacks_as}
use Rattle.change_code.proofs.Names.{ident_apart, label_apart, pair_apart}
use Rattle.change_code.proofs.Numbers.{next_apart}
use Rattle.change_code.proofs.RowForms.{link_shape, side_apart}
use Rattle.change_code.proofs.reader.Reader.link.Goals as goal

pub returns-in_err-label : goal.returns-in_err-label
returns-in_err-label c =
    rw c.from_residual-in_err-label.ensures
    (lacks_as link_form (both ident_form (both label_form (both side_form (both pair_form (both next_form flag_form))))) _ link_shape
    (lacks_second ident_form (both label_form (both side_form (both pair_form (both next_form flag_form)))) _ _ _ ident_apart c.in_ok-peer.ensures
    (lacks_first label_form (both side_form (both pair_form (both next_form flag_form))) _ c.in_err-label.ensures)))

pub returns-in_err-side : goal.returns-in_err-side
returns-in_err-side c =
    rw c.from_residual-in_err-side.ensures
    (lacks_as link_form (both ident_form (both label_form (both side_form (both pair_form (both next_form flag_form))))) _ link_shape
    (lacks_second ident_form (both label_form (both side_form (both pair_form (both next_form flag_form)))) _ _ _ ident_apart c.in_ok-peer.ensures
    (lacks_second label_form (both side_form (both pair_form (both next_form flag_form))) _ _ _ label_apart c.in_ok-label.ensures
    (lacks_first side_form (both pair_form (both next_form flag_form)) _ c.in_err-side.ensures))))

pub returns-in_err-pair : goal.returns-in_err-pair
returns-in_err-pair c =
    rw c.from_residual-in_err-pair.ensures
    (lacks_as link_form (both ident_form (both label_form (both side_form (both pair_form (both next_form flag_form))))) _ link_shape
    (lacks_second ident_form (both label_form (both side_form (both pair_form (both next_form flag_form)))) _ _ _ ident_apart c.in_ok-peer.ensures
    (lacks_second label_form (both side_form (both pair_form (both next_form flag_form))) _ _ _ label_apart c.in_ok-label.ensures
    (lacks_second side_form (both pair_form (both next_form flag_form)) _ _ _ side_apart c.in_ok-side.ensures
    (lacks_first pair_form (both next_form flag_form) _ c.in_err-pair.ensures)))))

pub returns-in_err-next : goal.returns-in_err-next
returns-in_err-next c =
    rw c.from_residual-in_err-next.ensures
    (lacks_as link_form (both ident_form (both label_form (both side_form (both pair_form (both next_form flag_form))))) _ link_shape
    (lacks_second ident_form (both label_form (both side_form (both pair_form (both next_form flag_form)))) _ _ _ ident_apart c.in_ok-peer.ensures
    (lacks_second label_form (both side_form (both pair_form (both next_form flag_form))) _ _ _ label_apart c.in_ok-label.ensures
    (lacks_second side_form (both pair_form (both next_form flag_form)) _ _ _ side_apart c.in_ok-side.ensures
    (lacks_second pair_form (both next_form flag_form) _ _ _ pair_apart c.in_ok-pair.ensures
    (lacks_first next_form flag_form _ c.in_err-next.ensures))))))

pub returns-in_err-ready : goal.returns-in_err-ready
returns-in_err-ready c =
    rw c.from_residual-in_err-ready.ensures
    (lacks_as link_form (both ident_form (both label_form (both side_form (both pair_form (both next_form flag_form))))) _ link_shape
    (lacks_second ident_form (both label_form (both side_form (both pair_form (both next_form flag_form)))) _ _ _ ident_apart c.in_ok-peer.ensures
    (lacks_second label_form (both side_form (both pair_form (both next_form flag_form))) _ _ _ label_apart c.in_ok-label.ensures
    (lacks_second side_form (both pair_form (both next_form flag_form)) _ _ _ side_apart c.in_ok-side.ensures
    (lacks_second pair_form (both next_form flag_form) _ _ _ pair_apart c.in_ok-pair.ensures
    (lacks_second next_form flag_form _ _ _ next_apart c.in_ok-next.ensures
    c.in_err-ready.ensures))))))
