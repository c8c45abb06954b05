use Rattle.change_code.specs.Reading.{exchange_form, ident_form, kind_form, text_form}
use Rattle.change_code.proofs.Joining.{both, lacks_first, lacks_second, lacks_as}
use Rattle.change_code.proofs.ExchangeForms.{exchange_shape, kind_apart}
use Rattle.change_code.proofs.Names.{ident_apart}
use Rattle.change_code.proofs.reader.Reader.exchange_parts.Goals as goal

pub returns-in_err-kind : goal.returns-in_err-kind
returns-in_err-kind c =
    rw c.from_residual-in_err-kind.ensures
    (lacks_as exchange_form (both ident_form (both kind_form text_form)) _ exchange_shape
    (lacks_second ident_form (both kind_form text_form) _ _ _ ident_apart c.in_ok-peer.ensures
    (lacks_first kind_form text_form _ c.in_err-kind.ensures)))

pub returns-in_err-text : goal.returns-in_err-text
returns-in_err-text c =
    rw c.from_residual-in_err-text.ensures
    (lacks_as exchange_form (both ident_form (both kind_form text_form)) _ exchange_shape
    (lacks_second ident_form (both kind_form text_form) _ _ _ ident_apart c.in_ok-peer.ensures
    (lacks_second kind_form text_form _ _ _ kind_apart c.in_ok-kind.ensures
    c.in_err-text.ensures)))
