use Rattle.std.proofs.Common.{refl}
use Rattle.party_state.specs.declared.edit.Edit.TheVariants.{PutExchange}
use Rattle.change_code.specs.Reading.{exchange_form}
use Rattle.change_code.proofs.Steps.{followed_edit, begins_kind}
use Rattle.change_code.proofs.reader.Reader.follow_exchange.Goals as goal

pub returns-in_ok-put_exchange-in-Ok : goal.returns-in_ok-put_exchange-in-Ok
returns-in_ok-put_exchange-in-Ok c =
    followed_edit c.is_within.result (PutExchange c.in-Ok.exchange) _ _ _ _
    (begins_kind 6 exchange_form (PutExchange c.in-Ok.exchange) _ _ c.in-Ok.exchange c.in-Ok.ensures c.in-Ok.ensures.fits refl)
    tt c.in_ok-put_exchange-in-Ok.ensures.done c.is_within.ensures
