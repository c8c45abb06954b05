use Rattle.std.proofs.Common.{refl}
use Rattle.party_state.specs.declared.edit.Edit.TheVariants.{DropExchange}
use Rattle.change_code.specs.Reading.{ident_form}
use Rattle.change_code.proofs.Steps.{followed_edit, begins_kind}
use Rattle.change_code.proofs.reader.Reader.follow_drop.Goals as goal

pub returns : goal.returns
returns c =
    followed_edit c.is_within.result (DropExchange c.in-Some.peer) _ _ _ _
    (begins_kind 7 ident_form (DropExchange c.in-Some.peer) _ _ c.in-Some.peer c.in-Some.ensures c.in-Some.ensures.fits refl)
    tt c.drop_exchange.ensures c.is_within.ensures
