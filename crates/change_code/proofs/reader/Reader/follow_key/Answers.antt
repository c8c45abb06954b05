use Rattle.std.proofs.Common.{refl}
use Rattle.party_state.specs.declared.edit.Edit.TheVariants.{PutKey}
use Rattle.change_code.specs.Reading.{key_form}
use Rattle.change_code.proofs.Steps.{followed_edit, begins_kind}
use Rattle.change_code.proofs.reader.Reader.follow_key.Goals as goal

pub returns : goal.returns
returns c =
    followed_edit c.is_within.result (PutKey c.in-Some.key) _ _ _ _
    (begins_kind 4 key_form (PutKey c.in-Some.key) _ _ c.in-Some.key c.in-Some.ensures c.in-Some.ensures.fits refl)
    tt c.in_ok-put_key.ensures.done c.is_within.ensures
