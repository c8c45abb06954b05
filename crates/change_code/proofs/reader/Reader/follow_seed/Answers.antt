use Rattle.std.proofs.Common.{refl}
use Rattle.party_state.specs.declared.edit.Edit.TheVariants.{SetGen}
use Rattle.change_code.specs.Reading.{word_form}
use Rattle.change_code.proofs.Steps.{followed_edit, begins_kind}
use Rattle.change_code.proofs.reader.Reader.follow_seed.Goals as goal

pub returns : goal.returns
returns c =
    followed_edit c.is_within.result (SetGen c.in-Some.v) _ _ _ _
    (begins_kind 9 word_form (SetGen c.in-Some.v) _ _ c.in-Some.v c.in-Some.ensures c.in-Some.ensures.fits refl)
    tt c.set_seed.ensures c.is_within.ensures
