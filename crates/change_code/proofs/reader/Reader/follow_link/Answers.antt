use Rattle.std.proofs.Common.{refl}
use Rattle.party_state.specs.declared.edit.Edit.TheVariants.{PutLink}
use Rattle.change_code.specs.Reading.{link_form}
use Rattle.change_code.proofs.Steps.{followed_edit, begins_kind}
use Rattle.change_code.proofs.reader.Reader.follow_link.Goals as goal

pub returns : goal.returns
returns c =
    followed_edit c.is_within.result (PutLink c.in-Some.link) _ _ _ _
    (begins_kind 2 link_form (PutLink c.in-Some.link) _ _ c.in-Some.link c.in-Some.ensures c.in-Some.ensures.fits refl)
    tt c.in_ok-put_link.ensures.done c.is_within.ensures
