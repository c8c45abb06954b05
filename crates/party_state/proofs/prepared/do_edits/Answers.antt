use Rattle.std.proofs.Common.{arith, ap, sym, subst, drop, ◌∙◌, ◌+◌, slice_set}
use Rattle.party_state.specs.Ranges.{IsFitting, IsNoBegin}
use Rattle.party_state.specs.Rooms.{HasSpaceFor}
use Rattle.party_state.specs.State.{apply as after}
use Rattle.party_state.proofs.Steps.{from_edit, first_all, rest_all, is_done}
use Rattle.party_state.proofs.Room.{first_room}
use Rattle.party_state.proofs.prepared.do_edits.Goals as goal

pub take-requires-clause-fitting : goal.take-requires-clause-fitting
take-requires-clause-fitting c = first_all IsFitting _ _ _ (from_edit c.loop-edit.edit-items c.loop-edit.edit-index c.edit-item.result c.edit-item.result (omega (arith, c.loop-edit-test.true, c.loop-edit.auto.edit-items))) c.loop-edit.invariant.fitting

pub take-requires-clause-goes_on : goal.take-requires-clause-goes_on
take-requires-clause-goes_on c = first_all IsNoBegin _ _ _ (from_edit c.loop-edit.edit-items c.loop-edit.edit-index c.edit-item.result c.edit-item.result (omega (arith, c.loop-edit-test.true, c.loop-edit.auto.edit-items))) c.loop-edit.invariant.goes_on

pub loop-edit-preserved : goal.loop-edit-preserved
loop-edit-preserved c =
    let first = from_edit c.loop-edit.edit-items c.loop-edit.edit-index c.edit-item.result c.take.new.edit (omega (arith, c.loop-edit-test.true, c.loop-edit.auto.edit-items)) in
    let room = subst (λ es. HasSpaceFor es c.loop-edit.parts.1) first c.loop-edit.invariant.room in
    let done = is_done c.take.result _ (c.take.ensures.succeeds (first_room _ _ _ room)) c.take.ensures.done in
    record {
      room = c.take.ensures.room _ room;
      fitting = rest_all IsFitting _ _ _ first c.loop-edit.invariant.fitting;
      goes_on = rest_all IsNoBegin _ _ _ first c.loop-edit.invariant.goes_on;
      same = ap (λ p. after (drop (c.loop-edit.edit-index + 1) (slice_set c.loop-edit.edit-items c.loop-edit.edit-index c.take.new.edit)) p) done ∙ sym (ap (λ es. after es c.loop-edit.parts.0) first) ∙ c.loop-edit.invariant.same;
    }
