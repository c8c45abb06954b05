use Rattle.std.proofs.Common.{◌≡◌, drop}
use Rattle.party_state.specs.Ranges.{AreFitting, HasNoBegin}
use Rattle.party_state.specs.Rooms.{HasSpaceFor}
use Rattle.party_state.specs.State.{apply as after}
use Rattle.party_state.proofs.prepared.do_edits.Given as goal

abbrev pub invariant-loop-edit : goal.invariant-loop-edit
invariant-loop-edit l = record {
  room : HasSpaceFor (drop l.edit-index l.edit-items) l.parts.1;
  fitting : AreFitting (drop l.edit-index l.edit-items);
  goes_on : HasNoBegin (drop l.edit-index l.edit-items);
  same : after (drop l.edit-index l.edit-items) l.parts.0 ≡ after l.fn.edits.items l.initial.parts.0;
}
