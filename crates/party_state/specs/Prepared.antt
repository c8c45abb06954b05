-- A party for whose change all memory is taken (this project's profile).
use Rattle.std.specs.Prelude.{List}
use Rattle.party_state.specs.declared.edit.Edit.{Edit}
use Rattle.party_state.specs.State.{Party}

-- the party as it was, and the edits of the change
pub record PreparedParty : Type 0 where
  pub party : Party
  pub edits : List Edit
