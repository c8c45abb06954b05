-- A change that sets the seed to 1, at most 65,535 times.
use Rattle.std.specs.Prelude.{◌≡◌, ◌≤◌, List, length}
use Rattle.std.specs.List.{All}
use Rattle.change_code.specs.Code.{most_edits}
use Rattle.party_state.specs.declared.edit.Edit.{Edit}
use Rattle.party_state.specs.declared.edit.Edit.TheVariants.{SetGen}

abbrev pub IsSeed : Edit → Type 0
IsSeed edit = edit ≡ SetGen 1

pub record AreSeeds (edits : List Edit) : Type 0 where
  pub few : length edits ≤ most_edits
  pub all : All IsSeed edits
