-- What the types of edits fix (this project's profile).
use Rattle.std.specs.Prelude.{List}
use Rattle.std.specs.List.{All}
use Rattle.party_state.specs.declared.edit.Edit.{Edit}
use Rattle.party_state.specs.Ranges.{InRange, IsFitting}

-- all but what an edit's types leave open is in its range
abbrev pub IsFormed : Edit → Type 0
IsFormed e = IsFitting e → InRange e

abbrev pub AreFormed : List Edit → Type 0
AreFormed es = All IsFormed es
