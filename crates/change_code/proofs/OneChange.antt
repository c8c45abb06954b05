-- A party as one change: the code of its rows.
use Rattle.std.proofs.Common.{◌≡◌, ℕ, ◌+◌, List, ◌++◌, take, Some, map, ◌∙◌, ap}
use Rattle.std.specs.List.{slice_get}
use Rattle.std.specs.Prelude.{option_map}
use Rattle.std.proofs.lemmas.Option.{slice_get-map}
use Rattle.party_state.specs.declared.edit.Edit.{Edit}
use Rattle.change_code.specs.Code.{edit_code, edits_code}
use Rattle.change_code.proofs.Changes.{put_one}

-- one row more
pub row_more : {R : Type 0} (put : R → Edit) (rows : List R) (out new front : List ℕ) (i : ℕ) (row : R) → slice_get rows i ≡ Some row → new ≡ out ++ edit_code (put row)
    → out ≡ front ++ edits_code (take i (map put rows)) → new ≡ front ++ edits_code (take (i + 1) (map put rows))
row_more put rows out new front i row at is was = put_one out new front (map put rows) i (put row) (slice_get-map put rows i ∙ ap (option_map put) at) is was
