-- A party as one change (this project's profile).
use Rattle.std.specs.Prelude.{ℕ, ◌⊎◌, ◌<◌, List, ◌∷◌, ◌++◌, length, map}
use Rattle.key_journal.specs.Layout.{largest_body}
use Rattle.party_state.specs.State.{Party}
use Rattle.party_state.specs.declared.edit.Edit.{Edit}
use Rattle.party_state.specs.declared.edit.Edit.TheVariants.{Begin, PutLink, PutKey, PutExchange, PutAnswer}
use Rattle.change_code.specs.declared.format.Format.{Format}
use Rattle.change_code.specs.Code.{most_edits, code_of_change}

-- the puts of a party's rows: its links, keys, exchanges and answers, each in the order of its list
abbrev pub row_edits : Party → List Edit
row_edits p = map PutLink p.links ++ (map PutKey p.keys ++ (map PutExchange p.exchanges ++ map PutAnswer p.answers))

-- the change that makes the party from nothing: it begins, and its rows are put
abbrev pub whole_edits : Party → List Edit
whole_edits p = Begin p.own p.role p.generator ∷ row_edits p

-- the code of that change
abbrev pub whole_of : Format → Party → List ℕ
whole_of format p = code_of_change format (whole_edits p)

-- the change has too many edits, or its code too many bytes
abbrev pub IsTooLarge : Format → Party → Type 0
IsTooLarge format p = (most_edits < length (whole_edits p)) ⊎ (largest_body < length (whole_of format p))
