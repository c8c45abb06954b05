-- Facts by the names of their keys, and the search for one (this project's profile).
use Rattle.std.specs.Prelude.{ℕ, Bool, ◌&&◌, List, bytes_eq}
use Rattle.std.specs.List.{list_any}
use Rattle.x_base.specs.declared.key_name.FullName.{FullName}
use Rattle.party_tables.specs.Keys.{same_name}

-- the key of this name made the code of this authenticated text
pub record NamedText : Type 0 where
  pub under : FullName
  pub text : List ℕ

abbrev pub same_full_name : FullName → FullName → Bool
same_full_name a b = same_name a.name b.name && bytes_eq a.recipient b.recipient

abbrev pub is_named : FullName → List ℕ → NamedText → Bool
is_named under text f = same_full_name f.under under && bytes_eq f.text text

-- a fact of this name and this text is among them
abbrev pub has_named : List NamedText → FullName → List ℕ → Bool
has_named facts under text = list_any (is_named under text) facts
