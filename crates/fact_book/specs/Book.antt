-- How a book finds facts by their names (this project's profile).
use Rattle.std.specs.Prelude.{◌≡◌, ℕ, suc, Bool, true, false, Option, Some, None, List, [], ◌∷◌, length, take, slice_get, bytes_eq}
use Rattle.x_base.specs.declared.key_name.FullName.{FullName}
use Rattle.fact_book.specs.declared.entry.Entry.{Entry}
use Rattle.fact_book.specs.Facts.{NamedText, same_full_name}

-- each entry with its text
abbrev pub facts_of : List Entry → List (List ℕ) → List NamedText
facts_of [] ts = []
facts_of (e ∷ es) [] = []
facts_of (e ∷ es) (t ∷ ts) = record { under = e.under; text = t } ∷ facts_of es ts

abbrev pub is_this_text : List ℕ → Option (List ℕ) → Bool
is_this_text text None = false
is_this_text text (Some t) = bytes_eq t text

-- a place behind the first one, or the first one where it has the name
abbrev pub place_with : Bool → Option ℕ → Option ℕ
place_with named (Some place) = Some (suc place)
place_with true None = Some 0
place_with false None = None

-- the place of the last fact of a name
abbrev pub latest_of : FullName → List NamedText → Option ℕ
latest_of under [] = None
latest_of under (f ∷ fs) = place_with (same_full_name f.under under) (latest_of under fs)

-- each entry has its text, the last fact of each name is found, and at each fact the one before it that has the same name
pub record IsBook (es : List Entry) (ts : List (List ℕ)) (latest : FullName → Option ℕ) : Type 0 where
  pub sizes : length ts ≡ length es
  pub latest_is : (under : FullName) → latest under ≡ latest_of under (facts_of es ts)
  pub earlier_is : (i : ℕ) (e : Entry) → slice_get es i ≡ Some e → e.earlier ≡ latest_of e.under (take i (facts_of es ts))

-- from here all facts of the name are reached
pub record Reaches (es : List Entry) (ts : List (List ℕ)) (under : FullName) (from : Option ℕ) : Type 0 where
  pub latest : from ≡ latest_of under (facts_of es ts)
  pub earlier : (i : ℕ) (e : Entry) → slice_get es i ≡ Some e → e.earlier ≡ latest_of e.under (take i (facts_of es ts))
