-- The fact of a text that is written (this project's profile).
use Rattle.std.specs.Prelude.{◌-◌, ℕ, take, length, List, Option, Some, None, [], ◌∷◌}
use Rattle.x_base.specs.declared.key_name.FullName.{FullName}
use Rattle.fact_book.specs.Facts.{NamedText}

-- the authenticated text of a canonical text: what stands before the tag of its code, eight digits and the end
abbrev pub authenticated_in : List ℕ → List ℕ
authenticated_in text = take (length text - 13) text

-- the fact of a text that is written, where its code is made under a key
abbrev pub noted : Option FullName → Option (List ℕ) → List NamedText
noted None reply = []
noted (Some under) None = []
noted (Some under) (Some text) = record { under = under; text = authenticated_in text } ∷ []
