-- How far a text was judged, from left to right, without a fault.
use Rattle.std.specs.Prelude.{◌≡◌, ◌⊎◌, ℕ, ◌==◌, ◌||◌, not, true, Bool, List, [], ◌∷◌, ◌++◌, take, drop, Option, None, is_none}
use Rattle.std.specs.List.{find, list_all}
use Rattle.csm_grammar.specs.declared.form.Form.{Form}
use Rattle.csm_grammar.specs.Spelling.{Field, is_separator, tags_in, message_limit}
use Rattle.csm_read.specs.Units.{Standing, Stretch, stretches, end_place, units, stretches_of, units_of}
use Rattle.csm_read.specs.Faults.{absent, forms_left, front_fault, first_fault, fields_from}

-- any byte but `)` and a separator
abbrev pub is_plain : ℕ → Bool
is_plain b = not ((b == 41) || is_separator b)

abbrev pub ArePlain : List ℕ → Type 0
ArePlain t = list_all is_plain t ≡ true

-- a byte that ends a token
abbrev pub IsEnd : ℕ → Type 0
IsEnd e = (e ≡ 41) ⊎ (is_separator e ≡ true)

-- the stretches of the first 1,024 bytes from a place on
abbrev pub stretches_from : ℕ → List ℕ → List Stretch
stretches_from place b = stretches place (drop place (take message_limit b))

-- `done` are the tokens before the place, and none of them has a fault
pub record Judged (b : List ℕ) (place : ℕ) (done : List Standing) : Type 0 where
  pub front : front_fault b ≡ None
  pub are : units_of b ≡ done ++ units (stretches_from place b)
  pub faults : first_fault [] (units_of b) ≡ first_fault (fields_from done) (units (stretches_from place b))
  pub shut : end_place (stretches_of b) ≡ end_place (stretches_from place b)

-- `u` is the next token from a place on, and what follows begins at the other place
pub record IsNext (b : List ℕ) (place : ℕ) (u : Standing) (after : ℕ) : Type 0 where
  pub units_are : units (stretches_from place b) ≡ u ∷ units (stretches_from after b)
  pub shut : end_place (stretches_from place b) ≡ end_place (stretches_from after b)

-- the place of the last token
abbrev pub last_place : List Standing → ℕ
last_place [] = 0
last_place (u ∷ []) = u.place
last_place (u ∷ v ∷ us) = last_place (v ∷ us)

-- the first form left of which no required tag is absent
abbrev pub form_left : List Field → Option Form
form_left fs = find (λ g. is_none (absent g (tags_in fs))) (forms_left fs (tags_in fs))
