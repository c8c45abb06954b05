-- Fields that are appended to a text.
use Rattle.std.specs.Prelude.{◌≡◌, ℕ, List, ◌++◌, map, codes}
use Rattle.std.specs.List.{flat_map, All}
use Rattle.csm_grammar.specs.Messages.{Valued}
use Rattle.csm_grammar.specs.Spelling.{field_text}
use Rattle.csm_write.specs.Canon.{field_for}
use Rattle.csm_write.specs.Writable.{IsTypedField}

-- fields with a blank behind each
abbrev pub blank_fields : List Valued → List ℕ
blank_fields vs = flat_map (λ f. field_text f ++ codes " ") (map field_for vs)

-- a text grows by these fields, and their values are of their types
pub record Adds (old new : List ℕ) (vs : List Valued) : Type 0 where
  pub text : new ≡ old ++ blank_fields vs
  pub typed : All IsTypedField vs
