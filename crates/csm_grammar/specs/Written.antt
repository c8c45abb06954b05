-- A message as it is written: its fields in the writer's order, with single blanks between them.
use Rattle.std.specs.Prelude.{◌≡◌, ◌≤◌, ℕ, true, List, [], ◌∷◌, ◌++◌, length, codes}
use Rattle.std.specs.List.{flat_map, AllZip}
use Rattle.csm_grammar.specs.declared.message.Message.{Message}
use Rattle.csm_grammar.specs.declared.parsed.Shut.{Shut}
use Rattle.csm_grammar.specs.Classes.{allows}
use Rattle.csm_grammar.specs.Values.{kind_of, Denotes}
use Rattle.csm_grammar.specs.Messages.{Valued, form_of, shut_field, all_fields}
use Rattle.csm_grammar.specs.Spelling.{Field, field_text, message_limit}

-- a field stands for a value under its tag
pub record IsFor (f : Field) (v : Valued) : Type 0 where
  pub tag : f.tag ≡ v.tag
  pub value : Denotes (kind_of v.tag) f.contents v.value

-- fields, each with a blank behind it: an authenticated text
abbrev pub authenticated_fields : List Field → List ℕ
authenticated_fields fs = codes "CSM(" ++ flat_map (λ f. field_text f ++ codes " ") fs

-- fields and a code with single blanks between them
abbrev pub blank_text : List Field → Field → List ℕ
blank_text fs code = authenticated_fields fs ++ (field_text code ++ codes ")")

-- the fields and the code are those of the message in the writer's order
pub record IsWritten (fs : List Field) (code : Field) (m : Message) (shut : Shut) : Type 0 where
  pub each : AllZip IsFor (fs ++ code ∷ []) (all_fields m shut)
  pub allowed : allows (form_of m) (shut_field shut).tag ≡ true
  pub short : length (blank_text fs code) ≤ message_limit
