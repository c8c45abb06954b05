-- What spells a message: `CSM(TAG/contents ..)` of ANSI X9.17, separators and length by this
-- project's profile.
use Rattle.std.specs.Prelude.{◌≡◌, ◌≢◌, ℕ, ◌+◌, ◌≤◌, ◌==◌, ◌||◌, Bool, true, List, [], ◌∷◌, ◌++◌, length, map, Option, Some, codes}
use Rattle.std.specs.List.{filter, list_all, flat_map}
use Rattle.csm_grammar.specs.declared.tag.Tag.{Tag}
use Rattle.csm_grammar.specs.declared.tag.Tag.TheVariants.{Mcl}
use Rattle.csm_grammar.specs.declared.form.Form.{Form}
use Rattle.csm_grammar.specs.declared.form.Need.{Need}
use Rattle.csm_grammar.specs.declared.form.Need.TheVariants.{Required, Optional, Refused}
use Rattle.csm_grammar.specs.declared.message.Message.{Message}
use Rattle.csm_grammar.specs.declared.parsed.Shut.{Shut}
use Rattle.csm_grammar.specs.Tags.{tag_name, same_tag, count_tag}
use Rattle.csm_grammar.specs.Classes.{need_of, times}
use Rattle.csm_grammar.specs.Values.{Value, kind_of, value_of}
use Rattle.csm_grammar.specs.Messages.{Valued, form_of, shut_field, all_fields}

-- a blank, CR or LF
abbrev pub is_separator : ℕ → Bool
is_separator b = (b == 32) || ((b == 13) || (b == 10))

abbrev pub AreSeparators : List ℕ → Type 0
AreSeparators gap = list_all is_separator gap ≡ true

-- a tag and its contents
pub record Field : Type 0 where
  pub tag : Tag
  pub contents : List ℕ

abbrev pub field_text : Field → List ℕ
field_text f = tag_name f.tag ++ 47 ∷ f.contents

-- a field, and the separators behind it
pub record Spelled : Type 0 where
  pub field : Field
  pub gap : List ℕ

abbrev pub spelled_text : Spelled → List ℕ
spelled_text s = field_text s.field ++ s.gap

abbrev pub fields_in : List Spelled → List Field
fields_in ss = map (λ s. s.field) ss

abbrev pub tags_in : List Field → List Tag
tags_in fs = map (λ f. f.tag) fs

-- one or more separators between two fields, optional ones behind the last
abbrev pub AreParted : List Spelled → Type 0
AreParted [] = Unit {0}
AreParted (s ∷ []) = AreSeparators s.gap
AreParted (s ∷ t ∷ ts) = AreSeparators s.gap × (s.gap ≢ []) × AreParted (t ∷ ts)

-- how often a tag comes, by the form's need of it and by how often the form has it at most
abbrev pub ComesAs : Need → ℕ → ℕ → Type 0
ComesAs Required most n = n ≡ most
ComesAs Optional most n = n ≤ most
ComesAs Refused most n = n ≡ 0

-- the fields have the tags of the form, each as often as the form has it
abbrev pub AreOfForm : Form → List Field → Type 0
AreOfForm f fs = (t : Tag) → ComesAs (need_of f t) (times f t) (count_tag t (tags_in fs))

-- what the contents of the fields with a tag stand for, in order
abbrev pub values_in : Tag → List Field → List (Option Value)
values_in t fs = map (λ f. value_of (kind_of f.tag) f.contents) (filter (λ f. same_tag f.tag t) fs)

-- the values that a message has for a tag, in order
abbrev pub values_for : Tag → List Valued → List Value
values_for t vs = map (λ v. v.value) (filter (λ v. same_tag v.tag t) vs)

-- for each tag, the contents stand for the values of the message and its code
abbrev pub StandFor : List Field → Message → Shut → Type 0
StandFor fs m shut = (t : Tag) → values_in t fs ≡ map Some (values_for t (all_fields m shut))

-- how many bytes a message has at most
abbrev pub message_limit : ℕ
message_limit = 1024

-- the bytes are the spelling of the message, closed by the code: MCL comes first, the code last, the
-- other fields in any order. The first `a` bytes end before the tag of the code
pub record Spells (b : List ℕ) (m : Message) (shut : Shut) (a : ℕ) : Type 0 where
  pub front : List ℕ
  pub fields : List Spelled
  pub last : Spelled
  pub text : b ≡ codes "CSM(" ++ (front ++ (flat_map spelled_text (fields ++ last ∷ []) ++ codes ")"))
  pub short : length b ≤ message_limit
  pub separators : AreSeparators front
  pub parted : AreParted (fields ++ last ∷ [])
  pub others : List Tag
  pub class_first : tags_in (fields_in fields) ≡ Mcl ∷ others
  pub code_last : last.field.tag ≡ (shut_field shut).tag
  pub form : AreOfForm (form_of m) (fields_in (fields ++ last ∷ []))
  pub values : StandFor (fields_in (fields ++ last ∷ [])) m shut
  pub auth : a ≡ 4 + (length front + length (flat_map spelled_text fields))

-- what an authenticated text says: it is that of a spelling of the message
pub record Says (text : List ℕ) (m : Message) : Type 0 where
  pub shut : Shut
  pub rest : List ℕ
  pub spelled : Spells (text ++ rest) m shut (length text)
