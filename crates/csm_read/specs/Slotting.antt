-- The fields before a token, as the reader keeps them: by tag, and the forms that are left.
use Rattle.std.specs.Prelude.{◌≡◌, ℕ, ◌&&◌, nat_le, not, false, Bool, List, [], ◌∷◌, ◌++◌, map, slice_index_or, Option, Some, None, option_map, option_to_list, is_some, is_none, unwrap_or, if◌then◌else◌}
use Rattle.std.specs.List.{filter, find, list_any}
use Rattle.std.specs.Borrow.{Bor}
use Rattle.csm_grammar.specs.declared.tag.Tag.{Tag}
use Rattle.csm_grammar.specs.declared.tag.Tag.TheVariants.{Mcl, Kd}
use Rattle.csm_grammar.specs.declared.form.Form.{Form}
use Rattle.csm_grammar.specs.Tags.{tag_place, same_tag}
use Rattle.csm_grammar.specs.Classes.{required, code_tag, times}
use Rattle.csm_grammar.specs.Spelling.{Field, tags_in}
use Rattle.csm_read.specs.Faults.{forms_left}
use Rattle.csm_grammar.specs.FormSets.{forms_in}

-- the contents behind a tag
abbrev pub slot_in : List (Option (Bor (List ℕ))) → Tag → Option (List ℕ)
slot_in slots t = option_map (λ x. x.now) (slice_index_or slots (tag_place t) None)

abbrev pub came : List (Option (Bor (List ℕ))) → Tag → Bool
came slots t = is_some (slot_in slots t)

-- the contents of a second KD, which are kept behind those of all tags
abbrev pub second_in : List (Option (Bor (List ℕ))) → Option (List ℕ)
second_in slots = option_map (λ x. x.now) (slice_index_or slots 27 None)

-- the contents behind a tag, in order
abbrev pub contents_in : List (Option (Bor (List ℕ))) → Tag → List (List ℕ)
contents_in slots t = option_to_list (slot_in slots t) ++ (if same_tag t Kd then option_to_list (second_in slots) else [])

-- how often a tag came
abbrev pub comes : List (Option (Bor (List ℕ))) → Tag → ℕ
comes slots t = if came slots t then (if same_tag t Kd && is_some (second_in slots) then 2 else 1) else 0

-- contents are put behind a tag: behind a second KD where KD came, and otherwise in the tag's place
pub record Puts (slots more : List (Option (Bor (List ℕ)))) (tag : Tag) (contents : List ℕ) : Type 0 where
  pub behind : (t : Tag) → slot_in more t ≡ (if same_tag tag t && not (same_tag tag Kd && came slots Kd) then Some contents else slot_in slots t)
  pub second : second_in more ≡ (if same_tag tag Kd && came slots Kd then Some contents else second_in slots)

-- MCL is the first field
abbrev pub BeginsWithClass : List Field → Type 0
BeginsWithClass [] = Unit {0}
BeginsWithClass (f ∷ fs) = f.tag ≡ Mcl

-- the slots and the forms are those of the fields
pub record Keeps (slots : List (Option (Bor (List ℕ)))) (left : ℕ) (fs : List Field) : Type 0 where
  pub contents : (t : Tag) → map (λ f. f.contents) (filter (λ f. same_tag f.tag t) fs) ≡ contents_in slots t
  -- a second KD comes behind a first
  pub second : came slots Kd ≡ false → second_in slots ≡ None
  pub forms : forms_in left ≡ forms_left fs (tags_in fs)
  pub class_first : BeginsWithClass fs

-- a tag that the form has twice came once at most, any other never
abbrev pub is_absent_by : List (Option (Bor (List ℕ))) → Form → Tag → Bool
is_absent_by slots f t = if nat_le 2 (times f t) then is_none (second_in slots) else not (came slots t)

-- the first required tag that is absent
abbrev pub absent_by : List (Option (Bor (List ℕ))) → Form → Option Tag
absent_by slots f = find (is_absent_by slots f) (Mcl ∷ required f)

-- what is absent from the first form, where each form lacks a tag
abbrev pub lacking_by : List (Option (Bor (List ℕ))) → List Form → Option Tag
lacking_by slots [] = None
lacking_by slots (f ∷ fs) = if list_any (λ g. is_none (absent_by slots g)) (f ∷ fs) then None else absent_by slots f

-- what is missing for a form
abbrev pub missing_by : List (Option (Bor (List ℕ))) → Option Form → Tag
missing_by slots None = Mcl
missing_by slots (Some f) = unwrap_or (absent_by slots f) (code_tag f)
