-- The first fault of a text (this project's profile).
use Rattle.std.specs.Prelude.{◌≡◌, ℕ, ◌+◌, ◌==◌, nat_le, nat_lt, ◌&&◌, ◌||◌, not, false, Bool, List, [], ◌∷◌, ◌++◌, length, Option, Some, None, is_none, option_map, option_to_list, unwrap_or, codes, bytes_eq, if◌then◌else◌}
use Rattle.std.specs.List.{filter, find, filter_map, list_all, list_any}
use Rattle.csm_grammar.specs.declared.tag.Tag.{Tag}
use Rattle.csm_grammar.specs.declared.tag.Tag.TheVariants.{Mcl, Kd, Mac}
use Rattle.csm_grammar.specs.declared.form.Form.{Form}
use Rattle.csm_grammar.specs.declared.refusal.ReadRefusal.{ReadRefusal}
use Rattle.csm_grammar.specs.declared.refusal.ReadRefusal.TheVariants as refusal
use Rattle.csm_grammar.specs.Tags.{tag_name, tags, tag_of, same_tag, has_tag, count_tag, is_closing, is_unsupported}
use Rattle.csm_grammar.specs.Classes.{forms, class_forms, required, closing, times}
use Rattle.csm_grammar.specs.Values.{kind_of, value_of, is_capital_or_digit}
use Rattle.csm_grammar.specs.Spelling.{Field, tags_in, message_limit}
use Rattle.csm_read.specs.Units.{Standing, tag_text, contents_text, end_place, stretches_of, units_of}

-- the fault where the test holds, otherwise what follows
abbrev pub refuse : Bool → ReadRefusal → Option ReadRefusal → Option ReadRefusal
refuse b r o = if b then Some r else o

abbrev pub or_else : Option ReadRefusal → Option ReadRefusal → Option ReadRefusal
or_else None o = o
or_else (Some r) o = Some r

-- the place of the first byte that differs from the wanted ones
abbrev pub differs : ℕ → List ℕ → List ℕ → Option ReadRefusal
differs place [] ws = None
differs place (b ∷ bs) [] = None
differs place (b ∷ bs) (w ∷ ws) = if b == w then differs (place + 1) bs ws else Some (refusal.NotCsm place)

abbrev pub front_fault : List ℕ → Option ReadRefusal
front_fault [] = Some (refusal.NotCsm 0)
front_fault (b ∷ bs) = differs 0 (b ∷ bs) (codes "CSM(")

abbrev pub is_tag_byte : ℕ → Bool
is_tag_byte b = is_capital_or_digit b || (b == 42)

-- 1 to 4 bytes of a tag, and `/`
abbrev pub is_tagged : List ℕ → Bool
is_tagged t = list_any (λ b. b == 47) t && ((nat_le 1 (length (tag_text t)) && nat_le (length (tag_text t)) 4) && list_all is_tag_byte (tag_text t))

-- the field that a token writes, where its tag is known
abbrev pub field_of : Standing → Option Field
field_of u = option_map (λ t. record { tag = t; contents = contents_text u.text }) (tag_of (tag_text u.text))

-- the forms of the class that MCL names; all where no field came
abbrev pub candidates : List Field → List Form
candidates [] = forms
candidates (f ∷ fs) = class_forms f.contents

-- MCL names the class KSM
abbrev pub is_ksm : List Field → Bool
is_ksm [] = false
is_ksm (f ∷ fs) = bytes_eq f.contents (codes "KSM")

-- the tag came before; KD in a KSM came twice before
abbrev pub is_repeated : List Field → Tag → Bool
is_repeated before t = if same_tag t Kd && is_ksm before then nat_le 2 (count_tag t (tags_in before)) else has_tag t (tags_in before)

-- no tag comes more often than the form has it
abbrev pub admits : Form → List Tag → Bool
admits f ts = list_all (λ t. nat_le (count_tag t ts) (times f t)) tags

-- the forms that have all the tags, each as often as it comes
abbrev pub forms_left : List Field → List Tag → List Form
forms_left before ts = filter (λ f. admits f ts) (candidates before)

-- a tag that the form has twice is absent until it came twice, any other until it came
abbrev pub is_absent : Form → List Tag → Tag → Bool
is_absent f ts t = if nat_le 2 (times f t) then nat_lt (count_tag t ts) 2 else not (has_tag t ts)

-- the first required tag that is absent
abbrev pub absent : Form → List Tag → Option Tag
absent f ts = find (is_absent f ts) (Mcl ∷ required f)

-- what is absent from the first form, where each form lacks a tag
abbrev pub lacking : List Form → List Tag → Option Tag
lacking [] ts = None
lacking (f ∷ fs) ts = if list_any (λ g. is_none (absent g ts)) (f ∷ fs) then None else absent f ts

-- the fault of contents that stand for nothing
abbrev pub contents_fault : Tag → ℕ → List ℕ → Option ReadRefusal
contents_fault t place contents = refuse (is_none (value_of (kind_of t) contents)) (refusal.BadContents t (place + (length (tag_name t) + 1))) None

-- the faults of a field, in their order, behind those before it
abbrev pub fault_of_field : List Field → ℕ → Field → Option ReadRefusal
fault_of_field before place f =
    refuse (is_unsupported f.tag) (refusal.Unsupported f.tag place)
    (refuse ((length before == 0) && not (same_tag f.tag Mcl)) (refusal.Missing Mcl place)
    (refuse (is_repeated before f.tag) (refusal.Repeated f.tag place)
    (refuse (list_any is_closing (tags_in before) || (length (forms_left before (f.tag ∷ tags_in before)) == 0)) (refusal.Unwanted f.tag place)
    (or_else (if is_closing f.tag then option_map (λ t. refusal.Missing t place) (lacking (forms_left before (f.tag ∷ tags_in before)) (tags_in before)) else None)
    (contents_fault f.tag place f.contents)))))

-- the fault of a token
abbrev pub fault_of : List Field → Standing → Option ReadRefusal
fault_of before u = refuse (not (is_tagged u.text)) (refusal.BadTag u.place) (known (field_of u)) where
  known : Option Field → Option ReadRefusal
  known None = Some (refusal.UnknownTag u.place)
  known (Some f) = fault_of_field before u.place f

-- the fields that tokens write
abbrev pub fields_from : List Standing → List Field
fields_from us = filter_map field_of us

-- the fault of the first token that has one, each behind those before it
unfoldable pub first_fault : List Field → List Standing → Option ReadRefusal
first_fault before [] = None
first_fault before (u ∷ us) = or_else (fault_of before u) (first_fault (before ++ option_to_list (field_of u)) us)

-- the tag that is missing at `)`: the first absent one of the first form left, or else its closing
-- tag. Where no field came it is MCL
abbrev pub missing_of : List Form → List Tag → Tag
missing_of [] ts = Mcl
missing_of (f ∷ fs) ts = unwrap_or (absent f ts) (closing_of (closing f)) where
  closing_of : List Tag → Tag
  closing_of [] = Mac
  closing_of (t ∷ ts) = t

-- the fault of `)`
abbrev pub unclosed_fault : List Field → ℕ → Option ReadRefusal
unclosed_fault before place = refuse (not (list_any is_closing (tags_in before))) (refusal.Missing (missing_of (forms_left before (tags_in before)) (tags_in before)) place) None

-- no end came within the first 1,024 bytes
abbrev pub endless_fault : ℕ → ReadRefusal
endless_fault n = if nat_lt message_limit n then refusal.TooLong message_limit else refusal.Unended n

abbrev pub end_fault : Option ℕ → List Field → ℕ → Option ReadRefusal
end_fault None before n = Some (endless_fault n)
end_fault (Some place) before n = unclosed_fault before place

-- the fault of a text: that of the first judged unit which has one, of the front, the tokens, and
-- `)` or the end
unfoldable pub fault_of_text : List ℕ → Option ReadRefusal
fault_of_text b = or_else (front_fault b) (or_else (first_fault [] (units_of b)) (end_fault (end_place (stretches_of b)) (fields_from (units_of b)) (length b)))

-- the first fault of the bytes
abbrev pub IsFault : List ℕ → ReadRefusal → Type 0
IsFault b r = fault_of_text b ≡ Some r
