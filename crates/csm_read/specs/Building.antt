-- What the reader needs of the fields that it makes a message of.
use Rattle.std.specs.Prelude.{◌≡◌, ◌⊎◌, ℕ, ◌+◌, nat_le, true, List, [], ◌∷◌, map, Option, Some, None, option_map, length, take, IsSome, is_some, ◌≤◌, false, Result, MatchResult}
use Rattle.std.specs.List.{filter, list_all, list_any}
use Rattle.std.specs.Borrow.{Bor}
use Rattle.csm_grammar.specs.declared.tag.Tag.{Tag}
use Rattle.csm_grammar.specs.declared.tag.Tag.TheVariants.{Mcl, Kd, Iv, Edk, P, Mac, Edc}
use Rattle.csm_grammar.specs.declared.form.Form.{Form}
use Rattle.csm_grammar.specs.declared.message.Message.{Message}
use Rattle.csm_grammar.specs.declared.message.Extras.{Extras}
use Rattle.csm_grammar.specs.declared.parsed.Shut.{Shut}
use Rattle.csm_grammar.specs.declared.parsed.Shut.TheVariants as shuts
use Rattle.csm_grammar.specs.Tags.{same_tag, has_tag, count_tag, is_closing}
use Rattle.csm_grammar.specs.Classes.{class_text, required, times}
use Rattle.csm_grammar.specs.Values.{Value, AText, ANumber, kind_of, value_of}
use Rattle.csm_grammar.specs.Messages.{form_of}
use Rattle.csm_grammar.specs.Spelling.{Field, tags_in, AreOfForm, values_in, StandFor, message_limit}
use Rattle.csm_read.specs.Judging.{form_left, Judged, last_place}
use Rattle.csm_read.specs.Units.{Standing}
use Rattle.csm_read.specs.Faults.{fields_from, unclosed_fault}
use Rattle.csm_grammar.specs.Reading.{IsRead}
use Rattle.csm_read.specs.Faults.{IsFault}
use Rattle.csm_grammar.specs.declared.parsed.Parsed.{Parsed}
use Rattle.csm_grammar.specs.declared.refusal.ReadRefusal.{ReadRefusal}
use Rattle.csm_grammar.specs.declared.refusal.ReadRefusal.TheVariants as refusal
use Rattle.csm_read.specs.Slotting.{came, second_in, contents_in, Keeps}
use Rattle.csm_read.specs.Denoting.{value_at, second_value}

-- all that a form requires beside its code
abbrev pub ArePresent : List (Option (Bor (List ℕ))) → Form → Type 0
ArePresent slots f = (t : Tag) → has_tag t (Mcl ∷ required f) ≡ true → IsSome (value_at slots t)

-- a second KD, where the form has two
abbrev pub IsSecondPresent : List (Option (Bor (List ℕ))) → Form → Type 0
IsSecondPresent slots f = nat_le 2 (times f Kd) ≡ true → IsSome (second_value slots)

abbrev pub mac_values : Shut → List Value
mac_values (shuts.Mac n) = ANumber n ∷ []
mac_values (shuts.Edc n) = []

abbrev pub edc_values : Shut → List Value
edc_values (shuts.Mac n) = []
edc_values (shuts.Edc n) = ANumber n ∷ []

-- the texts that are kept and not interpreted
pub record AreExtras (slots : List (Option (Bor (List ℕ)))) (e : Extras) : Type 0 where
  pub iv : option_map AText e.iv ≡ value_at slots Iv
  pub edk : option_map AText e.edk ≡ value_at slots Edk
  pub p : option_map AText e.p ≡ value_at slots P

-- the fields in the slots are those of the form, closed by the code
pub record AreReady (slots : List (Option (Bor (List ℕ)))) (form : Form) (fs : List Field) (shut : Shut) : Type 0 where
  pub contents : (t : Tag) → map (λ f. f.contents) (filter (λ f. same_tag f.tag t) fs) ≡ contents_in slots t
  pub second : came slots Kd ≡ false → second_in slots ≡ None
  pub tags : AreOfForm form fs
  pub known : list_all (λ f. is_some (value_of (kind_of f.tag) f.contents)) fs ≡ true
  pub class : values_in Mcl fs ≡ map Some (AText (class_text form) ∷ [])
  pub mac : values_in Mac fs ≡ map Some (mac_values shut)
  pub edc : values_in Edc fs ≡ map Some (edc_values shut)

-- whatever code closes them, the fields in the slots stand for the message
pub record IsBuilt (slots : List (Option (Bor (List ℕ)))) (form : Form) (m : Message) : Type 0 where
  pub form_is : form_of m ≡ form
  pub stands : (fs : List Field) (shut : Shut) → AreReady slots form fs shut → StandFor fs m shut

-- fields closed by a code, of one form
pub record AreClosed (fs : List Field) : Type 0 where
  pub form : Form
  pub left : form_left fs ≡ Some form
  pub tags : AreOfForm form fs
  pub known : list_all (λ f. is_some (value_of (kind_of f.tag) f.contents)) fs ≡ true
  pub class : values_in Mcl fs ≡ map Some (AText (class_text form) ∷ [])
  pub code : ((count_tag Mac (tags_in fs) ≡ 1) × (count_tag Edc (tags_in fs) ≡ 0)) ⊎ ((count_tag Mac (tags_in fs) ≡ 0) × (count_tag Edc (tags_in fs) ≡ 1))

-- the slots keep the fields, and these are those of a form once a code came
pub record AreSound (slots : List (Option (Bor (List ℕ)))) (left : ℕ) (fs : List Field) : Type 0 where
  pub keeps : Keeps slots left fs
  pub closed : list_any is_closing (tags_in fs) ≡ true → AreClosed fs

-- the code in the slots
abbrev pub IsCodeIn : List (Option (Bor (List ℕ))) → Shut → Type 0
IsCodeIn slots (shuts.Mac n) = value_at slots Mac ≡ Some (ANumber n)
IsCodeIn slots (shuts.Edc n) = (came slots Mac ≡ false) × (value_at slots Edc ≡ Some (ANumber n))

-- what is read at `)`, behind fields whose last stands at a place
pub record IsEnded (fs : List Field) (place last : ℕ) (p : Parsed) : Type 0 where
  pub faultless : unclosed_fault fs place ≡ None
  pub form : AreOfForm (form_of p.message) fs
  pub stands : StandFor fs p.message p.shut
  pub auth_len : p.auth_len ≡ last
  pub len : p.len ≡ place + 1

abbrev pub Ends : List Field → ℕ → ℕ → Result Parsed ReadRefusal → Type 0
Ends fs place last result = MatchResult result (IsEnded fs place last) (λ r. (unclosed_fault fs place ≡ Some r) ⊎ (r ≡ refusal.NoMemory))

-- what a reader answers
abbrev pub IsAnswer : List ℕ → Result Parsed ReadRefusal → Type 0
IsAnswer b result = MatchResult result (IsRead b) (λ r. IsFault b r ⊎ (r ≡ refusal.NoMemory))

-- the tokens before a place were judged, and their fields are in the slots
pub record IsReading (b : List ℕ) (place last : ℕ) (slots : List (Option (Bor (List ℕ)))) (left : ℕ) : Type 0 where
  pub done : List Standing
  pub judged : Judged b place done
  pub keeps : Keeps slots left (fields_from done)
  pub last_is : last ≡ last_place done
  pub within : place ≤ length (take message_limit b)
