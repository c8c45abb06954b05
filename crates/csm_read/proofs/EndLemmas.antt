-- The answer at the end of a message.
use Rattle.std.proofs.Common.{◌≡◌, ℕ, ◌+◌, ◌≤◌, Bool, true, false, List, [], ◌∷◌, ◌++◌, length, map, Option, Some, None, refl, sym, ◌∙◌, ap, subst, arith, inl, inr}
use Rattle.std.specs.Prelude.{◌&&◌, ◌||◌, ◌⊎◌, IsSome, is_some, is_none, unwrap_or, slice_get, option_to_list, option_and_then, if◌then◌else◌}
use Rattle.std.specs.List.{filter, find, list_all, list_any}
use Rattle.std.specs.Borrow.{Bor}
use Rattle.std.proofs.lemmas.Bool.{cases_Bool, and_parts, leb-true}
use Rattle.std.proofs.lemmas.List.{append-nil, nil_from_length}
use Rattle.csm_grammar.specs.declared.tag.Tag.{Tag}
use Rattle.csm_grammar.specs.declared.tag.Tag.TheVariants.{Mcl, Kd, Mac, Edc}
use Rattle.csm_grammar.specs.declared.form.Form.{Form}
use Rattle.csm_grammar.specs.declared.form.Form.TheVariants.{F1, F2, F3, F4, F5, F6, F7, F8, F9, F10, F11, F12, F13}
use Rattle.csm_grammar.specs.declared.form.Need.{Need}
use Rattle.csm_grammar.specs.declared.form.Need.TheVariants.{Required}
use Rattle.csm_grammar.specs.declared.message.Message.{Message}
use Rattle.csm_grammar.specs.declared.parsed.Shut.{Shut}
use Rattle.csm_grammar.specs.declared.parsed.Shut.TheVariants as shuts
use Rattle.csm_grammar.specs.declared.refusal.ReadRefusal.TheVariants as refusal
use Rattle.csm_grammar.specs.Tags.{same_tag, has_tag, count_tag, is_closing}
use Rattle.csm_grammar.specs.Classes.{forms, class_text, required, need_of, times}
use Rattle.csm_grammar.specs.Values.{Value, AText, ANumber, OfKey, kind_of, value_of}
use Rattle.csm_grammar.specs.Spelling.{Field, tags_in, ComesAs, AreOfForm, values_in}
use Rattle.csm_read.specs.Faults.{forms_left, absent, missing_of, unclosed_fault}
use Rattle.csm_read.specs.Judging.{form_left}
use Rattle.csm_grammar.specs.FormSets.{has_form}
use Rattle.csm_read.specs.Slotting.{slot_in, second_in, came, Keeps, absent_by, missing_by}
use Rattle.csm_grammar.specs.Classes.{code_tag}
use Rattle.csm_read.specs.Building.{ArePresent, IsSecondPresent, AreReady, IsBuilt, AreClosed, AreSound, IsCodeIn, IsEnded}
use Rattle.csm_read.specs.Denoting.{value_at, second_value}
use Rattle.csm_grammar.proofs.Slots.{count_values}
use Rattle.csm_grammar.proofs.SetLemmas.{find_first}
use Rattle.csm_read.proofs.SlotLemmas.{came_has, absent_same, closed_has}
use Rattle.csm_read.proofs.BuiltMessages.{values_behind, known_behind, kept_count}
use Rattle.csm_grammar.proofs.Counting.{absent_count, present_from_count, required_times, twice_required}

find_filtered : (p q : Form → Bool) (fs : List Form) → find q (filter p fs) ≡ find (λ f. p f && q f) fs
find_filtered p q [] = refl
find_filtered p q (f ∷ fs) = elim (cases_Bool (p f)) [
  | inl h ↦ rw h (ap (λ (o : Option Form). if q f then Some f else o) (find_filtered p q fs))
  | inr h ↦ rw h (find_filtered p q fs)
]

find_same : (p q : Form → Bool) (fs : List Form) → ((f : Form) → p f ≡ q f) → find p fs ≡ find q fs
find_same p q [] h = refl
find_same p q (f ∷ fs) h = rw (h f, find_same p q fs h) refl

missing_is : (f : Form) (fs : List Form) (ts : List Tag) → missing_of (f ∷ fs) ts ≡ unwrap_or (absent f ts) (code_tag f)
missing_is F1 fs ts = refl
missing_is F2 fs ts = refl
missing_is F3 fs ts = refl
missing_is F4 fs ts = refl
missing_is F5 fs ts = refl
missing_is F6 fs ts = refl
missing_is F7 fs ts = refl
missing_is F8 fs ts = refl
missing_is F13 fs ts = refl
missing_is F9 fs ts = refl
missing_is F10 fs ts = refl
missing_is F11 fs ts = refl
missing_is F12 fs ts = refl

missing_first : (slots : List (Option (Bor (List ℕ)))) (left : ℕ) (fs : List Field) (gs : List Form) → Keeps slots left fs → missing_by slots (slice_get gs 0) ≡ missing_of gs (tags_in fs)
missing_first slots left fs [] k = refl
missing_first slots left fs (g ∷ gs) k = ap (λ (o : Option Tag). unwrap_or o (code_tag g)) (absent_same slots left fs g k) ∙ sym (missing_is g gs (tags_in fs))

pub missing_same : (slots : List (Option (Bor (List ℕ)))) (left : ℕ) (fs : List Field) → Keeps slots left fs → missing_by slots (find (has_form left) forms) ≡ missing_of (forms_left fs (tags_in fs)) (tags_in fs)
missing_same slots left fs k =
    ap (missing_by slots) (find_first (has_form left) forms ∙ ap (λ (gs : List Form). slice_get gs 0) k.forms)
    ∙ missing_first slots left fs (forms_left fs (tags_in fs)) k

-- the form that is chosen
pub chosen_form : (slots : List (Option (Bor (List ℕ)))) (left : ℕ) (fs : List Field) → Keeps slots left fs → find (λ f. has_form left f && is_none (absent_by slots f)) forms ≡ form_left fs
chosen_form slots left fs k =
    sym (find_filtered (has_form left) (λ f. is_none (absent_by slots f)) forms)
    ∙ ap (find (λ f. is_none (absent_by slots f))) k.forms
    ∙ find_same (λ f. is_none (absent_by slots f)) (λ f. is_none (absent f (tags_in fs))) (forms_left fs (tags_in fs)) (λ f. ap is_none (absent_same slots left fs f k))

pub open_fault : (slots : List (Option (Bor (List ℕ)))) (left : ℕ) (fs : List Field) (place : ℕ) (b : Bool) (t : Tag) → Keeps slots left fs → b ≡ (came slots Mac || came slots Edc) → b ≡ false → t ≡ missing_of (forms_left fs (tags_in fs)) (tags_in fs) → unclosed_fault fs place ≡ Some (refusal.Missing t place)
open_fault slots left fs place b t k h e m =
    let c : list_any is_closing (tags_in fs) ≡ false = sym (closed_has slots left fs k) ∙ sym h ∙ e in
    rw (c, m) refl

closes : (slots : List (Option (Bor (List ℕ)))) (left : ℕ) (fs : List Field) (b : Bool) → Keeps slots left fs → b ≡ (came slots Mac || came slots Edc) → b ≡ true → list_any is_closing (tags_in fs) ≡ true
closes slots left fs b k h e = sym (closed_has slots left fs k) ∙ sym h ∙ e

known_slot : (slots : List (Option (Bor (List ℕ)))) (left : ℕ) (fs : List Field) (t : Tag) → Keeps slots left fs → list_all (λ f. is_some (value_of (kind_of f.tag) f.contents)) fs ≡ true → came slots t ≡ true → IsSome (value_at slots t)
known_slot slots left fs t k h e = go (slot_in slots t) refl e where
  go : (o : Option (List ℕ)) → slot_in slots t ≡ o → is_some o ≡ true → IsSome (option_and_then (value_of (kind_of t)) o)
  go None i j = absurd cc
  go (Some c) i j = (known_behind t fs c (if same_tag t Kd then option_to_list (second_in slots) else []) h (k.contents t ∙ ap (λ (o : Option (List ℕ)). option_to_list o ++ (if same_tag t Kd then option_to_list (second_in slots) else [])) i)).0

-- both keys came, and each has a value
known_second : (slots : List (Option (Bor (List ℕ)))) (left : ℕ) (fs : List Field) → Keeps slots left fs → list_all (λ f. is_some (value_of (kind_of f.tag) f.contents)) fs ≡ true → 2 ≤ count_tag Kd (tags_in fs) → IsSome (second_value slots)
known_second slots left fs k h n = go (slot_in slots Kd) (second_in slots) (k.contents Kd) (kept_count slots fs Kd (k.contents Kd)) where
  go : (x : Option (List ℕ)) (y : Option (List ℕ)) → map (λ f. f.contents) (filter (λ f. same_tag f.tag Kd) fs) ≡ option_to_list x ++ option_to_list y → length (option_to_list x ++ option_to_list y) ≡ count_tag Kd (tags_in fs) → IsSome (option_and_then (value_of OfKey) y)
  go None None e l = absurd (omega (arith, l, n))
  go None (Some b) e l = absurd (omega (arith, l, n))
  go (Some a) None e l = absurd (omega (arith, l, n))
  go (Some a) (Some b) e l = (and_parts _ _ (known_behind Kd fs a (b ∷ []) h e).1).0

came_some : (slots : List (Option (Bor (List ℕ)))) (left : ℕ) (fs : List Field) (t : Tag) → Keeps slots left fs → 1 ≤ count_tag t (tags_in fs) → came slots t ≡ true
came_some slots left fs t k h = came_has slots left fs t k ∙ present_from_count t (tags_in fs) h

-- the closed fields, of whichever form was chosen
module _ (slots : List (Option (Bor (List ℕ)))) (left : ℕ) (fs : List Field) (s : AreSound slots left fs) (b : Bool) (h : b ≡ (came slots Mac || came slots Edc)) (e : b ≡ true) where
  closed : AreClosed fs
  closed = s.closed (closes slots left fs b s.keeps h e)

  pub some_form : (o : Option Form) → o ≡ find (λ f. has_form left f && is_none (absent_by slots f)) forms → IsSome o
  some_form o i = ap is_some (i ∙ chosen_form slots left fs s.keeps ∙ closed.left)

  same_form : (o : Option Form) (g : Form) → o ≡ find (λ f. has_form left f && is_none (absent_by slots f)) forms → o ≡ Some g → closed.form ≡ g
  same_form o g i j = let z : Some closed.form ≡ Some g = sym closed.left ∙ sym (chosen_form slots left fs s.keeps) ∙ sym i ∙ j in cc

  of_form : (o : Option Form) (g : Form) → o ≡ find (λ f. has_form left f && is_none (absent_by slots f)) forms → o ≡ Some g → AreOfForm g fs
  of_form o g i j = subst (λ (x : Form). AreOfForm x fs) (same_form o g i j) closed.tags

  required_count : (o : Option Form) (g : Form) → o ≡ find (λ f. has_form left f && is_none (absent_by slots f)) forms → o ≡ Some g → (t : Tag) → has_tag t (Mcl ∷ required g) ≡ true → count_tag t (tags_in fs) ≡ times g t
  required_count o g i j t r = let n : need_of g t ≡ Required = rw r refl in subst (λ (k : Need). ComesAs k (times g t) (count_tag t (tags_in fs))) n (of_form o g i j t)

  pub present : (o : Option Form) (g : Form) → o ≡ find (λ f. has_form left f && is_none (absent_by slots f)) forms → o ≡ Some g → ArePresent slots g
  present o g i j = λ t r.
      let n = required_count o g i j t r in
      let m = required_times g t r in
      known_slot slots left fs t s.keeps closed.known (came_some slots left fs t s.keeps (omega (arith, n, m)))

  pub second_present : (o : Option Form) (g : Form) → o ≡ find (λ f. has_form left f && is_none (absent_by slots f)) forms → o ≡ Some g → IsSecondPresent slots g
  second_present o g i j = λ r.
      let n = required_count o g i j Kd (twice_required g Kd r) in
      let m = leb-true 2 (times g Kd) r in
      known_second slots left fs s.keeps closed.known (omega (arith, n, m))

  pub some_mac : came slots Mac ≡ true → IsSome (value_at slots Mac)
  some_mac i = known_slot slots left fs Mac s.keeps closed.known i

  pub some_edc : came slots Mac ≡ false → IsSome (value_at slots Edc)
  some_edc i = known_slot slots left fs Edc s.keeps closed.known (let z : (false || came slots Edc) ≡ true = subst (λ (x : Bool). (x || came slots Edc) ≡ true) i (sym h ∙ e) in z)

  pub closed_fault : (place : ℕ) → unclosed_fault fs place ≡ None
  closed_fault place = rw (closes slots left fs b s.keeps h e) refl

  value_behind : (t : Tag) (v : Value) → same_tag t Kd ≡ false → value_at slots t ≡ Some v → values_in t fs ≡ Some v ∷ []
  value_behind t v other i = values_behind t fs ∙ ap (map (value_of (kind_of t))) (s.keeps.contents t ∙ rw other (append-nil _)) ∙ go (slot_in slots t) i where
    go : (o : Option (List ℕ)) → option_and_then (value_of (kind_of t)) o ≡ Some v → map (value_of (kind_of t)) (option_to_list o) ≡ Some v ∷ []
    go None j = absurd cc
    go (Some c) j = λ x. j x ∷ []

  none_behind : (t : Tag) → came slots t ≡ false → values_in t fs ≡ []
  none_behind t i = nil_from_length _ (count_values t fs ∙ absent_count t (tags_in fs) (sym (came_has slots left fs t s.keeps) ∙ i))

  only_mac : (n : ℕ) → value_at slots Mac ≡ Some (ANumber n) → values_in Edc fs ≡ []
  only_mac n i = go closed.code where
    one : length (values_in Mac fs) ≡ 1
    one = ap length (value_behind Mac (ANumber n) refl i)

    go : ((count_tag Mac (tags_in fs) ≡ 1) × (count_tag Edc (tags_in fs) ≡ 0)) ⊎ ((count_tag Mac (tags_in fs) ≡ 0) × (count_tag Edc (tags_in fs) ≡ 1)) → values_in Edc fs ≡ []
    go (inl k) = nil_from_length _ (count_values Edc fs ∙ k.1)
    go (inr k) = absurd (let z = count_values Mac fs in let a = k.0 in omega (arith, z, a, one))

  ready : (o : Option Form) (g : Form) (shut : Shut) → o ≡ find (λ f. has_form left f && is_none (absent_by slots f)) forms → o ≡ Some g → IsCodeIn slots shut → AreReady slots g fs shut
  ready o g (shuts.Mac n) i j k = record {
    contents = s.keeps.contents;
    second = s.keeps.second;
    tags = of_form o g i j;
    known = closed.known;
    class = subst (λ (x : Form). values_in Mcl fs ≡ map Some (AText (class_text x) ∷ [])) (same_form o g i j) closed.class;
    mac = value_behind Mac (ANumber n) refl k;
    edc = only_mac n k;
  }
  ready o g (shuts.Edc n) i j k = record {
    contents = s.keeps.contents;
    second = s.keeps.second;
    tags = of_form o g i j;
    known = closed.known;
    class = subst (λ (x : Form). values_in Mcl fs ≡ map Some (AText (class_text x) ∷ [])) (same_form o g i j) closed.class;
    mac = none_behind Mac k.0;
    edc = value_behind Edc (ANumber n) refl k.1;
  }

  pub ended : (o : Option Form) (g : Form) (m : Message) (shut : Shut) (place last : ℕ) → o ≡ find (λ f. has_form left f && is_none (absent_by slots f)) forms → o ≡ Some g → IsBuilt slots g m → IsCodeIn slots shut → IsEnded fs place last (record { message = m; shut = shut; auth_len = last; len = place + 1 })
  ended o g m shut place last i j k n = record {
    faultless = closed_fault place;
    form = subst (λ (x : Form). AreOfForm x fs) (sym k.form_is) (of_form o g i j);
    stands = k.stands fs shut (ready o g shut i j n);
    auth_len = refl;
    len = refl;
  }
