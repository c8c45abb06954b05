-- Which units of a text give which reasons.
use Rattle.std.proofs.Common.{◌≡◌, ℕ, ◌+◌, ◌≤◌, ◌<◌, Bool, true, false, cond, List, [], ◌∷◌, ◌++◌, length, Option, Some, None, refl, sym, ◌∙◌, ap, subst, inl, inr}
use Rattle.std.specs.Prelude.{◌⊎◌, ◌==◌, ◌&&◌, ◌||◌, not, is_none, option_map, option_to_list, codes}
use Rattle.std.specs.List.{list_any}
use Rattle.std.proofs.lemmas.Bool.{lt-ltb, le-ltb, cases_lt, false≢true}
use Rattle.csm_grammar.specs.declared.tag.Tag.{Tag}
use Rattle.csm_grammar.specs.declared.tag.Tag.TheVariants.{Mcl}
use Rattle.csm_grammar.specs.declared.refusal.ReadRefusal.{ReadRefusal}
use Rattle.csm_grammar.specs.declared.refusal.ReadRefusal.TheVariants as refusal
use Rattle.csm_grammar.specs.Tags.{tag_name, same_tag, is_closing, is_unsupported}
use Rattle.csm_grammar.specs.Values.{kind_of, value_of}
use Rattle.csm_grammar.specs.Spelling.{Field, tags_in}
use Rattle.csm_read.specs.Units.{Standing, end_place, stretches_of, units_of}
use Rattle.csm_read.specs.Faults.{refuse, or_else, is_repeated, differs, front_fault, is_tagged, lacking, forms_left, field_of, fault_of, fault_of_field, fields_from, first_fault, missing_of, unclosed_fault, endless_fault, end_fault, fault_of_text}
use Rattle.csm_read.specs.Laws.{EndsAs}
use Rattle.csm_read.proofs.Passing.{no_fault, fault_more}

-- the reasons that no front, token or `)` gives
is_last : ReadRefusal → Bool
is_last (refusal.TooLong n) = true
is_last (refusal.Unended n) = true
is_last refusal.NoMemory = true
is_last r = false

-- what gives no such reason
GivesOther : Option ReadRefusal → Type 0
GivesOther o = (r : ReadRefusal) → o ≡ Some r → is_last r ≡ false

other_none : GivesOther None
unfolding GivesOther
other_none r h = absurd cc

other_some : (s : ReadRefusal) → is_last s ≡ false → GivesOther (Some s)
unfolding GivesOther
other_some s k r h = subst (λ (x : ReadRefusal). is_last x ≡ false) (let e : s ≡ r = cc in e) k

other_refuse : (b : Bool) (s : ReadRefusal) (o : Option ReadRefusal) → is_last s ≡ false → GivesOther o → GivesOther (refuse b s o)
other_refuse true s o k h = other_some s k
other_refuse false s o k h = h

other_or_else : (o p : Option ReadRefusal) → GivesOther o → GivesOther p → GivesOther (or_else o p)
other_or_else None p h k = k
other_or_else (Some s) p h k = h

front_other : (place : ℕ) (bs ws : List ℕ) → GivesOther (differs place bs ws)
unfolding is_last
front_other place [] ws = other_none
front_other place (b ∷ bs) [] = other_none
front_other place (b ∷ bs) (w ∷ ws) = go (b == w) (front_other (place + 1) bs ws) where
  go : (c : Bool) → GivesOther (differs (place + 1) bs ws) → GivesOther (cond c (differs (place + 1) bs ws) (Some (refusal.NotCsm place)))
  go true h = h
  go false h = other_some (refusal.NotCsm place) refl

front_gives : (b : List ℕ) → GivesOther (front_fault b)
unfolding is_last
front_gives [] = other_some (refusal.NotCsm 0) refl
front_gives (b ∷ bs) = front_other 0 (b ∷ bs) (codes "CSM(")

lacking_gives : (c : Bool) (t : Option Tag) (place : ℕ) → GivesOther (cond c (option_map (λ t. refusal.Missing t place) t) None)
unfolding is_last
lacking_gives false t place = other_none
lacking_gives true None place = other_none
lacking_gives true (Some t) place = other_some (refusal.Missing t place) refl

field_gives : (before : List Field) (place : ℕ) (f : Field) → GivesOther (fault_of_field before place f)
unfolding is_last
field_gives before place f =
    other_refuse (is_unsupported f.tag) (refusal.Unsupported f.tag place) _ refl
    (other_refuse ((length before == 0) && not (same_tag f.tag Mcl)) (refusal.Missing Mcl place) _ refl
    (other_refuse (is_repeated before f.tag) (refusal.Repeated f.tag place) _ refl
    (other_refuse (list_any is_closing (tags_in before) || (length (forms_left before (f.tag ∷ tags_in before)) == 0)) (refusal.Unwanted f.tag place) _ refl
    (other_or_else _ _ (lacking_gives (is_closing f.tag) (lacking (forms_left before (f.tag ∷ tags_in before)) (tags_in before)) place)
    (other_refuse (is_none (value_of (kind_of f.tag) f.contents)) (refusal.BadContents f.tag (place + (length (tag_name f.tag) + 1))) None refl other_none)))))

token_gives : (before : List Field) (u : Standing) → GivesOther (fault_of before u)
unfolding is_last
token_gives before u = other_refuse (not (is_tagged u.text)) (refusal.BadTag u.place) _ refl (go (field_of u)) where
  known : Option Field → Option ReadRefusal
  known None = Some (refusal.UnknownTag u.place)
  known (Some f) = fault_of_field before u.place f

  go : (o : Option Field) → GivesOther (known o)
  go None = other_some (refusal.UnknownTag u.place) refl
  go (Some f) = field_gives before u.place f

tokens_give : (before : List Field) (us : List Standing) → GivesOther (first_fault before us)
tokens_give before [] = subst GivesOther (sym (no_fault before)) other_none
tokens_give before (u ∷ us) = subst GivesOther (sym (fault_more before u us)) (other_or_else _ _ (token_gives before u) (tokens_give (before ++ option_to_list (field_of u)) us))

end_gives : (before : List Field) (place : ℕ) → GivesOther (unclosed_fault before place)
unfolding is_last
end_gives before place = other_refuse (not (list_any is_closing (tags_in before))) (refusal.Missing (missing_of (forms_left before (tags_in before)) (tags_in before)) place) None refl other_none

-- a last reason is that of the end
last_end : (place : Option ℕ) (fs : List Field) (n : ℕ) (r : ReadRefusal) → end_fault place fs n ≡ Some r → is_last r ≡ true → r ≡ endless_fault n
unfolding GivesOther
last_end None fs n r h k = cc
last_end (Some at) fs n r h k = absurd (false≢true (sym (end_gives fs at r h) ∙ k))

last_or_else : (o p : Option ReadRefusal) (r : ReadRefusal) → GivesOther o → or_else o p ≡ Some r → is_last r ≡ true → p ≡ Some r
unfolding GivesOther
last_or_else None p r g h k = h
last_or_else (Some s) p r g h k = absurd (false≢true (sym (g r h) ∙ k))

last_is : (b : List ℕ) (r : ReadRefusal) → fault_of_text b ≡ Some r → is_last r ≡ true → r ≡ endless_fault (length b)
unfolding fault_of_text
last_is b r h k =
    let t = last_or_else (front_fault b) _ r (front_gives b) h k in
    let e = last_or_else (first_fault [] (units_of b)) _ r (tokens_give [] (units_of b)) t k in
    last_end (end_place (stretches_of b)) (fields_from (units_of b)) (length b) r e k

too_long : (n : ℕ) → 1024 < n → endless_fault n ≡ refusal.TooLong 1024
too_long n h = rw (lt-ltb 1024 n h) refl

unended : (n : ℕ) → n ≤ 1024 → endless_fault n ≡ refusal.Unended n
unended n h = rw (le-ltb 1024 n h) refl

pub ends_as : (b : List ℕ) (r : ReadRefusal) → fault_of_text b ≡ Some r → EndsAs b r
unfolding is_last
ends_as b r h = record { memory = λ e. no_memory (at e refl) (cases_lt 1024 (length b)); long = λ n e. long n (at e refl) (cases_lt 1024 (length b)); unended = λ n e. short n (at e refl) (cases_lt 1024 (length b)) } where
  at : {s : ReadRefusal} → r ≡ s → is_last s ≡ true → s ≡ endless_fault (length b)
  at e k = subst (λ (x : ReadRefusal). x ≡ endless_fault (length b)) e (last_is b r h (ap is_last e ∙ k))

  no_memory : refusal.NoMemory ≡ endless_fault (length b) → (1024 < length b) ⊎ (length b ≤ 1024) → ⊥
  no_memory e (inl l) = let k : refusal.NoMemory ≡ refusal.TooLong 1024 = e ∙ too_long (length b) l in cc
  no_memory e (inr l) = let k : refusal.NoMemory ≡ refusal.Unended (length b) = e ∙ unended (length b) l in cc

  long : (n : ℕ) → refusal.TooLong n ≡ endless_fault (length b) → (1024 < length b) ⊎ (length b ≤ 1024) → (n ≡ 1024) × (1024 < length b)
  long n e (inl l) = (let k : refusal.TooLong n ≡ refusal.TooLong 1024 = e ∙ too_long (length b) l in cc, l)
  long n e (inr l) = let k : refusal.TooLong n ≡ refusal.Unended (length b) = e ∙ unended (length b) l in absurd cc

  short : (n : ℕ) → refusal.Unended n ≡ endless_fault (length b) → (1024 < length b) ⊎ (length b ≤ 1024) → (n ≡ length b) × (length b ≤ 1024)
  short n e (inl l) = let k : refusal.Unended n ≡ refusal.TooLong 1024 = e ∙ too_long (length b) l in absurd cc
  short n e (inr l) = (let k : refusal.Unended n ≡ refusal.Unended (length b) = e ∙ unended (length b) l in cc, l)

none_before : (o p : Option ReadRefusal) (r : ReadRefusal) → GivesOther o → or_else o p ≡ Some r → is_last r ≡ true → (o ≡ None) × (p ≡ Some r)
unfolding GivesOther
none_before None p r g h k = (refl, h)
none_before (Some s) p r g h k = absurd (false≢true (sym (g r h) ∙ k))

open_end : (place : Option ℕ) (fs : List Field) (n : ℕ) (r : ReadRefusal) → end_fault place fs n ≡ Some r → is_last r ≡ true → place ≡ None
unfolding GivesOther
open_end None fs n r h k = refl
open_end (Some at) fs n r h k = absurd (false≢true (sym (end_gives fs at r h) ∙ k))

-- the parts of a text that only doesn't end
pub record Open (b : List ℕ) : Type 0 where
  pub front : front_fault b ≡ None
  pub tokens : first_fault [] (units_of b) ≡ None
  pub never_closed : end_place (stretches_of b) ≡ None

last_parts : (b : List ℕ) (r : ReadRefusal) → fault_of_text b ≡ Some r → is_last r ≡ true → Open b
unfolding fault_of_text
last_parts b r h k =
    let f = none_before (front_fault b) _ r (front_gives b) h k in
    let t = none_before (first_fault [] (units_of b)) _ r (tokens_give [] (units_of b)) f.1 k in
    record { front = f.0; tokens = t.0; never_closed = open_end (end_place (stretches_of b)) (fields_from (units_of b)) (length b) r t.1 k }

pub unended_parts : (b : List ℕ) (n : ℕ) → fault_of_text b ≡ Some (refusal.Unended n) → Open b
unfolding is_last
unended_parts b n h = last_parts b (refusal.Unended n) h refl
