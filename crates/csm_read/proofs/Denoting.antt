-- What is kept of contents is what they stand for.
use Rattle.std.proofs.Common.{◌≡◌, ◌≢◌, ℕ, ◌<◌, Bool, true, false, List, length, set, Option, Some, None, refl, sym, ◌∙◌, ap, subst, arith, inl, inr, get_or-set_other, get_or-set_same, length-set}
use Rattle.std.specs.Prelude.{◌||◌, option_map, option_and_then, is_some, IsSome, slice_index_or, if◌then◌else◌}
use Rattle.std.specs.Option.{SomeIff}
use Rattle.std.specs.Borrow.{Bor}
use Rattle.x_base.specs.Count.{IsCount}
use Rattle.std.proofs.lemmas.Bool.{cases_Bool, or_parts, eqb-true, eqb-false, true≢false, false≢true}
use Rattle.csm_grammar.specs.declared.tag.Tag.{Tag}
use Rattle.csm_grammar.specs.Tags.{tag_place, same_tag}
use Rattle.csm_grammar.specs.Values.{Value, AText, AName, AService, ANumber, APair, Kind, OfClass, OfIdent, OfService, OfName, OfLabel, OfPair, OfKey, OfCount, OfReason, OfText, OfCode, Unsupported, kind_of, value_of}
use Rattle.csm_grammar.specs.Kinds.{IsOfKind}
use Rattle.csm_grammar.specs.declared.tag.Tag.TheVariants.{Iv, Edk, P}
use Rattle.csm_read.specs.Slotting.{slot_in, second_in, came}
use Rattle.csm_read.specs.Building.{AreExtras}
use Rattle.csm_read.specs.Denoting.{is_number, IsKeptValue, IsDenoted, value_at, second_value, AreDenoted}
use Rattle.csm_grammar.proofs.TagLemmas.{tag_small, same_tags}
use Rattle.csm_read.proofs.SlotLemmas.{slot_set}
use Rattle.csm_grammar.proofs.Typed.{kind_value, OfKindIfAny}

-- the readers

pub number_stands : (o : Option Value) (n : ℕ) → Some (ANumber n) ≡ o → IsKeptValue o n
number_stands o n e = record {
  some = ap is_some (sym e);
  number = λ m h. (let same : Some (ANumber n) ≡ Some (ANumber m) = e ∙ h in cc);
}

-- what a reader of numbers gives
pub number_denoted : (k : Kind) (c : List ℕ) (o : Option ℕ) → option_map ANumber o ≡ value_of k c → IsDenoted k c o
number_denoted k c None e = sym e
number_denoted k c (Some n) e = number_stands (value_of k c) n e

no_number : (k : Kind) (n : ℕ) → is_number k ≡ false → IsOfKind k (ANumber n) → ⊥
no_number OfClass n h k = k
no_number OfIdent n h k = k
no_number OfService n h k = k
no_number OfName n h k = k
no_number OfLabel n h k = k
no_number OfPair n h k = k
no_number OfKey n h k = true≢false h
no_number OfCount n h k = true≢false h
no_number OfReason n h k = k
no_number OfText n h k = k
no_number OfCode n h k = true≢false h
no_number Unsupported n h k = k

-- contents that stand for no number
pub other_stands : (k : Kind) (c : List ℕ) (n : ℕ) → is_number k ≡ false → is_some (value_of k c) ≡ true → IsKeptValue (value_of k c) n
other_stands k c n h e = record {
  some = e;
  number = λ m i. absurd (no_number k m h (subst (OfKindIfAny k) i (kind_value k c)));
}

-- the count of a number
pub count_there : (o : Option ℕ) (n : ℕ) → SomeIff o (IsCount n) n → IsCount n → is_some o ≡ true
count_there None n h k = absurd (h k)
count_there (Some x) n h k = refl

pub count_same : (o : Option ℕ) (n x : ℕ) → SomeIff o (IsCount n) n → o ≡ Some x → x ≡ n
count_same None n x h e = absurd (cc)
count_same (Some y) n x h e = (let same : x ≡ y = cc in same ∙ h.1)

-- what is kept by tag

slot_cleared : (slots : List (Option (Bor (List ℕ)))) (tag : Tag) (t : Tag) → length slots ≡ 28 → slot_in (set slots (tag_place tag) None) t ≡ (if same_tag tag t then None else slot_in slots t)
slot_cleared slots tag t h =
    let small = tag_small tag in
    elim (cases_Bool (same_tag tag t)) [
      | inl e ↦ (let k = eqb-true (tag_place tag) (tag_place t) e in let inside : tag_place t < length slots = omega (arith, k, small) in rw (e, k) (ap (λ (o : Option (Bor (List ℕ))). option_map (λ x. x.now) o) (get_or-set_same slots (tag_place t) None None inside)))
      | inr e ↦ (let k : tag_place t ≢ tag_place tag = λ i. eqb-false (tag_place tag) (tag_place t) e (sym i) in rw e (ap (λ (o : Option (Bor (List ℕ))). option_map (λ x. x.now) o) (get_or-set_other slots (tag_place tag) (tag_place t) None None k)))
    ]

place_set : (numbers : List ℕ) (tag : Tag) (d : ℕ) (t : Tag) → length numbers ≡ 28 → slice_index_or (set numbers (tag_place tag) d) (tag_place t) 0 ≡ (if same_tag tag t then d else slice_index_or numbers (tag_place t) 0)
place_set numbers tag d t h =
    let small = tag_small tag in
    elim (cases_Bool (same_tag tag t)) [
      | inl e ↦ (let k = eqb-true (tag_place tag) (tag_place t) e in let inside : tag_place t < length numbers = omega (arith, k, small) in rw (e, k) (get_or-set_same numbers (tag_place t) d 0 inside))
      | inr e ↦ (let k : tag_place t ≢ tag_place tag = λ i. eqb-false (tag_place tag) (tag_place t) e (sym i) in rw e (get_or-set_other numbers (tag_place tag) (tag_place t) d 0 k))
    ]

-- the place of a second KD is that of no tag
apart : (t : Tag) → 27 ≢ tag_place t
apart t e = let n = tag_small t in omega (arith, n, e)

pub second_kept : (slots : List (Option (Bor (List ℕ)))) (tag : Tag) (o : Option (Bor (List ℕ))) → second_in (set slots (tag_place tag) o) ≡ second_in slots
second_kept slots tag o = ap (λ (x : Option (Bor (List ℕ))). option_map (λ y. y.now) x) (get_or-set_other slots (tag_place tag) 27 o None (apart tag))

pub slot_kept : (slots : List (Option (Bor (List ℕ)))) (o : Option (Bor (List ℕ))) (t : Tag) → slot_in (set slots 27 o) t ≡ slot_in slots t
slot_kept slots o t = ap (λ (x : Option (Bor (List ℕ))). option_map (λ y. y.now) x) (get_or-set_other slots 27 (tag_place t) o None (λ e. apart t (sym e)))

pub second_set : (slots : List (Option (Bor (List ℕ)))) (o : Option (Bor (List ℕ))) → length slots ≡ 28 → second_in (set slots 27 o) ≡ option_map (λ x. x.now) o
second_set slots o h = ap (λ (x : Option (Bor (List ℕ))). option_map (λ y. y.now) x) (get_or-set_same slots 27 o None (omega (arith, h)))

-- one more is kept
pub more_denoted : (slots : List (Option (Bor (List ℕ)))) (numbers : List ℕ) (tag : Tag) (x : Bor (List ℕ)) (d : ℕ) → length slots ≡ 28 → length numbers ≡ 28 → AreDenoted slots numbers
    → IsKeptValue (value_of (kind_of tag) x.now) d → AreDenoted (set slots (tag_place tag) (Some x)) (set numbers (tag_place tag) d)
more_denoted slots numbers tag x d n m all new = record {
  tags = λ t v h. go t v h (same_tag tag t) refl;
  second = λ v h. get_or-set_other numbers (tag_place tag) 27 d 0 (apart tag) ∙ all.second v (ap (option_and_then (value_of OfKey)) (sym (second_kept slots tag (Some x))) ∙ h);
}
  where
    go : (t : Tag) (v : ℕ) → value_at (set slots (tag_place tag) (Some x)) t ≡ Some (ANumber v) → (b : Bool) → same_tag tag t ≡ b → slice_index_or (set numbers (tag_place tag) d) (tag_place t) 0 ≡ v
    go t v h true e =
        let there : slot_in (set slots (tag_place tag) (Some x)) t ≡ Some x.now = slot_set slots tag x t n ∙ rw e refl in
        let value : value_at (set slots (tag_place tag) (Some x)) t ≡ value_of (kind_of t) x.now = ap (option_and_then (value_of (kind_of t))) there in
        let same : value_of (kind_of tag) x.now ≡ Some (ANumber v) = ap (λ (s : Tag). value_of (kind_of s) x.now) (same_tags tag t e) ∙ (sym value ∙ h) in
        place_set numbers tag d t m ∙ (rw e refl ∙ new.number v same)
    go t v h false e =
        let there : slot_in (set slots (tag_place tag) (Some x)) t ≡ slot_in slots t = slot_set slots tag x t n ∙ rw e refl in
        let value : value_at (set slots (tag_place tag) (Some x)) t ≡ value_at slots t = ap (option_and_then (value_of (kind_of t))) there in
        place_set numbers tag d t m ∙ (rw e refl ∙ all.tags t v (sym value ∙ h))

-- where the contents behind a tag are absent, any number may be kept there
pub renumbered : (slots : List (Option (Bor (List ℕ)))) (numbers : List ℕ) (tag : Tag) (d : ℕ) → length slots ≡ 28 → length numbers ≡ 28 → AreDenoted slots numbers → AreDenoted (set slots (tag_place tag) None) (set numbers (tag_place tag) d)
renumbered slots numbers tag d n m all = record {
  tags = λ t v h. go t v h (same_tag tag t) refl;
  second = λ v h. get_or-set_other numbers (tag_place tag) 27 d 0 (apart tag) ∙ all.second v (ap (option_and_then (value_of OfKey)) (sym (second_kept slots tag None)) ∙ h);
}
  where
    go : (t : Tag) (v : ℕ) → value_at (set slots (tag_place tag) None) t ≡ Some (ANumber v) → (b : Bool) → same_tag tag t ≡ b → slice_index_or (set numbers (tag_place tag) d) (tag_place t) 0 ≡ v
    go t v h true e =
        let there : slot_in (set slots (tag_place tag) None) t ≡ None = slot_cleared slots tag t n ∙ rw e refl in
        let value : value_at (set slots (tag_place tag) None) t ≡ None = ap (option_and_then (value_of (kind_of t))) there in
        absurd (let none : None ≡ Some (ANumber v) = sym value ∙ h in cc)
    go t v h false e =
        let there : slot_in (set slots (tag_place tag) None) t ≡ slot_in slots t = slot_cleared slots tag t n ∙ rw e refl in
        let value : value_at (set slots (tag_place tag) None) t ≡ value_at slots t = ap (option_and_then (value_of (kind_of t))) there in
        place_set numbers tag d t m ∙ (rw e refl ∙ all.tags t v (sym value ∙ h))

pub cleared : (slots : List (Option (Bor (List ℕ)))) (numbers : List ℕ) (tag : Tag) → length slots ≡ 28 → AreDenoted slots numbers → AreDenoted (set slots (tag_place tag) None) numbers
cleared slots numbers tag n all = record {
  tags = λ t v h. go t v h (same_tag tag t) refl;
  second = λ v h. all.second v (ap (option_and_then (value_of OfKey)) (sym (second_kept slots tag None)) ∙ h);
}
  where
    go : (t : Tag) (v : ℕ) → value_at (set slots (tag_place tag) None) t ≡ Some (ANumber v) → (b : Bool) → same_tag tag t ≡ b → slice_index_or numbers (tag_place t) 0 ≡ v
    go t v h true e =
        let there : slot_in (set slots (tag_place tag) None) t ≡ None = slot_cleared slots tag t n ∙ rw e refl in
        let value : value_at (set slots (tag_place tag) None) t ≡ None = ap (option_and_then (value_of (kind_of t))) there in
        absurd (let none : None ≡ Some (ANumber v) = sym value ∙ h in cc)
    go t v h false e =
        let there : slot_in (set slots (tag_place tag) None) t ≡ slot_in slots t = slot_cleared slots tag t n ∙ rw e refl in
        let value : value_at (set slots (tag_place tag) None) t ≡ value_at slots t = ap (option_and_then (value_of (kind_of t))) there in
        all.tags t v (sym value ∙ h)

-- the three writes, each at the place of the tag

pub cleared_at : (slots : List (Option (Bor (List ℕ)))) (numbers : List ℕ) (tag : Tag) (p : ℕ) → p ≡ tag_place tag → length slots ≡ 28 → AreDenoted slots numbers → AreDenoted (set slots p None) numbers
cleared_at slots numbers tag p e n all = subst (λ (q : ℕ). AreDenoted (set slots q None) numbers) (sym e) (cleared slots numbers tag n all)

pub renumbered_at : (slots : List (Option (Bor (List ℕ)))) (numbers : List ℕ) (tag : Tag) (d p q : ℕ) → p ≡ tag_place tag → q ≡ tag_place tag → length slots ≡ 28 → length numbers ≡ 28 → AreDenoted slots numbers → AreDenoted (set slots p None) (set numbers q d)
renumbered_at slots numbers tag d p q e f n m all = subst (λ (x : ℕ). AreDenoted (set slots x None) (set numbers q d)) (sym e) (subst (λ (y : ℕ). AreDenoted (set slots (tag_place tag) None) (set numbers y d)) (sym f) (renumbered slots numbers tag d n m all))

pub written_at : (slots : List (Option (Bor (List ℕ)))) (numbers : List ℕ) (tag : Tag) (x : Bor (List ℕ)) (d p q r : ℕ) → p ≡ tag_place tag → q ≡ tag_place tag → r ≡ tag_place tag → length slots ≡ 28 → length numbers ≡ 28 → AreDenoted slots numbers
    → IsKeptValue (value_of (kind_of tag) x.now) d → AreDenoted (set (set slots p None) r (Some x)) (set numbers q d)
written_at slots numbers tag x d p q r e f g n m all new =
    let whole = more_denoted (set slots p None) numbers tag x d (length-set slots p None ∙ n) m (cleared_at slots numbers tag p e n all) new in
    subst (λ (z : ℕ). AreDenoted (set (set slots p None) z (Some x)) (set numbers q d)) (sym g) (subst (λ (y : ℕ). AreDenoted (set (set slots p None) (tag_place tag) (Some x)) (set numbers y d)) (sym f) whole)

pub slot_written : (slots : List (Option (Bor (List ℕ)))) (tag : Tag) (x : Bor (List ℕ)) (t : Tag) (p r : ℕ) → p ≡ tag_place tag → r ≡ tag_place tag → length slots ≡ 28 → slot_in (set (set slots p None) r (Some x)) t ≡ (if same_tag tag t then Some x.now else slot_in slots t)
slot_written slots tag x t p r e g n =
    ap (λ (z : ℕ). slot_in (set (set slots p None) z (Some x)) t) g ∙ (slot_set (set slots p None) tag x t (length-set slots p None ∙ n) ∙ go (same_tag tag t) refl)
  where
    go : (b : Bool) → same_tag tag t ≡ b → (if b then Some x.now else slot_in (set slots p None) t) ≡ (if b then Some x.now else slot_in slots t)
    go true h = refl
    go false h = ap (λ (z : ℕ). slot_in (set slots z None) t) e ∙ (slot_cleared slots tag t n ∙ rw h refl)

pub second_written : (slots : List (Option (Bor (List ℕ)))) (tag : Tag) (x : Bor (List ℕ)) (p r : ℕ) → p ≡ tag_place tag → r ≡ tag_place tag → second_in (set (set slots p None) r (Some x)) ≡ second_in slots
second_written slots tag x p r e g = rw (e, g) (second_kept (set slots (tag_place tag) None) tag (Some x) ∙ second_kept slots tag None)

-- the three writes at the place of a second KD

pub second_cleared : (slots : List (Option (Bor (List ℕ)))) (numbers : List ℕ) → length slots ≡ 28 → AreDenoted slots numbers → AreDenoted (set slots 27 None) numbers
second_cleared slots numbers n all = record {
  tags = λ t v h. all.tags t v (ap (option_and_then (value_of (kind_of t))) (sym (slot_kept slots None t)) ∙ h);
  second = λ v h. absurd (let none : None ≡ Some (ANumber v) = sym (ap (option_and_then (value_of OfKey)) (second_set slots None n)) ∙ h in cc);
}

pub second_renumbered : (slots : List (Option (Bor (List ℕ)))) (numbers : List ℕ) (d : ℕ) → length slots ≡ 28 → AreDenoted slots numbers → AreDenoted (set slots 27 None) (set numbers 27 d)
second_renumbered slots numbers d n all = record {
  tags = λ t v h. get_or-set_other numbers 27 (tag_place t) d 0 (λ e. apart t (sym e)) ∙ all.tags t v (ap (option_and_then (value_of (kind_of t))) (sym (slot_kept slots None t)) ∙ h);
  second = λ v h. absurd (let none : None ≡ Some (ANumber v) = sym (ap (option_and_then (value_of OfKey)) (second_set slots None n)) ∙ h in cc);
}

pub second_denoted : (slots : List (Option (Bor (List ℕ)))) (numbers : List ℕ) (x : Bor (List ℕ)) (d : ℕ) → length slots ≡ 28 → length numbers ≡ 28 → AreDenoted slots numbers → IsKeptValue (value_of OfKey x.now) d
    → AreDenoted (set (set slots 27 None) 27 (Some x)) (set numbers 27 d)
second_denoted slots numbers x d n m all new = record {
  tags = λ t v h. get_or-set_other numbers 27 (tag_place t) d 0 (λ e. apart t (sym e)) ∙ all.tags t v (ap (option_and_then (value_of (kind_of t))) (sym (slot_kept (set slots 27 None) (Some x) t ∙ slot_kept slots None t)) ∙ h);
  second = λ v h. get_or-set_same numbers 27 d 0 (omega (arith, m)) ∙ new.number v (sym (ap (option_and_then (value_of OfKey)) (second_set (set slots 27 None) (Some x) (length-set slots 27 None ∙ n))) ∙ h);
}

-- what is kept where a value is there

of_kind : (slots : List (Option (Bor (List ℕ)))) (t : Tag) → OfKindIfAny (kind_of t) (value_at slots t)
of_kind slots t = go (slot_in slots t)
  where
    go : (o : Option (List ℕ)) → OfKindIfAny (kind_of t) (option_and_then (value_of (kind_of t)) o)
    go None = tt
    go (Some c) = kind_value (kind_of t) c

a_number : (k : Kind) (v : Value) → is_number k ≡ true → IsOfKind k v → (n : ℕ) × (v ≡ ANumber n)
a_number OfKey (ANumber n) h k = (n, refl)
a_number OfCount (ANumber n) h k = (n, refl)
a_number OfCode (ANumber n) h k = (n, refl)
a_number OfKey (AText b) h k = absurd k
a_number OfKey (AName b) h k = absurd k
a_number OfKey (AService b) h k = absurd k
a_number OfKey (APair a b) h k = absurd k
a_number OfCount (AText b) h k = absurd k
a_number OfCount (AName b) h k = absurd k
a_number OfCount (AService b) h k = absurd k
a_number OfCount (APair a b) h k = absurd k
a_number OfCode (AText b) h k = absurd k
a_number OfCode (AName b) h k = absurd k
a_number OfCode (AService b) h k = absurd k
a_number OfCode (APair a b) h k = absurd k
a_number OfClass v h k = absurd (true≢false (sym h))
a_number OfIdent v h k = absurd (true≢false (sym h))
a_number OfService v h k = absurd (true≢false (sym h))
a_number OfName v h k = absurd (true≢false (sym h))
a_number OfLabel v h k = absurd (true≢false (sym h))
a_number OfPair v h k = absurd (true≢false (sym h))
a_number OfReason v h k = absurd (true≢false (sym h))
a_number OfText v h k = absurd (true≢false (sym h))
a_number Unsupported v h k = absurd (true≢false (sym h))

-- the number of a second key
pub second_value_kept : (slots : List (Option (Bor (List ℕ)))) (numbers : List ℕ) → AreDenoted slots numbers → IsSome (second_value slots) → (n : ℕ) → n ≡ slice_index_or numbers 27 0 → second_value slots ≡ Some (ANumber n)
second_value_kept slots numbers all there n e = go (second_in slots) refl there where
  go : (o : Option (List ℕ)) → second_in slots ≡ o → IsSome (option_and_then (value_of OfKey) o) → second_value slots ≡ Some (ANumber n)
  go None i h = absurd (false≢true h)
  go (Some c) i h = of (value_of OfKey c) refl h (kind_value OfKey c) where
    of : (w : Option Value) → value_of OfKey c ≡ w → IsSome w → OfKindIfAny OfKey w → second_value slots ≡ Some (ANumber n)
    of None j k l = absurd (false≢true k)
    of (Some v) j k l =
        let a = a_number OfKey v refl l in
        let at : second_value slots ≡ Some (ANumber a.0) = ap (option_and_then (value_of OfKey)) i ∙ j ∙ ap (λ (x : Value). Some x) a.1 in
        at ∙ ap (λ (m : ℕ). Some (ANumber m)) (sym (e ∙ all.second a.0 at))

module _ (slots : List (Option (Bor (List ℕ)))) (numbers : List ℕ) (all : AreDenoted slots numbers) (t : Tag) (there : IsSome (value_at slots t)) where
  abbrev kept : ℕ
  kept = slice_index_or numbers (tag_place t) 0

  number_kept : is_number (kind_of t) ≡ true → value_at slots t ≡ Some (ANumber kept)
  number_kept h = go (value_at slots t) refl there (of_kind slots t)
    where
      go : (o : Option Value) → value_at slots t ≡ o → IsSome o → OfKindIfAny (kind_of t) o → value_at slots t ≡ Some (ANumber kept)
      go None e i k = absurd (false≢true i)
      go (Some v) e i k =
          let a = a_number (kind_of t) v h k in
          let at : value_at slots t ≡ Some (ANumber a.0) = e ∙ ap (λ (w : Value). Some w) a.1 in
          at ∙ ap (λ (n : ℕ). Some (ANumber n)) (sym (all.tags t a.0 at))

  number_of_kind : is_number (kind_of t) ≡ true → IsOfKind (kind_of t) (ANumber kept)
  number_of_kind h = subst (OfKindIfAny (kind_of t)) (number_kept h) (of_kind slots t)

  -- under the tag of a key, a count or a code
  pub value_kept : (k : Kind) → is_number k ≡ true → kind_of t ≡ k → (n : ℕ) → n ≡ kept → value_at slots t ≡ Some (ANumber n)
  value_kept k i h n e = number_kept (ap is_number h ∙ i) ∙ ap (λ (m : ℕ). Some (ANumber m)) (sym e)

  pub is_of_kind : (k : Kind) → is_number k ≡ true → kind_of t ≡ k → IsOfKind k (ANumber kept)
  is_of_kind k i h = subst (λ (x : Kind). IsOfKind x (ANumber kept)) h (number_of_kind (ap is_number h ∙ i))

no_value : (slots : List (Option (Bor (List ℕ)))) (t : Tag) → came slots t ≡ false → None ≡ value_at slots t
no_value slots t h = go (slot_in slots t) h
  where
    go : (o : Option (List ℕ)) → is_some o ≡ false → None ≡ option_and_then (value_of (kind_of t)) o
    go None i = refl
    go (Some c) i = absurd (true≢false i)

pub no_extras : (slots : List (Option (Bor (List ℕ)))) (b : Bool) → b ≡ (came slots Iv || (came slots Edk || came slots P)) → b ≡ false → AreExtras slots (record { iv = None; edk = None; p = None })
no_extras slots b e h =
    let none : (came slots Iv || (came slots Edk || came slots P)) ≡ false = sym e ∙ h in
    let first = or_parts (came slots Iv) (came slots Edk || came slots P) none in
    let second = or_parts (came slots Edk) (came slots P) first.1 in
    record { iv = no_value slots Iv first.0; edk = no_value slots Edk second.0; p = no_value slots P second.1 }
