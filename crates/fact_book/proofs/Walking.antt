-- From the last fact of a name to the one before it, and so on.
use Rattle.std.proofs.Common.{arith, ◌≡◌, ◌≤◌, ◌<◌, ℕ, zero, suc, true, false, ◌||◌, Option, Some, None, List, [], ◌∷◌, length, take, slice_get, refl, sym, ◌∙◌, ap, bytes_eq, Decides}
use Rattle.std.specs.Prelude.{option_map}
use Rattle.std.proofs.lemmas.Bool.Decides.{Decides-and, Decides-like}
use Rattle.std.proofs.lemmas.List.{take_all, take-take}
use Rattle.x_base.specs.declared.key_name.FullName.{FullName}
use Rattle.party_tables.proofs.Keys.{test_idents, test_names}
use Rattle.fact_book.specs.declared.entry.Entry.{Entry}
use Rattle.fact_book.specs.Facts.{NamedText, same_full_name, has_named}
use Rattle.fact_book.specs.Book.{latest_of, facts_of, is_this_text, Reaches}
use Rattle.fact_book.proofs.Found.{Last, none_named, last_named}

decides_full : (a b : FullName) → Decides (same_full_name a b) (a ≡ b)
decides_full a b = Decides-like (same_full_name a b) (λ h i. record { name = h.0 i; recipient = h.1 i }) (λ h. (ap (λ (u : FullName). u.name) h, ap (λ (u : FullName). u.recipient) h)) (Decides-and _ _ (test_names.decides a.name b.name) (test_idents.decides a.recipient b.recipient))

abbrev fact_with : Entry → List ℕ → NamedText
fact_with e t = record { under = e.under; text = t }

fact_at : (es : List Entry) (ts : List (List ℕ)) (i : ℕ) (e : Entry) → slice_get es i ≡ Some e → slice_get (facts_of es ts) i ≡ option_map (fact_with e) (slice_get ts i)
fact_at [] ts i e h = absurd (cc)
fact_at (x ∷ xs) [] i e h = refl
fact_at (x ∷ xs) (t ∷ ts) zero e h =
    let is : x ≡ e = cc in
    ap (λ (y : Entry). let o : Option NamedText = Some (fact_with y t) in o) is
fact_at (x ∷ xs) (t ∷ ts) (suc i) e h = fact_at xs ts i e h

no_fact : (es : List Entry) (ts : List (List ℕ)) (i : ℕ) → slice_get es i ≡ None → slice_get (facts_of es ts) i ≡ None
no_fact [] ts i h = refl
no_fact (x ∷ xs) [] i h = refl
no_fact (x ∷ xs) (t ∷ ts) zero h = absurd (cc)
no_fact (x ∷ xs) (t ∷ ts) (suc i) h = no_fact xs ts i h

get_take : {A : Type 0} (xs : List A) (n i : ℕ) (a : A) → slice_get (take n xs) i ≡ Some a → slice_get xs i ≡ Some a
get_take [] zero i a h = absurd (cc)
get_take [] (suc n) i a h = absurd (cc)
get_take (x ∷ xs) zero i a h = absurd (cc)
get_take (x ∷ xs) (suc n) zero a h = h
get_take (x ∷ xs) (suc n) (suc i) a h = get_take xs n i a h

length_take : {A : Type 0} (xs : List A) (n : ℕ) → length (take n xs) ≤ n
length_take xs zero = omega arith
length_take [] (suc n) = omega arith
length_take (x ∷ xs) (suc n) = (let h = length_take xs n in omega (arith, h))

-- the facts of the name that are still to be seen are those up to the place
pub record Seen (es : List Entry) (ts : List (List ℕ)) (u : FullName) (t : List ℕ) (at : Option ℕ) : Type 0 where
  pub count : ℕ
  pub latest : at ≡ latest_of u (take count (facts_of es ts))
  pub same : has_named (facts_of es ts) u t ≡ has_named (take count (facts_of es ts)) u t
  pub earlier : (i : ℕ) (e : Entry) → slice_get es i ≡ Some e → e.earlier ≡ latest_of e.under (take i (facts_of es ts))

-- how many facts are still to be looked at, at most
abbrev pub left : Option ℕ → ℕ
left None = 0
left (Some place) = suc place

module _ (es : List Entry) (ts : List (List ℕ)) (u : FullName) (t : List ℕ) where
  pub seen_first : (from : Option ℕ) → Reaches es ts u from → Seen es ts u t from
  seen_first from r =
      let all : take (length (facts_of es ts)) (facts_of es ts) ≡ facts_of es ts = take_all (length (facts_of es ts)) (facts_of es ts) (omega arith) in
      record { count = length (facts_of es ts); latest = r.latest ∙ ap (latest_of u) (sym all); same = ap (λ (fs : List NamedText). has_named fs u t) (sym all); earlier = r.earlier }

  pub seen_none : Seen es ts u t None → has_named (facts_of es ts) u t ≡ false
  seen_none s = s.same ∙ none_named u t (take s.count (facts_of es ts)) (sym s.latest)

  last_of : (place : ℕ) (s : Seen es ts u t (Some place)) → Last u t (take s.count (facts_of es ts)) place
  last_of place s = last_named u t (take s.count (facts_of es ts)) place (sym s.latest)

  fact_of : (place : ℕ) (s : Seen es ts u t (Some place)) → slice_get (facts_of es ts) place ≡ Some (last_of place s).fact
  fact_of place s = get_take (facts_of es ts) s.count place (last_of place s).fact (last_of place s).at

  record At (place : ℕ) (e : Entry) : Type 0 where
    any : has_named (facts_of es ts) u t ≡ (is_this_text t (slice_get ts place) || has_named (take place (facts_of es ts)) u t)
    earlier : e.earlier ≡ latest_of u (take place (facts_of es ts))

  seen_at : (place : ℕ) (e : Entry) → Seen es ts u t (Some place) → slice_get es place ≡ Some e → At place e
  seen_at place e s h = go (slice_get ts place) refl (sym (fact_at es ts place e h) ∙ fact_of place s)
    where
      l : Last u t (take s.count (facts_of es ts)) place
      l = last_of place s

      inner : take place (take s.count (facts_of es ts)) ≡ take place (facts_of es ts)
      inner =
          let size : length (take s.count (facts_of es ts)) ≤ s.count = length_take (facts_of es ts) s.count in
          let n : place < length (take s.count (facts_of es ts)) = l.within in
          take-take place s.count (facts_of es ts) (omega (arith, size, n))

      go : (o : Option (List ℕ)) → slice_get ts place ≡ o → option_map (fact_with e) o ≡ Some l.fact → At place e
      go None got two = absurd (cc)
      go (Some x) got two =
          let is : fact_with e x ≡ l.fact = cc in
          let named : same_full_name e.under u ≡ true = ap (λ (f : NamedText). same_full_name f.under u) is ∙ l.named in
          let name : e.under ≡ u = (decides_full e.under u).0 named in
          record {
            any = rw got (s.same ∙ (l.any ∙ (ap (λ (f : NamedText). bytes_eq f.text t || has_named (take place (take s.count (facts_of es ts))) u t) (sym is) ∙ ap (λ (fs : List NamedText). bytes_eq x t || has_named fs u t) inner)));
            earlier = s.earlier place e h ∙ ap (λ (v : FullName). latest_of v (take place (facts_of es ts))) name;
          }

  -- the place is in the list
  pub seen_within : (place : ℕ) → Seen es ts u t (Some place) → slice_get es place ≡ None → ⊥
  seen_within place s h =
      let both : Some (last_of place s).fact ≡ None = sym (fact_of place s) ∙ no_fact es ts place h in
      cc

  pub seen_found : (place : ℕ) (e : Entry) → Seen es ts u t (Some place) → slice_get es place ≡ Some e → is_this_text t (slice_get ts place) ≡ true → has_named (facts_of es ts) u t ≡ true
  seen_found place e s h same = (seen_at place e s h).any ∙ rw same refl

  pub seen_next : (place : ℕ) (e : Entry) → Seen es ts u t (Some place) → slice_get es place ≡ Some e → is_this_text t (slice_get ts place) ≡ false → Seen es ts u t e.earlier
  seen_next place e s h other = let a = seen_at place e s h in record { count = place; latest = a.earlier; same = a.any ∙ rw other refl; earlier = s.earlier }

  pub seen_less : (place : ℕ) (e : Entry) → Seen es ts u t (Some place) → slice_get es place ≡ Some e → left e.earlier < suc place
  seen_less place e s h = go e.earlier (seen_at place e s h).earlier
    where
      go : (o : Option ℕ) → o ≡ latest_of u (take place (facts_of es ts)) → left o < suc place
      go None g = omega arith
      go (Some q) g =
          let l : Last u t (take place (facts_of es ts)) q = last_named u t (take place (facts_of es ts)) q (sym g) in
          let n : q < length (take place (facts_of es ts)) = l.within in
          let size : length (take place (facts_of es ts)) ≤ place = length_take (facts_of es ts) place in
          omega (arith, n, size)
