-- The entries of a table beside its rows.
use Rattle.std.proofs.Common.{◌≡◌, ℕ, zero, suc, slice_get, Bool, true, false, not, cond, None, Some, List, [], ◌∷◌, filter, refl, sym, ap, subst, ◌∙◌}
use Rattle.std.specs.Cmp.{IsEquivalence}
use Rattle.std.specs.List.{IsDistinct, AllByRecursion}
use Rattle.std.specs.Map.{keys_of, values_of, lookup}
use Rattle.indexmap.specs.IndexMap.{insert_entry, set_value_at, shift_remove_entry}
use Rattle.party_tables.specs.Tables.{find_row, put_row, drop_row, Distinct}
use Rattle.party_tables.specs.Keyed.{IsKeyed, IsTable}
use Rattle.party_tables.proofs.Rows.{apart, each_put, each_filter}

module _ {R K : Type 0} (key : R → K) (same : K → K → Bool) (laws : IsEquivalence same) where
  -- a key is tested alike against an entry's key and its row's
  alike : (k a b : K) → same a b ≡ true → same k a ≡ same k b
  alike k a b e = laws.symm k a ∙ laws.congr a b k e ∙ laws.symm b k

  -- an entry's key is its row's
  pub keyed_at : (es : List (K × R)) (i : ℕ) (k : K) (r : R) → slice_get es i ≡ Some (k, r) → IsKeyed key same es → same k (key r) ≡ true
  keyed_at [] i k r at h = cc
  keyed_at (e ∷ es) zero k r at h =
      let is : e ≡ (k, r) = cc in
      subst (λ (p : K × R). same p.0 (key p.1) ≡ true) is h.0
  keyed_at (e ∷ es) (suc i) k r at h = keyed_at es i k r at h.1

  pub find_lookup : (k : K) (es : List (K × R)) → IsKeyed key same es → lookup (same k) es ≡ find_row key same k (values_of es)
  find_lookup k [] h = refl
  find_lookup k (e ∷ es) h = λ i. cond (alike k e.0 (key e.1) h.0 i) (Some e.1) (find_lookup k es h.1 i)

  -- keys that are the same find the same row
  pub find_same : (a b : K) (rs : List R) → same a b ≡ true → find_row key same b rs ≡ find_row key same a rs
  find_same a b [] e = refl
  find_same a b (r ∷ rs) e = λ i. cond (sym (laws.congr a b (key r) e) i) (Some r) (find_same a b rs e i)

  pub keyed_put : (x : R) (es : List (K × R)) → IsKeyed key same es → IsKeyed key same (insert_entry same es (key x) x)
  keyed_put x [] h = (laws.refl (key x), tt)
  keyed_put x (e ∷ es) h = go (keyed_put x es h.1) (same (key x) e.0) refl
    where
      go : IsKeyed key same (insert_entry same es (key x) x) → (b : Bool) → same (key x) e.0 ≡ b → IsKeyed key same (cond b ((e.0, x) ∷ es) (e ∷ insert_entry same es (key x) x))
      go rest true t = (laws.symm e.0 (key x) ∙ t, h.1)
      go rest false t = (h.0, rest)

  pub put_insert : (x : R) (es : List (K × R)) → IsKeyed key same es → values_of (insert_entry same es (key x) x) ≡ put_row key same x (values_of es)
  put_insert x [] h = refl
  put_insert x (e ∷ es) h = go (put_insert x es h.1) (same (key x) e.0) refl ∙ (λ i. cond (alike (key x) e.0 (key e.1) h.0 i) (x ∷ values_of es) (e.1 ∷ put_row key same x (values_of es)))
    where
      go : values_of (insert_entry same es (key x) x) ≡ put_row key same x (values_of es) → (b : Bool) → same (key x) e.0 ≡ b → values_of (cond b ((e.0, x) ∷ es) (e ∷ insert_entry same es (key x) x)) ≡ cond b (x ∷ values_of es) (e.1 ∷ put_row key same x (values_of es))
      go rest true t = refl
      go rest false t = ap (λ (rs : List R). e.1 ∷ rs) rest

  -- a row is put by a write over the one with its key
  pub set_insert : (x r : R) (es : List (K × R)) (i : ℕ) → IsKeyed key same es → Distinct key same (values_of es) → slice_get (values_of es) i ≡ Some r → same (key r) (key x) ≡ true
      → set_value_at es i x ≡ insert_entry same es (key x) x
  set_insert x r [] i h d at s = absurd (cc)
  set_insert x r (e ∷ es) zero h d at s =
      let is : e.1 ≡ r = cc in
      let t : same (key x) e.0 ≡ true = alike (key x) e.0 (key e.1) h.0 ∙ ap (λ (y : R). same (key x) (key y)) is ∙ laws.symm (key x) (key r) ∙ s in
      λ j. cond (sym t j) ((e.0, x) ∷ es) (e ∷ insert_entry same es (key x) x)
  set_insert x r (e ∷ es) (suc i) h d at s =
      let f : same (key x) e.0 ≡ false = alike (key x) e.0 (key e.1) h.0 ∙ sym (laws.congr (key r) (key x) (key e.1) s) ∙ laws.symm (key r) (key e.1) ∙ apart key same laws (key e.1) (values_of es) i r d.0 at in
      ap (λ (l : List (K × R)). e ∷ l) (set_insert x r es i h.1 d.1 at s) ∙ (λ j. cond (sym f j) ((e.0, x) ∷ es) (e ∷ insert_entry same es (key x) x))

  -- where no entry stands under the key, no row is dropped
  absent_drop : (k : K) (es : List (K × R)) → IsKeyed key same es → AllByRecursion (λ y. same k y ≡ false) (keys_of es) → drop_row key same k (values_of es) ≡ values_of es
  absent_drop k [] h a = refl
  absent_drop k (e ∷ es) h a = (λ i. cond (not ((sym (alike k e.0 (key e.1) h.0) ∙ a.0) i)) (e.1 ∷ drop_row key same k (values_of es)) (drop_row key same k (values_of es)))
      ∙ ap (λ (rs : List R). e.1 ∷ rs) (absent_drop k es h.1 a.1)

  absent_find : (k : K) (es : List (K × R)) → IsKeyed key same es → AllByRecursion (λ y. same k y ≡ false) (keys_of es) → find_row key same k (values_of es) ≡ None
  absent_find k [] h a = refl
  absent_find k (e ∷ es) h a = (λ i. cond ((sym (alike k e.0 (key e.1) h.0) ∙ a.0) i) (Some e.1) (find_row key same k (values_of es))) ∙ absent_find k es h.1 a.1

  -- what is absent under a key is absent under an equal one
  moved : (k j : K) (ks : List K) → same k j ≡ true → AllByRecursion (λ y. same k y ≡ false) ks → AllByRecursion (λ y. same j y ≡ false) ks
  moved k j [] e a = tt
  moved k j (x ∷ xs) e a = (sym (laws.congr k j x e) ∙ a.0, moved k j xs e a.1)

  pub keyed_drop : (k : K) (es : List (K × R)) → IsKeyed key same es → IsKeyed key same (shift_remove_entry (same k) es)
  keyed_drop k [] h = tt
  keyed_drop k (e ∷ es) h = go (keyed_drop k es h.1) (same k e.0)
    where
      go : IsKeyed key same (shift_remove_entry (same k) es) → (b : Bool) → IsKeyed key same (cond b es (e ∷ shift_remove_entry (same k) es))
      go rest true = h.1
      go rest false = (h.0, rest)

  pub drop_remove : (k : K) (es : List (K × R)) → IsKeyed key same es → IsDistinct same (keys_of es) → values_of (shift_remove_entry (same k) es) ≡ drop_row key same k (values_of es)
  unfolding IsDistinct
  drop_remove k [] h d = refl
  drop_remove k (e ∷ es) h d = go (drop_remove k es h.1 d.1) (same k e.0) refl ∙ (λ i. cond (not (alike k e.0 (key e.1) h.0 i)) (e.1 ∷ drop_row key same k (values_of es)) (drop_row key same k (values_of es)))
    where
      go : values_of (shift_remove_entry (same k) es) ≡ drop_row key same k (values_of es) → (b : Bool) → same k e.0 ≡ b → values_of (cond b es (e ∷ shift_remove_entry (same k) es)) ≡ cond (not b) (e.1 ∷ drop_row key same k (values_of es)) (drop_row key same k (values_of es))
      go rest true t = sym (absent_drop k es h.1 (moved e.0 k (keys_of es) (laws.symm e.0 k ∙ t) d.0))
      go rest false t = ap (λ (rs : List R). e.1 ∷ rs) rest

  -- the keys of the entries are distinct, so those of the rows are
  pub once : (es : List (K × R)) → IsKeyed key same es → IsDistinct same (keys_of es) → Distinct key same (values_of es)
  unfolding IsDistinct
  once [] h d = tt
  once (e ∷ es) h d = (absent_find (key e.1) es h.1 (moved e.0 (key e.1) (keys_of es) h.0 d.0), once es h.1 d.1)

-- the entries whose rows pass
module _ {R K : Type 0} (key : R → K) (same : K → K → Bool) (test : R → Bool) where
  pub values_filter : (es : List (K × R)) → values_of (filter (λ e. test e.1) es) ≡ filter test (values_of es)
  values_filter [] = refl
  values_filter (e ∷ es) = go (values_filter es) (test e.1)
    where
      go : values_of (filter (λ e. test e.1) es) ≡ filter test (values_of es) → (b : Bool) → values_of (cond b (e ∷ filter (λ e. test e.1) es) (filter (λ e. test e.1) es)) ≡ cond b (e.1 ∷ filter test (values_of es)) (filter test (values_of es))
      go rest true = ap (λ (rs : List R). e.1 ∷ rs) rest
      go rest false = rest

  pub keyed_filter : (es : List (K × R)) → IsKeyed key same es → IsKeyed key same (filter (λ e. test e.1) es)
  keyed_filter [] h = tt
  keyed_filter (e ∷ es) h = go (keyed_filter es h.1) (test e.1)
    where
      go : IsKeyed key same (filter (λ e. test e.1) es) → (b : Bool) → IsKeyed key same (cond b (e ∷ filter (λ e. test e.1) es) (filter (λ e. test e.1) es))
      go rest true = (h.0, rest)
      go rest false = rest

-- a row that is written over by itself
pub set_same : {R K : Type 0} → (es : List (K × R)) (i : ℕ) (r : R) → slice_get (values_of es) i ≡ Some r → set_value_at es i r ≡ es
set_same [] i r at = refl
set_same {R} {K} (e ∷ es) zero r at =
    let is : e.1 ≡ r = cc in
    ap (λ (y : R). let f : K × R = (e.0, y) in f ∷ es) (sym is)
set_same {R} {K} (e ∷ es) (suc i) r at = ap (λ (l : List (K × R)). e ∷ l) (set_same es i r at)

-- tables that are found in, put in, dropped from and filtered
module _ {R K : Type 0} (key : R → K) (same : K → K → Bool) (P : R → Type 0) (laws : IsEquivalence same) where
  pub table_insert : (x : R) (es : List (K × R)) → P x → IsTable key same P es → IsTable key same P (insert_entry same es (key x) x)
  table_insert x es f t = record {
    keyed = keyed_put key same laws x es t.keyed;
    rows = subst (AllByRecursion P) (sym (put_insert key same laws x es t.keyed)) (each_put key same P x (values_of es) f t.rows);
  }

  pub table_drop : (k : K) (es : List (K × R)) → IsDistinct same (keys_of es) → IsTable key same P es → IsTable key same P (shift_remove_entry (same k) es)
  table_drop k es d t = record {
    keyed = keyed_drop key same laws k es t.keyed;
    rows = subst (AllByRecursion P) (sym (drop_remove key same laws k es t.keyed d)) (each_filter P (λ r. not (same k (key r))) (values_of es) t.rows);
  }

module _ {R K : Type 0} (key : R → K) (same : K → K → Bool) (P : R → Type 0) where
  pub table_filter : (test : R → Bool) (es : List (K × R)) → IsTable key same P es → IsTable key same P (filter (λ e. test e.1) es)
  table_filter test es t = record {
    keyed = keyed_filter key same test es t.keyed;
    rows = subst (AllByRecursion P) (sym (values_filter key same test es)) (each_filter P test (values_of es) t.rows);
  }
