-- Tables as lists of rows.
use Rattle.std.proofs.Common.{arith, ◌≡◌, ℕ, ◌+◌, ◌<◌, length, zero, suc, Bool, true, false, cond, Option, None, Some, List, [], ◌∷◌, take, slice_get, refl, sym, ap, ◌∙◌, add-one, Result, Ok, Err, OnOk, IfSome, filter, subst, Bor}
use Rattle.std.specs.List.{All, AllByRecursion, find}
use Rattle.std.proofs.lemmas.List.Elements.{All-head, All-tail}
use Rattle.std.specs.Option.{option_copied}
use Rattle.std.specs.Map.{values_of}
use Rattle.std.specs.Cmp.{IsEquivalence}
use Rattle.party_tables.specs.Tables.{find_row, put_row, Distinct}

module _ {R K : Type 0} (key : R → K) (same : K → K → Bool) (laws : IsEquivalence same) where
  not_first : (b : Bool) (r : R) (rest : Option R) → cond b (Some r) rest ≡ None → (b ≡ false) × (rest ≡ None)
  not_first true r rest none = cc
  not_first false r rest none = (refl, none)

  -- no row has the key under which none is found
  pub apart : (k : K) (rs : List R) (i : ℕ) (x : R) → find_row key same k rs ≡ None → slice_get rs i ≡ Some x → same k (key x) ≡ false
  apart k [] i x none at = cc
  apart k (r ∷ rs) zero x none at =
      let e : r ≡ x = cc in
      ap (λ (y : R). same k (key y)) (sym e) ∙ (not_first (same k (key r)) r (find_row key same k rs) none).0
  apart k (r ∷ rs) (suc i) x none at = apart k rs i x (not_first (same k (key r)) r (find_row key same k rs) none).1 at

  -- the rows up to i, with row i put, are the rows up to the next
  pub put_next : (rs : List R) (i : ℕ) (x : R) → Distinct key same rs → slice_get rs i ≡ Some x → put_row key same x (take i rs) ≡ take (suc i) rs
  put_next [] i x once at = cc
  put_next (r ∷ rs) zero x once at =
      let e : r ≡ x = cc in
      ap (λ (y : R). y ∷ []) (sym e)
  put_next (r ∷ rs) (suc i) x once at =
      (λ j. cond ((laws.symm (key x) (key r) ∙ apart (key r) rs i x once.0 at) j) (x ∷ take i rs) (r ∷ put_row key same x (take i rs)))
      ∙ ap (λ (ys : List R). r ∷ ys) (put_next rs i x once.1 at)

  pub put_after : (rs : List R) (i : ℕ) (x : R) → Distinct key same rs → slice_get rs i ≡ Some x → put_row key same x (take i rs) ≡ take (i + 1) rs
  put_after rs i x once at = rw add-one (put_next rs i x once at)

  -- after a copy is put, done or not
  pub copied_next : {A E : Type 0} (r : Result A E) (rs cs ds : List R) (i : ℕ) (x y : R) → Distinct key same rs → cs ≡ take i rs → slice_get rs i ≡ Some x → y ≡ x
      → OnOk r (ds ≡ put_row key same y cs) → OnOk r (ds ≡ take (i + 1) rs)
  copied_next (Ok a) rs cs ds i x y once before at e put = put ∙ (λ j. put_row key same (e j) (before j)) ∙ put_after rs i x once at
  copied_next (Err a) rs cs ds i x y once before at e put = tt

-- the rows of a table that are found, put and kept
module _ {R K : Type 0} (key : R → K) (same : K → K → Bool) (P : R → Type 0) where
  pub each_found : (k : K) (rs : List R) → AllByRecursion P rs → IfSome (find_row key same k rs) P
  each_found k [] h = tt
  each_found k (r ∷ rs) h = go (each_found k rs h.1) (same k (key r))
    where
      go : IfSome (find_row key same k rs) P → (b : Bool) → IfSome (cond b (Some r) (find_row key same k rs)) P
      go rest true = h.0
      go rest false = rest

  pub each_put : (x : R) (rs : List R) → P x → AllByRecursion P rs → AllByRecursion P (put_row key same x rs)
  each_put x [] p h = (p, tt)
  each_put x (r ∷ rs) p h = go (each_put x rs p h.1) (same (key x) (key r))
    where
      go : AllByRecursion P (put_row key same x rs) → (b : Bool) → AllByRecursion P (cond b (x ∷ rs) (r ∷ put_row key same x rs))
      go rest true = (p, h.1)
      go rest false = (h.0, rest)

module _ {R : Type 0} (P : R → Type 0) where
  pub each_filter : (test : R → Bool) (rs : List R) → AllByRecursion P rs → AllByRecursion P (filter test rs)
  each_filter test [] h = tt
  each_filter test (r ∷ rs) h = go (each_filter test rs h.1) (test r)
    where
      go : AllByRecursion P (filter test rs) → (b : Bool) → AllByRecursion P (cond b (r ∷ filter test rs) (filter test rs))
      go rest true = (h.0, rest)
      go rest false = rest

  -- what is found is what was looked up
  pub if_copied : (o : Option (Bor R)) (p : Option R) → option_copied o ≡ p → IfSome p P → IfSome o (λ r. P r.now)
  if_copied None p e h = tt
  if_copied (Some r) p e h = subst (λ (q : Option R). IfSome q P) (sym e) h

  -- the row of an entry
  pub entry_at : {K : Type 0} (es : List (K × R)) (i : ℕ) (k : K) (r : R) → slice_get es i ≡ Some (k, r) → AllByRecursion P (values_of es) → P r
  entry_at [] i k r at h = cc
  entry_at (e ∷ es) zero k r at h = let same : e.1 ≡ r = cc in subst P same h.0
  entry_at (e ∷ es) (suc i) k r at h = entry_at es i k r at h.1

-- tests that answer alike leave the same rows distinct
module _ {R K : Type 0} (key : R → K) (same other : K → K → Bool) (alike : (a b : K) → same a b ≡ other a b) where
  find_alike : (k : K) (rs : List R) → find_row key same k rs ≡ find_row key other k rs
  find_alike k [] = refl
  find_alike k (r ∷ rs) = λ i. cond (alike k (key r) i) (Some r) (find_alike k rs i)

  pub distinct_alike : (rs : List R) → Distinct key same rs → Distinct key other rs
  distinct_alike [] d = tt
  distinct_alike (r ∷ rs) d = (sym (find_alike (key r) rs) ∙ d.0, distinct_alike rs d.1)

-- the first row that passes is one of the rows
pub find_row_of : {R : Type 0} (P : R → Type 0) (test : R → Bool) (rs : List R) → All P rs → IfSome (find test rs) P
find_row_of P test [] a = tt
find_row_of {R} P test (r ∷ rs) a = go (find_row_of P test rs (All-tail P r rs a)) (test r)
  where
    go : IfSome (find test rs) P → (b : Bool) → IfSome (cond b (Some r) (find test rs)) P
    go rest true = All-head P r rs a
    go rest false = rest

-- past the rows, and not among them, there is none
pub none_within : {R : Type 0} (rs : List R) (i : ℕ) → i < length rs → slice_get rs i ≡ None → ⊥
none_within [] i l h = omega arith
none_within (r ∷ rs) zero l h = cc
none_within (r ∷ rs) (suc i) l h = none_within rs i (omega arith) h
