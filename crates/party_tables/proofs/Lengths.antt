-- How many rows a table has after a row is put, dropped or filtered out.
use Rattle.std.proofs.Common.{arith, ◌≡◌, ◌≤◌, ◌+◌, Bool, true, false, cond, not, Option, Some, None, is_some, List, [], ◌∷◌, length, filter, refl, ap}
use Rattle.party_tables.specs.Tables.{find_row, put_row, drop_row}

-- a put in place keeps the length
pub length_put_found : {R K : Type 0} (key : R → K) (same : K → K → Bool) (x y : R) (rs : List R) → find_row key same (key x) rs ≡ Some y → length (put_row key same x rs) ≡ length rs
length_put_found key same x y [] h = absurd (cc)
length_put_found {R} key same x y (r ∷ rs) h = go (same (key x) (key r)) h (length_put_found key same x y rs)
  where
    go : (b : Bool) → cond b (Some r) (find_row key same (key x) rs) ≡ Some y → (find_row key same (key x) rs ≡ Some y → length (put_row key same x rs) ≡ length rs) → length (cond b (x ∷ rs) (r ∷ put_row key same x rs)) ≡ length (r ∷ rs)
    go true h ih = refl
    go false h ih = let i : length (put_row key same x rs) ≡ length rs = ih h in omega arith

-- any other is one row more
pub length_put_absent : {R K : Type 0} (key : R → K) (same : K → K → Bool) (x : R) (rs : List R) → find_row key same (key x) rs ≡ None → length (put_row key same x rs) ≡ length rs + 1
length_put_absent key same x [] h = refl
length_put_absent {R} key same x (r ∷ rs) h = go (same (key x) (key r)) h (length_put_absent key same x rs)
  where
    go : (b : Bool) → cond b (Some r) (find_row key same (key x) rs) ≡ None → (find_row key same (key x) rs ≡ None → length (put_row key same x rs) ≡ length rs + 1) → length (cond b (x ∷ rs) (r ∷ put_row key same x rs)) ≡ length (r ∷ rs) + 1
    go true h ih = absurd (cc)
    go false h ih = let i : length (put_row key same x rs) ≡ length rs + 1 = ih h in omega arith

-- fewer rows
pub length_filter_most : {R : Type 0} (p : R → Bool) (rs : List R) → length (filter p rs) ≤ length rs
length_filter_most p [] = omega arith
length_filter_most {R} p (r ∷ rs) = go (p r) (length_filter_most p rs)
  where
    go : (b : Bool) → length (filter p rs) ≤ length rs → length (cond b (r ∷ filter p rs) (filter p rs)) ≤ length (r ∷ rs)
    go true ih = omega arith
    go false ih = omega arith

pub length_drop_most : {R K : Type 0} (key : R → K) (same : K → K → Bool) (k : K) (rs : List R) → length (drop_row key same k rs) ≤ length rs
length_drop_most {R} key same k rs = length_filter_most (λ (r : R). not (same k (key r))) rs

-- a drop under a key that has no row changes nothing
pub drop_absent : {R K : Type 0} (key : R → K) (same : K → K → Bool) (k : K) (rs : List R) → find_row key same k rs ≡ None → drop_row key same k rs ≡ rs
drop_absent key same k [] h = refl
drop_absent {R} {K} key same k (r ∷ rs) h = go (same k (key r)) h (drop_absent key same k rs)
  where
    go : (b : Bool) → cond b (Some r) (find_row key same k rs) ≡ None → (find_row key same k rs ≡ None → drop_row key same k rs ≡ rs) → cond (not b) (r ∷ drop_row key same k rs) (drop_row key same k rs) ≡ r ∷ rs
    go true h ih = absurd (cc)
    go false h ih = ap (λ (ys : List R). r ∷ ys) (ih h)

-- one row more where none stood under its key
pub length_put : {R K : Type 0} (key : R → K) (same : K → K → Bool) (x : R) (rs : List R) → length (put_row key same x rs) ≡ length rs + cond (is_some (find_row key same (key x) rs)) 0 1
length_put {R} key same x rs = go (find_row key same (key x) rs) refl
  where
    go : (o : Option R) → find_row key same (key x) rs ≡ o → length (put_row key same x rs) ≡ length rs + cond (is_some o) 0 1
    go (Some y) found = let same_length : length (put_row key same x rs) ≡ length rs = length_put_found key same x y rs found in omega arith
    go None found = length_put_absent key same x rs found
