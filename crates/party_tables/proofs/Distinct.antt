-- Tables that have each key once.
use Rattle.std.proofs.Common.{◌≡◌, Bool, true, false, cond, not, Some, None, List, [], ◌∷◌, filter, refl, sym}
use Rattle.std.specs.List.{find}
use Rattle.party_tables.specs.Tables.{find_row, put_row, drop_row, Distinct}
use Rattle.party_tables.proofs.Tables.{IsTest, same_is, find_put, filter_absent}

pub distinct_put : {R K : Type 0} (key : R → K) (same : K → K → Bool) → IsTest same → (x : R) (rs : List R) → Distinct key same rs → Distinct key same (put_row key same x rs)
distinct_put key same law x [] d = (refl, tt)
distinct_put {R} {K} key same law x (r ∷ rs) d = go (same (key x) (key r)) (same (key r) (key x)) refl refl (distinct_put key same law x rs d.1)
  where
    go : (b e : Bool) → same (key x) (key r) ≡ b → same (key r) (key x) ≡ e → Distinct key same (put_row key same x rs) → Distinct key same (cond b (x ∷ rs) (r ∷ put_row key same x rs))
    go true e b= e= ih = let i : key x ≡ key r = (law.decides (key x) (key r)).0 b= in (rw i d.0, d.1)
    go false true b= e= ih = let i : key r ≡ key x = (law.decides (key r) (key x)).0 e= in let m : same (key x) (key r) ≡ true = (law.decides (key x) (key r)).1 (sym i) in absurd (cc)
    go false false b= e= ih = (rw (find_put key same law (key r) x rs, e=) d.0, ih)

pub distinct_filter : {R K : Type 0} (key : R → K) (same : K → K → Bool) (p : R → Bool) (rs : List R) → Distinct key same rs → Distinct key same (filter p rs)
distinct_filter key same p [] d = tt
distinct_filter {R} {K} key same p (r ∷ rs) d = go (p r) (distinct_filter key same p rs d.1)
  where
    go : (b : Bool) → Distinct key same (filter p rs) → Distinct key same (cond b (r ∷ filter p rs) (filter p rs))
    go true ih = (filter_absent key same p (key r) rs d.0, ih)
    go false ih = ih

pub distinct_drop : {R K : Type 0} (key : R → K) (same : K → K → Bool) (k : K) (rs : List R) → Distinct key same rs → Distinct key same (drop_row key same k rs)
distinct_drop {R} key same k rs d = distinct_filter key same (λ (r : R). not (same k (key r))) rs d

-- what is found among fewer rows was found before
pub filter_back : {R K : Type 0} (key : R → K) (same : K → K → Bool) → IsTest same → (p : R → Bool) (k : K) (x : R) (rs : List R) → Distinct key same rs → find_row key same k (filter p rs) ≡ Some x → find_row key same k rs ≡ Some x
filter_back key same law p k x [] d h = h
filter_back {R} {K} key same law p k x (r ∷ rs) d h = go (p r) (same k (key r)) refl h (filter_back key same law p k x rs d.1)
  where
    go : (b e : Bool) → same k (key r) ≡ e → find_row key same k (cond b (r ∷ filter p rs) (filter p rs)) ≡ Some x → (find_row key same k (filter p rs) ≡ Some x → find_row key same k rs ≡ Some x) → cond e (Some r) (find_row key same k rs) ≡ Some x
    go true true e h ih = rw e at h
    go true false e h ih = ih (rw e at h)
    go false true e h ih = let i : k ≡ key r = (law.decides k (key r)).0 e in let n : find_row key same k (filter p rs) ≡ None = rw i (filter_absent key same p (key r) rs d.0) in absurd (cc)
    go false false e h ih = ih h

-- and it passes
pub filter_passed : {R K : Type 0} (key : R → K) (same : K → K → Bool) (p : R → Bool) (k : K) (x : R) (rs : List R) → find_row key same k (filter p rs) ≡ Some x → p x ≡ true
filter_passed key same p k x [] h = absurd (cc)
filter_passed {R} {K} key same p k x (r ∷ rs) h = go (p r) refl (same k (key r)) refl h (filter_passed key same p k x rs)
  where
    go : (b : Bool) → p r ≡ b → (e : Bool) → same k (key r) ≡ e → find_row key same k (cond b (r ∷ filter p rs) (filter p rs)) ≡ Some x → (find_row key same k (filter p rs) ≡ Some x → p x ≡ true) → p x ≡ true
    go true b= true e= h ih = let f : cond true (Some r) (find_row key same k (filter p rs)) ≡ Some x = rw e= at h in let i : r ≡ x = cc in rw (← i) b=
    go true b= false e= h ih = ih (rw e= at h)
    go false b= e e= h ih = ih h

-- the first row that passes a test is found under its key
pub first_found : {R K : Type 0} (key : R → K) (same : K → K → Bool) → IsTest same → (p : R → Bool) (r : R) (rs : List R) → Distinct key same rs → find p rs ≡ Some r → find_row key same (key r) rs ≡ Some r
first_found key same law p r [] d h = absurd (cc)
first_found {R} {K} key same law p r (x ∷ xs) d h = go (p x) h (first_found key same law p r xs d.1)
  where
    later : (b : Bool) → same (key r) (key x) ≡ b → find_row key same (key r) xs ≡ Some r → cond b (Some x) (find_row key same (key r) xs) ≡ Some r
    later true b f = let i : key r ≡ key x = (law.decides (key r) (key x)).0 b in let n : find_row key same (key r) xs ≡ None = rw i d.0 in absurd (cc)
    later false b f = f

    go : (b : Bool) → cond b (Some x) (find p xs) ≡ Some r → (find p xs ≡ Some r → find_row key same (key r) xs ≡ Some r) → cond (same (key r) (key x)) (Some x) (find_row key same (key r) xs) ≡ Some r
    go true h ih = let i : x ≡ r = cc in rw (i, same_is law (key r)) refl
    go false h ih = later (same (key r) (key x)) refl (ih h)

-- and it passes
pub first_passes : {R : Type 0} (p : R → Bool) (r : R) (rs : List R) → find p rs ≡ Some r → p r ≡ true
first_passes p r [] h = absurd (cc)
first_passes {R} p r (x ∷ xs) h = go (p x) refl h (first_passes p r xs)
  where
    go : (b : Bool) → p x ≡ b → cond b (Some x) (find p xs) ≡ Some r → (find p xs ≡ Some r → p r ≡ true) → p r ≡ true
    go true b= h ih = let i : x ≡ r = cc in rw (← i) b=
    go false b= h ih = ih h
