-- What is found in a table after a row is put, dropped or filtered out.
use Rattle.std.proofs.Common.{◌≡◌, Bool, true, false, cond, not, Option, Some, None, List, [], ◌∷◌, filter, refl, sym, ◌∙◌, ap, subst, Decides}
use Rattle.party_tables.specs.Tables.{find_row, put_row, drop_row}

-- a test of keys that tells whether they are the same
pub record IsTest {K : Type 0} (same : K → K → Bool) : Type 0 where
  pub decides : (a b : K) → Decides (same a b) (a ≡ b)

pub same_is : {K : Type 0} {same : K → K → Bool} → IsTest same → (k : K) → same k k ≡ true
same_is t k = (t.decides k k).1 refl

-- what is found is one thing
pub one_found : {A : Type 0} {o : Option A} (a b : A) → o ≡ Some a → o ≡ Some b → a ≡ b
one_found a b i j = cc

-- the row that is found has the key
pub find_key : {R K : Type 0} (key : R → K) (same : K → K → Bool) → IsTest same → (k : K) (r : R) (rs : List R) → find_row key same k rs ≡ Some r → k ≡ key r
find_key key same law k r [] h = cc
find_key {R} {K} key same law k r (x ∷ rs) h = go (same k (key x)) refl (find_key key same law k r rs) h
  where
    go : (b : Bool) → same k (key x) ≡ b → (find_row key same k rs ≡ Some r → k ≡ key r) → cond b (Some x) (find_row key same k rs) ≡ Some r → k ≡ key r
    go true e ih h = let same_row : x ≡ r = cc in subst (λ (y : R). k ≡ key y) same_row ((law.decides k (key x)).0 e)
    go false e ih h = ih h

-- the row that was put under its key, and elsewhere what was found before
pub find_put : {R K : Type 0} (key : R → K) (same : K → K → Bool) → IsTest same → (k : K) (x : R) (rs : List R) → find_row key same k (put_row key same x rs) ≡ cond (same k (key x)) (Some x) (find_row key same k rs)
find_put key same law k x [] = refl
find_put {R} {K} key same law k x (r ∷ rs) = go (same (key x) (key r)) (same k (key r)) (same k (key x)) refl refl refl (find_put key same law k x rs)
  where
    go : (b d e : Bool) → same (key x) (key r) ≡ b → same k (key r) ≡ d → same k (key x) ≡ e → find_row key same k (put_row key same x rs) ≡ cond e (Some x) (find_row key same k rs) → find_row key same k (cond b (x ∷ rs) (r ∷ put_row key same x rs)) ≡ cond e (Some x) (cond d (Some r) (find_row key same k rs))
    go true d true b= d= e= ih = rw e= refl
    go true true false b= d= e= ih = let i : key x ≡ key r = (law.decides (key x) (key r)).0 b= in let j : k ≡ key r = (law.decides k (key r)).0 d= in let m : same k (key x) ≡ true = (law.decides k (key x)).1 (j ∙ sym i) in cc
    go true false false b= d= e= ih = rw e= refl
    go false true true b= d= e= ih = let i : k ≡ key x = (law.decides k (key x)).0 e= in let j : k ≡ key r = (law.decides k (key r)).0 d= in let m : same (key x) (key r) ≡ true = (law.decides (key x) (key r)).1 (sym i ∙ j) in cc
    go false true false b= d= e= ih = rw d= refl
    go false false e b= d= e= ih = rw d= ih

pub find_put_same : {R K : Type 0} (key : R → K) (same : K → K → Bool) → IsTest same → (x : R) (rs : List R) → find_row key same (key x) (put_row key same x rs) ≡ Some x
find_put_same key same law x rs = rw (find_put key same law (key x) x rs, same_is law (key x)) refl

pub find_put_other : {R K : Type 0} (key : R → K) (same : K → K → Bool) → IsTest same → (k : K) (x : R) (rs : List R) → same k (key x) ≡ false → find_row key same k (put_row key same x rs) ≡ find_row key same k rs
find_put_other key same law k x rs other = rw (find_put key same law k x rs, other) refl

-- nothing under the key that was dropped, and elsewhere what was found before
pub find_drop : {R K : Type 0} (key : R → K) (same : K → K → Bool) → IsTest same → (k j : K) (rs : List R) → find_row key same k (drop_row key same j rs) ≡ cond (same k j) None (find_row key same k rs)
find_drop {R} key same law k j [] = go (same k j)
  where
    go : (b : Bool) → (let n : Option R = None in n ≡ cond b n n)
    go true = refl
    go false = refl
find_drop {R} {K} key same law k j (r ∷ rs) = go (same j (key r)) (same k (key r)) (same k j) refl refl refl (find_drop key same law k j rs)
  where
    go : (b d e : Bool) → same j (key r) ≡ b → same k (key r) ≡ d → same k j ≡ e → find_row key same k (drop_row key same j rs) ≡ cond e None (find_row key same k rs) → find_row key same k (cond (not b) (r ∷ drop_row key same j rs) (drop_row key same j rs)) ≡ cond e None (cond d (Some r) (find_row key same k rs))
    go true d true b= d= e= ih = ih
    go true false false b= d= e= ih = ih
    go true true false b= d= e= ih = let i : j ≡ key r = (law.decides j (key r)).0 b= in let l : k ≡ key r = (law.decides k (key r)).0 d= in let m : same k j ≡ true = (law.decides k j).1 (l ∙ sym i) in cc
    go false true true b= d= e= ih = let i : k ≡ j = (law.decides k j).0 e= in let l : k ≡ key r = (law.decides k (key r)).0 d= in let m : same j (key r) ≡ true = (law.decides j (key r)).1 (sym i ∙ l) in cc
    go false false e b= d= e= ih = rw d= ih
    go false true false b= d= e= ih = rw d= refl

pub find_drop_same : {R K : Type 0} (key : R → K) (same : K → K → Bool) → IsTest same → (k : K) (rs : List R) → find_row key same k (drop_row key same k rs) ≡ None
find_drop_same key same law k rs = rw (find_drop key same law k k rs, same_is law k) refl

pub find_drop_other : {R K : Type 0} (key : R → K) (same : K → K → Bool) → IsTest same → (k j : K) (rs : List R) → same k j ≡ false → find_row key same k (drop_row key same j rs) ≡ find_row key same k rs
find_drop_other key same law k j rs other = rw (find_drop key same law k j rs, other) refl

-- what isn't found is not found after a put of what stood under another key
pub absent_put : {R K : Type 0} (key : R → K) (same : K → K → Bool) → IsTest same → (k : K) (x y : R) (rs : List R) → find_row key same k rs ≡ None → find_row key same (key x) rs ≡ Some y → find_row key same k (put_row key same x rs) ≡ None
absent_put {R} {K} key same law k x y rs none found = find_put key same law k x rs ∙ go (same k (key x)) refl
  where
    go : (b : Bool) → same k (key x) ≡ b → cond b (Some x) (find_row key same k rs) ≡ None
    go true e = let i : k ≡ key x = (law.decides k (key x)).0 e in let n : find_row key same (key x) rs ≡ None = rw (← i) none in absurd (cc)
    go false e = none

-- what is found is found after a put under a key that had no row
pub found_put : {R K : Type 0} (key : R → K) (same : K → K → Bool) → IsTest same → (k : K) (x y : R) (rs : List R) → find_row key same k rs ≡ Some y → find_row key same (key x) rs ≡ None → find_row key same k (put_row key same x rs) ≡ Some y
found_put {R} {K} key same law k x y rs found none = find_put key same law k x rs ∙ go (same k (key x)) refl
  where
    go : (b : Bool) → same k (key x) ≡ b → cond b (Some x) (find_row key same k rs) ≡ Some y
    go true e = let i : k ≡ key x = (law.decides k (key x)).0 e in let n : find_row key same k rs ≡ None = rw i none in absurd (cc)
    go false e = found

-- what isn't found is not found among fewer rows
pub filter_absent : {R K : Type 0} (key : R → K) (same : K → K → Bool) (p : R → Bool) (k : K) (rs : List R) → find_row key same k rs ≡ None → find_row key same k (filter p rs) ≡ None
filter_absent key same p k [] h = h
filter_absent {R} {K} key same p k (r ∷ rs) h = go (same k (key r)) (p r) refl h (filter_absent key same p k rs)
  where
    go : (e b : Bool) → same k (key r) ≡ e → cond e (Some r) (find_row key same k rs) ≡ None → (find_row key same k rs ≡ None → find_row key same k (filter p rs) ≡ None) → find_row key same k (cond b (r ∷ filter p rs) (filter p rs)) ≡ None
    go true b e h ih = absurd (cc)
    go false true e h ih = rw e (ih h)
    go false false e h ih = ih h

-- what passes is still found
pub filter_keeps : {R K : Type 0} (key : R → K) (same : K → K → Bool) (p : R → Bool) (k : K) (x : R) (rs : List R) → p x ≡ true → find_row key same k rs ≡ Some x → find_row key same k (filter p rs) ≡ Some x
filter_keeps key same p k x [] t h = h
filter_keeps {R} {K} key same p k x (r ∷ rs) t h = go (same k (key r)) (p r) refl refl h (filter_keeps key same p k x rs t)
  where
    go : (e b : Bool) → same k (key r) ≡ e → p r ≡ b → cond e (Some r) (find_row key same k rs) ≡ Some x → (find_row key same k rs ≡ Some x → find_row key same k (filter p rs) ≡ Some x) → find_row key same k (cond b (r ∷ filter p rs) (filter p rs)) ≡ Some x
    go true true e b h ih = rw e h
    go true false e b h ih = let i : r ≡ x = cc in let j : p r ≡ true = rw i t in absurd (cc)
    go false true e b h ih = rw e (ih h)
    go false false e b h ih = ih h

-- putting what stands changes nothing
pub put_stands : {R K : Type 0} (key : R → K) (same : K → K → Bool) → (x : R) (rs : List R) → find_row key same (key x) rs ≡ Some x → put_row key same x rs ≡ rs
put_stands key same x [] h = absurd (cc)
put_stands {R} key same x (r ∷ rs) h = go (same (key x) (key r)) h (put_stands key same x rs)
  where
    go : (b : Bool) → cond b (Some r) (find_row key same (key x) rs) ≡ Some x → (find_row key same (key x) rs ≡ Some x → put_row key same x rs ≡ rs) → cond b (x ∷ rs) (r ∷ put_row key same x rs) ≡ r ∷ rs
    go true h ih = let e : r ≡ x = cc in ap (λ (y : R). y ∷ rs) (sym e)
    go false h ih = ap (λ (ys : List R). r ∷ ys) (ih h)
