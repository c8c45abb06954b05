-- What holds of each row of a table.
use Rattle.std.proofs.Common.{◌≡◌, Bool, true, false, cond, not, Some, List, [], ◌∷◌}
use Rattle.std.specs.List.{All}
use Rattle.std.proofs.lemmas.List.Elements.{All-nil, All-cons, All-head, All-tail, All-filter}
use Rattle.party_tables.specs.Tables.{find_row, put_row, drop_row}

-- what holds of each row holds of the one that is found
pub find_all : {R K : Type 0} (P : R → Type 0) (key : R → K) (same : K → K → Bool) (k : K) (x : R) (rs : List R) → All P rs → find_row key same k rs ≡ Some x → P x
find_all P key same k x [] a h = absurd (cc)
find_all {R} {K} P key same k x (r ∷ rs) a h = go (same k (key r)) h (find_all P key same k x rs (All-tail P r rs a))
  where
    go : (b : Bool) → cond b (Some r) (find_row key same k rs) ≡ Some x → (find_row key same k rs ≡ Some x → P x) → P x
    go true h ih = let i : r ≡ x = cc in rw (← i) (All-head P r rs a)
    go false h ih = ih h

pub all_put : {R K : Type 0} (P : R → Type 0) (key : R → K) (same : K → K → Bool) (x : R) (rs : List R) → P x → All P rs → All P (put_row key same x rs)
all_put P key same x [] p a = All-cons P x [] p (All-nil P)
all_put {R} {K} P key same x (r ∷ rs) p a = go (same (key x) (key r)) (all_put P key same x rs p (All-tail P r rs a))
  where
    go : (b : Bool) → All P (put_row key same x rs) → All P (cond b (x ∷ rs) (r ∷ put_row key same x rs))
    go true ih = All-cons P x rs p (All-tail P r rs a)
    go false ih = All-cons P r (put_row key same x rs) (All-head P r rs a) ih

pub all_drop : {R K : Type 0} (P : R → Type 0) (key : R → K) (same : K → K → Bool) (k : K) (rs : List R) → All P rs → All P (drop_row key same k rs)
all_drop {R} P key same k rs a = All-filter (λ (r : R). not (same k (key r))) P rs a
