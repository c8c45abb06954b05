-- Whether so many rows more fit.
use Rattle.std.proofs.Common.{arith, ◌≡◌, ℕ, ◌+◌, ◌-◌, ◌≤◌, nat_le, Bool, true, false, refl}
use Rattle.std.proofs.lemmas.Bool.{leb-true, le-leb, false_from_ne_true}

-- two numbers of rows more, each one at most
pub fits_two : (n a b most : ℕ) → a ≤ 1 → b ≤ 1 → 2 ≤ most → nat_le n (most - (a + b)) ≡ nat_le (n + (a + b)) most
fits_two n a b most la lb two = go (nat_le (n + (a + b)) most) refl
  where
    go : (x : Bool) → nat_le (n + (a + b)) most ≡ x → nat_le n (most - (a + b)) ≡ x
    go true e = let l : n + (a + b) ≤ most = leb-true (n + (a + b)) most e in le-leb n (most - (a + b)) (omega arith)
    go false e = false_from_ne_true (nat_le n (most - (a + b))) (λ t. (let l : n ≤ most - (a + b) = leb-true n (most - (a + b)) t in let m : nat_le (n + (a + b)) most ≡ true = le-leb (n + (a + b)) most (omega arith) in cc))
