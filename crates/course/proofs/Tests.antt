-- What follows where a test holds, or doesn't.
use Rattle.std.proofs.Common.{◌≡◌, ℕ, Bool, true, false, cond, List, bytes_eq, refl}
use Rattle.std.proofs.lemmas.Slice.Eq.{bytes_eq-Decides}

pub same_yes : (a b : List ℕ) → a ≡ b → bytes_eq a b ≡ true
same_yes a b is = (bytes_eq-Decides a b).1 is

pub cond_yes : {T : Type 0} (a : Bool) (x y : T) → a ≡ true → cond a x y ≡ x
cond_yes a x y is = rw is refl

pub cond_not : {T : Type 0} (a : Bool) (x y : T) → a ≡ false → cond a x y ≡ y
cond_not a x y is = rw is refl
