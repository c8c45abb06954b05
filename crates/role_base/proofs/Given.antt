-- What is given where a test holds.
use Rattle.std.proofs.Common.{◌≡◌, Bool, true, false, cond, Option, Some, None, refl}

-- where something is there, it is what the test gives
pub given_is : {A : Type 0} (b : Bool) (x y : A) (o : Option A) → o ≡ cond b (Some x) None → o ≡ Some y → y ≡ x
given_is true x y o h i = cc
given_is false x y o h i = absurd (cc)

-- nothing is there where the test fails
pub given_none : {A : Type 0} (b : Bool) (x : A) (o : Option A) → o ≡ cond b (Some x) None → o ≡ None → b ≡ false
given_none true x o h i = absurd (cc)
given_none false x o h i = refl
