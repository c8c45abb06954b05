-- What the tests of a look-up and of a count of rows say.
use Rattle.std.proofs.Common.{arith, ◌≡◌, ◌+◌, true, cond, is_some, Option, Some, None, List, length, refl, ap}
use Rattle.std.specs.Prelude.{is_none}
use Rattle.role_base.specs.Conditions.{count_after}

pub none_so : {A : Type 0} (o : Option A) → o ≡ None → is_none o ≡ true
none_so o h = ap (λ (x : Option _). is_none x) h

pub counted : {R : Type 0} (o : Option R) (rows : List R) → count_after o rows ≡ length rows + cond (is_some o) 0 1
counted None rows = refl
counted (Some old) rows = omega arith

pub present : {A : Type 0} (o : Option A) → is_some o ≡ true → (x : A) × (o ≡ Some x)
present None h = absurd (cc)
present (Some x) h = (x, refl)
