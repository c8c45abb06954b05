-- What lists of one element and of two contain.
use Rattle.std.proofs.Common.{arith, ◌≡◌, ◌⊎◌, inl, inr, refl, List, [], ◌∷◌, Contains}
use Rattle.std.proofs.lemmas.List.Elements.{Contains-push_cases}

pub first_in : {X : Type 0} (x : X) (xs : List X) → Contains (x ∷ xs) x
first_in x xs = (0, omega arith, refl)

pub of_one : {X : Type 0} (x y : X) → Contains (x ∷ []) y → x ≡ y
of_one x y h = elim (Contains-push_cases [] x y h) [
  | inl n ↦ absurd (let less = n.1 in omega arith)
  | inr e ↦ e
]

pub of_two : {X : Type 0} (x y z : X) → Contains (x ∷ y ∷ []) z → (x ≡ z) ⊎ (y ≡ z)
of_two x y z h = elim (Contains-push_cases (x ∷ []) y z h) [
  | inl n ↦ inl (of_one x z n)
  | inr e ↦ inr e
]
