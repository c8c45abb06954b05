-- Arrays that a loop fills.
use Rattle.std.proofs.Common.{◌≡◌, ℕ, zero, suc, ◌+◌, ◌≤◌, ◌<◌, List, [], ◌∷◌, ◌++◌, map, take, set, length, get_or, sym, ap, ◌∙◌}
use Rattle.std.specs.Simd.Lanes.{Each1}
use Rattle.std.proofs.lemmas.List.{take_more_set, take_more, map_push, take_all}
use Rattle.des_slices.specs.declared.vector.Vector.{Vector}
use Rattle.des_slices.specs.Vectors.{AreVectors, IsVector}

-- one entry more
pub filled_more : {X Y : Type 0} (f : X → Y) (xs : List X) (ys : List Y) (i : ℕ) (x : X) (d : Y) → i < length xs → i < length ys
    → map f (take i xs) ≡ take i ys → f x ≡ get_or ys i d → map f (take (i + 1) (set xs i x)) ≡ take (i + 1) ys
filled_more f xs ys i x d in_xs in_ys so_far e =
    ap (map f) (take_more_set xs i x in_xs) ∙ map_push f (take i xs) x
    ∙ ap (λ zs. zs ++ f x ∷ []) so_far ∙ ap (λ y. take i ys ++ y ∷ []) e ∙ sym (take_more ys i d in_ys)

-- all of them
pub filled : {X Y : Type 0} (f : X → Y) (xs : List X) (ys : List Y) (i : ℕ) → length xs ≤ i → length ys ≤ i → map f (take i xs) ≡ take i ys → map f xs ≡ ys
filled f xs ys i p q e = sym (ap (map f) (take_all i xs p)) ∙ e ∙ take_all i ys q

pub Each1-set : {X : Type 0} (P : X → Type 0) (xs : List X) (i : ℕ) (x : X) → P x → Each1 P xs → Each1 P (set xs i x)
Each1-set P [] i x q p = tt
Each1-set P (y ∷ xs) zero x q p = (q, p.1)
Each1-set P (y ∷ xs) (suc i) x q p = (p.0, Each1-set P xs i x q p.1)

pub vectors-set : (vs : List Vector) (i : ℕ) (v : Vector) → IsVector v.words → AreVectors vs → AreVectors (set vs i v)
vectors-set [] i v q p = tt
vectors-set (w ∷ vs) zero v q p = (q, p.1)
vectors-set (w ∷ vs) (suc i) v q p = (p.0, vectors-set vs i v q p.1)
