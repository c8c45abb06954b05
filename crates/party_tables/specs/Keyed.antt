-- The entries of a table: each row beside a key under which it is found (this project's profile).
use Rattle.std.specs.Prelude.{◌≡◌, Bool, true, List, [], ◌∷◌}
use Rattle.std.specs.List.{AllByRecursion}
use Rattle.std.specs.Map.{values_of}

-- each entry stands under the key of its row
abbrev pub IsKeyed : {R K : Type 0} → (R → K) → (K → K → Bool) → List (K × R) → Type 0
IsKeyed key same [] = Unit {0}
IsKeyed key same (e ∷ es) = (same e.0 (key e.1) ≡ true) × IsKeyed key same es

-- and each row is one
pub record IsTable {R K : Type 0} (key : R → K) (same : K → K → Bool) (is_row : R → Type 0) (es : List (K × R)) : Type 0 where
  pub keyed : IsKeyed key same es
  pub rows : AllByRecursion is_row (values_of es)
