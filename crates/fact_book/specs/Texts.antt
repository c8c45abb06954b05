-- Texts one behind the other in one list of bytes (this project's profile).
use Rattle.std.specs.Prelude.{◌≡◌, ℕ, ◌≤◌, List, [], ◌∷◌, slice_range}

-- the texts that end at these places, the first of which begins at `start`
abbrev pub texts_from : ℕ → List ℕ → List ℕ → List (List ℕ)
texts_from start [] bytes = []
texts_from start (end ∷ ends) bytes = slice_range bytes start end ∷ texts_from end ends bytes

-- the ends rise from `start`, and the last one is `size`
abbrev pub AreTextEnds : ℕ → List ℕ → ℕ → Type 0
AreTextEnds start [] size = start ≡ size
AreTextEnds start (end ∷ ends) size = (start ≤ end) × AreTextEnds end ends size
