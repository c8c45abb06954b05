-- The expansion of an identity, as notarization takes it (ANSI X9.17; how it is done is this
-- project's profile).
use Rattle.std.specs.Prelude.{ℕ, List, take, drop}
use Rattle.std.specs.Int.{w64, from_be_bytes}
use Rattle.std.specs.List.{repeat}

-- sixteen bytes: the identity over and over
unfoldable pub repeated : List ℕ → List ℕ
repeated ident = take 16 (repeat 16 ident)

-- the two halves of these, first byte most significant
unfoldable pub expanded : List ℕ → ℕ × ℕ
expanded ident = (from_be_bytes w64 (take 8 (repeated ident)), from_be_bytes w64 (drop 8 (repeated ident)))
