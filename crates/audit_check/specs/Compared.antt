-- Two lists of bytes, of which one is being made, are compared.
use Rattle.std.specs.Prelude.{ℕ, Bool, List, length, drop, bytes_eq}
use Rattle.audit_check.specs.Answers.{in_common}

-- how far two lists of bytes were compared: what is left of the second behind what they have in common, and whether that is
-- all of the first
pub record Compared : Type 0 where
  pub rest : List ℕ
  pub same : Bool

abbrev pub compared : List ℕ → List ℕ → Compared
compared made given = record { rest = drop (length (in_common made given)) given; same = bytes_eq (in_common made given) made }
