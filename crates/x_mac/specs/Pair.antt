-- Two-key encryption (ANSI X9.17 / ISO 8732).
use Rattle.std.specs.Prelude.{ℕ}
use Rattle.x_des.specs.Des.{enciphered, deciphered}
use Rattle.x_mac.specs.declared.pair.Pair.{Pair}

-- EDE((l, r), x) = E(l, D(r, E(l, x)))
abbrev pub ede_of : Pair → ℕ → ℕ
ede_of p x = enciphered p.left (deciphered p.right (enciphered p.left x))

-- DED((l, r), x) = D(l, E(r, D(l, x)))
abbrev pub ded_of : Pair → ℕ → ℕ
ded_of p x = deciphered p.left (enciphered p.right (deciphered p.left x))
