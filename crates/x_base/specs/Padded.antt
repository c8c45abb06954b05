-- Up to sixteen bytes, and the zeros that fill them up (this project's profile).
use Rattle.std.specs.Prelude.{ℕ, ◌≡◌, ◌≤◌, ◌-◌, ◌++◌, List, length, take, replicate}
use Rattle.std.proofs.Common.{ap, sym, ◌∙◌}
use Rattle.x_base.specs.declared.padded.Padded.TheInside.{Inside}

abbrev pub bytes_of : Inside → List ℕ
bytes_of p = take p.len p.bytes

-- the bytes with zeros behind them, sixteen in all
abbrev pub filled : List ℕ → List ℕ
filled xs = xs ++ replicate (16 - length xs) 0

pub record IsPadded (p : Inside) : Type 0 where
  pub short : p.len ≤ 16
  pub whole : length (take p.len p.bytes) ≡ p.len
  pub rest : p.bytes ≡ filled (take p.len p.bytes)

abbrev pub padded : List ℕ → Inside
padded xs = record { bytes = filled xs; len = length xs }

pub padded-bytes_of : (p : Inside) → IsPadded p → padded (bytes_of p) ≡ p
padded-bytes_of p h =
    let make : List ℕ → ℕ → Inside = λ bytes len. record { bytes = bytes; len = len } in
    ap (λ (bytes : List ℕ). make bytes (length (bytes_of p))) (sym h.rest)
    ∙ ap (λ (len : ℕ). make p.bytes len) h.whole
