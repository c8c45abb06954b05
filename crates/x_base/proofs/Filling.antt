-- Bytes with zeros behind them, and one byte more.
use Rattle.std.proofs.Common.{◌≡◌, ℕ, suc, ◌+◌, ◌-◌, ◌<◌, List, [], ◌∷◌, ◌++◌, length, take, set, get_or, replicate, append_assoc, arith, sym, ap, ◌∙◌}
use Rattle.std.proofs.lemmas.List.{length-take-le, set_at, take_more}
use Rattle.x_base.specs.Padded.{filled}

pub filled_more : (bytes : List ℕ) (i : ℕ) → i < length bytes → i < 16 → set (filled (take i bytes)) i (get_or bytes i 0) ≡ filled (take (i + 1) bytes)
filled_more bytes i lt within =
    let front : List ℕ = take i bytes in
    let byte : ℕ = get_or bytes i 0 in
    let rest : List ℕ = replicate (16 - (i + 1)) 0 in
    let sized : length (take i bytes) ≡ i = length-take-le i bytes (omega arith) in
    let more_sized : length (take (i + 1) bytes) ≡ i + 1 = length-take-le (i + 1) bytes (omega arith) in
    let zeros : 16 - length (take i bytes) ≡ suc (16 - (i + 1)) = omega arith in
    let fewer : 16 - (i + 1) ≡ 16 - length (take (i + 1) bytes) = omega arith in
    ap (λ (n : ℕ). set (front ++ replicate n 0) i byte) zeros
    ∙ set_at front 0 rest byte i sized
    ∙ sym (append_assoc front (byte ∷ []) rest)
    ∙ ap (λ (xs : List ℕ). xs ++ rest) (sym (take_more bytes i 0 lt))
    ∙ ap (λ (n : ℕ). take (i + 1) bytes ++ replicate n 0) fewer
