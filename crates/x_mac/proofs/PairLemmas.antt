-- Two-key encryption and decryption undo each other.
use Rattle.std.proofs.Common.{◌≡◌, ◌∙◌, ℕ, ◌^◌, ◌<◌, ap}
use Rattle.x_des.specs.Des.{enciphered, deciphered}
use Rattle.x_des.proofs.Inverse.{enciphered-lt, deciphered-lt, deciphered-enciphered, enciphered-deciphered}
use Rattle.x_mac.specs.declared.pair.Pair.{Pair}
use Rattle.x_mac.specs.Pair.{ede_of, ded_of}

pub ded-ede : (p : Pair) (x : ℕ) → x < 2 ^ 64 → ded_of p (ede_of p x) ≡ x
ded-ede p x h =
    let inner = enciphered p.left x in
    ap (λ y. deciphered p.left (enciphered p.right y)) (deciphered-enciphered p.left (deciphered p.right inner) (deciphered-lt p.right inner))
    ∙ ap (deciphered p.left) (enciphered-deciphered p.right inner (enciphered-lt p.left x))
    ∙ deciphered-enciphered p.left x h

pub ede-ded : (p : Pair) (x : ℕ) → x < 2 ^ 64 → ede_of p (ded_of p x) ≡ x
ede-ded p x h =
    let inner = deciphered p.left x in
    ap (λ y. enciphered p.left (deciphered p.right y)) (enciphered-deciphered p.left (enciphered p.right inner) (enciphered-lt p.right inner))
    ∙ ap (enciphered p.left) (deciphered-enciphered p.right inner (deciphered-lt p.left x))
    ∙ enciphered-deciphered p.left x h
