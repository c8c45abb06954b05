use Rattle.std.proofs.Common.{arith, refl, ap, sym, ◌∙◌, ◌≡◌, ◌++◌, ◌/◌, ◌%◌, ◌^◌, take, drop}
use Rattle.std.proofs.lemmas.Nat.{and_mask}
use Rattle.x_des.specs.Bits.{bits_of}
use Rattle.x_des.proofs.BitsLemmas.{bits_mod, take-bits, drop-bits}
use Rattle.x_des.proofs.Words.{bits_quarters}
use Rattle.x_des.proofs.round_keys.joined.Goals as goal

pub returns : goal.returns
returns c =
    let x = c.args.c in
    let y = c.args.d in
    let p : c.from.result ≡ x / 2 ^ 16 = c.from.ensures in
    let q : c.from-2.result ≡ y / 2 ^ 16 = c.from-2.ensures in
    let r : c.from-3.result ≡ x % 2 ^ 16 = c.from-3.ensures ∙ and_mask x 16 in
    let s : c.from-4.result ≡ y % 2 ^ 16 = c.from-4.ensures ∙ and_mask y 16 in
    let p' : bits_of 16 c.from.result ≡ take 16 (bits_of 32 x) = ap (bits_of 16) p ∙ sym (take-bits 16 16 32 x refl) in
    let q' : bits_of 16 c.from-2.result ≡ take 16 (bits_of 32 y) = ap (bits_of 16) q ∙ sym (take-bits 16 16 32 y refl) in
    let r' : bits_of 16 c.from-3.result ≡ drop 16 (bits_of 32 x) = ap (bits_of 16) r ∙ bits_mod 16 x ∙ sym (drop-bits 16 16 32 x refl) in
    let s' : bits_of 16 c.from-4.result ≡ drop 16 (bits_of 32 y) = ap (bits_of 16) s ∙ bits_mod 16 y ∙ sym (drop-bits 16 16 32 y refl) in
    bits_quarters c.from.result c.from-2.result c.from-3.result c.from-4.result (omega arith) (omega arith) (omega arith) (omega arith)
    ∙ ap (λ bs. ((bs ++ bits_of 16 c.from-2.result) ++ bits_of 16 c.from-3.result) ++ bits_of 16 c.from-4.result) p'
    ∙ ap (λ bs. ((take 16 (bits_of 32 x) ++ bs) ++ bits_of 16 c.from-3.result) ++ bits_of 16 c.from-4.result) q'
    ∙ ap (λ bs. ((take 16 (bits_of 32 x) ++ take 16 (bits_of 32 y)) ++ bs) ++ bits_of 16 c.from-4.result) r'
    ∙ ap (λ bs. ((take 16 (bits_of 32 x) ++ take 16 (bits_of 32 y)) ++ drop 16 (bits_of 32 x)) ++ bs) s'
