use Rattle.std.proofs.Common.{ℕ, arith, ap, subst, ◌∙◌, ◌≡◌, ◌<◌, ◌^◌}
use Rattle.std.specs.Prelude.{bit_xor}
use Rattle.x_base.specs.Ident.{expanded}
use Rattle.x_des.specs.Des.{SameButParity, enciphered}
use Rattle.x_mac.specs.declared.pair.Pair.{Pair}
use Rattle.x_seal.specs.Offset.{notary_of, spread_of}
use Rattle.x_seal.proofs.SpreadLemmas.{counts_apart}
use Rattle.x_seal.proofs.offsetting.notarize.Goals as goal

-- what is added to a half, by the expansions
added_is : (r k : ℕ) (f f' t t' : ℕ × ℕ) → r ≡ enciphered (bit_xor k f.0) t.1 → f ≡ f' → t ≡ t' → r ≡ enciphered (bit_xor k f'.0) t'.1
added_is r k f f' t t' e p q = e ∙ ap (λ (x : ℕ × ℕ). enciphered (bit_xor k x.0) t.1) p ∙ ap (λ (x : ℕ × ℕ). enciphered (bit_xor k f'.0) x.1) q

-- a half of the notarized pair
half_is : (k r r' s s' : ℕ) → r ≡ r' → s ≡ s' → bit_xor (bit_xor k r) s ≡ bit_xor (bit_xor k r') s'
half_is k r r' s s' p q = ap (λ x. bit_xor (bit_xor k x) s) p ∙ ap (bit_xor (bit_xor k r')) q

-- a count whose half has the effective key that another count gives
apart : (k r r' s c d : ℕ) → r ≡ r' → s ≡ spread_of c → c < 2 ^ 56 → d < 2 ^ 56
    → SameButParity (bit_xor (bit_xor k r) s) (bit_xor (bit_xor k r') (spread_of d)) → c ≡ d
apart k r r' s c d p q small h e =
    counts_apart (bit_xor k r') c d small h
    (subst (λ x. SameButParity x (bit_xor (bit_xor k r') (spread_of d))) (half_is k r r' s (spread_of c) p q) e)

pub returns-clause-notary : goal.returns-clause-notary
returns-clause-notary c =
    let kk = c.args.kk in
    let from = expanded c.args.from.now in
    let to = expanded c.args.to.now in
    let pair : ℕ → ℕ → Pair = λ l r. record { left = l; right = r } in
    let n = notary_of kk from to c.args.count in
    let left = added_is c.encrypt.result kk.right _ from _ to c.encrypt.ensures.enciphered c.expand-from_left.ensures c.expand-to_left.ensures in
    let right = added_is c.encrypt-2.result kk.left _ to _ from c.encrypt-2.ensures.enciphered c.expand-to_left.ensures c.expand-from_left.ensures in
    ap (λ x. pair x (bit_xor (bit_xor kk.right c.encrypt-2.result) c.spread-spread.result)) (half_is kk.left _ _ _ _ left c.spread-spread.ensures.spread)
    ∙ ap (pair n.left) (half_is kk.right _ _ _ _ right c.spread-spread.ensures.spread)

pub returns-clause-left_apart : goal.returns-clause-left_apart
returns-clause-left_apart c = λ d h e.
    let small : c.args.count < 2 ^ 56 = (let top = c.spread-spread.ensures.count.high in omega arith) in
    apart c.args.kk.left _ _ _ c.args.count d
    (added_is c.encrypt.result c.args.kk.right _ (expanded c.args.from.now) _ (expanded c.args.to.now) c.encrypt.ensures.enciphered c.expand-from_left.ensures c.expand-to_left.ensures)
    c.spread-spread.ensures.spread small h e

pub returns-clause-right_apart : goal.returns-clause-right_apart
returns-clause-right_apart c = λ d h e.
    let small : c.args.count < 2 ^ 56 = (let top = c.spread-spread.ensures.count.high in omega arith) in
    apart c.args.kk.right _ _ _ c.args.count d
    (added_is c.encrypt-2.result c.args.kk.left _ (expanded c.args.to.now) _ (expanded c.args.from.now) c.encrypt-2.ensures.enciphered c.expand-to_left.ensures c.expand-from_left.ensures)
    c.spread-spread.ensures.spread small h e
