-- A generator of which each draw at one moment is the same key, and that stays as it is: under a weak key enciphering and
-- deciphering are one.
use Rattle.std.proofs.Common.{arith, ◌≡◌, ◌<◌, ◌^◌, ℕ, Bool, false, cond, not, List, reverse, Option, Some, refl, sym, ◌∙◌, ap}
use Rattle.std.specs.Prelude.{bit_xor}
use Rattle.std.specs.List.{find}
use Rattle.std.specs.Int.Bits.{xor_zero_l, xor_zero_r}
use Rattle.x_des.specs.Bits.{bits_of, number, pick}
use Rattle.x_des.specs.Des.{keys_from, round_keys, crypted, encrypted, decrypted, enciphered, deciphered}
use Rattle.x_des.proofs.Inverse.{enciphered-lt, enciphered-deciphered}
use Rattle.x_mac.specs.declared.pair.Pair.{Pair}
use Rattle.x_mac.specs.Pair.{ede_of}
use Rattle.x_gen.specs.declared.generator.Gen.{Gen}
use Rattle.x_gen.specs.Parity.{odd_parity_of, is_weak_key}
use Rattle.x_gen.specs.Gen.{drawn, gen_after, draws, good_draw}

abbrev pub weak : ℕ
weak = 0x0101010101010101

abbrev pub key : ℕ
key = 0x0123456789ABCDEF

abbrev pub both_weak : Pair
both_weak = record { left = weak; right = weak }

-- the moment of each draw
abbrev pub moment : ℕ
moment = enciphered weak 0

abbrev pub seed : ℕ
seed = enciphered weak key

abbrev pub generator : Gen
generator = record { key = both_weak; v = seed }

pub seed_below : seed < 2 ^ 64
seed_below = enciphered-lt weak key

round_keys_alike : reverse (round_keys (bits_of 64 weak)) ≡ round_keys (bits_of 64 weak)
unfolding round_keys keys_from bits_of pick number
round_keys_alike = refl

either_way : (x : ℕ) → deciphered weak x ≡ enciphered weak x
unfolding enciphered deciphered encrypted decrypted
either_way x = ap (λ (ks : List (List Bool)). number (crypted ks (bits_of 64 x))) round_keys_alike

pub twice : (x : ℕ) → x < 2 ^ 64 → enciphered weak (enciphered weak x) ≡ x
twice x below = ap (enciphered weak) (sym (either_way x)) ∙ enciphered-deciphered weak x below

pub once : (x : ℕ) → ede_of both_weak x ≡ enciphered weak x
once x = enciphered-deciphered weak (enciphered weak x) (enciphered-lt weak x)

moment_is : ede_of both_weak moment ≡ 0
moment_is = once moment ∙ twice 0 (omega arith)

drawn_is : drawn generator moment ≡ key
drawn_is = ap (λ (i : ℕ). ede_of both_weak (bit_xor i seed)) moment_is ∙ (ap (ede_of both_weak) (xor_zero_l seed) ∙ (once seed ∙ twice key (omega arith)))

stays : gen_after generator moment ≡ generator
stays = ap (λ (v : ℕ). let g : Gen = record { key = both_weak; v = v } in g) seed_is
  where
    seed_is : ede_of both_weak (bit_xor (drawn generator moment) (ede_of both_weak moment)) ≡ seed
    seed_is =
        ap (λ (i : ℕ). ede_of both_weak (bit_xor (drawn generator moment) i)) moment_is
        ∙ (ap (ede_of both_weak) (xor_zero_r (drawn generator moment)) ∙ (ap (ede_of both_weak) drawn_is ∙ once key))

pub odd_key : odd_parity_of key ≡ key
unfolding odd_parity_of lib.Count.ones
odd_key = refl

strong_key : is_weak_key key ≡ false
unfolding odd_parity_of lib.Count.ones
strong_key = refl

pub first_draw : (g : Gen) (at d : ℕ) → odd_parity_of (drawn g at) ≡ d → is_weak_key d ≡ false → good_draw g at ≡ Some (d, gen_after g at)
unfolding draws
first_draw g at d e w = go (odd_parity_of (drawn g at)) e
  where
    go : (x : ℕ) → x ≡ d → cond (not (is_weak_key x)) (Some (x, gen_after g at)) (find (λ (y : ℕ × Gen). not (is_weak_key y.0)) (draws 15 (gen_after g at) at)) ≡ Some (d, gen_after g at)
    go x q = rw (q, w) refl

pub draws_key : good_draw generator moment ≡ Some (key, generator)
draws_key = first_draw generator moment key (ap odd_parity_of drawn_is ∙ odd_key) strong_key ∙ ap (λ (g : Gen). let o : Option (ℕ × Gen) = Some (key, g) in o) stays
