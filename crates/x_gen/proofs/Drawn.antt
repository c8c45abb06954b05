-- A drawn key has 64 bits and odd parity, and isn't weak.
use Rattle.std.specs.Prelude.{count_ones}
use Rattle.std.proofs.Common.{arith, ◌≡◌, ℕ, zero, suc, ◌+◌, ◌*◌, ◌/◌, ◌%◌, ◌-◌, ◌<◌, ◌^◌, not, cond, Bool, true, false, Some, List, [], ◌∷◌, map, get_or, refl, ◌∙◌, ap, subst}
use Rattle.std.specs.List.{find}
use Rattle.std.specs.Int.{from_be_bytes, to_be_bytes, w64}
use Rattle.std.proofs.lemmas.Nat.{be_bytes_8}
use Rattle.std.proofs.lemmas.Bool.{not-true}
use Rattle.x_gen.specs.Parity.{odd_byte, odd_parity_of, is_weak_key}
use Rattle.x_gen.specs.declared.generator.Gen.{Gen}
use Rattle.x_gen.specs.Gen.{drawn, gen_after, draws}
use Rattle.x_gen.specs.Laws.{IsOdd, OddStays, DrawsOdd, DrawsStrong}

byte_again : (b : ℕ) → odd_byte (odd_byte b) ≡ odd_byte b
byte_again b = let half : odd_byte b / 2 ≡ b / 2 = omega arith in ap (λ (h : ℕ). h * 2 + (1 - count_ones h % 2)) half

bytes_again : (bs : List ℕ) → map odd_byte (map odd_byte bs) ≡ map odd_byte bs
bytes_again [] = refl
bytes_again (b ∷ bs) = (λ i. byte_again b i ∷ bytes_again bs i)

byte_below : (b : ℕ) → b < 256 → odd_byte b < 256
byte_below b h = omega arith

each_below : (key i : ℕ) → get_or (map odd_byte (to_be_bytes w64 key)) i 0 < 256
each_below key zero = byte_below _ (omega arith)
each_below key (suc zero) = byte_below _ (omega arith)
each_below key (suc (suc zero)) = byte_below _ (omega arith)
each_below key (suc (suc (suc zero))) = byte_below _ (omega arith)
each_below key (suc (suc (suc (suc zero)))) = byte_below _ (omega arith)
each_below key (suc (suc (suc (suc (suc zero))))) = byte_below _ (omega arith)
each_below key (suc (suc (suc (suc (suc (suc zero)))))) = byte_below _ (omega arith)
each_below key (suc (suc (suc (suc (suc (suc (suc zero))))))) = byte_below _ (omega arith)
each_below key (suc (suc (suc (suc (suc (suc (suc (suc i)))))))) = omega arith

odd_again : (key : ℕ) → odd_parity_of (odd_parity_of key) ≡ odd_parity_of key
unfolding odd_parity_of
odd_again key =
    let bytes : to_be_bytes w64 (odd_parity_of key) ≡ map odd_byte (to_be_bytes w64 key) = be_bytes_8 (map odd_byte (to_be_bytes w64 key)) (odd_parity_of key) refl (each_below key) refl in
    ap (λ (bs : List ℕ). from_be_bytes w64 (map odd_byte bs)) bytes ∙ ap (from_be_bytes w64) (bytes_again (to_be_bytes w64 key))

odd_below : (key : ℕ) → odd_parity_of key < 2 ^ 64
unfolding odd_parity_of
odd_below key =
    let a = byte_below (key / 2 ^ 56 % 256) (omega arith) in
    let b = byte_below (key / 2 ^ 48 % 256) (omega arith) in
    let c = byte_below (key / 2 ^ 40 % 256) (omega arith) in
    let d = byte_below (key / 2 ^ 32 % 256) (omega arith) in
    let e = byte_below (key / 2 ^ 24 % 256) (omega arith) in
    let f = byte_below (key / 2 ^ 16 % 256) (omega arith) in
    let g = byte_below (key / 2 ^ 8 % 256) (omega arith) in
    let h = byte_below (key % 256) (omega arith) in
    omega arith

pub odd_stays : OddStays
odd_stays key = record { below = odd_below key; same = odd_again key }

-- of n draws
odd_in : (n : ℕ) (g : Gen) (moment : ℕ) (d : ℕ × Gen) → find (λ (x : ℕ × Gen). not (is_weak_key x.0)) (draws n g moment) ≡ Some d → IsOdd d.0
unfolding draws
odd_in zero g moment d h = absurd (cc)
odd_in (suc n) g moment d h = go (not (is_weak_key (odd_parity_of (drawn g moment)))) h (odd_in n (gen_after g moment) moment d)
  where
    go : (b : Bool) → cond b (Some (odd_parity_of (drawn g moment), gen_after g moment)) (find (λ (x : ℕ × Gen). not (is_weak_key x.0)) (draws n (gen_after g moment) moment)) ≡ Some d
        → (find (λ (x : ℕ × Gen). not (is_weak_key x.0)) (draws n (gen_after g moment) moment) ≡ Some d → IsOdd d.0) → IsOdd d.0
    go true h ih = (let is : (odd_parity_of (drawn g moment), gen_after g moment) ≡ d = cc in subst (λ (x : ℕ × Gen). IsOdd x.0) is (odd_stays (drawn g moment)))
    go false h ih = ih h

pub draws_odd : DrawsOdd
draws_odd g moment d h = odd_in 16 g moment d h

-- and the key that n draws give isn't weak
strong_in : (n : ℕ) (g : Gen) (moment : ℕ) (d : ℕ × Gen) → find (λ (x : ℕ × Gen). not (is_weak_key x.0)) (draws n g moment) ≡ Some d → is_weak_key d.0 ≡ false
unfolding draws
strong_in zero g moment d h = absurd (cc)
strong_in (suc n) g moment d h = go (not (is_weak_key (odd_parity_of (drawn g moment)))) refl h (strong_in n (gen_after g moment) moment d)
  where
    go : (b : Bool) → not (is_weak_key (odd_parity_of (drawn g moment))) ≡ b → cond b (Some (odd_parity_of (drawn g moment), gen_after g moment)) (find (λ (x : ℕ × Gen). not (is_weak_key x.0)) (draws n (gen_after g moment) moment)) ≡ Some d
        → (find (λ (x : ℕ × Gen). not (is_weak_key x.0)) (draws n (gen_after g moment) moment) ≡ Some d → is_weak_key d.0 ≡ false) → is_weak_key d.0 ≡ false
    go true e h ih = (let is : (odd_parity_of (drawn g moment), gen_after g moment) ≡ d = cc in subst (λ (x : ℕ × Gen). is_weak_key x.0 ≡ false) is (not-true (is_weak_key (odd_parity_of (drawn g moment))) e))
    go false e h ih = ih h

pub draws_strong : DrawsStrong
draws_strong g moment d h = strong_in 16 g moment d h
