-- What the gates of a circuit show in one lane of vectors, by truth tables: bit s of a table is a gate's value
-- for the six inputs that s writes.
use Rattle.std.proofs.Common.{◌≡◌, ℕ, ◌+◌, ◌-◌, ◌/◌, ◌%◌, ◌<◌, zero, suc, Bool, true, false, eqb, List, [], ◌∷◌, map, length, get_or, refl, sym, ap, subst, ◌∙◌, ◌^◌, arith, Fits, w64}
use Rattle.std.specs.Prelude.{bit_and, bit_or, bit_xor, min, max}
use Rattle.std.specs.Int.{bit_at, bit_not}
use Rattle.std.specs.Simd.Lanes.{zip2, Each1}
use Rattle.std.proofs.lemmas.Simd.{get_or-zip2, length-zip2, Each1-get_or, Each1-zip2, Each2-of}
use Rattle.std.proofs.lemmas.List.{get_or-map, length-map}
use Rattle.std.proofs.lemmas.Nat.Bits.{bit_at_xor, bit_at_and, bit_at_or, bit_at_not, bit_at-lt}
use Rattle.std.proofs.lemmas.Bool.{eqb-true, agree_below, agree_below_at}
use Rattle.x_des.specs.Bits.{bit, bits_of, number}
use Rattle.x_des.specs.Des.{substituted}
use Rattle.x_des.proofs.BitsLemmas.{bits-number_at, number-lt}
use Rattle.des_slices.specs.Vectors.{IsVector, lane, lane_bit}
use Rattle.des_slices.proofs.Lanes.{get_or-lane}
use Rattle.std.proofs.Math.Facts.{Fits-xor, Fits-and, Fits-or}

-- lane l shows bit s of the table t
pub record Shows (l s t : ℕ) (v : List ℕ) : Type 0 where
  pub lane : l < 128
  pub six : s < 64
  pub table : Fits w64 t
  pub vector : IsVector v
  pub shown : bit_at (get_or v (l / 64) 0) (l % 64) ≡ bit_at t s

pub vector_zip : (f : ℕ → ℕ → ℕ) → ((a b : ℕ) → Fits w64 a → Fits w64 b → Fits w64 (f a b)) → (v w : List ℕ) → IsVector v → IsVector w → IsVector (zip2 f v w)
vector_zip f fits v w p q = record {
  two = length-zip2 f v w (omega (arith, p.two, q.two)) ∙ p.two;
  fits = Each1-zip2 f (Fits w64) v w (Each2-of (Fits w64) (Fits w64) (λ a b. Fits w64 (f a b)) fits v w p.fits q.fits);
}

two_inputs : (f g : ℕ → ℕ → ℕ) → ((a b : ℕ) → Fits w64 a → Fits w64 b → Fits w64 (f a b)) → ((a b i : ℕ) → bit_at (f a b) i ≡ g (bit_at a i) (bit_at b i))
    → (l s t u : ℕ) (v w : List ℕ) → Shows l s t v → Shows l s u w → Shows l s (f t u) (zip2 f v w)
two_inputs f g fits law l s t u v w p q =
    let k = l / 64 in
    let h : k < 2 = (let e = p.lane in omega arith) in
    record {
      lane = p.lane;
      six = p.six;
      table = fits t u p.table q.table;
      vector = vector_zip f fits v w p.vector q.vector;
      shown = ap (λ n. bit_at n (l % 64)) (get_or-zip2 f v w k 0 0 0 (omega (arith, h, p.vector.two)) (omega (arith, h, q.vector.two)))
          ∙ law (get_or v k 0) (get_or w k 0) (l % 64)
          ∙ ap (λ n. g n (bit_at (get_or w k 0) (l % 64))) p.shown ∙ ap (g (bit_at t s)) q.shown
          ∙ sym (law t u s);
    }

pub xor : {l s t u : ℕ} {v w : List ℕ} → Shows l s t v → Shows l s u w → Shows l s (bit_xor t u) (zip2 bit_xor v w)
xor {l} {s} {t} {u} {v} {w} p q = two_inputs bit_xor (λ a b. (a + b) % 2) (λ a b x y. Fits-xor x y) bit_at_xor l s t u v w p q

pub and : {l s t u : ℕ} {v w : List ℕ} → Shows l s t v → Shows l s u w → Shows l s (bit_and t u) (zip2 bit_and v w)
and {l} {s} {t} {u} {v} {w} p q = two_inputs bit_and min (λ a b x y. Fits-and b x) bit_at_and l s t u v w p q

pub or : {l s t u : ℕ} {v w : List ℕ} → Shows l s t v → Shows l s u w → Shows l s (bit_or t u) (zip2 bit_or v w)
or {l} {s} {t} {u} {v} {w} p q = two_inputs bit_or max (λ a b x y. Fits-or x y) bit_at_or l s t u v w p q

pub not : {l s t : ℕ} {v : List ℕ} → Shows l s t v → Shows l s (bit_not w64 t) (map (bit_not w64) v)
not {l} {s} {t} {v} p =
    let k = l / 64 in
    let h : k < 2 = (let e = p.lane in omega arith) in
    record {
      lane = p.lane;
      six = p.six;
      table = record { fits = omega arith };
      vector = record { two = length-map v (bit_not w64) ∙ p.vector.two; fits = Each1-map v };
      shown = ap (λ n. bit_at n (l % 64)) (get_or-map (bit_not w64) v k 0 0 (omega (arith, h, p.vector.two)))
          ∙ bit_at_not w64 (get_or v k 0) (l % 64) (Each1-get_or (Fits w64) v k 0 (omega (arith, h, p.vector.two)) p.vector.fits).fits (omega arith)
          ∙ ap (λ n. 1 - n) p.shown
          ∙ sym (bit_at_not w64 t s p.table.fits p.six);
    }
  where
    Each1-map : (v : List ℕ) → Each1 (Fits w64) (map (bit_not w64) v)
    Each1-map [] = tt
    Each1-map (x ∷ v) = (record { fits = omega arith }, Each1-map v)

-- ---- the six inputs

bit_from_test : (x y : ℕ) → x < 2 → y < 2 → eqb x 1 ≡ eqb y 1 → x ≡ y
bit_from_test zero zero p q e = refl
bit_from_test zero (suc zero) p q e = cc
bit_from_test (suc zero) zero p q e = cc
bit_from_test (suc zero) (suc zero) p q e = refl
bit_from_test zero (suc (suc y)) p q e = absurd (omega arith)
bit_from_test (suc zero) (suc (suc y)) p q e = absurd (omega arith)
bit_from_test (suc (suc x)) y p q e = absurd (omega arith)

-- the table of input k from the right
input_table : (t k : ℕ) → agree_below (λ s. eqb (bit_at t s) (bit_at s k)) (λ n. true) 64 ≡ true → (s : ℕ) → s < 64 → bit_at t s ≡ bit_at s k
input_table t k e s h = eqb-true (bit_at t s) (bit_at s k) (agree_below_at (λ s. eqb (bit_at t s) (bit_at s k)) (λ n. true) 64 s e h)

input : (l s t k : ℕ) (v : List ℕ) → l < 128 → s < 64 → Fits w64 t → agree_below (λ s. eqb (bit_at t s) (bit_at s k)) (λ n. true) 64 ≡ true
    → IsVector v → lane_bit l v ≡ bit s k → Shows l s t v
input l s t k v h q fits e p same = record {
  lane = h;
  six = q;
  table = fits;
  vector = p;
  shown = bit_from_test (bit_at (get_or v (l / 64) 0) (l % 64)) (bit_at s k) (bit_at-lt (get_or v (l / 64) 0) (l % 64)) (bit_at-lt s k) same ∙ sym (input_table t k e s q);
}

-- the number that six inputs write in a lane
pub six_of : ℕ → List (List ℕ) → ℕ
six_of l vs = number (lane l vs)

pub record Inputs (l : ℕ) (six : List (List ℕ)) : Type 0 where
  pub a : Shows l (six_of l six) 0xffffffff00000000 (get_or six 0 [])
  pub b : Shows l (six_of l six) 0xffff0000ffff0000 (get_or six 1 [])
  pub c : Shows l (six_of l six) 0xff00ff00ff00ff00 (get_or six 2 [])
  pub d : Shows l (six_of l six) 0xf0f0f0f0f0f0f0f0 (get_or six 3 [])
  pub e : Shows l (six_of l six) 0xcccccccccccccccc (get_or six 4 [])
  pub f : Shows l (six_of l six) 0xaaaaaaaaaaaaaaaa (get_or six 5 [])

length-six_lane : (l : ℕ) (six : List (List ℕ)) → length six ≡ 6 → length (lane l six) ≡ 6
unfolding lane
length-six_lane l six e = length-map six (lane_bit l) ∙ e

bits_of_six : (l : ℕ) (six : List (List ℕ)) → length six ≡ 6 → bits_of 6 (six_of l six) ≡ lane l six
unfolding six_of
bits_of_six l six e = bits-number_at 6 (lane l six) (length-six_lane l six e)

six_of-lt : (l : ℕ) (six : List (List ℕ)) → length six ≡ 6 → six_of l six < 64
unfolding six_of
six_of-lt l six e = subst (λ n. number (lane l six) < 2 ^ n) (length-six_lane l six e) (number-lt (lane l six))

pub inputs : (l : ℕ) (six : List (List ℕ)) → l < 128 → length six ≡ 6 → Each1 IsVector six → Inputs l six
unfolding bits_of
inputs l six h size vectors =
    let s = six_of l six in
    let small : s < 64 = six_of-lt l six size in
    let at : (i : ℕ) → lane_bit l (get_or six i []) ≡ get_or (bits_of 6 s) i false = λ i. get_or-lane l six i ∙ ap (λ bs. get_or bs i false) (sym (bits_of_six l six size)) in
    let is : (i : ℕ) → i < 6 → IsVector (get_or six i []) = λ i p. Each1-get_or IsVector six i [] (omega (arith, p, size)) vectors in
    record {
      a = input l s 0xffffffff00000000 5 (get_or six 0 []) h small (record { fits = omega arith }) refl (is 0 (omega arith)) (at 0);
      b = input l s 0xffff0000ffff0000 4 (get_or six 1 []) h small (record { fits = omega arith }) refl (is 1 (omega arith)) (at 1);
      c = input l s 0xff00ff00ff00ff00 3 (get_or six 2 []) h small (record { fits = omega arith }) refl (is 2 (omega arith)) (at 2);
      d = input l s 0xf0f0f0f0f0f0f0f0 2 (get_or six 3 []) h small (record { fits = omega arith }) refl (is 3 (omega arith)) (at 3);
      e = input l s 0xcccccccccccccccc 1 (get_or six 4 []) h small (record { fits = omega arith }) refl (is 4 (omega arith)) (at 4);
      f = input l s 0xaaaaaaaaaaaaaaaa 0 (get_or six 5 []) h small (record { fits = omega arith }) refl (is 5 (omega arith)) (at 5);
    }

-- ---- the four outputs

-- whether four tables are those of an S-box
abbrev pub tables_agree : List ℕ → ℕ → ℕ → ℕ → ℕ → Bool
tables_agree box t u v w = agree_below (λ s. eqb (number (bit t s ∷ bit u s ∷ bit v s ∷ bit w s ∷ [])) (number (substituted box (bits_of 6 s)))) (λ n. true) 64

four_bits : (a b c d : Bool) (bs : List Bool) → length bs ≡ 4 → number (a ∷ b ∷ c ∷ d ∷ []) ≡ number bs → a ∷ b ∷ c ∷ d ∷ [] ≡ bs
four_bits a b c d bs e same = sym (bits-number_at 4 (a ∷ b ∷ c ∷ d ∷ []) refl) ∙ ap (bits_of 4) same ∙ bits-number_at 4 bs e

pub length-substituted : (box : List ℕ) (bs : List Bool) → length (substituted box bs) ≡ 4
unfolding substituted bits_of
length-substituted box bs = refl

shown_bit : {l s t : ℕ} {v : List ℕ} → Shows l s t v → lane_bit l v ≡ bit t s
shown_bit p = ap (λ n. eqb n 1) p.shown

four_shown : (box : List ℕ) (t u v w l : ℕ) (six : List (List ℕ)) (g h i j : List ℕ) → length six ≡ 6 → tables_agree box t u v w ≡ true
    → Shows l (six_of l six) t g → Shows l (six_of l six) u h
    → Shows l (six_of l six) v i → Shows l (six_of l six) w j
    → lane l (g ∷ h ∷ i ∷ j ∷ []) ≡ substituted box (lane l six)
unfolding lane
four_shown box t u v w l six g h i j size test p q r x =
    let s = six_of l six in
    ap (λ y. y ∷ lane_bit l h ∷ lane_bit l i ∷ lane_bit l j ∷ []) (shown_bit p)
    ∙ ap (λ y. bit t s ∷ y ∷ lane_bit l i ∷ lane_bit l j ∷ []) (shown_bit q)
    ∙ ap (λ y. bit t s ∷ bit u s ∷ y ∷ lane_bit l j ∷ []) (shown_bit r)
    ∙ ap (λ y. bit t s ∷ bit u s ∷ bit v s ∷ y ∷ []) (shown_bit x)
    ∙ four_bits (bit t s) (bit u s) (bit v s) (bit w s) (substituted box (bits_of 6 s)) (length-substituted box (bits_of 6 s))
    (eqb-true _ _ (agree_below_at (λ s. eqb (number (bit t s ∷ bit u s ∷ bit v s ∷ bit w s ∷ [])) (number (substituted box (bits_of 6 s)))) (λ n. true) 64 s test p.six))
    ∙ ap (substituted box) (bits_of_six l six size)

pub outputs : (box : List ℕ) (t u v w : ℕ) (six : List (List ℕ)) (g h i j : List ℕ) → length six ≡ 6 → tables_agree box t u v w ≡ true
    → ((l : ℕ) → l < 128 → Shows l (six_of l six) t g × Shows l (six_of l six) u h
    × Shows l (six_of l six) v i × Shows l (six_of l six) w j)
    → ((l : ℕ) → l < 128 → lane l (g ∷ h ∷ i ∷ j ∷ []) ≡ substituted box (lane l six)) × Each1 IsVector (g ∷ h ∷ i ∷ j ∷ [])
outputs box t u v w six g h i j size test shown =
    let first = shown 0 (omega arith) in (
      λ l p. let s = shown l p in four_shown box t u v w l six g h i j size test s.0 s.1 s.2 s.3,
      (first.0.vector, (first.1.vector, (first.2.vector, (first.3.vector, tt)))),
    )
