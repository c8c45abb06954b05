-- IP and its inverse by exchanges of bits between two halves.
use Rattle.std.proofs.Common.{◌≡◌, ℕ, ◌++◌, List, Bool, ap, ◌∙◌}
use Rattle.x_des.specs.Bits.{bits_of, chosen, pick, shifted_left, shifted_right}
use Rattle.x_des.specs.Des.{Halves, exchanged, joined}
use Rattle.x_des.specs.Tables.{ip, ip_inverse}

abbrev pub halves : List Bool → List Bool → Halves
halves l r = record { left = l; right = r }

pub same_halves : {l m r s : List Bool} → l ≡ m → r ≡ s → halves l r ≡ halves m s
same_halves {l} {m} {r} {s} e f = ap (λ (bs : List Bool). halves bs r) e ∙ ap (λ (bs : List Bool). halves m bs) f

-- the halves after one exchange
abbrev pub swapped : ℕ → ℕ → Halves → Halves
swapped by mask h = record {
  left = chosen (shifted_left by (bits_of 32 mask)) (shifted_left by h.right) h.left;
  right = chosen (bits_of 32 mask) (shifted_right by h.left) h.right;
}

-- the five exchanges of IP
pub permuted_is : (a b : ℕ) (g h i j k : Halves)
    → g ≡ swapped 4 0x0f0f0f0f (halves (bits_of 32 a) (bits_of 32 b)) → h ≡ swapped 16 0x0000ffff g
    → i ≡ swapped 2 0x33333333 (exchanged h) → j ≡ swapped 8 0x00ff00ff i → k ≡ swapped 1 0x55555555 (exchanged j)
    → joined k ≡ pick ip (bits_of 32 a ++ bits_of 32 b)
unfolding bits_of chosen pick
permuted_is a b g h i j k d e f m n =
    ap joined n
    ∙ ap (λ (x : Halves). joined (swapped 1 0x55555555 (exchanged x))) m
    ∙ ap (λ (x : Halves). joined (swapped 1 0x55555555 (exchanged (swapped 8 0x00ff00ff x)))) f
    ∙ ap (λ (x : Halves). joined (swapped 1 0x55555555 (exchanged (swapped 8 0x00ff00ff (swapped 2 0x33333333 (exchanged x)))))) e
    ∙ ap (λ (x : Halves). joined (swapped 1 0x55555555 (exchanged (swapped 8 0x00ff00ff (swapped 2 0x33333333 (exchanged (swapped 16 0x0000ffff x))))))) d

-- and those of its inverse
pub restored_is : (a b : ℕ) (g h i j k : Halves)
    → g ≡ swapped 1 0x55555555 (halves (bits_of 32 a) (bits_of 32 b)) → h ≡ swapped 8 0x00ff00ff (exchanged g)
    → i ≡ swapped 2 0x33333333 h → j ≡ swapped 16 0x0000ffff (exchanged i) → k ≡ swapped 4 0x0f0f0f0f j
    → joined k ≡ pick ip_inverse (bits_of 32 a ++ bits_of 32 b)
unfolding bits_of chosen pick
restored_is a b g h i j k d e f m n =
    ap joined n
    ∙ ap (λ (x : Halves). joined (swapped 4 0x0f0f0f0f x)) m
    ∙ ap (λ (x : Halves). joined (swapped 4 0x0f0f0f0f (swapped 16 0x0000ffff (exchanged x)))) f
    ∙ ap (λ (x : Halves). joined (swapped 4 0x0f0f0f0f (swapped 16 0x0000ffff (exchanged (swapped 2 0x33333333 x))))) e
    ∙ ap (λ (x : Halves). joined (swapped 4 0x0f0f0f0f (swapped 16 0x0000ffff (exchanged (swapped 2 0x33333333 (swapped 8 0x00ff00ff (exchanged x))))))) d
