-- Words of halves, and what the loops of the crate keep.
use Rattle.std.proofs.Common.{◌≡◌, ℕ, ◌+◌, ◌-◌, ◌*◌, ◌%◌, ◌/◌, ◌^◌, ◌<◌, ◌≤◌, Bool, List, [], ◌∷◌, ◌++◌, length, map, reverse, take, drop, set, get_or, refl, sym, ap, ◌∙◌}
use Rattle.std.specs.Prelude.{bit_and, bit_or, fold}
use Rattle.std.proofs.lemmas.List.{reverse-append, at_drop_more, at_drop_all, take_more, take_more_set, map_push}
use Rattle.std.proofs.lemmas.Nat.{shl_whole, or_shifted, and_mask, pow-add, mul-add-lt}
use Rattle.std.proofs.Math.Nat.{mul_comm}
use Rattle.x_des.specs.Bits.{bits_of, exclusive_or}
use Rattle.x_des.specs.Des.{cipher, Halves, round}
use Rattle.x_des.proofs.BitsLemmas.{take-bits, drop-bits, bits_cat, bits_mod}

-- two words side by side
pub joined_words : (j k m a b : ℕ) → m ≡ j + k → j + k ≤ 64 → a < 2 ^ j → b < 2 ^ k → bits_of m (bit_or (a * 2 ^ k % 2 ^ 64) b) ≡ bits_of j a ++ bits_of k b
joined_words j k m a b e fits p q =
    ap (bits_of m) (rw (shl_whole a j k 64 p fits) (or_shifted a k b q)) ∙ bits_cat j k m a b e q

pub joined_words-lt : (j k a b : ℕ) → j + k ≤ 64 → a < 2 ^ j → b < 2 ^ k → bit_or (a * 2 ^ k % 2 ^ 64) b < 2 ^ (j + k)
joined_words-lt j k a b fits p q =
    rw (shl_whole a j k 64 p fits, or_shifted a k b q, pow-add 2 j k) (lt_row a b (2 ^ j) (2 ^ k) p q)
  where
    lt_row : (a b m n : ℕ) → a < m → b < n → a * n + b < m * n
    lt_row a b m n p q = rw (mul_comm m n) (mul-add-lt a n b m p q)

-- the two halves of a word
pub high_half : (j k m x : ℕ) → m ≡ j + k → bits_of j (x / 2 ^ k) ≡ take j (bits_of m x)
high_half j k m x e = sym (take-bits j k m x e)

pub low_half : (j k m x : ℕ) → m ≡ j + k → bits_of k (bit_and x (2 ^ k - 1)) ≡ drop j (bits_of m x)
low_half j k m x e = ap (bits_of k) (and_mask x k) ∙ bits_mod k x ∙ sym (drop-bits j k m x e)

abbrev halves : List Bool → List Bool → Halves
halves l r = record { left = l; right = r }

-- a round more
pub round_step : (f : ℕ → List Bool) (keys : List ℕ) (i : ℕ) (l r n : List Bool) (h : Halves) → i < length keys
    → n ≡ exclusive_or l (cipher r (f (get_or keys i 0)))
    → fold round (halves l r) (map f (drop i keys)) ≡ h → fold round (halves r n) (map f (drop (i + 1) keys)) ≡ h
round_step f keys i l r n h in_keys mixed so_far =
    let one : fold round (halves l r) (map f (drop i keys)) ≡ fold round (halves r (exclusive_or l (cipher r (f (get_or keys i 0))))) (map f (drop (i + 1) keys))
    = at_drop_more (λ ks. fold round (halves l r) (map f ks)) keys i 0 in_keys in
    ap (λ (bs : List Bool). fold round (halves r bs) (map f (drop (i + 1) keys))) mixed ∙ sym one ∙ so_far

-- the end of the rounds
pub rounds_end : (f : ℕ → List Bool) (keys : List ℕ) (i : ℕ) (h g : Halves) → length keys ≤ i → fold round h (map f (drop i keys)) ≡ g → h ≡ g
rounds_end f keys i h g p e = sym (at_drop_all (λ ks. fold round h (map f ks)) keys i p) ∙ e

-- a round key more
pub key_more : (f : ℕ → List Bool) (keys : List ℕ) (all : List (List Bool)) (i word : ℕ) → i < length keys → i < length all
    → map f (take i keys) ≡ take i all → f word ≡ get_or all i [] → map f (take (i + 1) (set keys i word)) ≡ take (i + 1) all
key_more f keys all i word in_keys in_all so_far e =
    ap (map f) (take_more_set keys i word in_keys) ∙ map_push f (take i keys) word
    ∙ ap (λ ys. ys ++ f word ∷ []) so_far ∙ ap (λ b. take i all ++ b ∷ []) e ∙ sym (take_more all i [] in_all)

pub map-reverse : {X Y : Type 0} (f : X → Y) (xs : List X) → map f (reverse xs) ≡ reverse (map f xs)
map-reverse f [] = refl
map-reverse f (x ∷ xs) =
    ap (map f) (reverse-append (x ∷ []) xs) ∙ map_push f (reverse xs) x
    ∙ ap (λ ys. ys ++ f x ∷ []) (map-reverse f xs) ∙ sym (reverse-append (f x ∷ []) (map f xs))
