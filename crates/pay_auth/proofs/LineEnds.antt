-- One LF at the end is taken off.
use Rattle.std.proofs.Common.{◌≡◌, ◌≢◌, ℕ, ◌+◌, ◌≤◌, Bool, true, false, if◌then◌else◌, List, [], ◌∷◌, ◌++◌, length, take, refl, ap, ◌∙◌, arith, append_assoc, length-append}
use Rattle.std.specs.Prelude.{◌==◌}
use Rattle.std.proofs.Math.Seq.{take-append_seam}
use Rattle.pay_auth.specs.Texts.{without_line_end}

-- behind a first byte the rule is the same
behind : (b : ℕ) (front : List ℕ) (last : ℕ) → without_line_end (b ∷ (front ++ last ∷ [])) ≡ b ∷ without_line_end (front ++ last ∷ [])
behind b [] last = refl
behind b (c ∷ front) last = refl

pub end_cut : (front : List ℕ) → without_line_end (front ++ 10 ∷ []) ≡ front
end_cut [] = refl
end_cut (b ∷ front) = behind b front 10 ∙ ap (λ (l : List ℕ). b ∷ l) (end_cut front)

pub end_stays : (front : List ℕ) (last : ℕ) → last ≢ 10 → without_line_end (front ++ last ∷ []) ≡ front ++ last ∷ []
end_stays [] last other = grind arith
end_stays (b ∷ front) last other = behind b front last ∙ ap (λ (l : List ℕ). b ∷ l) (end_stays front last other)

pub end_none : (bytes : List ℕ) → length bytes ≡ 0 → bytes ≡ without_line_end bytes
end_none [] none = refl
end_none (b ∷ bytes) none = absurd (omega (arith, none))

-- what is left stands in front
pub front_left : (bytes : List ℕ) → (tail : List ℕ) × (bytes ≡ without_line_end bytes ++ tail)
front_left [] = ([], refl)
front_left (b ∷ []) = last_left (b == 10) b
  where
    last_left : (cut : Bool) (b : ℕ) → (tail : List ℕ) × (b ∷ [] ≡ (if cut then [] else b ∷ []) ++ tail)
    last_left true b = (b ∷ [], refl)
    last_left false b = ([], refl)
front_left (b ∷ c ∷ bytes) = let rest = front_left (c ∷ bytes) in (rest.0, ap (λ (l : List ℕ). b ∷ l) rest.1)

-- the front of what is left is the front of all
pub front_taken : (bytes front back : List ℕ) (n : ℕ) → without_line_end bytes ≡ front ++ back → n ≡ length front → (n ≤ length bytes) × (take n bytes ≡ front)
front_taken bytes front back n is size =
    let left = front_left bytes in
    let whole : bytes ≡ front ++ (back ++ left.0) = left.1 ∙ (ap (λ (l : List ℕ). l ++ left.0) is ∙ append_assoc front back left.0) in
    let long : length bytes ≡ length front + length (back ++ left.0) = ap length whole ∙ length-append front (back ++ left.0) in (
      omega (arith, size, long),
      ap (λ (k : ℕ). take k bytes) size ∙ (ap (take (length front)) whole ∙ take-append_seam front (back ++ left.0)),
    )
