-- Each list passes a test behind, or has one first element that fails.
use Rattle.std.proofs.Common.{◌≡◌, ◌⊎◌, ℕ, suc, ◌+◌, Bool, true, false, List, [], ◌∷◌, ◌++◌, length, inl, inr, refl, sym, ap, subst, ◌∙◌, true≢false}
use Rattle.scenario.specs.declared.line.Line.{Line}
use Rattle.scenario.specs.Behind.{EachBehind, FirstFails}
use Rattle.scenario.specs.Reading.{IsFirstBad, IsScenario, is_good, lines_in}
use Rattle.scenario.specs.Rows.{rows_of}
use Rattle.scenario.specs.Laws.{HasReading, NeverBoth, OneFirstBad, OneScenario}

-- the test of what stands behind this element
abbrev tested_behind : {A : Type 0} → (List A → A → Bool) → A → List A → A → Bool
tested_behind passes x before y = passes (x ∷ before) y

none_behind : {A : Type 0} (passes : List A → A → Bool) → EachBehind passes []
none_behind passes [] after x e = absurd (cc)
none_behind passes (b ∷ before) after x e = absurd (cc)

tail_behind : {A : Type 0} (passes : List A → A → Bool) (x : A) (xs : List A) → EachBehind passes (x ∷ xs) → EachBehind (tested_behind passes x) xs
tail_behind passes x xs h before after y e = h (x ∷ before) after y (ap (λ l. x ∷ l) e)

cons_behind : {A : Type 0} (passes : List A → A → Bool) (x : A) (xs : List A) → passes [] x ≡ true → EachBehind (tested_behind passes x) xs → EachBehind passes (x ∷ xs)
cons_behind passes x xs first h [] after y e = let same : x ≡ y = cc in subst (λ z. passes [] z ≡ true) same first
cons_behind passes x xs first h (b ∷ before) after y e =
    let same : x ≡ b = cc in
    subst (λ z. passes (z ∷ before) y ≡ true) same (h before after y cc)

-- one more that passes
pub more_behind : {A : Type 0} (passes : List A → A → Bool) (xs : List A) (y : A) → EachBehind passes xs → passes xs y ≡ true → EachBehind passes (xs ++ y ∷ [])
more_behind passes [] y h last = cons_behind passes y [] last (none_behind (tested_behind passes y))
more_behind passes (x ∷ xs) y h last =
    cons_behind passes x (xs ++ y ∷ []) (h [] xs x refl) (more_behind (tested_behind passes x) xs y (tail_behind passes x xs h) last)

pub first_fails : {A : Type 0} (passes : List A → A → Bool) (xs : List A) → EachBehind passes xs ⊎ ((before : List A) × FirstFails passes xs before)
first_fails passes [] = inl (none_behind passes)
first_fails {A} passes (x ∷ xs) = by (passes [] x) refl (first_fails (tested_behind passes x) xs)
  where
    by : (b : Bool) → passes [] x ≡ b → (EachBehind (tested_behind passes x) xs ⊎ ((before : List A) × FirstFails (tested_behind passes x) xs before))
        → EachBehind passes (x ∷ xs) ⊎ ((before : List A) × FirstFails passes (x ∷ xs) before)
    by false e rest = inr ([], record { each = none_behind passes; here = x; after = xs; whole = refl; fails = e })
    by true e (inl h) = inl (cons_behind passes x xs e h)
    by true e (inr f) = inr (x ∷ f.0, record { each = cons_behind passes x f.0 e f.1.each; here = f.1.here; after = f.1.after; whole = ap (λ l. x ∷ l) f.1.whole; fails = f.1.fails })

pub same_place : {A : Type 0} (passes : List A → A → Bool) (xs a b : List A) → FirstFails passes xs a → FirstFails passes xs b → length a ≡ length b
same_place passes xs [] [] f g = refl
same_place passes xs [] (y ∷ b) f g = absurd (
    let same : f.here ≡ y = cc (f.whole, g.whole) in
    true≢false (sym (g.each [] b y refl) ∙ sym (ap (passes []) same) ∙ f.fails))
same_place passes xs (x ∷ a) [] f g = absurd (
    let same : g.here ≡ x = cc (f.whole, g.whole) in
    true≢false (sym (f.each [] a x refl) ∙ sym (ap (passes []) same) ∙ g.fails))
same_place passes [] (x ∷ a) (y ∷ b) f g = absurd (cc (f.whole))
same_place {A} passes (z ∷ xs) (x ∷ a) (y ∷ b) f g = ap (λ n. suc n) (same_place (tested_behind passes z) xs a b (inside x a f) (inside y b g))
  where
    inside : (w : A) (c : List A) → FirstFails passes (z ∷ xs) (w ∷ c) → FirstFails (tested_behind passes z) xs c
    inside w c h =
        let same : w ≡ z = cc (h.whole) in
        subst (λ v. FirstFails (tested_behind passes v) xs c) same (record {
          each = tail_behind passes w c h.each;
          here = h.here;
          after = h.after;
          whole = cc (h.whole);
          fails = h.fails;
        })

pub never_fails : {A : Type 0} (passes : List A → A → Bool) (xs before : List A) → EachBehind passes xs → ¬ (FirstFails passes xs before)
never_fails passes xs before h f = true≢false (sym (h before f.after f.here f.whole) ∙ f.fails)

-- ---- the laws

pub has_reading : HasReading
has_reading text = by (first_fails is_good (rows_of text))
  where
    by : (EachBehind is_good (rows_of text) ⊎ ((before : _) × FirstFails is_good (rows_of text) before))
        → ((lines : List Line) × IsScenario text lines) ⊎ ((number : ℕ) × IsFirstBad text number)
    by (inl h) = inl (lines_in (rows_of text), record { good = h; values = refl })
    by (inr f) = inr (length f.0 + 1, (f.0, f.1, refl))

pub one_scenario : OneScenario
one_scenario text a b f g = f.values ∙ sym g.values

pub one_first_bad : OneFirstBad
one_first_bad text a b f g = f.2 ∙ ap (λ n. n + 1) (same_place is_good (rows_of text) f.0 g.0 f.1 g.1) ∙ sym g.2

pub never_both : NeverBoth
never_both text lines number f g = never_fails is_good (rows_of text) g.0 f.good g.1
