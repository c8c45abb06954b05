-- A fact is added behind the others.
use Rattle.std.proofs.Common.{arith, ◌≡◌, ◌≤◌, ◌<◌, ◌⊎◌, inl, inr, ℕ, zero, suc, cond, Option, Some, List, [], ◌∷◌, ◌++◌, length, length-append, ◌+◌, take, slice_get, refl, sym, ◌∙◌, ap, subst}
use Rattle.std.proofs.lemmas.List.{take_all, take-append-le}
use Rattle.std.specs.HashMap.{HashMap, get, Updates}
use Rattle.std.specs.Map.{lookup}
use Rattle.x_base.specs.declared.key_name.FullName.{FullName}
use Rattle.fact_book.specs.declared.entry.Entry.{Entry}
use Rattle.fact_book.specs.Facts.{same_full_name}
use Rattle.fact_book.specs.Book.{latest_of, facts_of, IsBook}
use Rattle.fact_book.proofs.Found.{latest_push}

pub facts_push : (es : List Entry) (ts : List (List ℕ)) (e : Entry) (t : List ℕ) → length ts ≡ length es → facts_of (es ++ e ∷ []) (ts ++ t ∷ []) ≡ facts_of es ts ++ record { under = e.under; text = t } ∷ []
facts_push [] [] e t n = refl
facts_push [] (y ∷ ys) e t n = absurd (omega (arith, n))
facts_push (x ∷ xs) [] e t n = absurd (omega (arith, n))
facts_push (x ∷ xs) (y ∷ ys) e t n = ap (λ fs. record { under = x.under; text = y } ∷ fs) (facts_push xs ys e t (omega (arith, n)))

length-facts : (es : List Entry) (ts : List (List ℕ)) → length ts ≡ length es → length (facts_of es ts) ≡ length es
length-facts [] ts n = refl
length-facts (e ∷ es) [] n = absurd (omega (arith, n))
length-facts (e ∷ es) (t ∷ ts) n = ap suc (length-facts es ts (omega (arith, n)))

-- an entry of the longer list is an earlier one, or the new one
push_cases : {A : Type 0} (xs : List A) (y : A) (i : ℕ) (a : A) → slice_get (xs ++ y ∷ []) i ≡ Some a → ((slice_get xs i ≡ Some a) × (i < length xs)) ⊎ ((i ≡ length xs) × (a ≡ y))
push_cases [] y zero a h = inr (refl, cc)
push_cases [] y (suc i) a h = absurd (cc)
push_cases (x ∷ xs) y zero a h = inl (h, omega arith)
push_cases (x ∷ xs) y (suc i) a h = elim (push_cases xs y i a h) [
  | inl l ↦ inl (l.0, (let n = l.1 in omega (arith, n)))
  | inr r ↦ inr (ap suc r.0, r.1)
]

pub added_book : (es : List Entry) (ts : List (List ℕ)) (e : Entry) (t : List ℕ) (before after : FullName → Option ℕ) → IsBook es ts before → e.earlier ≡ before e.under
    → ((u : FullName) → after u ≡ cond (same_full_name e.under u) (Some (length es)) (before u)) → IsBook (es ++ e ∷ []) (ts ++ t ∷ []) after
added_book es ts e t before after b is new = record { sizes = sizes; latest_is = latest; earlier_is = earlier }
  where
    size : length (facts_of es ts) ≡ length es
    size = length-facts es ts b.sizes

    pushed : facts_of (es ++ e ∷ []) (ts ++ t ∷ []) ≡ facts_of es ts ++ record { under = e.under; text = t } ∷ []
    pushed = facts_push es ts e t b.sizes

    sizes : length (ts ++ t ∷ []) ≡ length (es ++ e ∷ [])
    sizes = length-append ts (t ∷ []) ∙ (ap (λ n. n + 1) b.sizes ∙ sym (length-append es (e ∷ [])))

    latest : (u : FullName) → after u ≡ latest_of u (facts_of (es ++ e ∷ []) (ts ++ t ∷ []))
    latest u =
        new u ∙ (ap (λ (o : Option ℕ). cond (same_full_name e.under u) (Some (length es)) o) (b.latest_is u)
        ∙ (ap (λ (n : ℕ). cond (same_full_name e.under u) (Some n) (latest_of u (facts_of es ts))) (sym size)
        ∙ (sym (latest_push u (facts_of es ts) (record { under = e.under; text = t })) ∙ ap (latest_of u) (sym pushed))))

    front : (i : ℕ) → i ≤ length es → take i (facts_of (es ++ e ∷ []) (ts ++ t ∷ [])) ≡ take i (facts_of es ts)
    front i l = ap (take i) pushed ∙ take-append-le i (facts_of es ts) _ (let n = size in omega (arith, n, l))

    earlier : (i : ℕ) (x : Entry) → slice_get (es ++ e ∷ []) i ≡ Some x → x.earlier ≡ latest_of x.under (take i (facts_of (es ++ e ∷ []) (ts ++ t ∷ [])))
    earlier i x h = elim (push_cases es e i x h) [
      | inl l ↦ b.earlier_is i x l.0 ∙ ap (latest_of x.under) (sym (front i (let n = l.1 in omega (arith, n))))
      | inr r ↦ (let all : take i (facts_of es ts) ≡ facts_of es ts = whole i r.0 in
          let here : e.earlier ≡ latest_of e.under (take i (facts_of (es ++ e ∷ []) (ts ++ t ∷ []))) = is ∙ (b.latest_is e.under ∙ ap (latest_of e.under) (sym (front i (let n = r.0 in omega (arith, n)) ∙ all))) in
          subst (λ (y : Entry). y.earlier ≡ latest_of y.under (take i (facts_of (es ++ e ∷ []) (ts ++ t ∷ [])))) (sym r.1) here)
    ]
      where
        whole : (i : ℕ) → i ≡ length es → take i (facts_of es ts) ≡ facts_of es ts
        whole i q = take_all i (facts_of es ts) (let n = size in omega (arith, n, q))

-- a place is put under a name
pub put_latest : {S : Type 0} (m k n : HashMap FullName ℕ S) (u : FullName) (place count : ℕ) → k.entries ≡ m.entries → place ≡ count → Updates same_full_name k n u (Some place)
    → (q : FullName) → get same_full_name n q ≡ cond (same_full_name u q) (Some count) (get same_full_name m q)
put_latest m k n u place count e f up q =
    up.0 q ∙ (ap (λ (p : ℕ). cond (same_full_name u q) (Some p) (get same_full_name k q)) f ∙ ap (λ (es : List (FullName × ℕ)). cond (same_full_name u q) (Some count) (lookup (same_full_name q) es)) e)
