-- A list mapped in place, an element at a time.
use Rattle.std.proofs.Common.{◌≡◌, ℕ, ◌+◌, ◌<◌, ◌≤◌, List, [], ◌∷◌, ◌++◌, length, map, take, drop, set, get_or, sym, ap, ◌∙◌, arith}
use Rattle.std.proofs.lemmas.List.{take_more_set, map_more, drop-set-lt, drop-drop, get_or-drop, take_all}

pub record MappedTo (f : ℕ → ℕ) (i : ℕ) (xs ys : List ℕ) : Type 0 where
  pub size : length xs ≡ length ys
  pub front : take i xs ≡ map f (take i ys)
  pub rest : drop i xs ≡ drop i ys

pub mapped_more : (f : ℕ → ℕ) (i : ℕ) (xs ys : List ℕ) → i < length xs → MappedTo f i xs ys → (take (i + 1) (set xs i (f (get_or xs i 0))) ≡ map f (take (i + 1) ys)) × (drop (i + 1) (set xs i (f (get_or xs i 0))) ≡ drop (i + 1) ys)
mapped_more f i xs ys h m =
    let same : get_or xs i 0 ≡ get_or ys i 0
    = ap (λ n. get_or xs n 0) (let e : i ≡ i + 0 = omega arith in e) ∙ sym (get_or-drop i xs 0 0) ∙ ap (λ zs. get_or zs 0 0) m.rest ∙ get_or-drop i ys 0 0 ∙ ap (λ n. get_or ys n 0) (let e : i + 0 ≡ i = omega arith in e) in (
      take_more_set xs i (f (get_or xs i 0)) h ∙ ap (λ zs. zs ++ f (get_or xs i 0) ∷ []) m.front ∙ ap (λ x. map f (take i ys) ++ f x ∷ []) same ∙ sym (map_more f ys i 0 (let e = m.size in omega arith)),
      drop-set-lt (i + 1) xs i (f (get_or xs i 0)) (omega arith) ∙ sym (drop-drop 1 i xs) ∙ ap (drop 1) m.rest ∙ drop-drop 1 i ys,
    )

pub mapped_all : (f : ℕ → ℕ) (i : ℕ) (xs ys : List ℕ) → length xs ≤ i → MappedTo f i xs ys → xs ≡ map f ys
mapped_all f i xs ys h m = sym (take_all i xs h) ∙ m.front ∙ ap (map f) (take_all i ys (let e = m.size in omega arith))
