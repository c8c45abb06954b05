-- Bytes that are written over, copied and torn.
use Rattle.std.proofs.Common.{◌≡◌, ℕ, suc, ◌+◌, ◌<◌, List, [], ◌∷◌, ◌++◌, length, get_or, set, take, drop, sym, ◌∙◌, ap, arith, append_assoc}
use Rattle.std.proofs.lemmas.List.{length-take-le, take_more, drop_more, get_or_at, set_at}
use Rattle.x_disk.specs.History.{torn_from, torn_or}
use Rattle.x_disk.specs.HistoryLaw.{length-torn_from}

torn_from-push : (choice : ℕ) (ranges : List (ℕ × ℕ)) (n q : ℕ) (xs : List ℕ) (x p : ℕ) → p ≡ q + length xs → torn_from choice ranges n q (xs ++ x ∷ []) ≡ torn_from choice ranges n q xs ++ torn_or choice ranges n p x ∷ []
torn_from-push choice ranges n q [] x p is = let same : p ≡ q = omega (arith, is) in ap (λ (k : ℕ). torn_or choice ranges n k x ∷ []) (sym same)
torn_from-push choice ranges n q (y ∷ xs) x p is = ap (λ (l : List ℕ). torn_or choice ranges n q y ∷ l) (torn_from-push choice ranges n (suc q) xs x p (omega (arith, is)))

pub tear_more : (choice : ℕ) (ranges : List (ℕ × ℕ)) (n : ℕ) (init image : List ℕ) (p y old : ℕ) → p < length init → image ≡ torn_from choice ranges n 0 (take p init) ++ drop p init
    → old ≡ get_or image p 0 → y ≡ torn_or choice ranges n p old → set image p y ≡ torn_from choice ranges n 0 (take (p + 1) init) ++ drop (p + 1) init
tear_more choice ranges n init image p y old lt is read gives =
    let d = get_or init p 0 in
    let front = torn_from choice ranges n 0 (take p init) in
    let size : length front ≡ p = length-torn_from choice ranges n 0 (take p init) ∙ length-take-le p init (omega (arith, lt)) in
    let all : image ≡ front ++ d ∷ drop (p + 1) init = is ∙ ap (λ (l : List ℕ). front ++ l) (drop_more init p 0 lt) in
    let here : old ≡ d = read ∙ ap (λ (l : List ℕ). get_or l p 0) all ∙ get_or_at front d (drop (p + 1) init) 0 p size in
    let y_is : y ≡ torn_or choice ranges n p d = gives ∙ ap (λ (x : ℕ). torn_or choice ranges n p x) here in
    let grown : torn_from choice ranges n 0 (take (p + 1) init) ≡ front ++ torn_or choice ranges n p d ∷ [] =
    ap (λ (l : List ℕ). torn_from choice ranges n 0 l) (take_more init p 0 lt) ∙ torn_from-push choice ranges n 0 (take p init) d p (omega (arith, length-take-le p init (omega (arith, lt)))) in
    ap (λ (l : List ℕ). set l p y) all ∙ set_at front d (drop (p + 1) init) y p size ∙ ap (λ (x : ℕ). front ++ x ∷ drop (p + 1) init) y_is
    ∙ sym (ap (λ (l : List ℕ). l ++ drop (p + 1) init) grown ∙ append_assoc front (torn_or choice ranges n p d ∷ []) (drop (p + 1) init))
