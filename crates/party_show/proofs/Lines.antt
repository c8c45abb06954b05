-- A line as its first word, each other word behind a blank, and a line feed.
use Rattle.std.proofs.Common.{◌≡◌, ℕ, ◌+◌, List, [], ◌∷◌, ◌++◌, Some, map, take, slice_get, refl, sym, ap, ◌∙◌, append_assoc, append-nil}
use Rattle.std.specs.List.{concat, flat_map}
use Rattle.std.proofs.lemmas.List.{take_more, map-append}
use Rattle.std.proofs.lemmas.List.Folds.{concat-append}
use Rattle.std.proofs.lemmas.Option.{slice_get_within, get_or_from_slice_get}
use Rattle.party_show.specs.Show.{line}

line_words : {X : Type 0} (word : X → List ℕ) (w : List ℕ) (xs : List X) → line (w ∷ map word xs) ≡ w ++ (flat_map (λ x. 32 ∷ word x) xs ++ 10 ∷ [])
line_words word w [] = refl
line_words {X} word w (x ∷ xs) = ap (λ (rest : List ℕ). w ++ 32 ∷ rest) (line_words word (word x) xs ∙ sym (append_assoc (word x) (flat_map (λ (y : X). 32 ∷ word y) xs) (10 ∷ [])))

-- the lines of one row more
lines_next : {R : Type 0} (text : R → List ℕ) (rs : List R) (i : ℕ) (r : R) → slice_get rs i ≡ Some r → concat (map text (take (i + 1) rs)) ≡ concat (map text (take i rs)) ++ text r
lines_next {R} text rs i r at =
    ap (λ (ys : List R). concat (map text ys)) (take_more rs i r (slice_get_within rs i r at) ∙ ap (λ (x : R). take i rs ++ x ∷ []) (get_or_from_slice_get rs i r r at))
    ∙ ap concat (map-append text (take i rs) (r ∷ []))
    ∙ concat-append (map text (take i rs)) (map text (r ∷ []))
    ∙ ap (λ (ys : List ℕ). concat (map text (take i rs)) ++ ys) (append-nil (text r))

pub lines_more : {R : Type 0} (text : R → List ℕ) (rs : List R) (i : ℕ) (r : R) (before out new : List ℕ)
    → slice_get rs i ≡ Some r → out ≡ before ++ concat (map text (take i rs)) → new ≡ out ++ text r → new ≡ before ++ concat (map text (take (i + 1) rs))
lines_more {R} text rs i r before out new at o n =
    n ∙ ap (λ (ys : List ℕ). ys ++ text r) o
    ∙ append_assoc before (concat (map text (take i rs))) (text r)
    ∙ ap (λ (ys : List ℕ). before ++ ys) (sym (lines_next text rs i r at))

-- a text to which the words and the line feed were appended
pub line_pushed : {X : Type 0} (xs : List X) (word : X → List ℕ) (w old first words new : List ℕ)
    → first ≡ old ++ w → words ≡ first ++ flat_map (λ x. 32 ∷ word x) xs → new ≡ words ++ 10 ∷ [] → new ≡ old ++ line (w ∷ map word xs)
line_pushed {X} xs word w old first words new f v n =
    n ∙ ap (λ (ys : List ℕ). ys ++ 10 ∷ []) (v ∙ ap (λ (ys : List ℕ). ys ++ flat_map (λ (x : X). 32 ∷ word x) xs) f)
    ∙ append_assoc (old ++ w) (flat_map (λ (x : X). 32 ∷ word x) xs) (10 ∷ [])
    ∙ append_assoc old w (flat_map (λ (x : X). 32 ∷ word x) xs ++ 10 ∷ [])
    ∙ ap (λ (ys : List ℕ). old ++ ys) (sym (line_words word w xs))
