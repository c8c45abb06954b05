-- What two lists of bytes have in common, where one of them grows.
use Rattle.std.proofs.Common.{◌≡◌, ◌≤◌, ℕ, ◌-◌, Bool, true, false, List, [], ◌∷◌, ◌++◌, length, take, drop, bytes_eq, refl, sym, ◌∙◌, ap, ap₂, arith}
use Rattle.std.specs.Prelude.{◌==◌}
use mathlib.Core.Logic.{◌≢◌}
use Rattle.std.proofs.lemmas.Slice.Eq.{bytes_eq-Decides}
use Rattle.std.proofs.lemmas.Bool.{eqb-true, eq-eqb}
use Rattle.std.proofs.lemmas.List.{length-append, append-nil, drop-drop, length-drop, nil_from_length, take_at}
use Rattle.audit_check.specs.Answers.{in_common}
use Rattle.audit_check.specs.Compared.{Compared, compared}

one_more : (a : ℕ) (xs : List ℕ) (b : ℕ) (ys : List ℕ) → (a == b) ≡ true → in_common (a ∷ xs) (b ∷ ys) ≡ a ∷ in_common xs ys
one_more a xs b ys is = rw is refl

no_more : (a : ℕ) (xs : List ℕ) (b : ℕ) (ys : List ℕ) → (a == b) ≡ false → in_common (a ∷ xs) (b ∷ ys) ≡ []
no_more a xs b ys is = rw is refl

-- all of the first
all_common : (made more given : List ℕ) → in_common made given ≡ made → in_common (made ++ more) given ≡ made ++ in_common more (drop (length made) given)
all_common [] more given is = refl
all_common (a ∷ xs) more [] is = absurd (cc is)
all_common (a ∷ xs) more (b ∷ ys) is = go (a == b) refl (all_common xs more ys)
  where
    go : (t : Bool) → (a == b) ≡ t → (in_common xs ys ≡ xs → in_common (xs ++ more) ys ≡ xs ++ in_common more (drop (length xs) ys)) → in_common (a ∷ (xs ++ more)) (b ∷ ys) ≡ a ∷ (xs ++ in_common more (drop (length (a ∷ xs)) (b ∷ ys)))
    go true same rest =
        let both : a ∷ in_common xs ys ≡ a ∷ xs = sym (one_more a xs b ys same) ∙ is in
        one_more a (xs ++ more) b ys same ∙ ap (λ (l : List ℕ). a ∷ l) (rest (cc both))
    go false other rest = let lie : [] ≡ a ∷ xs = sym (no_more a xs b ys other) ∙ is in absurd (cc lie)

-- or a part of it
part_common : (made more given : List ℕ) → in_common made given ≢ made → in_common (made ++ more) given ≡ in_common made given
part_common [] more given apart = absurd (apart refl)
part_common (a ∷ xs) more [] apart = refl
part_common (a ∷ xs) more (b ∷ ys) apart = go (a == b) refl (part_common xs more ys)
  where
    go : (t : Bool) → (a == b) ≡ t → (in_common xs ys ≢ xs → in_common (xs ++ more) ys ≡ in_common xs ys) → in_common (a ∷ (xs ++ more)) (b ∷ ys) ≡ in_common (a ∷ xs) (b ∷ ys)
    go true same rest =
        one_more a (xs ++ more) b ys same
        ∙ (ap (λ (l : List ℕ). a ∷ l) (rest (λ whole. apart (one_more a xs b ys same ∙ ap (λ (l : List ℕ). a ∷ l) whole))) ∙ sym (one_more a xs b ys same))
    go false other rest = no_more a (xs ++ more) b ys other ∙ sym (no_more a xs b ys other)

common_within : (xs ys : List ℕ) → length (in_common xs ys) ≤ length xs
common_within [] ys = omega arith
common_within (a ∷ xs) [] = omega arith
common_within (a ∷ xs) (b ∷ ys) = go (a == b) refl (common_within xs ys)
  where
    go : (t : Bool) → (a == b) ≡ t → length (in_common xs ys) ≤ length xs → length (in_common (a ∷ xs) (b ∷ ys)) ≤ length (a ∷ xs)
    go true same rest = let e = ap length (one_more a xs b ys same) in omega (arith, e, rest)
    go false other rest = let e = ap length (no_more a xs b ys other) in omega (arith, e)

-- all of it where they are xs long
common_whole : (xs ys : List ℕ) → length (in_common xs ys) ≡ length xs → in_common xs ys ≡ xs
common_whole [] ys is = refl
common_whole (a ∷ xs) [] is = absurd (omega (arith, is))
common_whole (a ∷ xs) (b ∷ ys) is = go (a == b) refl (common_whole xs ys)
  where
    go : (t : Bool) → (a == b) ≡ t → (length (in_common xs ys) ≡ length xs → in_common xs ys ≡ xs) → in_common (a ∷ xs) (b ∷ ys) ≡ a ∷ xs
    go true same rest = let e = ap length (one_more a xs b ys same) in one_more a xs b ys same ∙ ap (λ (l : List ℕ). a ∷ l) (rest (omega (arith, is, e)))
    go false other rest = let e = ap length (no_more a xs b ys other) in absurd (omega (arith, is, e))

-- it is the front of the second
common_front : (xs ys : List ℕ) → in_common xs ys ++ drop (length (in_common xs ys)) ys ≡ ys
common_front [] ys = refl
common_front (a ∷ xs) [] = refl
common_front (a ∷ xs) (b ∷ ys) = go (a == b) refl (common_front xs ys)
  where
    go : (t : Bool) → (a == b) ≡ t → in_common xs ys ++ drop (length (in_common xs ys)) ys ≡ ys → in_common (a ∷ xs) (b ∷ ys) ++ drop (length (in_common (a ∷ xs) (b ∷ ys))) (b ∷ ys) ≡ b ∷ ys
    go true same rest = ap (λ (l : List ℕ). l ++ drop (length l) (b ∷ ys)) (one_more a xs b ys same) ∙ ap₂ (λ (x : ℕ) (l : List ℕ). x ∷ l) (eqb-true a b same) rest
    go false other rest = ap (λ (l : List ℕ). l ++ drop (length l) (b ∷ ys)) (no_more a xs b ys other)

-- ---- the comparison

not_same : (xs ys : List ℕ) → xs ≢ ys → bytes_eq xs ys ≡ false
not_same xs ys apart = go (bytes_eq xs ys) refl
  where
    go : (t : Bool) → bytes_eq xs ys ≡ t → bytes_eq xs ys ≡ false
    go true is = absurd (apart ((bytes_eq-Decides xs ys).0 is))
    go false is = is

is_same_as : (xs ys : List ℕ) → xs ≡ ys → bytes_eq xs ys ≡ true
is_same_as xs ys is = (bytes_eq-Decides xs ys).1 is

-- more is made, where they differ already
pub added_apart : (made more given : List ℕ) → bytes_eq (in_common made given) made ≡ false → compared (made ++ more) given ≡ compared made given
added_apart made more given differs =
    let apart : in_common made given ≢ made = λ same. (let lie : true ≡ false = sym (is_same_as (in_common made given) made same) ∙ differs in cc lie) in
    let part : in_common (made ++ more) given ≡ in_common made given = part_common made more given apart in
    let longer : in_common made given ≢ made ++ more = λ same. apart (common_whole made given (let e = ap length same in let w = common_within made given in let l = length-append made more in omega (arith, e, w, l))) in
    λ i. record {
      rest = drop (length (part i)) given;
      same = ((ap (λ (l : List ℕ). bytes_eq l (made ++ more)) part ∙ not_same (in_common made given) (made ++ more) longer) ∙ sym differs) i;
    }

-- more is made, where they don't
pub added : (made more given : List ℕ) (c : Compared) → c ≡ compared made given → c.same ≡ true → compared (made ++ more) given ≡ record { rest = drop (length (in_common more c.rest)) c.rest; same = length (in_common more c.rest) == length more }
added made more given c is same =
    let whole : in_common made given ≡ made = (bytes_eq-Decides (in_common made given) made).0 (sym (ap (λ (x : Compared). x.same) is) ∙ same) in
    let rest : c.rest ≡ drop (length made) given = ap (λ (x : Compared). x.rest) is ∙ ap (λ (l : List ℕ). drop (length l) given) whole in
    let all : in_common (made ++ more) given ≡ made ++ in_common more c.rest = all_common made more given whole ∙ ap (λ (l : List ℕ). made ++ in_common more l) (sym rest) in
    let drops : drop (length (in_common (made ++ more) given)) given ≡ drop (length (in_common more c.rest)) c.rest = ap (λ (l : List ℕ). drop (length l) given) all
    ∙ (ap (λ (n : ℕ). drop n given) (length-append made (in_common more c.rest)) ∙ (sym (drop-drop (length (in_common more c.rest)) (length made) given) ∙ ap (drop (length (in_common more c.rest))) (sym rest))) in
    λ i. record { rest = drops i; same = (ap (λ (l : List ℕ). bytes_eq l (made ++ more)) all ∙ tells (in_common more c.rest) (common_whole more c.rest)) i }
  where
    tells : (part : List ℕ) → (length part ≡ length more → part ≡ more) → bytes_eq (made ++ part) (made ++ more) ≡ (length part == length more)
    tells part whole = go (length part == length more) refl
      where
        go : (t : Bool) → (length part == length more) ≡ t → bytes_eq (made ++ part) (made ++ more) ≡ t
        go true same = is_same_as (made ++ part) (made ++ more) (ap (λ (l : List ℕ). made ++ l) (whole (eqb-true (length part) (length more) same)))
        go false other = not_same (made ++ part) (made ++ more) (λ both.
            (let e = ap length both in let l = length-append made part in let r = length-append made more in
            let lie : true ≡ false = sym (eq-eqb (length part) (length more) (omega (arith, e, l, r))) ∙ other in cc lie))

-- all was made
pub same_at_end : (made given : List ℕ) → bytes_eq (in_common made given) made ≡ true → length (drop (length (in_common made given)) given) ≡ 0 → given ≡ made
same_at_end made given same none =
    let whole : in_common made given ≡ made = (bytes_eq-Decides (in_common made given) made).0 same in
    sym (common_front made given) ∙ (ap (λ (l : List ℕ). in_common made given ++ l) (nil_from_length (drop (length (in_common made given)) given) none) ∙ (append-nil (in_common made given) ∙ whole))

common_self : (xs : List ℕ) → in_common xs xs ≡ xs
common_self [] = refl
common_self (a ∷ xs) = one_more a xs a xs (eq-eqb a a refl) ∙ ap (λ (l : List ℕ). a ∷ l) (common_self xs)

pub self_same : (made given : List ℕ) → given ≡ made → (bytes_eq (in_common made given) made ≡ true) × (length (drop (length (in_common made given)) given) ≡ 0)
self_same made given is =
    let whole : in_common made given ≡ made = ap (in_common made) is ∙ common_self made in
    let l = length-drop (length (in_common made given)) given in
    let e = ap length whole in
    let f = ap length is in
    (is_same_as (in_common made given) made whole, omega (arith, l, e, f))

-- the front that they have in common
pub front_is : (made given : List ℕ) (n : ℕ) → n ≡ length given - length (drop (length (in_common made given)) given) → take n given ≡ in_common made given
front_is made given n is =
    let part = in_common made given in
    let rest = drop (length part) given in
    let front = common_front made given in
    let size : n ≡ length part = (let e = ap length front in let l = length-append part rest in omega (arith, is, e, l)) in
    ap (take n) (sym front) ∙ take_at part rest n (sym size)

-- ---- what the code does

pub common_second : (xs ys : List ℕ) → length (in_common xs ys) ≤ length ys
common_second xs ys = let e = ap length (common_front xs ys) in let l = length-append (in_common xs ys) (drop (length (in_common xs ys)) ys) in omega (arith, e, l)

none_common : (xs : List ℕ) → length (in_common xs []) ≡ 0
none_common [] = refl
none_common (x ∷ xs) = refl

-- where the second ends
pub second_ends : (xs ys : List ℕ) (n : ℕ) → length ys ≤ n → length (in_common (drop n xs) (drop n ys)) ≡ 0
second_ends xs ys n le = ap (λ (l : List ℕ). length (in_common (drop n xs) l)) (nil_from_length (drop n ys) (let l = length-drop n ys in omega (arith, l, le))) ∙ none_common (drop n xs)

pub added_so : (made more given : List ℕ) (c : Compared) → c ≡ compared made given → c.same ≡ true → (rest : List ℕ) (n : ℕ) → n ≡ length (in_common more c.rest) → rest ≡ drop n c.rest
    → record { rest = rest; same = n == length more } ≡ compared (made ++ more) given
added_so made more given c is same rest n n_is rest_is =
    (λ i. record { rest = (rest_is ∙ ap (λ (k : ℕ). drop k c.rest) n_is) i; same = n_is i == length more }) ∙ sym (added made more given c is same)
