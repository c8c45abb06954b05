-- The last fact of a name, and the facts before it.
use Rattle.std.proofs.Common.{arith, ◌≡◌, ◌<◌, ℕ, suc, Bool, true, false, cond, ◌&&◌, ◌||◌, Option, Some, None, List, [], ◌∷◌, ◌++◌, length, take, slice_get, refl, ◌∙◌, ap, subst, bytes_eq}
use Rattle.x_base.specs.declared.key_name.FullName.{FullName}
use Rattle.fact_book.specs.Facts.{NamedText, same_full_name, is_named, has_named}
use Rattle.fact_book.specs.Book.{place_with, latest_of}

pub latest_push : (u : FullName) (fs : List NamedText) (f : NamedText) → latest_of u (fs ++ f ∷ []) ≡ cond (same_full_name f.under u) (Some (length fs)) (latest_of u fs)
latest_push u [] f = go (same_full_name f.under u)
  where
    go : (b : Bool) → place_with b None ≡ cond b (Some 0) None
    go true = refl
    go false = refl
latest_push u (x ∷ xs) f = ap (place_with (same_full_name x.under u)) (latest_push u xs f) ∙ go (same_full_name f.under u)
  where
    go : (b : Bool) → place_with (same_full_name x.under u) (cond b (Some (length xs)) (latest_of u xs)) ≡ cond b (Some (suc (length xs))) (place_with (same_full_name x.under u) (latest_of u xs))
    go true = refl
    go false = refl

-- the last fact of a name, at its place
pub record Last (u : FullName) (t : List ℕ) (fs : List NamedText) (place : ℕ) : Type 0 where
  pub fact : NamedText
  pub at : slice_get fs place ≡ Some fact
  pub named : same_full_name fact.under u ≡ true
  pub within : place < length fs
  pub any : has_named fs u t ≡ (bytes_eq fact.text t || has_named (take place fs) u t)

pub none_named : (u : FullName) (t : List ℕ) (fs : List NamedText) → latest_of u fs ≡ None → has_named fs u t ≡ false
none_named u t [] h = refl
none_named u t (x ∷ xs) h = go (same_full_name x.under u) refl (latest_of u xs) refl (none_named u t xs) h
  where
    go : (b : Bool) → same_full_name x.under u ≡ b → (o : Option ℕ) → latest_of u xs ≡ o → (latest_of u xs ≡ None → has_named xs u t ≡ false) → place_with b o ≡ None → ((same_full_name x.under u && bytes_eq x.text t) || has_named xs u t) ≡ false
    go b e (Some p) f more h = absurd (cc)
    go true e None f more h = absurd (cc)
    go false e None f more h = rw (e, more f) refl

swapped : (a b c : Bool) → (a || (b || c)) ≡ (b || (a || c))
swapped true true c = refl
swapped true false c = refl
swapped false true c = refl
swapped false false c = refl

pub last_named : (u : FullName) (t : List ℕ) (fs : List NamedText) (place : ℕ) → latest_of u fs ≡ Some place → Last u t fs place
last_named u t [] place h = absurd (cc)
last_named u t (x ∷ xs) place h = go (same_full_name x.under u) refl (latest_of u xs) refl (last_named u t xs) h
  where
    go : (b : Bool) → same_full_name x.under u ≡ b → (o : Option ℕ) → latest_of u xs ≡ o → ((p : ℕ) → latest_of u xs ≡ Some p → Last u t xs p) → place_with b o ≡ Some place → Last u t (x ∷ xs) place
    go b e (Some p) f more h =
        let l : Last u t xs p = more p f in
        let is : suc p ≡ place = cc in
        let n : p < length xs = l.within in
        subst (Last u t (x ∷ xs)) is (record {
          fact = l.fact;
          at = l.at;
          named = l.named;
          within = omega (arith, n);
          any = ap (λ (r : Bool). is_named u t x || r) l.any ∙ swapped (is_named u t x) (bytes_eq l.fact.text t) (has_named (take p xs) u t);
        })
    go true e None f more h =
        let is : 0 ≡ place = cc in
        subst (Last u t (x ∷ xs)) is (record { fact = x; at = refl; named = e; within = omega arith; any = rw (e, none_named u t xs f) refl })
    go false e None f more h = absurd (cc)
