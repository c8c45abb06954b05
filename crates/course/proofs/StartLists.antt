-- What stands in a list, and what holds of each two elements where each is judged by those before it.
use Rattle.std.proofs.Common.{arith, ◌≡◌, ℕ, zero, suc, ◌<◌, ◌⊎◌, inl, inr, Bool, true, false, cond, List, [], ◌∷◌, ◌++◌, length, get_or, Option, Some, None, AllPairs, refl, sym, ◌∙◌, ap, subst}
use Rattle.std.specs.List.{All, cons_option, filter_map, list_any}
use Rattle.std.proofs.lemmas.Bool.{or_parts}
use Rattle.std.proofs.lemmas.List.Elements.{All-head, All-tail}
use Rattle.party_tables.specs.Tables.{find_row, Distinct}
use Rattle.scenario.specs.Behind.{EachBehind}

-- the element is one of these
abbrev pub Among : {A : Type 0} → List A → A → Type 0
Among [] x = ⊥
Among (y ∷ ys) x = (y ≡ x) ⊎ Among ys x

-- this holds of each two, in their order
abbrev pub Ordered : {A : Type 0} → (A → A → Type 0) → List A → Type 0
Ordered R [] = Unit {0}
Ordered {A} R (x ∷ xs) = ((y : A) → Among xs y → R x y) × Ordered R xs

-- the parts of a list before and after an element
pub record Parted {A : Type 0} (xs : List A) (x : A) : Type 0 where
  pub before : List A
  pub after : List A
  pub whole : xs ≡ before ++ x ∷ after

module _ {A : Type 0} where
  pub parted : (xs : List A) (x : A) → Among xs x → Parted xs x
  parted [] x m = absurd m
  parted (y ∷ ys) x (inl e) = record { before = []; after = ys; whole = ap (λ (z : A). z ∷ ys) e }
  parted (y ∷ ys) x (inr m) = let p : Parted ys x = parted ys x m in record { before = y ∷ p.before; after = p.after; whole = ap (λ (l : List A). y ∷ l) p.whole }

  among_front : (xs ys : List A) (x : A) → Among xs x → Among (xs ++ ys) x
  among_front [] ys x m = absurd m
  among_front (z ∷ zs) ys x (inl e) = inl e
  among_front (z ∷ zs) ys x (inr m) = inr (among_front zs ys x m)

  -- what stands before an element stands in the whole list
  pub among_whole : (xs : List A) (y : A) (p : Parted xs y) (x : A) → Among p.before x → Among xs x
  among_whole xs y p x m = subst (λ (l : List A). Among l x) (sym p.whole) (among_front p.before (y ∷ p.after) x m)

  pub among_at : (xs : List A) (i : ℕ) (d : A) → i < length xs → Among xs (get_or xs i d)
  among_at [] i d l = absurd (omega (arith, l))
  among_at (x ∷ xs) zero d l = inl refl
  among_at (x ∷ xs) (suc i) d l = inr (among_at xs i d (omega (arith, l)))

  pub all_among : (P : A → Type 0) (xs : List A) (x : A) → All P xs → Among xs x → P x
  all_among P [] x all m = absurd m
  all_among P (y ∷ ys) x all (inl e) = subst P e (All-head P y ys all)
  all_among P (y ∷ ys) x all (inr m) = all_among P ys x (All-tail P y ys all) m

  pub none_among : (test : A → Bool) (xs : List A) (x : A) → list_any test xs ≡ false → Among xs x → test x ≡ false
  none_among test [] x none m = absurd m
  none_among test (y ∷ ys) x none (inl e) = subst (λ (z : A). test z ≡ false) e (or_parts (test y) (list_any test ys) none).0
  none_among test (y ∷ ys) x none (inr m) = none_among test ys x (or_parts (test y) (list_any test ys) none).1 m

  -- ---- each two

  pub ordered_by : (passes : List A → A → Bool) (R : A → A → Type 0) → ((before : List A) (x y : A) → Among before x → passes before y ≡ true → R x y) → (xs : List A) → EachBehind passes xs → Ordered R xs
  ordered_by passes R step [] each = tt
  ordered_by passes R step (x ∷ xs) each = (first, ordered_by (λ before y. passes (x ∷ before) y) R (λ before a b m. step (x ∷ before) a b (inr m)) xs (λ before after y e. each (x ∷ before) after y (ap (λ (l : List A). x ∷ l) e)))
    where
      first : (y : A) → Among xs y → R x y
      first y m = let p : Parted xs y = parted xs y m in step (x ∷ p.before) x y (inl refl) (each (x ∷ p.before) p.after y (ap (λ (l : List A). x ∷ l) p.whole))

  -- they are one, or this holds of the two in one order
  pub two_among : (R : A → A → Type 0) (xs : List A) → Ordered R xs → (a b : A) → Among xs a → Among xs b → (a ≡ b) ⊎ (R a b ⊎ R b a)
  two_among R [] o a b m n = absurd m
  two_among R (x ∷ xs) o a b (inl s) (inl t) = inl (sym s ∙ t)
  two_among R (x ∷ xs) o a b (inl s) (inr n) = inr (inl (subst (λ (z : A). R z b) s (o.0 b n)))
  two_among R (x ∷ xs) o a b (inr m) (inl t) = inr (inr (subst (λ (z : A). R z a) t (o.0 a m)))
  two_among R (x ∷ xs) o a b (inr m) (inr n) = two_among R xs o.1 a b m n

  pub ordered_weaker : (R S : A → A → Type 0) → ((x y : A) → R x y → S x y) → (xs : List A) → Ordered R xs → Ordered S xs
  ordered_weaker R S weaker [] o = tt
  ordered_weaker R S weaker (x ∷ xs) o = (λ y m. weaker x y (o.0 y m), ordered_weaker R S weaker xs o.1)

  pub ordered_pairs : (R : A → A → Type 0) (xs : List A) → Ordered R xs → AllPairs R xs
  ordered_pairs R [] o i j d l m = absurd (omega (arith, l, m))
  ordered_pairs R (x ∷ xs) o zero zero d l m = absurd (omega (arith, l, m))
  ordered_pairs R (x ∷ xs) o zero (suc j) d l m = o.0 (get_or xs j d) (among_at xs j d (omega (arith, m)))
  ordered_pairs R (x ∷ xs) o (suc i) zero d l m = absurd (omega (arith, l, m))
  ordered_pairs R (x ∷ xs) o (suc i) (suc j) d l m = ordered_pairs R xs o.1 i j d (omega (arith, l)) (omega (arith, m))

-- ---- what a function gives of each

-- the function gave it of one of the elements
pub record GivenBy {A B : Type 0} (h : A → Option B) (xs : List A) (y : B) : Type 0 where
  pub by : A
  pub stands : Among xs by
  pub gives : h by ≡ Some y

module _ {A B : Type 0} (h : A → Option B) where
  pub map_among : (xs : List A) (x : A) (y : B) → Among xs x → h x ≡ Some y → Among (filter_map h xs) y
  map_among [] x y m e = absurd m
  map_among (z ∷ zs) x y m e = go (h z) refl m (map_among zs x y)
    where
      go : (o : Option B) → h z ≡ o → (z ≡ x) ⊎ Among zs x → (Among zs x → h x ≡ Some y → Among (filter_map h zs) y) → Among (cons_option o (filter_map h zs)) y
      go None is (inl s) ih = let n : h z ≡ Some y = ap h s ∙ e in absurd (cc)
      go None is (inr m) ih = ih m e
      go (Some w) is (inl s) ih = let n : h z ≡ Some y = ap h s ∙ e in inl (cc)
      go (Some w) is (inr m) ih = inr (ih m e)

  pub among_map : (xs : List A) (y : B) → Among (filter_map h xs) y → GivenBy h xs y
  among_map [] y m = absurd m
  among_map (z ∷ zs) y m = go (h z) refl m (among_map zs y)
    where
      later : GivenBy h zs y → GivenBy h (z ∷ zs) y
      later g = record { by = g.by; stands = inr g.stands; gives = g.gives }

      go : (o : Option B) → h z ≡ o → Among (cons_option o (filter_map h zs)) y → (Among (filter_map h zs) y → GivenBy h zs y) → GivenBy h (z ∷ zs) y
      go None is m ih = later (ih m)
      go (Some w) is (inl s) ih = record { by = z; stands = inl refl; gives = is ∙ ap (λ (v : B). Some v) s }
      go (Some w) is (inr m) ih = later (ih m)

  pub map_ordered : (R : A → A → Type 0) (S : B → B → Type 0) → ((x y : A) (u v : B) → R x y → h x ≡ Some u → h y ≡ Some v → S u v) → (xs : List A) → Ordered R xs → Ordered S (filter_map h xs)
  map_ordered R S step [] o = tt
  map_ordered R S step (x ∷ xs) o = go (h x) refl (map_ordered R S step xs o.1)
    where
      go : (q : Option B) → h x ≡ q → Ordered S (filter_map h xs) → Ordered S (cons_option q (filter_map h xs))
      go None is ih = ih
      go (Some u) is ih = (λ v m. (let g : GivenBy h xs v = among_map xs v m in step x g.by u v (o.0 g.by g.stands) is g.gives), ih)

-- ---- rows with keys

module _ {R K : Type 0} (key : R → K) (same : K → K → Bool) where
  none_found : (k : K) (rs : List R) → ((r : R) → Among rs r → same k (key r) ≡ false) → find_row key same k rs ≡ None
  none_found k [] apart = refl
  none_found k (r ∷ rs) apart = rw (apart r (inl refl)) (none_found k rs (λ s m. apart s (inr m)))

  pub ordered_distinct : (rs : List R) → Ordered (λ a b. same (key a) (key b) ≡ false) rs → Distinct key same rs
  ordered_distinct [] o = tt
  ordered_distinct (r ∷ rs) o = (none_found (key r) rs o.0, ordered_distinct rs o.1)

  pub found_among : (k : K) (rs : List R) (x : R) → find_row key same k rs ≡ Some x → Among rs x × (same k (key x) ≡ true)
  found_among k [] x h = absurd (cc)
  found_among k (r ∷ rs) x h = go (same k (key r)) refl h (found_among k rs x)
    where
      go : (b : Bool) → same k (key r) ≡ b → cond b (Some r) (find_row key same k rs) ≡ Some x → (find_row key same k rs ≡ Some x → Among rs x × (same k (key x) ≡ true)) → Among (r ∷ rs) x × (same k (key x) ≡ true)
      go true is h ih = let e : r ≡ x = cc in (inl e, subst (λ (s : R). same k (key s) ≡ true) e is)
      go false is h ih = (inr (ih h).0, (ih h).1)

  pub among_found : (k : K) (rs : List R) (x : R) → Among rs x → same k (key x) ≡ true → (r : R) × (find_row key same k rs ≡ Some r)
  among_found k [] x m is = absurd m
  among_found k (r ∷ rs) x m is = go (same k (key r)) refl m (among_found k rs x)
    where
      go : (b : Bool) → same k (key r) ≡ b → (r ≡ x) ⊎ Among rs x → (Among rs x → same k (key x) ≡ true → (s : R) × (find_row key same k rs ≡ Some s)) → (s : R) × (cond b (Some r) (find_row key same k rs) ≡ Some s)
      go true e m ih = (r, refl)
      go false e (inl s) ih = let t : same k (key r) ≡ true = subst (λ (y : R). same k (key y) ≡ true) (sym s) is in absurd (cc)
      go false e (inr m) ih = ih m is
