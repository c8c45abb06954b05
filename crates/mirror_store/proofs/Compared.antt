-- The links of two states are compared, one after another.
use Rattle.std.proofs.Common.{◌≡◌, ℕ, zero, suc, ◌+◌, Bool, true, false, ◌||◌, length, take, slice_get, add-one, List, [], ◌∷◌, refl, subst, arith}
use Rattle.std.proofs.lemmas.List.{take_all}
use Rattle.std.specs.List.{list_any}
use Rattle.party_tables.specs.declared.link.LinkRec.{LinkRec}
use Rattle.party_tables.specs.Keys.{link_key}
use Rattle.party_state.specs.State.{Party, link_with}
use Rattle.mirror_store.specs.Comparing.{is_below, is_lacking, lacks}

abbrev is_lacked : Party → LinkRec → Bool
is_lacked p l = is_below (link_with (link_key l) p) l

either : (a b : Bool) → b ≡ true → (a || b) ≡ true
either true b h = refl
either false b h = h

found : (p : Party) (ls : List LinkRec) (i : ℕ) → is_lacking p (slice_get ls i) ≡ true → list_any (is_lacked p) ls ≡ true
found p [] i h = cc
found p (l ∷ ls) zero h = rw h refl
found p (l ∷ ls) (suc i) h = either (is_lacked p l) (list_any (is_lacked p) ls) (found p ls i h)

pub lacking_found : (p q : Party) (i : ℕ) → is_lacking p (slice_get q.links i) ≡ true → lacks p q ≡ true
lacking_found p q i h = found p q.links i h

one_more : (p : Party) (ls : List LinkRec) (i : ℕ) → is_lacking p (slice_get ls i) ≡ false → list_any (is_lacked p) (take i ls) ≡ false → list_any (is_lacked p) (take (suc i) ls) ≡ false
one_more p [] zero h t = refl
one_more p [] (suc i) h t = refl
one_more p (l ∷ ls) zero h t = rw h refl
one_more p (l ∷ ls) (suc i) h t = go (is_lacked p l) t (one_more p ls i h)
  where
    go : (b : Bool) → (b || list_any (is_lacked p) (take i ls)) ≡ false → (list_any (is_lacked p) (take i ls) ≡ false → list_any (is_lacked p) (take (suc i) ls) ≡ false) → (b || list_any (is_lacked p) (take (suc i) ls)) ≡ false
    go true t ih = cc
    go false t ih = ih t

pub lacking_more : (p : Party) (ls : List LinkRec) (i : ℕ) → is_lacking p (slice_get ls i) ≡ false → list_any (λ (l : LinkRec). is_below (link_with (link_key l) p) l) (take i ls) ≡ false
    → list_any (λ (l : LinkRec). is_below (link_with (link_key l) p) l) (take (i + 1) ls) ≡ false
lacking_more p ls i h t = rw add-one (one_more p ls i h t)

pub lacking_none : (p q : Party) (n : ℕ) → n ≡ length q.links → list_any (λ (l : LinkRec). is_below (link_with (link_key l) p) l) (take n q.links) ≡ false → lacks p q ≡ false
lacking_none p q n all none = subst (λ (ls : List LinkRec). list_any (is_lacked p) ls ≡ false) (take_all n q.links (omega (arith, all))) none
