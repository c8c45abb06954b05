-- The edits that make a difference, one after another.
use Rattle.std.proofs.Common.{◌≡◌, ℕ, zero, suc, ◌+◌, Bool, true, false, cond, ◌||◌, take, slice_get, add-one, List, [], ◌∷◌, ◌++◌, filter, refl, ◌∙◌, ap}
use Rattle.std.specs.List.{list_any}
use Rattle.party_tables.specs.declared.key.KeyRec.{KeyRec}
use Rattle.party_state.specs.declared.edit.Edit.{Edit}
use Rattle.party_tables.specs.Statuses.{is_ended}
use Rattle.party_state.specs.State.{Party}
use Rattle.role_base.specs.Differing.{differs, differing, ended_in}

pub differing_none : (p : Party) → differing p [] ≡ []
unfolding differing
differing_none p = refl

filter_more : (f : Edit → Bool) (es : List Edit) (e : Edit) → filter f (es ++ e ∷ []) ≡ filter f es ++ cond (f e) (e ∷ []) []
filter_more f [] e = go (f e)
  where
    go : (b : Bool) → cond b (e ∷ []) [] ≡ [] ++ cond b (e ∷ []) []
    go true = refl
    go false = refl
filter_more f (x ∷ xs) e = go (f x) (filter_more f xs e)
  where
    go : (b : Bool) → filter f (xs ++ e ∷ []) ≡ filter f xs ++ cond (f e) (e ∷ []) [] → cond b (x ∷ filter f (xs ++ e ∷ [])) (filter f (xs ++ e ∷ [])) ≡ cond b (x ∷ filter f xs) (filter f xs) ++ cond (f e) (e ∷ []) []
    go true ih = ap (λ (ys : List Edit). x ∷ ys) ih
    go false ih = ih

pub differing_more : (p : Party) (es : List Edit) (e : Edit) → differs p e ≡ true → differing p (es ++ e ∷ []) ≡ differing p es ++ e ∷ []
unfolding differing
differing_more p es e h = filter_more (differs p) es e ∙ ap (λ (b : Bool). filter (differs p) es ++ cond b (e ∷ []) []) h

pub differing_same : (p : Party) (es : List Edit) (e : Edit) → differs p e ≡ false → differing p (es ++ e ∷ []) ≡ differing p es
unfolding differing
differing_same p es e h = filter_more (differs p) es e ∙ ap (λ (b : Bool). filter (differs p) es ++ cond b (e ∷ []) []) h ∙ append_none (filter (differs p) es)
  where
    append_none : (xs : List Edit) → xs ++ [] ≡ xs
    append_none [] = refl
    append_none (x ∷ xs) = ap (λ (ys : List Edit). x ∷ ys) (append_none xs)

-- the records of ended keys

abbrev is_over : KeyRec → Bool
is_over k = is_ended k.status

either : (a b : Bool) → b ≡ true → (a || b) ≡ true
either true b h = refl
either false b h = h

pub ended_found : (ks : List KeyRec) (i : ℕ) → ended_in (slice_get ks i) ≡ true → list_any (λ (k : KeyRec). is_ended k.status) ks ≡ true
ended_found [] i h = cc
ended_found (k ∷ ks) zero h = rw h refl
ended_found (k ∷ ks) (suc i) h = either (is_over k) (list_any is_over ks) (ended_found ks i h)

one_more : (ks : List KeyRec) (i : ℕ) → ended_in (slice_get ks i) ≡ false → list_any is_over (take i ks) ≡ false → list_any is_over (take (suc i) ks) ≡ false
one_more [] zero h t = refl
one_more [] (suc i) h t = refl
one_more (k ∷ ks) zero h t = rw h refl
one_more (k ∷ ks) (suc i) h t = go (is_over k) t (one_more ks i h)
  where
    go : (b : Bool) → (b || list_any is_over (take i ks)) ≡ false → (list_any is_over (take i ks) ≡ false → list_any is_over (take (suc i) ks) ≡ false) → (b || list_any is_over (take (suc i) ks)) ≡ false
    go true t ih = cc
    go false t ih = ih t

pub ended_more : (ks : List KeyRec) (i : ℕ) → ended_in (slice_get ks i) ≡ false → list_any (λ (k : KeyRec). is_ended k.status) (take i ks) ≡ false → list_any (λ (k : KeyRec). is_ended k.status) (take (i + 1) ks) ≡ false
ended_more ks i h t = rw add-one (one_more ks i h t)
