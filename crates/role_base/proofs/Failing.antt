-- The first test of a list that fails.
use Rattle.std.proofs.Common.{◌≡◌, Bool, true, false, cond, not, Some, None, List, [], ◌∷◌, ◌++◌, ◌&&◌, refl}
use Rattle.std.specs.Prelude.{option_map, is_none}
use Rattle.std.specs.List.{find}
use Rattle.std.proofs.lemmas.Bool.{true≢false}
use Rattle.x_base.specs.declared.verdict.Verdict.{Verdict}
use Rattle.x_base.specs.declared.verdict.Verdict.TheVariants.{Accept, CountSpent, KeysFull}
use Rattle.party_state.specs.Verdicts.{Test, verdict_of, tests_pass, is_accept, all_refuse}
use Rattle.role_base.specs.Failing.{failed_in}

-- where no test fails, the verdict is that of the tests behind
pub none_failed : (ts us : List Test) → failed_in ts ≡ None → verdict_of (ts ++ us) ≡ verdict_of us
none_failed [] us h = refl
none_failed (t ∷ ts) us h = go t.0 h (none_failed ts us)
  where
    go : (b : Bool) → option_map (λ (t : Test). t.1) (cond (not b) (Some t) (find (λ (t : Test). not t.0) ts)) ≡ None → (failed_in ts ≡ None → verdict_of (ts ++ us) ≡ verdict_of us) → cond b (verdict_of (ts ++ us)) t.1 ≡ verdict_of us
    go true h ih = ih h
    go false h ih = cc

-- the first test that fails gives its verdict, whatever stands behind
pub some_failed : (ts us : List Test) (v : Verdict) → failed_in ts ≡ Some v → verdict_of (ts ++ us) ≡ v
some_failed [] us v h = cc
some_failed (t ∷ ts) us v h = go t.0 h (some_failed ts us v)
  where
    go : (b : Bool) → option_map (λ (t : Test). t.1) (cond (not b) (Some t) (find (λ (t : Test). not t.0) ts)) ≡ Some v → (failed_in ts ≡ Some v → verdict_of (ts ++ us) ≡ v) → cond b (verdict_of (ts ++ us)) t.1 ≡ v
    go true h ih = ih h
    go false h ih = cc

-- the same of a list alone
pub none_failed_alone : (ts : List Test) → failed_in ts ≡ None → verdict_of ts ≡ Accept
none_failed_alone [] h = refl
none_failed_alone (t ∷ ts) h = go t.0 h (none_failed_alone ts)
  where
    go : (b : Bool) → option_map (λ (t : Test). t.1) (cond (not b) (Some t) (find (λ (t : Test). not t.0) ts)) ≡ None → (failed_in ts ≡ None → verdict_of ts ≡ Accept) → cond b (verdict_of ts) t.1 ≡ Accept
    go true h ih = ih h
    go false h ih = cc

pub some_failed_alone : (ts : List Test) (v : Verdict) → failed_in ts ≡ Some v → verdict_of ts ≡ v
some_failed_alone [] v h = cc
some_failed_alone (t ∷ ts) v h = go t.0 h (some_failed_alone ts v)
  where
    go : (b : Bool) → option_map (λ (t : Test). t.1) (cond (not b) (Some t) (find (λ (t : Test). not t.0) ts)) ≡ Some v → (failed_in ts ≡ Some v → verdict_of ts ≡ v) → cond b (verdict_of ts) t.1 ≡ v
    go true h ih = ih h
    go false h ih = cc

-- nothing counts behind a test that fails
pub stopped : (front us : List Test) (v : Verdict) → verdict_of (front ++ (false, v) ∷ us) ≡ verdict_of (front ++ (false, v) ∷ [])
stopped [] us v = refl
stopped (t ∷ ts) us v = go t.0 (stopped ts us v)
  where
    go : (b : Bool) → verdict_of (ts ++ (false, v) ∷ us) ≡ verdict_of (ts ++ (false, v) ∷ []) → cond b (verdict_of (ts ++ (false, v) ∷ us)) t.1 ≡ cond b (verdict_of (ts ++ (false, v) ∷ [])) t.1
    go true ih = ih
    go false ih = refl

-- a verdict that tests as Accept is it
pub accept_is : (v : Verdict) → is_accept v ≡ true → v ≡ Accept
accept_is Accept h = refl
accept_is _ h = cc

-- every test holds where none fails
pub passes_where : (ts : List Test) → is_none (failed_in ts) ≡ tests_pass ts
passes_where [] = refl
passes_where (t ∷ ts) = go t.0 (passes_where ts)
  where
    go : (b : Bool) → is_none (failed_in ts) ≡ tests_pass ts → is_none (option_map (λ (t : Test). t.1) (cond (not b) (Some t) (find (λ (t : Test). not t.0) ts))) ≡ (b && tests_pass ts)
    go true ih = ih
    go false ih = refl

-- behind tests that refuse, an accepted key has room
pub drawn_room : (front us : List Test) (count room : Bool) (v : Verdict) → all_refuse front ≡ true → v ≡ verdict_of (front ++ (count, CountSpent) ∷ (room, KeysFull) ∷ us) → is_accept v ≡ true → room ≡ true
drawn_room [] us count true v r e t = refl
drawn_room [] us true false v r e t = cc
drawn_room [] us false false v r e t = cc
drawn_room (t ∷ ts) us count room v r e a = go t.0 (is_accept t.1) refl r e (drawn_room ts us count room v)
  where
    go : (b w : Bool) → is_accept t.1 ≡ w → (not w && all_refuse ts) ≡ true → v ≡ cond b (verdict_of (ts ++ (count, CountSpent) ∷ (room, KeysFull) ∷ us)) t.1 → (all_refuse ts ≡ true → v ≡ verdict_of (ts ++ (count, CountSpent) ∷ (room, KeysFull) ∷ us) → is_accept v ≡ true → room ≡ true) → room ≡ true
    go b true i r e ih = absurd (cc)
    go true false i r e ih = ih r e a
    go false false i r e ih = absurd (cc)

-- where no count is left there is no Accept
pub unspent : (front : List Test) → all_refuse front ≡ true → is_accept (verdict_of (front ++ (false, CountSpent) ∷ [])) ≡ false
unspent [] r = refl
unspent (t ∷ ts) r = go t.0 (is_accept t.1) refl r (unspent ts)
  where
    go : (b w : Bool) → is_accept t.1 ≡ w → (not w && all_refuse ts) ≡ true → (all_refuse ts ≡ true → is_accept (verdict_of (ts ++ (false, CountSpent) ∷ [])) ≡ false) → is_accept (cond b (verdict_of (ts ++ (false, CountSpent) ∷ [])) t.1) ≡ false
    go b true i r ih = absurd (cc)
    go true false i r ih = ih r
    go false false i r ih = i

-- where a test fails, what stands behind doesn't count
pub fails_early : (front us : List Test) → tests_pass front ≡ false → verdict_of (front ++ us) ≡ verdict_of front
fails_early [] us h = absurd (true≢false h)
fails_early (t ∷ ts) us h = go t.0 h (fails_early ts us)
  where
    go : (b : Bool) → (b && tests_pass ts) ≡ false → (tests_pass ts ≡ false → verdict_of (ts ++ us) ≡ verdict_of ts) → cond b (verdict_of (ts ++ us)) t.1 ≡ cond b (verdict_of ts) t.1
    go true h ih = ih h
    go false h ih = refl

-- where one of them fails, not all pass
pub fails_at : (ts us : List Test) (v : Verdict) → tests_pass (ts ++ (false, v) ∷ us) ≡ false
fails_at [] us v = refl
fails_at (t ∷ ts) us v = go t.0 (fails_at ts us v)
  where
    go : (b : Bool) → tests_pass (ts ++ (false, v) ∷ us) ≡ false → (b && tests_pass (ts ++ (false, v) ∷ us)) ≡ false
    go true ih = ih
    go false ih = refl

-- tests that refuse, one of which fails, don't accept
pub refuses_early : (ts : List Test) → all_refuse ts ≡ true → tests_pass ts ≡ false → is_accept (verdict_of ts) ≡ false
refuses_early [] r h = absurd (true≢false h)
refuses_early (t ∷ ts) r h = go t.0 (is_accept t.1) refl r h (refuses_early ts)
  where
    go : (b w : Bool) → is_accept t.1 ≡ w → (not w && all_refuse ts) ≡ true → (b && tests_pass ts) ≡ false → (all_refuse ts ≡ true → tests_pass ts ≡ false → is_accept (verdict_of ts) ≡ false) → is_accept (cond b (verdict_of ts) t.1) ≡ false
    go b true i r h ih = absurd (cc)
    go true false i r h ih = ih r h
    go false false i r h ih = i
