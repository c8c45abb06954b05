-- What the verdict of a list of tests says of the tests.
use Rattle.std.proofs.Common.{◌≡◌, Bool, true, false, cond, not, ◌&&◌, List, [], ◌∷◌, ◌++◌, refl, ap}
use Rattle.x_base.specs.declared.verdict.Verdict.{Verdict}
use Rattle.x_base.specs.declared.verdict.Verdict.TheVariants.{Accept}
use Rattle.party_state.specs.Verdicts.{Test, verdict_of, TestsHold, is_accept, all_refuse}

-- where the verdict is Accept, each test held
pub held : (ts : List Test) → all_refuse ts ≡ true → is_accept (verdict_of ts) ≡ true → TestsHold ts
held [] r h = tt
held (t ∷ ts) r h = go t.0 refl (is_accept t.1) refl r h (held ts)
  where
    go : (b : Bool) → t.0 ≡ b → (a : Bool) → is_accept t.1 ≡ a → (not a && all_refuse ts) ≡ true → is_accept (cond b (verdict_of ts) t.1) ≡ true → (all_refuse ts ≡ true → is_accept (verdict_of ts) ≡ true → TestsHold ts) → (t.0 ≡ true) × TestsHold ts
    go b b= true a= r h ih = absurd (cc)
    go true b= false a= r h ih = (b=, ih r h)
    go false b= false a= r h ih = absurd (cc)

pub held_at_accept : (ts : List Test) → all_refuse ts ≡ true → verdict_of ts ≡ Accept → TestsHold ts
held_at_accept ts r h = held ts r (ap is_accept h)

-- where each test held, the verdict is Accept
pub accepted : (ts : List Test) → TestsHold ts → verdict_of ts ≡ Accept
accepted [] h = refl
accepted (t ∷ ts) h = rw h.0 (accepted ts h.1)

-- after a test that fails there is no Accept
pub blocked : (ts : List Test) (v : Verdict) → all_refuse ts ≡ true → is_accept v ≡ false → is_accept (verdict_of (ts ++ (false, v) ∷ [])) ≡ true → ⊥
blocked [] v r f h = cc
blocked (t ∷ ts) v r f h = go t.0 (is_accept t.1) refl r h (blocked ts v)
  where
    go : (b a : Bool) → is_accept t.1 ≡ a → (not a && all_refuse ts) ≡ true → is_accept (cond b (verdict_of (ts ++ (false, v) ∷ [])) t.1) ≡ true → (all_refuse ts ≡ true → is_accept v ≡ false → is_accept (verdict_of (ts ++ (false, v) ∷ [])) ≡ true → ⊥) → ⊥
    go b true a= r h ih = cc
    go true false a= r h ih = ih r f h
    go false false a= r h ih = cc

-- the tests of a list that is two lists one after another
pub held_after : (ts us : List Test) → TestsHold (ts ++ us) → TestsHold ts × TestsHold us
held_after [] us h = (tt, h)
held_after (t ∷ ts) us h = let later : TestsHold ts × TestsHold us = held_after ts us h.1 in ((h.0, later.0), later.1)
