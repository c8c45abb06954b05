-- Tests before the code's, and those behind: a key to test the code under is there exactly where the former pass.
use Rattle.std.proofs.Common.{◌≡◌, Bool, true, false, cond, not, ◌&&◌, Some, None, List, [], ◌∷◌, ◌++◌, refl, sym, ◌∙◌}
use Rattle.std.specs.Prelude.{is_none}
use Rattle.std.specs.List.{list_all}
use Rattle.std.proofs.lemmas.Bool.{and_parts, not-true}
use Rattle.x_base.specs.declared.verdict.Verdict.{Verdict}
use Rattle.party_state.specs.declared.decision.Lead.{Lead}
use Rattle.party_state.specs.Verdicts.{Test, verdict_of, tests_pass}
use Rattle.role_base.specs.Errors.{is_early}

-- each verdict among them is early, and none is
abbrev pub all_early : List Test → Bool
all_early ts = list_all (λ (t : Test). is_early t.1) ts

abbrev pub none_early : List Test → Bool
none_early ts = list_all (λ (t : Test). not (is_early t.1)) ts

late : (ts : List Test) → none_early ts ≡ true → is_early (verdict_of ts) ≡ false
late [] h = refl
late (t ∷ ts) h = go t.0 (late ts (and_parts _ _ h).1)
  where
    go : (b : Bool) → is_early (verdict_of ts) ≡ false → is_early (cond b (verdict_of ts) t.1) ≡ false
    go true ih = ih
    go false ih = not-true _ (and_parts _ _ h).0

-- the verdict is early exactly where the early tests, which come first, don't pass
early_front : (tests_before_code tests_after_code : List Test) → all_early tests_before_code ≡ true → none_early tests_after_code ≡ true → is_early (verdict_of (tests_before_code ++ tests_after_code)) ≡ not (tests_pass tests_before_code)
early_front [] tests_after_code f r = late tests_after_code r
early_front (t ∷ ts) tests_after_code f r = go t.0 (early_front ts tests_after_code (and_parts _ _ f).1 r)
  where
    go : (b : Bool) → is_early (verdict_of (ts ++ tests_after_code)) ≡ not (tests_pass ts) → is_early (cond b (verdict_of (ts ++ tests_after_code)) t.1) ≡ not (b && tests_pass ts)
    go true ih = ih
    go false ih = (and_parts _ _ f).0

-- early tests the last of which fails
pub early_refusal : (ts : List Test) (v : Verdict) → all_early ts ≡ true → is_early v ≡ true → true ≡ is_early (verdict_of (ts ++ (false, v) ∷ []))
early_refusal [] v f e = sym e
early_refusal (t ∷ ts) v f e = go t.0 (early_refusal ts v (and_parts _ _ f).1 e)
  where
    go : (b : Bool) → true ≡ is_early (verdict_of (ts ++ (false, v) ∷ [])) → true ≡ is_early (cond b (verdict_of (ts ++ (false, v) ∷ [])) t.1)
    go true ih = ih
    go false ih = sym (and_parts _ _ f).0

-- a key is there where the tests in front pass
pub led : (tests_before_code tests_after_code : List Test) (l : Lead) → all_early tests_before_code ≡ true → none_early tests_after_code ≡ true → is_none (cond (tests_pass tests_before_code) (Some l) None) ≡ is_early (verdict_of (tests_before_code ++ tests_after_code))
led tests_before_code tests_after_code l f r = go (tests_pass tests_before_code) ∙ sym (early_front tests_before_code tests_after_code f r)
  where
    go : (b : Bool) → is_none (cond b (Some l) None) ≡ not b
    go true = refl
    go false = refl
