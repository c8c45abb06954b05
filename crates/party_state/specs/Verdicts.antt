-- The tests of a decision in their order, and the verdict that they give (this project's profile).
use Rattle.std.specs.Prelude.{◌≡◌, Bool, true, false, cond, not, ◌&&◌, List, [], ◌∷◌}
use Rattle.x_base.specs.declared.verdict.Verdict.{Verdict}
use Rattle.x_base.specs.declared.verdict.Verdict.TheVariants.{Accept}

-- a test, and the verdict where it is the first that fails
abbrev pub Test : Type 0
Test = Bool × Verdict

-- the verdict of the first test that fails, or Accept
abbrev pub verdict_of : List Test → Verdict
verdict_of [] = Accept
verdict_of (t ∷ ts) = cond t.0 (verdict_of ts) t.1

-- all of the tests hold
abbrev pub tests_pass : List Test → Bool
tests_pass [] = true
tests_pass (t ∷ ts) = t.0 && tests_pass ts

abbrev pub TestsHold : List Test → Type 0
TestsHold [] = Unit {0}
TestsHold (t ∷ ts) = (t.0 ≡ true) × TestsHold ts

abbrev pub is_accept : Verdict → Bool
is_accept Accept = true
is_accept _ = false

-- no verdict among them is Accept
abbrev pub all_refuse : List Test → Bool
all_refuse [] = true
all_refuse (t ∷ ts) = not (is_accept t.1) && all_refuse ts
