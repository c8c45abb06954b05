-- Lists in which each element is judged by those before it.
use Rattle.std.specs.Prelude.{◌≡◌, Bool, true, false, List, ◌∷◌, ◌++◌}

-- each element passes the test behind those before it
abbrev pub EachBehind : {A : Type 0} → (List A → A → Bool) → List A → Type 0
EachBehind {A} passes all = (before after : List A) (x : A) → all ≡ before ++ x ∷ after → passes before x ≡ true

-- behind these, which all pass, stands the first element that doesn't
pub record FirstFails {A : Type 0} (passes : List A → A → Bool) (all before : List A) : Type 0 where
  pub each : EachBehind passes before
  pub here : A
  pub after : List A
  pub whole : all ≡ before ++ here ∷ after
  pub fails : passes before here ≡ false
