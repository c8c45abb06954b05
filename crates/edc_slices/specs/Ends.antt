-- The text that a body's code is of (this project's profile).
use Rattle.std.specs.Prelude.{ℕ, ◌-◌, List, length, take}

-- all bytes of a body but the last four
abbrev pub text_before_end : List ℕ → List ℕ
text_before_end body = take (length body - 4) body
