-- A text is put into a sink (this project's profile). `before` and `after` are what the sink has.
use Rattle.std.specs.Prelude.{◌≡◌, ◌⊎◌, ◌++◌, ℕ, List, Option, Some, None}
use Rattle.x_base.specs.Edge.{AppendsTo, WrotePrefix}
use Rattle.call_ends.specs.declared.status.Status.{Status}
use Rattle.call_ends.specs.declared.status.Status.TheVariants as status

-- the text and its ending were written, or the sink failed and a prefix was; where there is no text, nothing is
abbrev pub Puts : Option (List ℕ) → List ℕ → Status → Status → Option (List ℕ) → Option (List ℕ) → Type 0
Puts None ending answer s before after = (s ≡ answer) × (after ≡ before)
Puts (Some text) ending answer s before after = ((s ≡ answer) × AppendsTo before after (text ++ ending))
    ⊎ ((s ≡ status.WriteFault) × WrotePrefix before after (text ++ ending))
