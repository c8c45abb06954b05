-- A payment that is paid out, and one that is taken in (this project's profile).
use Rattle.std.specs.Prelude.{ℕ, List}
use Rattle.x_base.specs.declared.key_name.KeyName.{KeyName}
use Rattle.pay_auth.specs.Decisions.{RefusesOut, PaysOut, RefusesIn, TakesIn}
use Rattle.x_pay.specs.Outcomes.{Payment}

abbrev pub paying : List ℕ → KeyName → ℕ → Payment
paying peer name amount = record {
  Refuses = λ p entries cause. RefusesOut p peer name entries cause;
  Passes = λ p entries entry text. PaysOut p peer name amount entries entry text;
}

abbrev pub accepting : List ℕ → Payment
accepting bytes = record {
  Refuses = λ p entries cause. RefusesIn p bytes entries cause;
  Passes = λ p entries entry text. TakesIn p bytes entries entry text;
}
