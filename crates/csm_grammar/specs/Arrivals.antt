-- What is promised of every message that is read, and of every arrival.
use Rattle.std.specs.Prelude.{◌≡◌, ℕ, true, List, take}
use Rattle.std.specs.List.{AllByRecursion}
use Rattle.csm_grammar.specs.declared.message.Message.{Message}
use Rattle.csm_grammar.specs.declared.parsed.Parsed.{Parsed}
use Rattle.csm_grammar.specs.declared.arrival.Arrival.{Arrival}
use Rattle.csm_grammar.specs.Classes.{allows}
use Rattle.csm_grammar.specs.Messages.{form_of, fields_of, shut_field}
use Rattle.csm_grammar.specs.Spelling.{Says}
use Rattle.csm_grammar.specs.Reading.{IsRead}
use Rattle.csm_grammar.specs.Kinds.{IsFieldOfKind}

-- the authenticated text of an arrival, as it was received
abbrev pub authenticated_text : Arrival → List ℕ
authenticated_text a = take a.parsed.auth_len a.text

-- the form of the message allows the code that closes it
abbrev pub AllowsItsCode : Parsed → Type 0
AllowsItsCode p = allows (form_of p.message) (shut_field p.shut).tag ≡ true

-- a message is closed by a code that its form allows
abbrev pub ReadAllows : Type 0
ReadAllows = (b : List ℕ) (p : Parsed) → IsRead b p → AllowsItsCode p

-- the values that a message gets from its text are of the kinds of their tags
abbrev pub SaidTyped : Type 0
SaidTyped = (text : List ℕ) (m : Message) → Says text m → AllByRecursion IsFieldOfKind (fields_of m)

-- what holds of every arrival
pub record IsArrived (a : Arrival) : Type 0 where
  -- it is closed by a code that its form allows
  pub allowed : AllowsItsCode a.parsed
  -- its values are of the kinds of their tags
  pub typed : AllByRecursion IsFieldOfKind (fields_of a.parsed.message)

abbrev pub AllArrived : Type 0
AllArrived = (a : Arrival) → IsArrived a
