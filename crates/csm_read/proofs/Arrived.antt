-- What arrived is the message that its text spells: the one message of a text is the one that an arrival keeps.
use Rattle.std.proofs.Common.{◌≡◌, inl, inr, sym, subst}
use Rattle.std.proofs.Math.Logic.{∥∥₁_elim}
use Rattle.std.specs.Coded.{Coded-set}
use Rattle.csm_grammar.specs.declared.arrival.Arrival.{Arrival}
use Rattle.csm_grammar.specs.Spelling.{Says}
use Rattle.csm_grammar.specs.Reading.{IsRead}
use Rattle.csm_grammar.specs.Arrivals.{authenticated_text}
use Rattle.csm_grammar.proofs.Coding.{parsed}
use Rattle.csm_read.specs.Laws.{ArrivalsRead}
use Rattle.csm_read.proofs.Lawful.{one_answer, read_says}

-- what an arrival keeps is read from its text
pub arrival_read : (a : Arrival) → IsRead a.text a.parsed
arrival_read a = elim (one_answer a.text) [
  | inl one ↦ (let is : a.parsed ≡ one.parsed = ∥∥₁_elim a.arrived (Coded-set parsed a.parsed one.parsed) (λ i. one.alone a.parsed i.read) in subst (IsRead a.text) (sym is) one.read)
  | inr fault ↦ absurd (∥∥₁_elim a.arrived (λ x y. absurd x) (λ i. fault.unread a.parsed i.read))
]

-- so its authenticated text says its message
pub arrival_says : (a : Arrival) → Says (authenticated_text a) a.parsed.message
arrival_says a = read_says a.text a.parsed (arrival_read a)

pub arrivals_read : ArrivalsRead
arrivals_read a = record { read = arrival_read a; says = arrival_says a }
