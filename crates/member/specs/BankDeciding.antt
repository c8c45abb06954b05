-- What a bank decides of an input at a moment: the decision of its row.
use Rattle.std.specs.Prelude.{ℕ}
use Rattle.party_state.specs.declared.command.Input.{Input}
use Rattle.party_state.specs.declared.decision.Decision.{Decision}
use Rattle.party_state.specs.State.{Party}
use Rattle.role_base.specs.Deciding.{decision_of}
use Rattle.member.specs.BankRows.{row_of}

abbrev pub decided : Party → Input → ℕ → Decision
decided p i moment = decision_of p (row_of p i moment)
