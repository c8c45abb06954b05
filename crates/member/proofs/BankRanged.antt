-- What a bank changes is in range, and what it writes is short.
use Rattle.std.proofs.Common.{◌≡◌, ℕ, refl}
use Rattle.x_base.specs.declared.verdict.Verdict.{Verdict}
use Rattle.csm_grammar.specs.declared.arrival.Arrival.{Arrival}
use Rattle.csm_grammar.specs.declared.message.Message.{Message}
use Rattle.csm_grammar.specs.declared.message.Message.TheVariants as message
use Rattle.csm_grammar.specs.declared.message.Rsi.{Rsi}
use Rattle.csm_grammar.specs.declared.message.Rtr.{Rtr}
use Rattle.csm_grammar.specs.declared.message.Ksm.{Ksm}
use Rattle.csm_grammar.specs.declared.message.Rsm.{Rsm}
use Rattle.csm_grammar.specs.declared.message.Esm.{Esm}
use Rattle.csm_grammar.specs.declared.message.Dsm.{Dsm}
use Rattle.party_state.specs.declared.command.Command.{Command}
use Rattle.party_state.specs.declared.command.Input.{Input}
use Rattle.party_state.specs.declared.command.Input.TheVariants as input
use Rattle.party_state.specs.Ranges.{IsParty}
use Rattle.party_state.specs.State.{Party}
use Rattle.party_state.specs.Rows.{refused}
use Rattle.role_base.specs.Deciding.{decision_of}
use Rattle.role_base.specs.Ranged.{IsCommand, IsInput, IsRanged}
use Rattle.role_base.proofs.Ranged.{row_ranged, nothing_ranged, refused_kept}
use Rattle.bank_orders.specs.Orders.{command_row}
use Rattle.bank_keys.specs.Ksm.{key_arrives}
use Rattle.bank_keys.specs.Rtr.{rtr}
use Rattle.bank_arrivals.specs.Rsi.{rsi}
use Rattle.bank_arrivals.specs.Rsm.{rsm}
use Rattle.bank_arrivals.specs.Esm.{error}
use Rattle.bank_arrivals.specs.Dsm.{dsm}
use Rattle.member.specs.BankRows.{message_row}
use Rattle.member.specs.BankDeciding.{decided}

-- it is so of the rows of each class
pub record RowsRanged : Type 0 where
  pub command : (p : Party) (c : Command) (moment : ℕ) → IsParty p → IsCommand c → IsRanged p (decision_of p (command_row p c moment))
  pub rsi : (p : Party) (a : Arrival) (m : Rsi) (moment : ℕ) → IsParty p → IsRanged p (decision_of p (rsi p a m moment))
  pub rtr : (p : Party) (a : Arrival) (m : Rtr) → a.parsed.message ≡ message.Rtr m → IsParty p → IsRanged p (decision_of p (rtr p a m))
  pub ksm : (p : Party) (a : Arrival) (m : Ksm) → a.parsed.message ≡ message.Ksm m → IsParty p → IsRanged p (decision_of p (key_arrives p a m))
  pub rsm : (p : Party) (a : Arrival) (m : Rsm) → a.parsed.message ≡ message.Rsm m → IsParty p → IsRanged p (decision_of p (rsm p a m))
  pub esm : (p : Party) (a : Arrival) (m : Esm) → a.parsed.message ≡ message.Esm m → IsParty p → IsRanged p (decision_of p (error p a m))
  pub dsm : (p : Party) (a : Arrival) (m : Dsm) → a.parsed.message ≡ message.Dsm m → IsParty p → IsRanged p (decision_of p (dsm p a m))

arrived_ranged : RowsRanged → (p : Party) (a : Arrival) (moment : ℕ) → IsParty p → IsRanged p (decided p (input.Arrived a) moment)
arrived_ranged r p a moment w = by_message a.parsed.message refl
  where
    refused_message : (v : Verdict) → IsRanged p (decision_of p (refused v))
    refused_message v = row_ranged p (refused v) (refused_kept p v) (nothing_ranged v)

    by_message : (m : Message) → a.parsed.message ≡ m → IsRanged p (decision_of p (message_row p a m moment))
    by_message (message.Rsi m) e = r.rsi p a m moment w
    by_message (message.Rfs m) e = refused_message _
    by_message (message.Rtr m) e = r.rtr p a m e w
    by_message (message.Ksm m) e = r.ksm p a m e w
    by_message (message.Rsm m) e = r.rsm p a m e w
    by_message (message.Ers m) e = refused_message _
    by_message (message.Esm m) e = r.esm p a m e w
    by_message (message.Dsm m) e = r.dsm p a m e w

pub decided_ranged : RowsRanged → (p : Party) (i : Input) (moment : ℕ) → IsParty p → IsInput i → IsRanged p (decided p i moment)
decided_ranged r p (input.Ordered c) moment w k = r.command p c moment w k
decided_ranged r p (input.Arrived a) moment w k = arrived_ranged r p a moment w
