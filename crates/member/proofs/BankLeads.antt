-- There is no key to test the code of an arrival under exactly where the arrival is closed by an error detection
-- code, or is refused before its code is looked at.
use Rattle.std.proofs.Common.{◌≡◌, ◌↔◌, ◌⊎◌, inl, inr, ℕ, true, Option, None, List, [], ◌∷◌, refl, sym}
use Rattle.x_base.specs.declared.verdict.Verdict.{Verdict}
use Rattle.x_base.specs.declared.verdict.Verdict.TheVariants.{NotForMe, UnknownPeer, WrongClass}
use Rattle.csm_grammar.specs.declared.message.Message.{Message}
use Rattle.csm_grammar.specs.declared.message.Message.TheVariants as message
use Rattle.csm_grammar.specs.declared.message.Rsi.{Rsi}
use Rattle.csm_grammar.specs.declared.message.Rtr.{Rtr}
use Rattle.csm_grammar.specs.declared.message.Ksm.{Ksm}
use Rattle.csm_grammar.specs.declared.message.Rsm.{Rsm}
use Rattle.csm_grammar.specs.declared.message.Esm.{Esm}
use Rattle.csm_grammar.specs.declared.message.Dsm.{Dsm}
use Rattle.csm_grammar.specs.declared.arrival.Arrival.{Arrival}
use Rattle.party_state.specs.declared.decision.Lead.{Lead}
use Rattle.party_state.specs.State.{Party, knows}
use Rattle.role_base.specs.Texts.{is_plain}
use Rattle.role_base.specs.Conditions.{is_for, other_class}
use Rattle.role_base.specs.Errors.{is_early}
use Rattle.role_base.proofs.Early.{early_refusal}
use Rattle.bank_keys.specs.Ksm.{key_arrives, key_lead}
use Rattle.bank_keys.specs.Rtr.{rtr, rtr_lead}
use Rattle.bank_arrivals.specs.Rsm.{rsm, rsm_lead}
use Rattle.bank_arrivals.specs.Esm.{error, esm_lead}
use Rattle.bank_arrivals.specs.Dsm.{dsm, dsm_lead}
use Rattle.member.specs.BankRows.{message_row}
use Rattle.member.specs.BankLeads.{message_lead, lead_of}

-- there is no key exactly then
abbrev IsLed : Arrival → Option Lead → Verdict → Type 0
IsLed a lead v = (lead ≡ None) ↔ ((is_plain a.parsed.shut ≡ true) ⊎ (is_early v ≡ true))

-- it is so of the messages of each class that a bank serves; a request is closed by an error detection code
pub record RowsLed : Type 0 where
  pub rsi : (a : Arrival) (m : Rsi) → a.parsed.message ≡ message.Rsi m → is_plain a.parsed.shut ≡ true
  pub rtr : (p : Party) (a : Arrival) (m : Rtr) → a.parsed.message ≡ message.Rtr m → IsLed a (rtr_lead p a m) (rtr p a m).verdict
  pub ksm : (p : Party) (a : Arrival) (m : Ksm) → a.parsed.message ≡ message.Ksm m → IsLed a (key_lead p a m) (key_arrives p a m).verdict
  pub rsm : (p : Party) (a : Arrival) (m : Rsm) → a.parsed.message ≡ message.Rsm m → IsLed a (rsm_lead p a m) (rsm p a m).verdict
  pub esm : (p : Party) (a : Arrival) (m : Esm) → IsLed a (esm_lead p a m) (error p a m).verdict
  pub dsm : (p : Party) (a : Arrival) (m : Dsm) → a.parsed.message ≡ message.Dsm m → IsLed a (dsm_lead p a m) (dsm p a m).verdict

-- a class that a bank doesn't serve is refused before its code is looked at
unserved : (p : Party) (a : Arrival) (receiver originator : List ℕ) → IsLed a None (other_class p receiver originator originator).verdict
unserved p a receiver originator = (λ e. inr (sym (early_refusal ((is_for p receiver originator, NotForMe) ∷ (knows originator p, UnknownPeer) ∷ []) WrongClass refl refl)), λ h. refl)

message_led : RowsLed → (p : Party) (a : Arrival) (moment : ℕ) (m : Message) → a.parsed.message ≡ m → IsLed a (message_lead p a m) (message_row p a m moment).verdict
message_led r p a moment (message.Rsi m) e = (λ f. inl (r.rsi a m e), λ h. refl)
message_led r p a moment (message.Rfs m) e = unserved p a m.receiver m.originator
message_led r p a moment (message.Rtr m) e = r.rtr p a m e
message_led r p a moment (message.Ksm m) e = r.ksm p a m e
message_led r p a moment (message.Rsm m) e = r.rsm p a m e
message_led r p a moment (message.Ers m) e = unserved p a m.receiver m.originator
message_led r p a moment (message.Esm m) e = r.esm p a m
message_led r p a moment (message.Dsm m) e = r.dsm p a m e

pub lead_none : RowsLed → (p : Party) (a : Arrival) (moment : ℕ) → IsLed a (lead_of p a) (message_row p a a.parsed.message moment).verdict
lead_none r p a moment = message_led r p a moment a.parsed.message refl
