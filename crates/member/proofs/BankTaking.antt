-- A key that comes is accepted exactly where it can be taken, and a centre's answer where its key can go on.
use Rattle.std.proofs.Common.{◌≡◌, ℕ, ap, ◌∙◌}
use Rattle.csm_grammar.specs.declared.message.Message.{Message}
use Rattle.csm_grammar.specs.declared.message.Message.TheVariants as message
use Rattle.csm_grammar.specs.declared.message.Ksm.{Ksm}
use Rattle.csm_grammar.specs.declared.message.Rtr.{Rtr}
use Rattle.csm_grammar.specs.declared.arrival.Arrival.{Arrival}
use Rattle.party_state.specs.declared.command.Input.{Input}
use Rattle.party_state.specs.declared.command.Input.TheVariants as input
use Rattle.party_state.specs.State.{Party}
use Rattle.role_base.specs.Deciding.{decision_of}
use Rattle.bank_keys.specs.Ksm.{key_arrives}
use Rattle.bank_keys.specs.Rtr.{rtr}
use Rattle.bank_keys.specs.Taking.{TakesKeys}
use Rattle.bank_keys.specs.Passing.{PassesKeys}
use Rattle.member.specs.BankRows.{message_row}
use Rattle.member.specs.BankDeciding.{decided}

-- it is so of the messages that bring keys
abbrev pub KeysTaken : Type 0
KeysTaken = (p : Party) (a : Arrival) (m : Ksm) → a.parsed.message ≡ message.Ksm m → TakesKeys p (input.Arrived a) (decision_of p (key_arrives p a m))

abbrev pub KeysPassed : Type 0
KeysPassed = (p : Party) (a : Arrival) (m : Rtr) → a.parsed.message ≡ message.Rtr m → PassesKeys p (input.Arrived a) (decision_of p (rtr p a m))

-- the arrival that an input is
abbrev arrival_of : Arrival → Input → Arrival
arrival_of d (input.Arrived x) = x
arrival_of d (input.Ordered x) = d

pub takes : KeysTaken → (p : Party) (i : Input) (moment : ℕ) → TakesKeys p i (decided p i moment)
takes keys p (input.Arrived a) moment = λ b m brought.
    let same : a ≡ b = ap (arrival_of a) brought.arrived in
    let is : a.parsed.message ≡ message.Ksm m = ap (λ (x : Arrival). x.parsed.message) same ∙ brought.message in
    let row : message_row p a a.parsed.message moment ≡ key_arrives p a m = ap (λ (n : Message). message_row p a n moment) is in
    rw row (keys p a m is b m brought)
takes keys p (input.Ordered c) moment = λ a m brought. absurd (cc (brought.arrived))

pub keys_pass : KeysPassed → (p : Party) (i : Input) (moment : ℕ) → PassesKeys p i (decided p i moment)
keys_pass keys p (input.Arrived a) moment = λ b m brought.
    let same : a ≡ b = ap (arrival_of a) brought.arrived in
    let is : a.parsed.message ≡ message.Rtr m = ap (λ (x : Arrival). x.parsed.message) same ∙ brought.message in
    let row : message_row p a a.parsed.message moment ≡ rtr p a m = ap (λ (n : Message). message_row p a n moment) is in
    rw row (keys p a m is b m brought)
keys_pass keys p (input.Ordered c) moment = λ a m brought. absurd (cc (brought.arrived))
