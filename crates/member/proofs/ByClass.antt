-- What is accepted is served.
use Rattle.std.proofs.Common.{◌≡◌, ℕ, Bool, true, false, cond, List}
use Rattle.x_base.specs.declared.party.Role.{Role}
use Rattle.x_base.specs.declared.party.Role.TheVariants.{Bank, Distribution, Translation}
use Rattle.x_base.specs.declared.verdict.Verdict.TheVariants.{Accept, NotForMe, UnknownPeer, WrongClass}
use Rattle.csm_grammar.specs.declared.message.Message.{Message}
use Rattle.csm_grammar.specs.declared.message.Message.TheVariants as message
use Rattle.csm_grammar.specs.declared.arrival.Arrival.{Arrival}
use Rattle.party_state.specs.declared.command.Input.{Input}
use Rattle.party_state.specs.declared.command.Input.TheVariants as input
use Rattle.party_state.specs.State.{Party, knows}
use Rattle.role_base.specs.Conditions.{is_for, other_class}
use Rattle.member.specs.BankRows.{message_row, row_of}
use Rattle.distribution_role.specs.Rows.{distribution_row}
use Rattle.distribution_role.specs.Serves as distribution
use Rattle.translation_role.specs.Rows.{translation_row}
use Rattle.translation_role.specs.Serves as translation
use Rattle.member.specs.Rows.{row_by}
use Rattle.member.specs.Deciding.{decision}
use Rattle.member.specs.Serving.{IsForBank, BankServes, Serves}

not_accepted : (p : Party) (receiver originator known : List ℕ) → (other_class p receiver originator known).verdict ≡ Accept → ⊥
not_accepted p receiver originator known e = go (is_for p receiver originator) (knows known p) e
  where
    go : (b k : Bool) → cond b (cond k WrongClass UnknownPeer) NotForMe ≡ Accept → ⊥
    go true true h = cc
    go true false h = cc
    go false k h = cc

bank_message : (p : Party) (a : Arrival) (m : Message) (moment : ℕ) → (message_row p a m moment).verdict ≡ Accept → IsForBank m
bank_message p a (message.Rfs m) moment e = not_accepted p m.receiver m.originator m.originator e
bank_message p a (message.Ers m) moment e = not_accepted p m.receiver m.originator m.originator e
bank_message p a (message.Rsi m) moment e = tt
bank_message p a (message.Rtr m) moment e = tt
bank_message p a (message.Ksm m) moment e = tt
bank_message p a (message.Rsm m) moment e = tt
bank_message p a (message.Esm m) moment e = tt
bank_message p a (message.Dsm m) moment e = tt

bank_serves : (p : Party) (i : Input) (moment : ℕ) → (row_of p i moment).verdict ≡ Accept → BankServes i
bank_serves p (input.Ordered c) moment e = tt
bank_serves p (input.Arrived a) moment e = bank_message p a a.parsed.message moment e

pub serves : ((p : Party) (i : Input) (moment : ℕ) → (distribution_row p i moment).verdict ≡ Accept → distribution.IsServed i) → ((p : Party) (i : Input) → (translation_row p i).verdict ≡ Accept → translation.IsServed i)
    → (p : Party) (i : Input) (moment : ℕ) → (decision p i moment).verdict ≡ Accept → Serves p.role i
unfolding decision
serves of_distribution of_translation p i moment e = go p.role e
  where
    go : (r : Role) → (row_by r p i moment).verdict ≡ Accept → Serves r i
    go Bank h = bank_serves p i moment h
    go Distribution h = of_distribution p i moment h
    go Translation h = of_translation p i h
