-- When the key of a centre's answer goes on to its ultimate recipient (ANSI X9.17; the bounds are this project's
-- profile).
use Rattle.std.specs.Prelude.{ℕ, ◌≡◌, ◌≢◌, ◌≤◌, ◌↔◌, IsTrue, Option, Some, None}
use Rattle.x_base.specs.Count.{count_limit}
use Rattle.x_base.specs.declared.verdict.Verdict.TheVariants.{Accept}
use Rattle.x_seal.specs.Wrapped.{unwrap_of}
use Rattle.csm_grammar.specs.declared.message.Message.TheVariants as message
use Rattle.csm_grammar.specs.declared.message.Rtr.{Rtr}
use Rattle.csm_grammar.specs.declared.arrival.Arrival.{Arrival}
use Rattle.party_state.specs.declared.command.Input.{Input}
use Rattle.party_state.specs.declared.command.Input.TheVariants as input
use Rattle.party_tables.specs.declared.link.LinkRec.{LinkRec}
use Rattle.party_tables.specs.declared.exchange.Kind.TheVariants as kind
use Rattle.party_tables.specs.declared.exchange.Exchange.{Exchange}
use Rattle.party_state.specs.declared.decision.Decision.{Decision}
use Rattle.party_tables.specs.Keys.{takes}
use Rattle.party_state.specs.State.{Party, centre_label, link_with, record_with, exchange_with, knows}
use Rattle.role_base.specs.Texts.{is_verified}
use Rattle.bank_keys.specs.Rtr.{centre_key, passed_record}
use Rattle.bank_keys.specs.Taking.{HasRoomFor}

-- the input is a centre's answer that arrived
pub record Responds (i : Input) (a : Arrival) (m : Rtr) : Type 0 where
  pub arrived : i ≡ input.Arrived a
  pub message : a.parsed.message ≡ message.Rtr m

-- the answer brings this key, encrypted under the link with the centre, and the centre was asked for it: for the very
-- recipient that the answer names
pub record Brought (p : Party) (m : Rtr) (value : ℕ) (kd : ℕ × ℕ) : Type 0 where
  pub exchange : Exchange
  pub stands : exchange_with m.originator p ≡ Some exchange
  pub asked : exchange.kind ≡ kind.Asked m.ultimate
  pub link : LinkRec
  pub in_use : link_with (takes m.originator centre_label) p ≡ Some link
  pub unwrapped : value ≡ unwrap_of link.pair kd.1 kd.0
  -- the count is not below the expected one, which is a count
  pub fresh : link.next ≤ kd.1
  pub left : link.next ≤ count_limit

-- this key is with the centre, for the very recipient that the answer names
pub record Waits (p : Party) (m : Rtr) (value : ℕ) : Type 0 where
  pub exchange : Exchange
  pub stands : exchange_with m.originator p ≡ Some exchange
  pub cta : ℕ
  pub translating : exchange.kind ≡ kind.Translating m.ultimate value cta

-- the key of the answer: with KD the one that it brings, without the one that waits
abbrev pub IsKeyOf : Party → Rtr → ℕ → Option (ℕ × ℕ) → Type 0
IsKeyOf p m value (Some kd) = Brought p m value kd
IsKeyOf p m value None = Waits p m value

pub record CanPassOn (p : Party) (a : Arrival) (m : Rtr) : Type 0 where
  pub receiver : m.receiver ≡ p.own
  pub originator : m.originator ≢ p.own
  pub known : IsTrue (knows m.originator p)
  pub value : ℕ
  pub key : IsKeyOf p m value m.kd
  -- no exchange with the ultimate recipient stands
  pub alone : exchange_with m.ultimate p ≡ None
  -- the code is made under the key
  pub code : IsTrue (is_verified a value)
  -- no record of the name stands
  pub unnamed : record_with (centre_key p m) p ≡ None
  pub room : HasRoomFor p (passed_record p m value)

-- a centre's answer is accepted exactly where its key can go on
abbrev pub PassesKeys : Party → Input → Decision → Type 0
PassesKeys p i d = (a : Arrival) (m : Rtr) → Responds i a m → (d.verdict ≡ Accept) ↔ CanPassOn p a m
