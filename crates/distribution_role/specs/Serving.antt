-- Which requests a key distribution centre answers (ANSI X9.17; the bounds are this project's profile).
use Rattle.std.specs.Prelude.{ℕ, ◌≡◌, ◌≢◌, ◌≤◌, ◌↔◌, IsTrue, List, Some}
use Rattle.x_base.specs.Count.{count_limit}
use Rattle.x_base.specs.declared.verdict.Verdict.TheVariants.{Accept}
use Rattle.x_gen.specs.declared.generator.Gen.{Gen}
use Rattle.x_gen.specs.Gen.{good_draw}
use Rattle.csm_grammar.specs.declared.message.Message.TheVariants as message
use Rattle.csm_grammar.specs.declared.message.Service.TheVariants as service
use Rattle.csm_grammar.specs.declared.message.Rsi.{Rsi}
use Rattle.csm_grammar.specs.declared.message.Ers.{Ers}
use Rattle.csm_grammar.specs.declared.arrival.Arrival.{Arrival}
use Rattle.party_tables.specs.declared.answer.Answer.{Answer}
use Rattle.party_tables.specs.declared.link.LinkRec.{LinkRec}
use Rattle.party_tables.specs.Keys.{sends}
use Rattle.party_state.specs.State.{Party, centre_label, link_with, answer_with, knows}
use Rattle.role_base.specs.Texts.{is_verified, is_right}
use Rattle.distribution_role.specs.Rows.{distribution_message}

-- the centre shares key-encrypting keys with both banks, each with a count left, and a key is drawn
pub record CanSend (p : Party) (requester u : List ℕ) (moment : ℕ) : Type 0 where
  -- the requester asks for another bank
  pub other : u ≢ requester
  pub from : LinkRec
  pub with_requester : link_with (sends requester centre_label) p ≡ Some from
  pub from_left : from.next ≤ count_limit
  pub to : LinkRec
  pub with_ultimate : link_with (sends u centre_label) p ≡ Some to
  pub to_left : to.next ≤ count_limit
  pub drawn : ℕ × Gen
  pub draws : good_draw p.generator moment ≡ Some drawn

-- a request that can be answered
pub record CanAnswer (p : Party) (a : Arrival) (m : Rsi) (moment : ℕ) : Type 0 where
  pub receiver : m.receiver ≡ p.own
  pub originator : m.originator ≢ p.own
  pub known : IsTrue (knows m.originator p)
  pub service : m.service ≡ service.Kd
  pub ultimate : List ℕ
  pub asks : m.ultimate ≡ Some ultimate
  -- its error detection code is right
  pub code : IsTrue (is_right a)
  pub sends : CanSend p m.originator ultimate moment

-- one that comes again
pub record CanRecover (p : Party) (a : Arrival) (m : Ers) (moment : ℕ) : Type 0 where
  pub receiver : m.receiver ≡ p.own
  pub originator : m.originator ≢ p.own
  pub known : IsTrue (knows m.originator p)
  -- its authentication code is made under the key of the last answer to the same bank for the same recipient
  pub kept : Answer
  pub last : answer_with (record { requester = m.originator; ultimate = m.ultimate }) p ≡ Some kept
  pub code : IsTrue (is_verified a kept.value)
  pub sends : CanSend p m.originator m.ultimate moment

-- the requests that are accepted are those

abbrev pub AnswersRequests : Type 0
AnswersRequests = (p : Party) (a : Arrival) (m : Rsi) (moment : ℕ) → a.parsed.message ≡ message.Rsi m
    → ((distribution_message p a a.parsed.message moment).verdict ≡ Accept) ↔ CanAnswer p a m moment

abbrev pub AnswersAgain : Type 0
AnswersAgain = (p : Party) (a : Arrival) (m : Ers) (moment : ℕ) → a.parsed.message ≡ message.Ers m
    → ((distribution_message p a a.parsed.message moment).verdict ≡ Accept) ↔ CanRecover p a m moment
