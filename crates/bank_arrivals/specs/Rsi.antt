-- A request for service initiation arrives (ANSI X9.17): a data key goes back under the first link, or
-- two of them.
use Rattle.std.specs.Prelude.{ℕ, Bool, true, false, ◌&&◌, ◌||◌, is_none, is_some, List, [], ◌∷◌, Option, Some, None}
use Rattle.x_base.specs.declared.party.Side.TheVariants.{Sends}
use Rattle.x_base.specs.declared.verdict.Verdict.TheVariants.{NotForMe, UnknownPeer, WrongClass, Outstanding, UnknownKk, BadEdc}
use Rattle.csm_grammar.specs.declared.message.Rsi.{Rsi}
use Rattle.csm_grammar.specs.declared.arrival.Arrival.{Arrival}
use Rattle.party_tables.specs.declared.link.LinkRec.{LinkRec}
use Rattle.party_state.specs.State.{Party, first_link, exchange_with, knows}
use Rattle.party_state.specs.Verdicts.{Test, verdict_of}
use Rattle.party_state.specs.Rows.{Row, refused}
use Rattle.role_base.specs.Texts.{is_right}
use Rattle.role_base.specs.Conditions.{is_for, is_data_key, is_two_keys}
use Rattle.role_base.specs.Sending.{sending}
use Rattle.bank_arrivals.specs.SendingTwins.{twins_sending}

abbrev pub rsi_tests : Party → Arrival → Rsi → Option LinkRec → List Test
rsi_tests p a m found =
    (is_for p m.receiver m.originator, NotForMe) ∷ (knows m.originator p, UnknownPeer)
    ∷ ((is_data_key m.service || is_two_keys m.service) && is_none m.ultimate, WrongClass) ∷ (is_none (exchange_with m.originator p), Outstanding)
    ∷ (is_some found, UnknownKk) ∷ (is_right a, BadEdc) ∷ []

-- behind the tests, two keys or one
abbrev pub sending_by : Party → List Test → LinkRec → ℕ → Bool → Row
sending_by p tests l moment true = twins_sending p tests l moment
sending_by p tests l moment false = sending p tests l moment

abbrev pub rsi_row : Party → Arrival → Rsi → LinkRec → ℕ → Bool → Row
rsi_row p a m l moment two = sending_by p (rsi_tests p a m (Some l)) l moment two

abbrev pub rsi_under : Party → Arrival → Rsi → Option LinkRec → ℕ → Row
rsi_under p a m None moment = refused (verdict_of (rsi_tests p a m None))
rsi_under p a m (Some l) moment = rsi_row p a m l moment (is_two_keys m.service)

abbrev pub rsi : Party → Arrival → Rsi → ℕ → Row
rsi p a m moment = rsi_under p a m (first_link m.originator Sends p) moment
