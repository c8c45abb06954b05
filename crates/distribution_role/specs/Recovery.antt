-- A request that comes again with the count that the ultimate recipient expects (ANSI X9.17, error recovery service): it
-- is closed under the last key that was sent for that recipient, and answered with a new one.
use Rattle.std.specs.Prelude.{ℕ, max, Bool, true, false, cond, not, ◌&&◌, List, [], ◌∷◌, ◌++◌, Option, Some, None, bytes_eq}
use Rattle.x_base.specs.declared.verdict.Verdict.TheVariants.{NoExchange, UnknownKk, BadMac, CountSpent}
use Rattle.x_gen.specs.declared.generator.Gen.{Gen}
use Rattle.x_gen.specs.Gen.{good_draw}
use Rattle.csm_grammar.specs.declared.message.Ers.{Ers}
use Rattle.csm_grammar.specs.declared.arrival.Arrival.{Arrival}
use Rattle.party_tables.specs.declared.link.LinkRec.{LinkRec}
use Rattle.party_tables.specs.declared.answer.Answer.{Answer}
use Rattle.party_state.specs.declared.decision.Lead.{Lead}
use Rattle.party_tables.specs.Keys.{sends}
use Rattle.party_state.specs.State.{Party, centre_label, link_with, answer_with}
use Rattle.party_state.specs.Verdicts.{Test, verdict_of, tests_pass}
use Rattle.party_state.specs.Rows.{Row, refused}
use Rattle.role_base.specs.Texts.{is_verified, lead_under}
use Rattle.role_base.specs.Conditions.{has_count}
use Rattle.role_base.specs.Centres.{request_front}
use Rattle.distribution_role.specs.Answering.{answer_under, answering}

abbrev pub ers_front : Party → Ers → Bool → Bool → List Test
ers_front p m stands linked = request_front p m.receiver m.originator (not (bytes_eq m.ultimate m.originator)) ++ (stands, NoExchange) ∷ (linked, UnknownKk) ∷ []

abbrev pub ers_tests : Party → Arrival → Ers → Answer → LinkRec → LinkRec → List Test
ers_tests p a m t l b = ers_front p m true true ++ (is_verified a t.value, BadMac) ∷ (has_count l && has_count b, CountSpent) ∷ []

-- the ultimate recipient's link doesn't go back behind the count that it expects
abbrev pub at_least : LinkRec → ℕ → LinkRec
at_least b ctr = record b { next = max b.next ctr }

abbrev pub ers_between : Party → Arrival → Ers → Option Answer → Option LinkRec → Option LinkRec → Option (ℕ × Gen) → Row
ers_between p a m None la lb drawn = refused (verdict_of (ers_front p m false false))
ers_between p a m (Some t) None lb drawn = refused (verdict_of (ers_front p m true false))
ers_between p a m (Some t) (Some l) None drawn = refused (verdict_of (ers_front p m true false))
ers_between p a m (Some t) (Some l) (Some b) drawn = answering p m.originator m.ultimate (ers_tests p a m t l b) l (at_least b m.ctr) drawn

abbrev pub ers : Party → Arrival → Ers → ℕ → Row
ers p a m moment = ers_between p a m (answer_with (record { requester = m.originator; ultimate = m.ultimate }) p) (link_with (sends m.originator centre_label) p) (link_with (sends m.ultimate centre_label) p) (good_draw p.generator moment)

-- the key under which its code is tested: that of the kept answer

abbrev pub ers_lead_between : Party → Arrival → Ers → Option Answer → Option LinkRec → Option LinkRec → Option Lead
ers_lead_between p a m None la lb = None
ers_lead_between p a m (Some t) None lb = None
ers_lead_between p a m (Some t) (Some l) None = None
ers_lead_between p a m (Some t) (Some l) (Some b) = cond (tests_pass (ers_front p m true true)) (Some (lead_under a (answer_under p m.originator t.cta) t.value)) None

abbrev pub ers_lead : Party → Arrival → Ers → Option Lead
ers_lead p a m = ers_lead_between p a m (answer_with (record { requester = m.originator; ultimate = m.ultimate }) p) (link_with (sends m.originator centre_label) p) (link_with (sends m.ultimate centre_label) p)
