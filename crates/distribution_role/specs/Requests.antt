-- A request for a data key arrives at a key distribution centre (ANSI X9.17, request for service initiation).
use Rattle.std.specs.Prelude.{ℕ, Bool, true, false, not, ◌&&◌, List, [], ◌∷◌, ◌++◌, Option, Some, None, bytes_eq}
use Rattle.x_base.specs.declared.verdict.Verdict.TheVariants.{UnknownKk, BadEdc, CountSpent}
use Rattle.x_gen.specs.declared.generator.Gen.{Gen}
use Rattle.x_gen.specs.Gen.{good_draw}
use Rattle.csm_grammar.specs.declared.message.Rsi.{Rsi}
use Rattle.csm_grammar.specs.declared.arrival.Arrival.{Arrival}
use Rattle.party_tables.specs.declared.link.LinkRec.{LinkRec}
use Rattle.party_tables.specs.Keys.{sends}
use Rattle.party_state.specs.State.{Party, centre_label, link_with}
use Rattle.party_state.specs.Verdicts.{Test, verdict_of}
use Rattle.party_state.specs.Rows.{Row, refused}
use Rattle.role_base.specs.Texts.{is_right}
use Rattle.role_base.specs.Conditions.{has_count, is_data_key}
use Rattle.role_base.specs.Centres.{request_front}
use Rattle.distribution_role.specs.Answering.{answering}

abbrev pub serves_rsi : Rsi → List ℕ → Bool
serves_rsi m u = is_data_key m.service && not (bytes_eq u m.originator)

abbrev pub rsi_front : Party → Rsi → List ℕ → Bool → List Test
rsi_front p m u linked = request_front p m.receiver m.originator (serves_rsi m u) ++ (linked, UnknownKk) ∷ []

abbrev pub rsi_tests : Party → Arrival → Rsi → List ℕ → LinkRec → LinkRec → List Test
rsi_tests p a m u l b = rsi_front p m u true ++ (is_right a, BadEdc) ∷ (has_count l && has_count b, CountSpent) ∷ []

abbrev pub rsi_between : Party → Arrival → Rsi → List ℕ → Option LinkRec → Option LinkRec → Option (ℕ × Gen) → Row
rsi_between p a m u None found drawn = refused (verdict_of (rsi_front p m u false))
rsi_between p a m u (Some l) None drawn = refused (verdict_of (rsi_front p m u false))
rsi_between p a m u (Some l) (Some b) drawn = answering p m.originator u (rsi_tests p a m u l b) l b drawn

abbrev pub rsi_for : Party → Arrival → Rsi → Option (List ℕ) → ℕ → Row
rsi_for p a m None moment = refused (verdict_of (request_front p m.receiver m.originator false))
rsi_for p a m (Some u) moment = rsi_between p a m u (link_with (sends m.originator centre_label) p) (link_with (sends u centre_label) p) (good_draw p.generator moment)

abbrev pub rsi : Party → Arrival → Rsi → ℕ → Row
rsi p a m moment = rsi_for p a m m.ultimate moment
