-- Starting: a new data key for a peer (ANSI X9.17, point to point).
use Rattle.std.specs.Prelude.{ℕ, is_none, is_some, cond, List, [], ◌∷◌, Option, Some, None, bytes_eq}
use Rattle.x_base.specs.declared.party.Side.TheVariants.{Sends}
use Rattle.x_base.specs.declared.verdict.Verdict.TheVariants.{UnknownPeer, Outstanding, UnknownKk}
use Rattle.party_tables.specs.declared.link.LinkRec.{LinkRec}
use Rattle.party_tables.specs.Keys.{sends}
use Rattle.party_state.specs.State.{Party, centre_label, link_with, first_link, exchange_with, knows}
use Rattle.party_state.specs.Verdicts.{Test, verdict_of}
use Rattle.party_state.specs.Rows.{Row, refused}
use Rattle.role_base.specs.Sending.{sending}

abbrev pub if_ready : Option LinkRec → Option LinkRec
if_ready None = None
if_ready (Some l) = cond l.ready (Some l) None

-- the ready link with that label, which isn't a centre's
abbrev pub labelled_link : Party → List ℕ → List ℕ → Option LinkRec
labelled_link p peer label = cond (bytes_eq label centre_label) None (if_ready (link_with (sends peer label) p))

-- the link to send under: the one with that label, or the first
abbrev pub sending_link : Party → List ℕ → Option (List ℕ) → Option LinkRec
sending_link p peer None = first_link peer Sends p
sending_link p peer (Some label) = labelled_link p peer label

abbrev pub start_tests : Party → List ℕ → Option LinkRec → List Test
start_tests p peer found = (knows peer p, UnknownPeer) ∷ (is_none (exchange_with peer p), Outstanding) ∷ (is_some found, UnknownKk) ∷ []

abbrev pub start_under : Party → List ℕ → Option LinkRec → ℕ → Row
start_under p peer None moment = refused (verdict_of (start_tests p peer None))
start_under p peer (Some l) moment = sending p (start_tests p peer (Some l)) l moment

abbrev pub start : Party → List ℕ → Option (List ℕ) → ℕ → Row
start p peer label moment = start_under p peer (sending_link p peer label) moment
