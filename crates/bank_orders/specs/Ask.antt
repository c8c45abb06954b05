-- Asking a peer for a data key, or a distribution centre for one that is shared with another (ANSI X9.17, request
-- for service initiation).
use Rattle.std.specs.Prelude.{ℕ, not, ◌&&◌, is_none, is_some, List, [], ◌∷◌, ◌++◌, Option, Some, None, bytes_eq}
use Rattle.x_base.specs.declared.verdict.Verdict.TheVariants.{UnknownPeer, WrongClass, Outstanding, UnknownKk}
use Rattle.csm_grammar.specs.declared.message.Message.{Message}
use Rattle.csm_grammar.specs.declared.message.Message.TheVariants as message
use Rattle.csm_grammar.specs.declared.message.Service.TheVariants as service
use Rattle.party_tables.specs.declared.exchange.Kind.TheVariants as kind
use Rattle.party_state.specs.declared.edit.Edit.{Edit}
use Rattle.party_state.specs.declared.edit.Edit.TheVariants.{PutExchange}
use Rattle.party_tables.specs.Keys.{takes}
use Rattle.party_state.specs.State.{Party, centre_label, link_with, exchange_with, knows}
use Rattle.party_state.specs.Verdicts.{Test, verdict_of}
use Rattle.party_state.specs.Rows.{Row, Plain}
use Rattle.role_base.specs.Texts.{text_of}

abbrev pub request : Party → List ℕ → Message
request p peer = message.Rsi (record { receiver = peer; originator = p.own; service = service.Kd; ultimate = None })

abbrev pub ask_peer : Party → List ℕ → Row
ask_peer p peer = record {
  verdict = verdict_of ((knows peer p, UnknownPeer) ∷ []);
  edits = [];
  reply = Some (Plain (request p peer));
  uses = [];
  makes = None;
  accepts = None;
  answer = None;
}

-- for an ultimate recipient
abbrev pub centre_request : Party → List ℕ → List ℕ → Message
centre_request p centre u = message.Rsi (record { receiver = centre; originator = p.own; service = service.Kd; ultimate = Some u })

-- the centre is known, and no exchange with it or with the recipient stands
abbrev pub centre_front : Party → List ℕ → List ℕ → List Test
centre_front p centre u =
    (knows centre p, UnknownPeer) ∷ (not (bytes_eq u p.own) && not (bytes_eq u centre), WrongClass)
    ∷ (is_none (exchange_with centre p) && is_none (exchange_with u p), Outstanding) ∷ []

abbrev pub ask_tests : Party → List ℕ → List ℕ → List Test
ask_tests p centre u = centre_front p centre u ++ (is_some (link_with (takes centre centre_label) p), UnknownKk) ∷ []

-- the exchange with the centre stands
abbrev pub asked_edits : Party → List ℕ → List ℕ → List Edit
asked_edits p centre u = PutExchange (record { peer = centre; kind = kind.Asked u; text = text_of (Plain (centre_request p centre u)) }) ∷ []

abbrev pub ask_centre : Party → List ℕ → List ℕ → Row
ask_centre p centre u = record {
  verdict = verdict_of (ask_tests p centre u);
  edits = asked_edits p centre u;
  reply = Some (Plain (centre_request p centre u));
  uses = [];
  makes = None;
  accepts = None;
  answer = None;
}

abbrev pub ask_of : Party → List ℕ → Option (List ℕ) → Row
ask_of p peer None = ask_peer p peer
ask_of p peer (Some u) = ask_centre p peer u
