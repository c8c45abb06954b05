-- Two new data keys under a link, in one key service message (this project's profile): drawn one after the other, wrapped
-- at the link's next two counts, kept as pending; the message is closed under the exclusive-or of the two.
use Rattle.std.specs.Prelude.{ℕ, ◌+◌, bit_xor, is_some, List, [], ◌∷◌, ◌++◌, Option, Some, None}
use Rattle.x_base.specs.declared.verdict.Verdict.TheVariants.{CountSpent, KeysFull, WeakDraws}
use Rattle.x_gen.specs.declared.generator.Gen.{Gen}
use Rattle.x_gen.specs.Gen.{good_draw}
use Rattle.x_seal.specs.Wrapped.{wrap_of}
use Rattle.csm_grammar.specs.declared.message.Message.{Message}
use Rattle.csm_grammar.specs.declared.message.Message.TheVariants as message
use Rattle.csm_grammar.specs.declared.message.KsmBody.TheVariants as body
use Rattle.party_tables.specs.declared.link.LinkRec.{LinkRec}
use Rattle.party_tables.specs.declared.key.KeyRec.{KeyRec}
use Rattle.party_tables.specs.declared.key.RecordKey.{RecordKey}
use Rattle.party_tables.specs.declared.key.KeyStatus.TheVariants.{Pending}
use Rattle.party_tables.specs.declared.exchange.Kind.TheVariants as kind
use Rattle.party_state.specs.declared.edit.Edit.{Edit}
use Rattle.party_state.specs.declared.edit.Edit.TheVariants.{PutLink, PutKey, PutExchange, SetGen}
use Rattle.party_tables.specs.Names.{name_behind}
use Rattle.party_state.specs.State.{Party}
use Rattle.party_state.specs.Verdicts.{Test, verdict_of}
use Rattle.party_state.specs.Rows.{Row, Reply, Coded, OneKey, refused}
use Rattle.role_base.specs.Texts.{text_of, no_extras}
use Rattle.role_base.specs.Conditions.{has_two_counts, has_room_for_two}
use Rattle.role_base.specs.Sending.{next_name}
use Rattle.bank_arrivals.specs.declared.draws.TwinsDrawn.{TwinsDrawn}

abbrev pub second_drawn : ℕ → Option (ℕ × Gen) → Option TwinsDrawn
second_drawn first None = None
second_drawn first (Some d) = Some (record { first = first; second = d.0; v = d.1.v })

abbrev pub first_drawn : ℕ → Option (ℕ × Gen) → Option TwinsDrawn
first_drawn moment None = None
first_drawn moment (Some d) = second_drawn d.0 (good_draw d.1 moment)

-- two data keys, one after the other at one moment
unfoldable pub twins_drawn : Gen → ℕ → Option TwinsDrawn
twins_drawn g moment = first_drawn moment (good_draw g moment)

-- the key service message with these keys
abbrev pub twins_message : Party → LinkRec → TwinsDrawn → Message
twins_message p l d = message.Ksm (record {
  receiver = l.peer;
  originator = p.own;
  body = body.Twin (Some l.label) (wrap_of l.pair l.next d.first) (wrap_of l.pair (l.next + 1) d.second) l.next;
  extras = no_extras;
})

-- it goes under the name of the first key
abbrev pub twins_reply : Party → LinkRec → TwinsDrawn → Reply
twins_reply p l d = Coded (twins_message p l d) (record { name = next_name p l; recipient = l.peer }) (bit_xor d.first d.second)

-- the records of the two keys, and what they are found by

abbrev pub first_key : Party → LinkRec → RecordKey
first_key p l = record { peer = l.peer; name = next_name p l }

abbrev pub second_key : Party → LinkRec → RecordKey
second_key p l = record { peer = l.peer; name = name_behind (next_name p l) }

abbrev pub first_pending : Party → LinkRec → TwinsDrawn → KeyRec
first_pending p l d = record { peer = l.peer; name = next_name p l; value = d.first; status = Pending }

abbrev pub second_pending : Party → LinkRec → TwinsDrawn → KeyRec
second_pending p l d = record { peer = l.peer; name = name_behind (next_name p l); value = d.second; status = Pending }

abbrev pub twins_tests : Party → LinkRec → Option TwinsDrawn → List Test
twins_tests p l drawn =
    (has_two_counts l, CountSpent) ∷ (has_room_for_two p (first_key p l) (second_key p l), KeysFull) ∷ (is_some drawn, WeakDraws) ∷ []

-- the generator goes on, the link's next two counts are used, both keys are pending and the exchange stands
abbrev pub twins_edits : Party → LinkRec → TwinsDrawn → List Edit
twins_edits p l d =
    SetGen d.v
    ∷ PutLink (record l { next = l.next + 2 })
    ∷ PutKey (first_pending p l d)
    ∷ PutKey (second_pending p l d)
    ∷ PutExchange (record { peer = l.peer; kind = kind.PairSent (next_name p l); text = text_of (twins_reply p l d) })
    ∷ []

abbrev pub twins_sending_drawn : Party → List Test → LinkRec → Option TwinsDrawn → Row
twins_sending_drawn p front l None = refused (verdict_of (front ++ twins_tests p l None))
twins_sending_drawn p front l (Some d) = record {
  verdict = verdict_of (front ++ twins_tests p l (Some d));
  edits = twins_edits p l d;
  reply = Some (twins_reply p l d);
  uses = record { recipient = l.peer; label = l.label; count = l.next; sealed = OneKey d.first } ∷ record { recipient = l.peer; label = l.label; count = l.next + 1; sealed = OneKey d.second } ∷ [];
  makes = None;
  accepts = None;
  answer = None;
}

abbrev pub twins_sending : Party → List Test → LinkRec → ℕ → Row
twins_sending p front l moment = twins_sending_drawn p front l (twins_drawn p.generator moment)
