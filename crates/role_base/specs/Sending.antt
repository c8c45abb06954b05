-- A new data key under a link (ANSI X9.17, point to point): drawn, wrapped at the link's next count, kept
-- as pending, and sent in a key service message.
use Rattle.std.specs.Prelude.{ℕ, ◌+◌, is_some, List, [], ◌∷◌, ◌++◌, Option, Some, None}
use Rattle.x_base.specs.declared.key_name.KeyName.{KeyName}
use Rattle.x_base.specs.declared.verdict.Verdict.TheVariants.{CountSpent, KeysFull, WeakDraws}
use Rattle.x_gen.specs.declared.generator.Gen.{Gen}
use Rattle.x_gen.specs.Gen.{good_draw}
use Rattle.x_seal.specs.Wrapped.{wrap_of}
use Rattle.csm_grammar.specs.declared.message.Message.{Message}
use Rattle.csm_grammar.specs.declared.message.Message.TheVariants as message
use Rattle.csm_grammar.specs.declared.message.KsmBody.TheVariants as body
use Rattle.party_tables.specs.declared.link.LinkRec.{LinkRec}
use Rattle.party_tables.specs.declared.key.KeyStatus.TheVariants.{Pending}
use Rattle.party_tables.specs.declared.exchange.Via.TheVariants as vias
use Rattle.party_tables.specs.declared.exchange.Kind.TheVariants as kind
use Rattle.party_state.specs.declared.edit.Edit.{Edit}
use Rattle.party_state.specs.declared.edit.Edit.TheVariants.{PutLink, PutKey, PutExchange, SetGen}
use Rattle.party_state.specs.State.{Party}
use Rattle.party_state.specs.Verdicts.{Test, verdict_of}
use Rattle.party_state.specs.Rows.{Row, Reply, Coded, OneKey, refused}
use Rattle.role_base.specs.Texts.{text_of, direct_name, no_extras}
use Rattle.role_base.specs.Conditions.{has_count, has_key_room}

-- the name of the key that goes next under a link
abbrev pub next_name : Party → LinkRec → KeyName
next_name p l = direct_name p.own l.label l.next

-- the key service message with this key
abbrev pub data_key_message : Party → LinkRec → ℕ → Message
data_key_message p l key = message.Ksm (record {
  receiver = l.peer;
  originator = p.own;
  body = body.Direct (Some l.label) None (wrap_of l.pair l.next key) l.next;
  extras = no_extras;
})

abbrev pub data_key_reply : Party → LinkRec → ℕ → Reply
data_key_reply p l key = Coded (data_key_message p l key) (record { name = next_name p l; recipient = l.peer }) key

abbrev pub sending_tests : Party → LinkRec → Option (ℕ × Gen) → List Test
sending_tests p l drawn =
    (has_count l, CountSpent) ∷ (has_key_room p (record { peer = l.peer; name = next_name p l }), KeysFull) ∷ (is_some drawn, WeakDraws) ∷ []

-- the generator goes on, the link's count is used, the key is pending and the exchange stands
abbrev pub sent_edits : Party → LinkRec → ℕ → ℕ → List Edit
sent_edits p l key v =
    SetGen v
    ∷ PutLink (record l { next = l.next + 1 })
    ∷ PutKey (record { peer = l.peer; name = next_name p l; value = key; status = Pending })
    ∷ PutExchange (record { peer = l.peer; kind = kind.KeySent (next_name p l) (vias.Direct l.label None); text = text_of (data_key_reply p l key) })
    ∷ []

-- the row behind the tests that come before, with what is drawn
abbrev pub sending_drawn : Party → List Test → LinkRec → Option (ℕ × Gen) → Row
sending_drawn p front l None = refused (verdict_of (front ++ sending_tests p l None))
sending_drawn p front l (Some drawn) = record {
  verdict = verdict_of (front ++ sending_tests p l (Some drawn));
  edits = sent_edits p l drawn.0 drawn.1.v;
  reply = Some (data_key_reply p l drawn.0);
  uses = record { recipient = l.peer; label = l.label; count = l.next; sealed = OneKey drawn.0 } ∷ [];
  makes = None;
  accepts = None;
  answer = None;
}

abbrev pub sending : Party → List Test → LinkRec → ℕ → Row
sending p front l moment = sending_drawn p front l (good_draw p.generator moment)
