-- A key for an ultimate recipient goes to a translation centre (ANSI X9.17, request for service): the key is
-- drawn, and wrapped at the next count of the link with the centre.
use Rattle.std.specs.Prelude.{ℕ, ◌+◌, true, false, is_some, List, [], ◌∷◌, ◌++◌, Option, Some, None}
use Rattle.x_base.specs.declared.verdict.Verdict.TheVariants.{UnknownKk, CountSpent, WeakDraws}
use Rattle.x_gen.specs.declared.generator.Gen.{Gen}
use Rattle.x_gen.specs.Gen.{good_draw}
use Rattle.x_seal.specs.Wrapped.{wrap_of}
use Rattle.csm_grammar.specs.declared.message.Message.{Message}
use Rattle.csm_grammar.specs.declared.message.Message.TheVariants as message
use Rattle.party_tables.specs.declared.link.LinkRec.{LinkRec}
use Rattle.party_tables.specs.declared.exchange.Kind.TheVariants as kind
use Rattle.party_state.specs.declared.edit.Edit.{Edit}
use Rattle.party_state.specs.declared.edit.Edit.TheVariants.{PutLink, PutExchange, SetGen}
use Rattle.party_tables.specs.Keys.{sends}
use Rattle.party_state.specs.State.{Party, centre_label, link_with}
use Rattle.party_state.specs.Verdicts.{Test, verdict_of}
use Rattle.party_state.specs.Rows.{Row, Reply, Coded, OneKey, refused}
use Rattle.role_base.specs.Texts.{text_of, direct_name}
use Rattle.role_base.specs.Conditions.{has_count}
use Rattle.bank_orders.specs.Ask.{centre_front}

abbrev pub translate_tests : LinkRec → Option (ℕ × Gen) → List Test
translate_tests l drawn = (true, UnknownKk) ∷ (has_count l, CountSpent) ∷ (is_some drawn, WeakDraws) ∷ []

abbrev pub translate_message : Party → List ℕ → List ℕ → LinkRec → ℕ → Message
translate_message p centre u l key = message.Rfs (record { receiver = centre; originator = p.own; ultimate = u; kd = wrap_of l.pair l.next key; cta = l.next })

abbrev pub translate_reply : Party → List ℕ → List ℕ → LinkRec → ℕ → Reply
translate_reply p centre u l key = Coded (translate_message p centre u l key) (record { name = direct_name p.own centre_label l.next; recipient = centre }) key

-- the generator goes on, the link's count is used, and the exchange keeps the key
abbrev pub translate_edits : Party → List ℕ → List ℕ → LinkRec → ℕ → ℕ → List Edit
translate_edits p centre u l key v =
    SetGen v
    ∷ PutLink (record l { next = l.next + 1 })
    ∷ PutExchange (record { peer = centre; kind = kind.Translating u key l.next; text = text_of (translate_reply p centre u l key) })
    ∷ []

abbrev pub translate_drawn : Party → List ℕ → List ℕ → LinkRec → Option (ℕ × Gen) → Row
translate_drawn p centre u l None = refused (verdict_of (centre_front p centre u ++ translate_tests l None))
translate_drawn p centre u l (Some d) = record {
  verdict = verdict_of (centre_front p centre u ++ translate_tests l (Some d));
  edits = translate_edits p centre u l d.0 d.1.v;
  reply = Some (translate_reply p centre u l d.0);
  uses = record { recipient = centre; label = centre_label; count = l.next; sealed = OneKey d.0 } ∷ [];
  makes = None;
  accepts = None;
  answer = None;
}

abbrev pub translate_under : Party → List ℕ → List ℕ → Option LinkRec → ℕ → Row
translate_under p centre u None moment = refused (verdict_of (centre_front p centre u ++ (false, UnknownKk) ∷ []))
translate_under p centre u (Some l) moment = translate_drawn p centre u l (good_draw p.generator moment)

abbrev pub translate : Party → List ℕ → List ℕ → ℕ → Row
translate p centre u moment = translate_under p centre u (link_with (sends centre centre_label) p) moment
