-- Starting with a new key-encrypting key (ANSI X9.17, point to point): it goes under the link in use, and a data key
-- under it, at its first count.
use Rattle.std.specs.Prelude.{ℕ, ◌+◌, Bool, true, false, not, ◌&&◌, is_none, is_some, List, [], ◌∷◌, ◌++◌, Option, Some, None, bytes_eq}
use Rattle.x_base.specs.declared.party.Side.TheVariants.{Sends}
use Rattle.x_base.specs.declared.verdict.Verdict.TheVariants.{CountSpent, LabelTaken, LinksFull, KeysFull, WeakDraws}
use Rattle.x_mac.specs.declared.pair.Pair.{Pair}
use Rattle.x_seal.specs.Wrapped.{wrap_of}
use Rattle.csm_grammar.specs.declared.message.Message.{Message}
use Rattle.csm_grammar.specs.declared.message.Message.TheVariants as message
use Rattle.csm_grammar.specs.declared.message.KsmBody.TheVariants as body
use Rattle.csm_grammar.specs.declared.message.NewKk.{NewKk}
use Rattle.csm_grammar.specs.declared.message.NewKk.TheVariants as new_kk
use Rattle.party_tables.specs.declared.link.LinkRec.{LinkRec}
use Rattle.party_tables.specs.declared.key.KeyStatus.TheVariants.{Pending}
use Rattle.party_tables.specs.declared.exchange.Via.TheVariants as vias
use Rattle.party_tables.specs.declared.exchange.Kind.TheVariants as kind
use Rattle.party_state.specs.declared.edit.Edit.{Edit}
use Rattle.party_state.specs.declared.edit.Edit.TheVariants.{PutLink, PutKey, PutExchange, SetGen}
use Rattle.party_tables.specs.Keys.{sends}
use Rattle.party_state.specs.State.{Party, centre_label, link_with}
use Rattle.party_state.specs.Verdicts.{Test, verdict_of}
use Rattle.party_state.specs.Rows.{Row, Reply, Coded, OneKey, OnePair, refused}
use Rattle.role_base.specs.Texts.{text_of, no_extras}
use Rattle.role_base.specs.Conditions.{has_count, has_key_room, has_link_room}
use Rattle.role_base.specs.Sending.{next_name}
use Rattle.bank_orders.specs.Start.{sending_link, start_tests}
use Rattle.bank_orders.specs.declared.draws.KkDrawn.{KkDrawn}
use Rattle.bank_orders.specs.Draws.{kk_drawn}

-- one half under a link at a count, or two
abbrev pub sealed_kk : Pair → ℕ → Bool → Pair → NewKk
sealed_kk pair count true new = new_kk.Single (wrap_of pair count new.left)
sealed_kk pair count false new = new_kk.Double (wrap_of pair count new.left) (wrap_of pair count new.right)

-- the label is no centre's, and no link for sending to the peer has it
abbrev pub is_free : Party → List ℕ → List ℕ → Bool
is_free p peer new = not (bytes_eq new centre_label) && is_none (link_with (sends peer new) p)

abbrev pub kk_tests : Party → LinkRec → List ℕ → Option KkDrawn → List Test
kk_tests p l new drawn =
    (has_count l, CountSpent) ∷ (is_free p l.peer new, LabelTaken) ∷ (has_link_room p (sends l.peer new), LinksFull)
    ∷ (has_key_room p (record { peer = l.peer; name = next_name p l }), KeysFull) ∷ (is_some drawn, WeakDraws) ∷ []

abbrev pub kk_message : Party → LinkRec → List ℕ → Bool → KkDrawn → Message
kk_message p l new single d = message.Ksm (record {
  receiver = l.peer;
  originator = p.own;
  body = body.Direct (Some l.label) (Some (new, sealed_kk l.pair l.next single d.pair)) (wrap_of d.pair 1 d.key) l.next;
  extras = no_extras;
})

abbrev pub kk_reply : Party → LinkRec → List ℕ → Bool → KkDrawn → Reply
kk_reply p l new single d = Coded (kk_message p l new single d) (record { name = next_name p l; recipient = l.peer }) d.key

-- the link of the new key-encrypting key: its recipient doesn't hold it yet, and its first count is used
abbrev pub fresh_link : LinkRec → List ℕ → Pair → LinkRec
fresh_link l new pair = record { peer = l.peer; label = new; side = Sends; pair = pair; next = 2; ready = false }

abbrev pub kk_edits : Party → LinkRec → List ℕ → Bool → KkDrawn → List Edit
kk_edits p l new single d =
    SetGen d.v
    ∷ PutLink (record l { next = l.next + 1 })
    ∷ PutLink (fresh_link l new d.pair)
    ∷ PutKey (record { peer = l.peer; name = next_name p l; value = d.key; status = Pending })
    ∷ PutExchange (record { peer = l.peer; kind = kind.KeySent (next_name p l) (vias.Direct l.label (Some new)); text = text_of (kk_reply p l new single d) })
    ∷ []

abbrev pub kk_sending : Party → List Test → LinkRec → List ℕ → Bool → Option KkDrawn → Row
kk_sending p front l new single None = refused (verdict_of (front ++ kk_tests p l new None))
kk_sending p front l new single (Some d) = record {
  verdict = verdict_of (front ++ kk_tests p l new (Some d));
  edits = kk_edits p l new single d;
  reply = Some (kk_reply p l new single d);
  uses = record { recipient = l.peer; label = l.label; count = l.next; sealed = OnePair d.pair } ∷ record { recipient = l.peer; label = new; count = 1; sealed = OneKey d.key } ∷ [];
  makes = Some (record { recipient = l.peer; label = new });
  accepts = None;
  answer = None;
}

abbrev pub start_kk_under : Party → List ℕ → List ℕ → Bool → Option LinkRec → ℕ → Row
start_kk_under p peer new single None moment = refused (verdict_of (start_tests p peer None))
start_kk_under p peer new single (Some l) moment = kk_sending p (start_tests p peer (Some l)) l new single (kk_drawn p.generator moment single)

abbrev pub start_kk : Party → List ℕ → Option (List ℕ) → List ℕ → Bool → ℕ → Row
start_kk p peer label new single moment = start_kk_under p peer new single (sending_link p peer label) moment
