-- When a bank asks a peer for a data key, or a centre for one that is shared with an ultimate recipient, and what goes out
-- (ANSI X9.17, request for service initiation and request for service; the bounds are this project's profile). "After" is
-- the party with the edits of the row.
use Rattle.std.specs.Prelude.{ℕ, ◌≡◌, ◌≢◌, ◌+◌, ◌≤◌, IsTrue, List, Some, None}
use Rattle.x_base.specs.Count.{count_limit}
use Rattle.x_base.specs.declared.party.Side.TheVariants.{Sends, Takes}
use Rattle.x_gen.specs.declared.generator.Gen.{Gen}
use Rattle.x_gen.specs.Gen.{good_draw}
use Rattle.x_seal.specs.Wrapped.{unwrap_of}
use Rattle.csm_grammar.specs.declared.message.Message.TheVariants as message
use Rattle.csm_grammar.specs.declared.message.Service.TheVariants as service
use Rattle.csm_grammar.specs.declared.message.Rsi.{Rsi}
use Rattle.csm_grammar.specs.declared.message.Rfs.{Rfs}
use Rattle.csm_write.specs.declared.closing.Closing.TheVariants as closing
use Rattle.csm_write.specs.Canon.{canon}
use Rattle.party_tables.specs.declared.link.LinkKey.{LinkKey}
use Rattle.party_tables.specs.declared.link.LinkRec.{LinkRec}
use Rattle.party_tables.specs.declared.exchange.Kind.TheVariants as kind
use Rattle.party_state.specs.State.{Party, centre_label, link_with, exchange_with, knows}
use Rattle.party_state.specs.Rows.{Row, Plain, Coded}

-- a request for a data key goes to the peer, closed by an error detection code; nothing changes
pub record AsksPeer (p after : Party) (r : Row) (peer : List ℕ) : Type 0 where
  pub rsi : Rsi
  pub written : r.reply ≡ Some (Plain (message.Rsi rsi))
  pub receiver : rsi.receiver ≡ peer
  pub sender : rsi.originator ≡ p.own
  pub service : rsi.service ≡ service.Kd
  pub alone : rsi.ultimate ≡ None
  pub unchanged : after ≡ p

-- a centre that is known can be turned to for an ultimate recipient, which is neither the party nor the centre, while no
-- exchange with either stands
pub record CanTurnTo (p : Party) (centre u : List ℕ) : Type 0 where
  pub known : IsTrue (knows centre p)
  pub apart : u ≢ p.own
  pub other : u ≢ centre
  pub free : exchange_with centre p ≡ None
  pub unbound : exchange_with u p ≡ None

-- a link under which the centre's keys come stands
pub record CanAskCentre (p : Party) (centre u : List ℕ) : Type 0 where
  pub turns : CanTurnTo p centre u
  pub link : LinkRec
  pub in_use : link_with (record { peer = centre; label = centre_label; side = Takes }) p ≡ Some link

pub record AsksCentre (p after : Party) (r : Row) (centre u : List ℕ) : Type 0 where
  pub rsi : Rsi
  pub written : r.reply ≡ Some (Plain (message.Rsi rsi))
  pub receiver : rsi.receiver ≡ centre
  pub sender : rsi.originator ≡ p.own
  pub service : rsi.service ≡ service.Kd
  pub ultimate : rsi.ultimate ≡ Some u
  -- the exchange keeps the text and the ultimate recipient; nothing else changes
  pub waits : exchange_with centre after ≡ Some (record { peer = centre; kind = kind.Asked u; text = canon (message.Rsi rsi) closing.Edc })
  pub others : (peer : List ℕ) → peer ≢ centre → exchange_with peer after ≡ exchange_with peer p
  pub rest : after ≡ record p { exchanges = after.exchanges }

-- a key can be drawn and sent to a translation centre under the link with it
pub record CanAskToTranslate (p : Party) (centre u : List ℕ) (moment : ℕ) : Type 0 where
  pub turns : CanTurnTo p centre u
  pub link : LinkRec
  pub in_use : link_with (record { peer = centre; label = centre_label; side = Sends }) p ≡ Some link
  pub left : link.next ≤ count_limit
  pub drawn : ℕ × Gen
  pub draws : good_draw p.generator moment ≡ Some drawn

pub record SendsToTranslate (p after : Party) (r : Row) (centre u : List ℕ) (moment : ℕ) : Type 0 where
  pub link : LinkRec
  pub in_use : link_with (record { peer = centre; label = centre_label; side = Sends }) p ≡ Some link
  -- the key is drawn, and the generator goes on
  pub key : ℕ
  pub generator : Gen
  pub drawn : good_draw p.generator moment ≡ Some (key, generator)
  pub goes_on : after.generator.v ≡ generator.v
  pub rfs : Rfs
  -- the message is closed under the key
  pub written : r.reply ≡ Some (Coded (message.Rfs rfs) (record { name = record { issuer = p.own; originator = p.own; label = centre_label; count = link.next }; recipient = centre }) key)
  pub receiver : rfs.receiver ≡ centre
  pub sender : rfs.originator ≡ p.own
  pub ultimate : rfs.ultimate ≡ u
  pub counted : rfs.cta ≡ link.next
  -- what the centre decrypts at CTA is the key
  pub opened : unwrap_of link.pair rfs.cta rfs.kd ≡ key
  -- the count is used, the exchange keeps the key, its count and the text; no other link and no key's record changes
  pub used : link_with (record { peer = centre; label = centre_label; side = Sends }) after ≡ Some (record link { next = link.next + 1 })
  pub links : (k : LinkKey) → k ≢ record { peer = centre; label = centre_label; side = Sends } → link_with k after ≡ link_with k p
  pub waits : exchange_with centre after ≡ Some (record { peer = centre; kind = kind.Translating u key link.next; text = canon (message.Rfs rfs) (closing.Mac key) })
  pub others : (peer : List ℕ) → peer ≢ centre → exchange_with peer after ≡ exchange_with peer p
  pub keys : after.keys ≡ p.keys
