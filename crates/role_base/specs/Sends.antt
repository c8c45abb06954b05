-- What a bank sends with a new data key under a link, and what it keeps (ANSI X9.17, point to point). "After" is the party
-- with the edits of the row.
use Rattle.std.specs.Prelude.{ℕ, ◌≡◌, ◌+◌, Some, None}
use Rattle.x_base.specs.declared.key_name.KeyName.{KeyName}
use Rattle.x_gen.specs.declared.generator.Gen.{Gen}
use Rattle.x_gen.specs.Gen.{good_draw}
use Rattle.x_seal.specs.Wrapped.{unwrap_of}
use Rattle.csm_grammar.specs.declared.message.Message.TheVariants as message
use Rattle.csm_grammar.specs.declared.message.KsmBody.TheVariants as body
use Rattle.csm_grammar.specs.declared.message.Ksm.{Ksm}
use Rattle.csm_write.specs.declared.closing.Closing.TheVariants as closing
use Rattle.csm_write.specs.Canon.{canon}
use Rattle.party_tables.specs.declared.link.LinkRec.{LinkRec}
use Rattle.party_tables.specs.declared.key.KeyStatus.TheVariants.{Pending}
use Rattle.party_tables.specs.declared.exchange.Via.TheVariants as vias
use Rattle.party_tables.specs.declared.exchange.Kind.TheVariants as kind
use Rattle.party_tables.specs.Keys.{link_key}
use Rattle.party_state.specs.State.{Party, link_with, record_with, exchange_with}
use Rattle.party_state.specs.Rows.{Row, Coded}

-- the name of the key that the party sends under this link at its next count
abbrev pub NamesNext : Party → LinkRec → KeyName → Type 0
NamesNext p l name = name ≡ record { issuer = p.own; originator = p.own; label = l.label; count = l.next }

pub record SendsKey (p after : Party) (r : Row) (l : LinkRec) (moment : ℕ) : Type 0 where
  pub key : ℕ
  pub generator : Gen
  -- the key is drawn, and the generator goes on
  pub drawn : good_draw p.generator moment ≡ Some (key, generator)
  pub goes_on : after.generator.v ≡ generator.v
  pub name : KeyName
  pub named : NamesNext p l name
  pub ksm : Ksm
  pub kd : ℕ
  -- the message is closed under the key
  pub written : r.reply ≡ Some (Coded (message.Ksm ksm) (record { name = name; recipient = l.peer }) key)
  pub receiver : ksm.receiver ≡ l.peer
  pub sender : ksm.originator ≡ p.own
  pub carries : ksm.body ≡ body.Direct (Some l.label) None kd l.next
  pub bare : ksm.extras ≡ record { iv = None; edk = None; p = None }
  -- what its recipient decrypts is the key
  pub opened : unwrap_of l.pair l.next kd ≡ key
  -- the count is used, the key is pending, and the exchange keeps the text
  pub used : link_with (link_key l) after ≡ Some (record l { next = l.next + 1 })
  pub pending : record_with (record { peer = l.peer; name = name }) after ≡ Some (record { peer = l.peer; name = name; value = key; status = Pending })
  pub waits : exchange_with l.peer after ≡ Some (record { peer = l.peer; kind = kind.KeySent name (vias.Direct l.label None); text = canon (message.Ksm ksm) (closing.Mac key) })
