-- What a bank sends with two new data keys under a link in one message, and what it keeps (this project's profile). "After" is
-- the party with the edits of the row.
use Rattle.std.specs.Prelude.{ℕ, ◌≡◌, ◌+◌, bit_xor, Some, None}
use Rattle.x_base.specs.declared.key_name.KeyName.{KeyName}
use Rattle.x_gen.specs.declared.generator.Gen.{Gen}
use Rattle.x_gen.specs.Gen.{good_draw}
use Rattle.x_seal.specs.Wrapped.{unwrap_of}
use Rattle.csm_grammar.specs.declared.message.Message.TheVariants as message
use Rattle.csm_grammar.specs.declared.message.KsmBody.TheVariants as body
use Rattle.csm_grammar.specs.declared.message.Ksm.{Ksm}
use Rattle.csm_write.specs.declared.closing.Closing.TheVariants as closing
use Rattle.csm_write.specs.Canon.{canon}
use Rattle.party_tables.specs.declared.link.LinkRec.{LinkRec}
use Rattle.party_tables.specs.declared.key.KeyStatus.TheVariants.{Pending}
use Rattle.party_tables.specs.declared.exchange.Kind.TheVariants as kind
use Rattle.party_tables.specs.Keys.{link_key}
use Rattle.party_state.specs.State.{Party, link_with, record_with, exchange_with}
use Rattle.party_state.specs.Rows.{Row, Coded}
use Rattle.role_base.specs.Sends.{NamesNext}

pub record SendsTwins (p after : Party) (r : Row) (l : LinkRec) (moment : ℕ) : Type 0 where
  -- both keys are drawn, one after the other at one moment, and the generator goes on
  pub first : ℕ
  pub second : ℕ
  pub between : Gen
  pub last : Gen
  pub drawn_first : good_draw p.generator moment ≡ Some (first, between)
  pub drawn_second : good_draw between moment ≡ Some (second, last)
  pub goes_on : after.generator.v ≡ last.v
  -- the first is named by the link's next count, the second by the count behind it
  pub name : KeyName
  pub named : NamesNext p l name
  pub behind : KeyName
  pub named_behind : NamesNext p (record l { next = l.next + 1 }) behind
  pub ksm : Ksm
  pub kd_first : ℕ
  pub kd_second : ℕ
  -- the message is closed under the exclusive-or of the two
  pub written : r.reply ≡ Some (Coded (message.Ksm ksm) (record { name = name; recipient = l.peer }) (bit_xor first second))
  pub receiver : ksm.receiver ≡ l.peer
  pub sender : ksm.originator ≡ p.own
  pub carries : ksm.body ≡ body.Twin (Some l.label) kd_first kd_second l.next
  pub bare : ksm.extras ≡ record { iv = None; edk = None; p = None }
  -- what its recipient decrypts, at CTP and at the count behind it, are the keys in this order
  pub opened_first : unwrap_of l.pair l.next kd_first ≡ first
  pub opened_second : unwrap_of l.pair (l.next + 1) kd_second ≡ second
  -- both counts are used, both keys are pending, and the exchange keeps the name of the first and the text
  pub used : link_with (link_key l) after ≡ Some (record l { next = l.next + 2 })
  pub pending_first : record_with (record { peer = l.peer; name = name }) after ≡ Some (record { peer = l.peer; name = name; value = first; status = Pending })
  pub pending_second : record_with (record { peer = l.peer; name = behind }) after ≡ Some (record { peer = l.peer; name = behind; value = second; status = Pending })
  pub waits : exchange_with l.peer after ≡ Some (record { peer = l.peer; kind = kind.PairSent name; text = canon (message.Ksm ksm) (closing.Mac (bit_xor first second)) })
