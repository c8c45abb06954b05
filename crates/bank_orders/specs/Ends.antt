-- When a bank discontinues a data key and what goes out then; what is written again; and what is purged (ANSI X9.17,
-- disconnect service message; the rest is this project's profile). "After" is the party with the edits of the row.
use Rattle.std.specs.Prelude.{ℕ, ◌≡◌, ◌≢◌, ◌↔◌, List, Some, None}
use Rattle.x_base.specs.declared.key_name.KeyName.{KeyName}
use Rattle.csm_grammar.specs.declared.message.Message.TheVariants as message
use Rattle.csm_grammar.specs.declared.message.Dsm.{Dsm}
use Rattle.csm_write.specs.declared.closing.Closing.TheVariants as closing
use Rattle.csm_write.specs.Canon.{canon}
use Rattle.party_tables.specs.declared.key.KeyRec.{KeyRec}
use Rattle.party_tables.specs.declared.key.RecordKey.{RecordKey}
use Rattle.party_tables.specs.declared.key.KeyStatus.TheVariants.{Pending, Closing, Ended}
use Rattle.party_tables.specs.declared.exchange.Exchange.{Exchange}
use Rattle.party_tables.specs.declared.exchange.Kind.TheVariants as kind
use Rattle.party_tables.specs.Names.{full_name}
use Rattle.party_state.specs.State.{Party, record_with, exchange_with}
use Rattle.party_state.specs.Rows.{Row, Coded, Again}

-- the key is shared with the peer, and neither pending nor ended
pub record CanEnd (p : Party) (peer : List ℕ) (name : KeyName) : Type 0 where
  -- no exchange with the peer stands
  pub free : exchange_with peer p ≡ None
  pub key : KeyRec
  pub stands : record_with (record { peer = peer; name = name }) p ≡ Some key
  pub confirmed : key.status ≢ Pending
  pub in_use : key.status ≢ Ended

pub record EndsKey (p after : Party) (r : Row) (peer : List ℕ) (name : KeyName) : Type 0 where
  pub key : KeyRec
  pub stands : record_with (record { peer = peer; name = name }) p ≡ Some key
  pub dsm : Dsm
  -- the message is closed under the key
  pub written : r.reply ≡ Some (Coded (message.Dsm dsm) (full_name p.own key) key.value)
  pub receiver : dsm.receiver ≡ peer
  pub sender : dsm.originator ≡ p.own
  pub names : dsm.idd ≡ name
  pub alone : dsm.ida ≡ None
  -- the key is being closed, and the exchange keeps its name and the text; nothing else changes
  pub discontinued : record_with (record { peer = peer; name = name }) after ≡ Some (record { peer = peer; name = name; value = key.value; status = Closing })
  pub keys : (k : RecordKey) → k ≢ record { peer = peer; name = name } → record_with k after ≡ record_with k p
  pub waits : exchange_with peer after ≡ Some (record { peer = peer; kind = kind.Ending name; text = canon (message.Dsm dsm) (closing.Mac key.value) })
  pub others : (other : List ℕ) → other ≢ peer → exchange_with other after ≡ exchange_with other p
  pub rest : after ≡ record p { keys = after.keys; exchanges = after.exchanges }

-- the text that the exchange with the peer keeps is written as it is; nothing changes
pub record WritesAgain (p after : Party) (r : Row) (peer : List ℕ) : Type 0 where
  pub exchange : Exchange
  pub stands : exchange_with peer p ≡ Some exchange
  pub written : r.reply ≡ Some (Again exchange.text)
  pub unchanged : after ≡ p

-- the records of ended keys go, and nothing else does
pub record Purges (p after : Party) (r : Row) : Type 0 where
  pub keys : (k : RecordKey) (key : KeyRec) → (record_with k after ≡ Some key) ↔ ((record_with k p ≡ Some key) × (key.status ≢ Ended))
  pub rest : after ≡ record p { keys = after.keys }
  pub silent : r.reply ≡ None
