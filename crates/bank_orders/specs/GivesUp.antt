-- What becomes of an exchange that a bank gives up, and of what was sent in it (this project's profile). "After" is the party
-- with the edits of the row.
use Rattle.std.specs.Prelude.{ℕ, ◌≡◌, ◌≢◌, ◌⊎◌, ◌+◌, List, Some, None}
use Rattle.x_base.specs.declared.key_name.KeyName.{KeyName}
use Rattle.x_base.specs.declared.party.Side.TheVariants.{Sends}
use Rattle.party_tables.specs.declared.link.LinkKey.{LinkKey}
use Rattle.party_tables.specs.declared.key.KeyRec.{KeyRec}
use Rattle.party_tables.specs.declared.key.RecordKey.{RecordKey}
use Rattle.party_tables.specs.declared.key.KeyStatus.TheVariants.{Ended}
use Rattle.party_tables.specs.declared.exchange.Via.TheVariants as vias
use Rattle.party_tables.specs.declared.exchange.Kind.{Kind}
use Rattle.party_tables.specs.declared.exchange.Kind.TheVariants as kind
use Rattle.party_tables.specs.declared.exchange.Exchange.{Exchange}
use Rattle.party_state.specs.State.{Party, link_with, record_with, exchange_with}
use Rattle.party_state.specs.Rows.{Row}

-- the exchange sent the key of this name: alone, or as the first or the second of two
abbrev pub SentDataKey : Kind → KeyName → Type 0
SentDataKey (kind.KeySent sent via) name = name ≡ sent
SentDataKey (kind.PairSent first) name = (name ≡ first) ⊎ (name ≡ record first { count = first.count + 1 })
SentDataKey other name = ⊥

-- the exchange sent a new key-encrypting key of this label
abbrev pub SentNewKk : Kind → List ℕ → Type 0
SentNewKk (kind.KeySent name (vias.Direct label (Some new))) sent = sent ≡ new
SentNewKk other sent = ⊥

pub record GivesUp (p after : Party) (r : Row) (peer : List ℕ) (e : Exchange) : Type 0 where
  pub gone : exchange_with peer after ≡ None
  pub others : (other : List ℕ) → other ≢ peer → exchange_with other after ≡ exchange_with other p
  -- each key that was sent ends, and no other key changes: one that is being closed stays so
  pub ended : (name : KeyName) (k : KeyRec) → SentDataKey e.kind name → record_with (record { peer = peer; name = name }) p ≡ Some k → record_with (record { peer = peer; name = name }) after ≡ Some (record k { status = Ended })
  pub kept : (k : RecordKey) → (k.peer ≡ peer → SentDataKey e.kind k.name → ⊥) → record_with k after ≡ record_with k p
  -- the link of a new key-encrypting key goes, and no other link changes
  pub withdrawn : (new : List ℕ) → SentNewKk e.kind new → link_with (record { peer = peer; label = new; side = Sends }) after ≡ None
  pub links : (k : LinkKey) → ((new : List ℕ) → SentNewKk e.kind new → k ≢ record { peer = peer; label = new; side = Sends }) → link_with k after ≡ link_with k p
  pub silent : r.reply ≡ None
