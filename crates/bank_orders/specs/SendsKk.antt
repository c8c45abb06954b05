-- What a bank sends with a new key-encrypting key and a data key under it, and what it keeps (ANSI X9.17, point to point).
-- "After" is the party with the edits of the row.
use Rattle.std.specs.Prelude.{ℕ, ◌≡◌, ◌≢◌, ◌+◌, Bool, true, false, List, Option, Some, None}
use Rattle.x_base.specs.declared.key_name.KeyName.{KeyName}
use Rattle.x_base.specs.declared.party.Side.TheVariants.{Sends}
use Rattle.x_mac.specs.declared.pair.Pair.{Pair}
use Rattle.x_gen.specs.Parity.{odd_parity_of}
use Rattle.x_gen.specs.declared.generator.Gen.{Gen}
use Rattle.x_seal.specs.Wrapped.{unwrap_of}
use Rattle.csm_grammar.specs.declared.message.Message.TheVariants as message
use Rattle.csm_grammar.specs.declared.message.KsmBody.TheVariants as body
use Rattle.csm_grammar.specs.declared.message.Ksm.{Ksm}
use Rattle.csm_grammar.specs.declared.message.NewKk.{NewKk}
use Rattle.csm_grammar.specs.declared.message.NewKk.TheVariants as new_kk
use Rattle.csm_write.specs.declared.closing.Closing.TheVariants as closing
use Rattle.csm_write.specs.Canon.{canon}
use Rattle.party_tables.specs.declared.link.LinkKey.{LinkKey}
use Rattle.party_tables.specs.declared.link.LinkRec.{LinkRec}
use Rattle.party_tables.specs.declared.key.KeyStatus.TheVariants.{Pending}
use Rattle.party_tables.specs.declared.exchange.Via.TheVariants as vias
use Rattle.party_tables.specs.declared.exchange.Kind.TheVariants as kind
use Rattle.party_tables.specs.Keys.{link_key}
use Rattle.party_state.specs.State.{Party, link_with, record_with, exchange_with}
use Rattle.party_state.specs.Rows.{Row, Coded}
use Rattle.role_base.specs.Sends.{NamesNext}
use Rattle.bank_orders.specs.Starts.{SendsUnder, Draws}

-- what the recipient of a new key-encrypting key decrypts under the link in use at CTP, with odd parity, is the pair: *KK
-- gives the two halves, KK the one that is both
abbrev pub Opens : Pair → ℕ → Bool → NewKk → Pair → Type 0
Opens under ctp true (new_kk.Single key) pair = (odd_parity_of (unwrap_of under ctp key) ≡ pair.left) × (odd_parity_of (unwrap_of under ctp key) ≡ pair.right)
Opens under ctp false (new_kk.Double left right) pair = (odd_parity_of (unwrap_of under ctp left) ≡ pair.left) × (odd_parity_of (unwrap_of under ctp right) ≡ pair.right)
Opens under ctp single sealed pair = ⊥

pub record SendsKk (p after : Party) (r : Row) (peer : List ℕ) (label : Option (List ℕ)) (new : List ℕ) (single : Bool) (moment : ℕ) : Type 0 where
  pub link : LinkRec
  pub in_use : SendsUnder p peer label link
  pub to : link.peer ≡ peer
  -- both keys are drawn, and the generator goes on
  pub pair : Pair
  pub key : ℕ
  pub last : Gen
  pub drawn : Draws p.generator moment single pair key last
  pub goes_on : after.generator.v ≡ last.v
  pub name : KeyName
  pub named : NamesNext p link name
  pub ksm : Ksm
  pub kk : NewKk
  pub kd : ℕ
  -- the message is closed under the data key
  pub written : r.reply ≡ Some (Coded (message.Ksm ksm) (record { name = name; recipient = peer }) key)
  pub receiver : ksm.receiver ≡ peer
  pub sender : ksm.originator ≡ p.own
  pub carries : ksm.body ≡ body.Direct (Some link.label) (Some (new, kk)) kd link.next
  pub bare : ksm.extras ≡ record { iv = None; edk = None; p = None }
  -- what its recipient decrypts: the pair, and under the pair at its first count the data key
  pub opened_pair : Opens link.pair link.next single kk pair
  pub opened : unwrap_of pair 1 kd ≡ key
  -- the count is used, and the new link isn't ready, its first count used; no other link changes
  pub used : link_with (link_key link) after ≡ Some (record link { next = link.next + 1 })
  pub added : link_with (record { peer = peer; label = new; side = Sends }) after ≡ Some (record { peer = peer; label = new; side = Sends; pair = pair; next = 2; ready = false })
  pub others : (k : LinkKey) → k ≢ link_key link → k ≢ record { peer = peer; label = new; side = Sends } → link_with k after ≡ link_with k p
  -- the data key is pending, and the exchange keeps the text and the new label
  pub pending : record_with (record { peer = peer; name = name }) after ≡ Some (record { peer = peer; name = name; value = key; status = Pending })
  pub waits : exchange_with peer after ≡ Some (record { peer = peer; kind = kind.KeySent name (vias.Direct link.label (Some new)); text = canon (message.Ksm ksm) (closing.Mac key) })
