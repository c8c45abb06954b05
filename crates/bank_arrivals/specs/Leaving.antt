-- What becomes of the exchange with the originator of a disconnection that is accepted, of a new key-encrypting key, and of
-- the other key, where two were sent in one message (ANSI X9.17; two keys are this project's profile). "After" is the party
-- with the edits of the row.
use Rattle.std.specs.Prelude.{ℕ, ◌≡◌, ◌⊎◌, List, Some, None}
use Rattle.x_base.specs.declared.key_name.KeyName.{KeyName}
use Rattle.csm_grammar.specs.declared.message.Dsm.{Dsm}
use Rattle.party_tables.specs.declared.key.KeyRec.{KeyRec}
use Rattle.party_tables.specs.declared.key.KeyStatus.TheVariants.{Ended}
use Rattle.party_tables.specs.declared.exchange.Via.{Via}
use Rattle.party_tables.specs.declared.exchange.Via.TheVariants as vias
use Rattle.party_tables.specs.declared.exchange.Kind.TheVariants as kind
use Rattle.party_tables.specs.Keys.{sends}
use Rattle.party_tables.specs.Names.{name_behind}
use Rattle.party_state.specs.State.{Party, exchange_with, link_with}
use Rattle.bank_arrivals.specs.Heard.{IsAbout, HasKey}

-- the two keys were sent in one message, the one behind the other
abbrev pub WereTwo : Party → List ℕ → KeyName → KeyName → Type 0
WereTwo p peer name other = (IsAbout p peer (kind.PairSent name) × (other ≡ name_behind name)) ⊎ (IsAbout p peer (kind.PairSent other) × (name ≡ name_behind other))

-- the exchange with the peer names the key: it was sent, or its end was, or it was sent with another
abbrev pub NamesKey : Party → List ℕ → KeyName → Type 0
NamesKey p peer name = ((via : Via) × IsAbout p peer (kind.KeySent name via)) ⊎ (IsAbout p peer (kind.Ending name) ⊎ ((other : KeyName) × WereTwo p peer name other))

-- the key was sent with a new key-encrypting key of this label
abbrev pub WentWith : Party → List ℕ → KeyName → List ℕ → Type 0
WentWith p peer name new = (label : List ℕ) × IsAbout p peer (kind.KeySent name (vias.Direct label (Some new)))

-- the key that was sent with it ends, where its record stands
abbrev pub EndsOther : Party → Party → List ℕ → KeyName → Type 0
EndsOther p after peer name = (other : KeyName) (k : KeyRec) → WereTwo p peer name other → HasKey p peer other k → HasKey after peer other (record k { status = Ended })

pub record LeavesExchange (p after : Party) (m : Dsm) : Type 0 where
  -- the exchange goes exactly where it names the key
  pub gone : NamesKey p m.originator m.idd → exchange_with m.originator after ≡ None
  pub stays : (NamesKey p m.originator m.idd → ⊥) → after.exchanges ≡ p.exchanges
  -- and a new key-encrypting key, exactly where the key was sent with it
  pub given_up : (new : List ℕ) → WentWith p m.originator m.idd new → link_with (sends m.originator new) after ≡ None
  pub links_stay : ((new : List ℕ) → WentWith p m.originator m.idd new → ⊥) → after.links ≡ p.links
  pub other_ends : EndsOther p after m.originator m.idd
