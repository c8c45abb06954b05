-- What the exchange with a peer is about (this project's profile). An exchange that names a key of which
-- no record stands counts as absent where a response or an error message arrives; so does one that names two
-- keys, where the record of either doesn't stand.
use Rattle.std.specs.Prelude.{ℕ, Bool, true, false, ◌&&◌, bit_xor, is_some, List, [], ◌∷◌, Option, Some, None, option_map}
use Rattle.x_base.specs.declared.key_name.KeyName.{KeyName}
use Rattle.party_tables.specs.declared.link.LinkRec.{LinkRec}
use Rattle.party_tables.specs.declared.key.KeyRec.{KeyRec}
use Rattle.party_tables.specs.declared.exchange.Via.{Via}
use Rattle.party_tables.specs.declared.exchange.Via.TheVariants as vias
use Rattle.party_tables.specs.declared.exchange.Kind.{Kind}
use Rattle.party_tables.specs.declared.exchange.Kind.TheVariants as kind
use Rattle.party_tables.specs.declared.exchange.Exchange.{Exchange}
use Rattle.party_state.specs.declared.edit.Edit.{Edit}
use Rattle.party_state.specs.declared.edit.Edit.TheVariants.{PutLink, DropLink, PutKey}
use Rattle.party_tables.specs.declared.key.KeyStatus.TheVariants.{Ended}
use Rattle.role_base.specs.declared.exchanges.Sent.{Sent}
use Rattle.role_base.specs.declared.exchanges.Twins.{Twins}
use Rattle.party_tables.specs.Names.{name_behind}
use Rattle.party_tables.specs.Keys.{sends}
use Rattle.party_state.specs.State.{Party, link_with, record_with, exchange_with}

-- the record of a key shared with the peer
abbrev pub record_of : Party → List ℕ → KeyName → Option KeyRec
record_of p peer name = record_with (record { peer = peer; name = name }) p

abbrev pub sent_by : Party → List ℕ → Kind → Option Sent
sent_by p peer (kind.KeySent name via) = option_map (λ k. record { key = k; via = via }) (record_of p peer name)
sent_by p peer (kind.Asked ultimate) = None
sent_by p peer (kind.Translating ultimate value cta) = None
sent_by p peer (kind.Ending name) = None
sent_by p peer (kind.PairSent name) = None

abbrev pub sent_in : Party → List ℕ → Option Exchange → Option Sent
sent_in p peer None = None
sent_in p peer (Some e) = sent_by p peer e.kind

-- the key that was sent to the peer and isn't answered yet
abbrev pub sent_to : Party → List ℕ → Option Sent
sent_to p peer = sent_in p peer (exchange_with peer p)

-- both records, where both stand
abbrev pub both_of : Option KeyRec → Option KeyRec → Option Twins
both_of (Some first) (Some second) = Some (record { first = first; second = second })
both_of (Some first) None = None
both_of None second = None

abbrev pub twins_by : Party → List ℕ → Kind → Option Twins
twins_by p peer (kind.PairSent name) = both_of (record_of p peer name) (record_of p peer (name_behind name))
twins_by p peer (kind.KeySent name via) = None
twins_by p peer (kind.Asked ultimate) = None
twins_by p peer (kind.Translating ultimate value cta) = None
twins_by p peer (kind.Ending name) = None

abbrev pub twins_in : Party → List ℕ → Option Exchange → Option Twins
twins_in p peer None = None
twins_in p peer (Some e) = twins_by p peer e.kind

-- the two keys that were sent to the peer at once and aren't answered yet
abbrev pub twins_to : Party → List ℕ → Option Twins
twins_to p peer = twins_in p peer (exchange_with peer p)

-- the key under which the message with two keys and its answers are closed: the exclusive-or of the two
abbrev pub twins_value : Twins → ℕ
twins_value t = bit_xor t.first.value t.second.value

abbrev pub ending_by : Party → List ℕ → Kind → Option KeyRec
ending_by p peer (kind.Ending name) = record_of p peer name
ending_by p peer (kind.Asked ultimate) = None
ending_by p peer (kind.Translating ultimate value cta) = None
ending_by p peer (kind.KeySent name via) = None
ending_by p peer (kind.PairSent name) = None

abbrev pub ending_in : Party → List ℕ → Option Exchange → Option KeyRec
ending_in p peer None = None
ending_in p peer (Some e) = ending_by p peer e.kind

-- the key whose end was sent to the peer and isn't answered yet
abbrev pub ending_with : Party → List ℕ → Option KeyRec
ending_with p peer = ending_in p peer (exchange_with peer p)

abbrev pub stands_by : Party → List ℕ → Kind → Bool
stands_by p peer (kind.KeySent name via) = is_some (record_of p peer name)
stands_by p peer (kind.Ending name) = is_some (record_of p peer name)
stands_by p peer (kind.Asked ultimate) = true
stands_by p peer (kind.Translating ultimate value cta) = true
stands_by p peer (kind.PairSent name) = is_some (record_of p peer name) && is_some (record_of p peer (name_behind name))

abbrev pub stands_in : Party → List ℕ → Option Exchange → Bool
stands_in p peer None = false
stands_in p peer (Some e) = stands_by p peer e.kind

-- an exchange with the peer stands, and the record that it names
abbrev pub is_waiting : Party → List ℕ → Bool
is_waiting p peer = stands_in p peer (exchange_with peer p)

abbrev pub new_label : Via → Option (List ℕ)
new_label (vias.Direct label new) = new
new_label (vias.Distribution centre cta) = None
new_label (vias.Translation centre) = None

abbrev pub new_link_at : Party → List ℕ → Option (List ℕ) → Option LinkRec
new_link_at p peer None = None
new_link_at p peer (Some label) = link_with (sends peer label) p

-- the link of a new key-encrypting key that went this way
abbrev pub new_link : Party → List ℕ → Via → Option LinkRec
new_link p peer via = new_link_at p peer (new_label via)

-- a new key-encrypting key that its recipient holds is ready
abbrev pub readied : Option LinkRec → List Edit
readied None = []
readied (Some l) = PutLink (record l { ready = true }) ∷ []

-- one that its recipient didn't take goes
abbrev pub dropped : Option LinkRec → List Edit
dropped None = []
dropped (Some l) = DropLink l.peer l.label l.side ∷ []

-- a key ends, where its record stands
abbrev pub ended : Option KeyRec → List Edit
ended None = []
ended (Some k) = PutKey (record k { status = Ended }) ∷ []
