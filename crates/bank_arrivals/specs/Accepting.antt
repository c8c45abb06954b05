-- When a request, a response, an error message or a disconnection is accepted at a bank (ANSI X9.17; the bounds are this
-- project's profile). An exchange that names a key of which no record stands counts as absent, and so does one that names two
-- keys, where the record of either doesn't stand.
use Rattle.std.specs.Prelude.{ℕ, ◌≡◌, ◌+◌, ◌<◌, ◌≤◌, IsTrue, cond, is_some, List, length, Option, Some, None}
use Rattle.x_base.specs.Count.{count_limit}
use Rattle.x_base.specs.declared.key_name.KeyName.{KeyName}
use Rattle.x_base.specs.declared.party.Side.TheVariants.{Sends}
use Rattle.x_gen.specs.declared.generator.Gen.{Gen}
use Rattle.x_gen.specs.Gen.{good_draw}
use Rattle.csm_grammar.specs.declared.message.Service.TheVariants as service
use Rattle.csm_grammar.specs.declared.message.Rsi.{Rsi}
use Rattle.csm_grammar.specs.declared.message.Rsm.{Rsm}
use Rattle.csm_grammar.specs.declared.message.Esm.{Esm}
use Rattle.csm_grammar.specs.declared.message.Dsm.{Dsm}
use Rattle.csm_grammar.specs.declared.arrival.Arrival.{Arrival}
use Rattle.party_tables.specs.declared.link.LinkRec.{LinkRec}
use Rattle.party_tables.specs.declared.key.KeyRec.{KeyRec}
use Rattle.party_tables.specs.declared.key.RecordKey.{RecordKey}
use Rattle.party_tables.specs.declared.exchange.Via.{Via}
use Rattle.party_tables.specs.declared.exchange.Kind.{Kind}
use Rattle.party_tables.specs.declared.exchange.Kind.TheVariants as kind
use Rattle.party_state.specs.Limits.{most_keys}
use Rattle.party_tables.specs.Names.{name_behind}
use Rattle.party_state.specs.State.{Party, first_link, record_with, exchange_with, knows}
use Rattle.role_base.specs.Texts.{is_verified, is_right}
use Rattle.bank_arrivals.specs.Heard.{IsAbout, HasKey, IsTo, AreSentTogether}

-- the key that goes under a link at this count
abbrev pub key_at : Party → LinkRec → ℕ → RecordKey
key_at p l count = record { peer = l.peer; name = record { issuer = p.own; originator = p.own; label = l.label; count = count } }

-- how many records more stand once that of this key is put: none, where it stands
abbrev pub more_with : Party → RecordKey → ℕ
more_with p key = cond (is_some (record_with key p)) 0 1

-- a request for a data key: one can be drawn and sent under the first link
pub record CanServe (p : Party) (a : Arrival) (m : Rsi) (moment : ℕ) : Type 0 where
  pub to : IsTo p m.receiver m.originator
  pub known : IsTrue (knows m.originator p)
  pub service : m.service ≡ service.Kd
  pub alone : m.ultimate ≡ None
  -- no exchange with the originator stands
  pub free : exchange_with m.originator p ≡ None
  pub link : LinkRec
  pub first : first_link m.originator Sends p ≡ Some link
  pub code : IsTrue (is_right a)
  pub left : link.next ≤ count_limit
  -- with its record 1,024 stand at most
  pub room : length p.keys + more_with p (key_at p link link.next) ≤ most_keys
  pub drawn : ℕ × Gen
  pub draws : good_draw p.generator moment ≡ Some drawn

-- a request for two data keys: two can be drawn, one after the other, and sent under the first link at its next two counts
pub record CanServeTwo (p : Party) (a : Arrival) (m : Rsi) (moment : ℕ) : Type 0 where
  pub to : IsTo p m.receiver m.originator
  pub known : IsTrue (knows m.originator p)
  pub service : m.service ≡ service.KdKd
  pub alone : m.ultimate ≡ None
  -- no exchange with the originator stands
  pub free : exchange_with m.originator p ≡ None
  pub link : LinkRec
  pub first : first_link m.originator Sends p ≡ Some link
  pub code : IsTrue (is_right a)
  -- the next count isn't the last
  pub left : link.next < count_limit
  -- with both records 1,024 stand at most
  pub room : length p.keys + (more_with p (key_at p link link.next) + more_with p (key_at p link (link.next + 1))) ≤ most_keys
  pub drawn : ℕ × Gen
  pub draws : good_draw p.generator moment ≡ Some drawn
  pub drawn_then : ℕ × Gen
  pub draws_then : good_draw drawn.1 moment ≡ Some drawn_then

-- a response: a key was sent to its originator, and its code is made under that key
pub record Confirms (p : Party) (a : Arrival) (m : Rsm) : Type 0 where
  pub to : IsTo p m.receiver m.originator
  pub name : KeyName
  pub via : Via
  pub key : KeyRec
  pub sent : IsAbout p m.originator (kind.KeySent name via)
  pub stands : HasKey p m.originator name key
  pub code : IsTrue (is_verified a key.value)

-- a response to two keys: they were sent to its originator in one message, and its code is made under the exclusive-or of the
-- two
pub record ConfirmsTwo (p : Party) (a : Arrival) (m : Rsm) : Type 0 where
  pub to : IsTo p m.receiver m.originator
  pub name : KeyName
  pub first : KeyRec
  pub second : KeyRec
  pub together : AreSentTogether p a m.originator name first second

-- a response that names a key: its originator was asked to end that very key, and its code is made under it
pub record ConfirmsEnd (p : Party) (a : Arrival) (m : Rsm) (idd : KeyName) : Type 0 where
  pub to : IsTo p m.receiver m.originator
  pub key : KeyRec
  pub ending : IsAbout p m.originator (kind.Ending idd)
  pub stands : HasKey p m.originator idd key
  pub code : IsTrue (is_verified a key.value)

-- an error message: a key was sent to its originator, and its code is made under that key
pub record Complains (p : Party) (a : Arrival) (m : Esm) : Type 0 where
  pub to : IsTo p m.receiver m.originator
  pub name : KeyName
  pub via : Via
  pub key : KeyRec
  pub sent : IsAbout p m.originator (kind.KeySent name via)
  pub stands : HasKey p m.originator name key
  pub code : IsTrue (is_verified a key.value)

-- an error message about two keys: they were sent to its originator in one message, and its code is made under the exclusive-or
-- of the two
pub record ComplainsOfTwo (p : Party) (a : Arrival) (m : Esm) : Type 0 where
  pub to : IsTo p m.receiver m.originator
  pub name : KeyName
  pub first : KeyRec
  pub second : KeyRec
  pub together : AreSentTogether p a m.originator name first second

-- an error message of a translation centre: a key is with it, and its code is made under that key
pub record ComplainsAsCentre (p : Party) (a : Arrival) (m : Esm) : Type 0 where
  pub to : IsTo p m.receiver m.originator
  pub ultimate : List ℕ
  pub value : ℕ
  pub cta : ℕ
  pub waiting : IsAbout p m.originator (kind.Translating ultimate value cta)
  pub code : IsTrue (is_verified a value)

-- the record of the key that an exchange names stands, and of two keys both records
abbrev pub KeyStands : Party → List ℕ → Kind → Type 0
KeyStands p peer (kind.KeySent name via) = (k : KeyRec) × HasKey p peer name k
KeyStands p peer (kind.Ending name) = (k : KeyRec) × HasKey p peer name k
KeyStands p peer (kind.Asked ultimate) = Unit {0}
KeyStands p peer (kind.Translating ultimate value cta) = Unit {0}
KeyStands p peer (kind.PairSent name) = ((k : KeyRec) × HasKey p peer name k) × ((k : KeyRec) × HasKey p peer (name_behind name) k)

-- an error message that is closed by an error detection code: an exchange with its originator stands
pub record ComplainsPlainly (p : Party) (a : Arrival) (m : Esm) : Type 0 where
  pub to : IsTo p m.receiver m.originator
  pub about : Kind
  pub waits : IsAbout p m.originator about
  pub stands : KeyStands p m.originator about
  pub code : IsTrue (is_right a)

-- the key whose code closes a disconnection: that of IDA, or of IDD where IDA is absent
abbrev pub Closes : Party → List ℕ → KeyName → Option KeyName → KeyRec → Type 0
Closes p peer idd None k = HasKey p peer idd k
Closes p peer idd (Some ida) k = HasKey p peer ida k

-- a disconnection: the key that it names is shared with its originator, and so is the one whose code closes it
pub record Disconnects (p : Party) (a : Arrival) (m : Dsm) : Type 0 where
  pub to : IsTo p m.receiver m.originator
  pub key : KeyRec
  pub stands : HasKey p m.originator m.idd key
  pub by : KeyRec
  pub closing : Closes p m.originator m.idd m.ida by
  pub code : IsTrue (is_verified a by.value)
