-- What a response, an error message or a disconnection says that a bank accepts (ANSI X9.17): which key it is about,
-- that its code is made under that key, and what becomes of the key and of links. "After" is the party with the edits
-- of the row.
use Rattle.std.specs.Prelude.{ℕ, ◌≡◌, ◌≢◌, max, bit_xor, IsTrue, true, List, Option, Some, None, option_map}
use Rattle.x_base.specs.declared.key_name.KeyName.{KeyName}
use Rattle.csm_grammar.specs.declared.message.Message.TheVariants as message
use Rattle.csm_grammar.specs.declared.message.Rsm.{Rsm}
use Rattle.csm_grammar.specs.declared.message.Esm.{Esm}
use Rattle.csm_grammar.specs.declared.message.Dsm.{Dsm}
use Rattle.csm_grammar.specs.declared.arrival.Arrival.{Arrival}
use Rattle.csm_write.specs.declared.closing.Closing.TheVariants as closing
use Rattle.csm_write.specs.Canon.{canon}
use Rattle.party_tables.specs.declared.link.LinkRec.{LinkRec}
use Rattle.party_tables.specs.declared.key.KeyRec.{KeyRec}
use Rattle.party_tables.specs.declared.key.RecordKey.{RecordKey}
use Rattle.party_tables.specs.declared.key.KeyStatus.TheVariants.{Live, Ended}
use Rattle.party_tables.specs.declared.exchange.Via.{Via}
use Rattle.party_tables.specs.declared.exchange.Via.TheVariants as vias
use Rattle.party_tables.specs.declared.exchange.Kind.{Kind}
use Rattle.party_tables.specs.declared.exchange.Kind.TheVariants as kind
use Rattle.party_tables.specs.declared.exchange.Exchange.{Exchange}
use Rattle.party_state.specs.State.{Party, centre_label, exchange_with, link_with, record_with}
use Rattle.party_tables.specs.Keys.{sends}
use Rattle.party_tables.specs.Names.{full_name, name_behind}
use Rattle.party_state.specs.Rows.{Row, Coded}
use Rattle.role_base.specs.Texts.{is_verified}
use Rattle.bank_arrivals.specs.Dsm.{code_name}

-- the exchange with the peer is of this kind
abbrev pub IsAbout : Party → List ℕ → Kind → Type 0
IsAbout p peer k = option_map (λ (e : Exchange). e.kind) (exchange_with peer p) ≡ Some k

-- the record of the key of this name that is shared with the peer
abbrev pub HasKey : Party → List ℕ → KeyName → KeyRec → Type 0
HasKey p peer name k = record_with (record { peer = peer; name = name }) p ≡ Some k

-- the link for sending to the peer that has this label
abbrev pub HasLink : Party → List ℕ → List ℕ → LinkRec → Type 0
HasLink p peer label l = link_with (sends peer label) p ≡ Some l

-- a message is for the party, and not from it
pub record IsTo (p : Party) (rcv org : List ℕ) : Type 0 where
  pub receiver : rcv ≡ p.own
  pub originator : org ≢ p.own

-- a response: the key that was sent is live, and a new key-encrypting key that was sent with it is ready
pub record HeardResponse (p after : Party) (a : Arrival) (m : Rsm) : Type 0 where
  pub to : IsTo p m.receiver m.originator
  pub name : KeyName
  pub via : Via
  pub key : KeyRec
  pub sent : IsAbout p m.originator (kind.KeySent name via)
  pub stands : HasKey p m.originator name key
  pub code : IsTrue (is_verified a key.value)
  pub live : HasKey after m.originator name (record key { status = Live })
  pub ready : (label new : List ℕ) (l : LinkRec) → via ≡ vias.Direct label (Some new) → HasLink p m.originator new l → HasLink after m.originator new (record l { ready = true })
  pub over : exchange_with m.originator after ≡ None

-- the records of two keys that were sent to the peer in one message, the first of this name, and the message about them
-- is closed under the exclusive-or of the two
pub record AreSentTogether (p : Party) (a : Arrival) (peer : List ℕ) (name : KeyName) (first second : KeyRec) : Type 0 where
  pub sent : IsAbout p peer (kind.PairSent name)
  pub first_stands : HasKey p peer name first
  pub second_stands : HasKey p peer (name_behind name) second
  pub code : IsTrue (is_verified a (bit_xor first.value second.value))

-- a response to two keys: both are live
pub record HeardResponseToTwo (p after : Party) (a : Arrival) (m : Rsm) : Type 0 where
  pub to : IsTo p m.receiver m.originator
  pub name : KeyName
  pub first : KeyRec
  pub second : KeyRec
  pub together : AreSentTogether p a m.originator name first second
  pub first_live : HasKey after m.originator name (record first { status = Live })
  pub second_live : HasKey after m.originator (name_behind name) (record second { status = Live })
  pub over : exchange_with m.originator after ≡ None

-- a response that names a key: its end is done
pub record HeardEnd (p after : Party) (a : Arrival) (m : Rsm) (idd : KeyName) : Type 0 where
  pub to : IsTo p m.receiver m.originator
  pub key : KeyRec
  pub ending : IsAbout p m.originator (kind.Ending idd)
  pub stands : HasKey p m.originator idd key
  pub code : IsTrue (is_verified a key.value)
  pub ended : HasKey after m.originator idd (record key { status = Ended })
  pub over : exchange_with m.originator after ≡ None

-- a centre can be asked again: it gave the key, the message tells a count, and no exchange with the centre stands
pub record MayAskAgain (p : Party) (m : Esm) (via : Via) : Type 0 where
  pub centre : List ℕ
  pub cta : ℕ
  pub ctr : ℕ
  pub given : via ≡ vias.Distribution centre cta
  pub told : m.ctr ≡ Some ctr
  pub free : exchange_with centre p ≡ None

-- the centre is asked for the same ultimate recipient, with the count and the reason that it told, under the key, and the
-- exchange keeps the text
pub record AsksAgain (p after : Party) (m : Esm) (key : KeyRec) (r : Row) (centre : List ℕ) (cta ctr : ℕ) : Type 0 where
  pub written : r.reply ≡ Some (Coded
      (message.Ers (record { receiver = centre; originator = p.own; ultimate = m.originator; ctr = ctr; erf = m.erf }))
      (record { name = record { issuer = centre; originator = centre; label = centre_label; count = cta }; recipient = p.own })
      key.value)
  pub waits : exchange_with centre after ≡ Some (record { peer = centre; kind = kind.Asked m.originator; text = canon (message.Ers (record { receiver = centre; originator = p.own; ultimate = m.originator; ctr = ctr; erf = m.erf })) (closing.Mac key.value) })

-- an error message: the key that was sent ends. Where it went under a link, and not with a new key-encrypting key of
-- the same label, the next count of the link is CTR, if that is larger; a new key-encrypting key goes
pub record HeardError (p after : Party) (a : Arrival) (m : Esm) (r : Row) : Type 0 where
  pub to : IsTo p m.receiver m.originator
  pub name : KeyName
  pub via : Via
  pub key : KeyRec
  pub sent : IsAbout p m.originator (kind.KeySent name via)
  pub stands : HasKey p m.originator name key
  pub code : IsTrue (is_verified a key.value)
  pub ended : HasKey after m.originator name (record key { status = Ended })
  pub over : exchange_with m.originator after ≡ None
  pub counted : (label : List ℕ) (new : Option (List ℕ)) (l : LinkRec) (ctr : ℕ) → via ≡ vias.Direct label new → new ≢ Some label → HasLink p m.originator label l → m.ctr ≡ Some ctr
      → HasLink after m.originator label (record l { next = max l.next ctr })
  pub given_up : (label new : List ℕ) → via ≡ vias.Direct label (Some new) → link_with (sends m.originator new) after ≡ None
  -- without CTR no link changes, if no new key-encrypting key was sent with the key: such a one goes
  pub uncounted : m.ctr ≡ None → ((label new : List ℕ) → via ≡ vias.Direct label (Some new) → ⊥) → after.links ≡ p.links
  -- no other key changes
  pub keys : (k : RecordKey) → k ≢ record { peer = m.originator; name = name } → record_with k after ≡ record_with k p
  pub again : (t : MayAskAgain p m via) → AsksAgain p after m key r t.centre t.cta t.ctr
  pub silent : (MayAskAgain p m via → ⊥) → r.reply ≡ None

-- an error message about two keys: both end, and the next count of the link under which they went is CTR, if that is
-- larger
pub record HeardErrorOfTwo (p after : Party) (a : Arrival) (m : Esm) (r : Row) : Type 0 where
  pub to : IsTo p m.receiver m.originator
  pub name : KeyName
  pub first : KeyRec
  pub second : KeyRec
  pub together : AreSentTogether p a m.originator name first second
  pub first_ended : HasKey after m.originator name (record first { status = Ended })
  pub second_ended : HasKey after m.originator (name_behind name) (record second { status = Ended })
  pub over : exchange_with m.originator after ≡ None
  pub counted : (l : LinkRec) (ctr : ℕ) → HasLink p m.originator name.label l → m.ctr ≡ Some ctr → HasLink after m.originator name.label (record l { next = max l.next ctr })
  -- without CTR no link changes
  pub uncounted : m.ctr ≡ None → after.links ≡ p.links
  pub silent : r.reply ≡ None

-- an error message of a translation centre: the key that is with it is given up
pub record HeardCentre (p after : Party) (a : Arrival) (m : Esm) (r : Row) : Type 0 where
  pub to : IsTo p m.receiver m.originator
  pub ultimate : List ℕ
  pub value : ℕ
  pub cta : ℕ
  pub waiting : IsAbout p m.originator (kind.Translating ultimate value cta)
  pub code : IsTrue (is_verified a value)
  pub over : exchange_with m.originator after ≡ None
  pub counted : (l : LinkRec) (ctr : ℕ) → HasLink p m.originator centre_label l → m.ctr ≡ Some ctr → HasLink after m.originator centre_label (record l { next = max l.next ctr })
  -- without CTR no link changes
  pub uncounted : m.ctr ≡ None → after.links ≡ p.links
  pub silent : r.reply ≡ None

-- of two keys that were sent in one message and aren't answered yet, the other one ends too, and the exchange is over
pub record EndsBoth (after : Party) (peer : List ℕ) (other : KeyName) (k : KeyRec) : Type 0 where
  pub ended : HasKey after peer other (record k { status = Ended })
  pub over : exchange_with peer after ≡ None

-- a disconnection: the key that it names ends, if it hadn't ended before, and the response names it; its code is made
-- under the key of IDA, or of IDD where IDA is absent
pub record HeardDisconnection (p after : Party) (a : Arrival) (m : Dsm) (r : Row) : Type 0 where
  pub to : IsTo p m.receiver m.originator
  pub key : KeyRec
  pub by : KeyRec
  pub stands : HasKey p m.originator m.idd key
  pub closing : HasKey p m.originator (code_name m.idd m.ida) by
  pub code : IsTrue (is_verified a by.value)
  pub ended : HasKey after m.originator m.idd (record key { status = Ended })
  pub before : key.status ≡ Ended → after ≡ p
  pub second : (k : KeyRec) → key.status ≢ Ended → IsAbout p m.originator (kind.PairSent m.idd) → HasKey p m.originator (name_behind m.idd) k → EndsBoth after m.originator (name_behind m.idd) k
  pub first : (name : KeyName) (k : KeyRec) → key.status ≢ Ended → m.idd ≡ name_behind name → IsAbout p m.originator (kind.PairSent name) → HasKey p m.originator name k → EndsBoth after m.originator name k
  pub written : r.reply ≡ Some (Coded
      (message.Rsm (record { receiver = m.originator; originator = p.own; idd = Some m.idd; extras = record { iv = None; edk = None; p = None } }))
      (full_name p.own key) key.value)
