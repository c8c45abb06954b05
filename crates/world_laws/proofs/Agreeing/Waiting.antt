-- What an exchange waits for.
use Rattle.std.proofs.Common.{arith, ◌≡◌, ◌⊎◌, inl, ℕ, ◌≤◌, Option, Some, None, List, [], ap, subst}
use Rattle.x_base.specs.declared.key_name.KeyName.{KeyName}
use Rattle.x_mac.specs.declared.pair.Pair.{Pair}
use Rattle.csm_grammar.specs.declared.message.KsmBody.{KsmBody}
use Rattle.csm_grammar.specs.declared.message.NewKk.{NewKk}
use Rattle.party_tables.specs.declared.link.LinkRec.{LinkRec}
use Rattle.party_tables.specs.declared.key.RecordKey.{RecordKey}
use Rattle.party_tables.specs.declared.key.KeyRec.{KeyRec}
use Rattle.party_tables.specs.declared.key.KeyStatus.TheVariants.{Pending}
use Rattle.party_tables.specs.declared.exchange.Exchange.{Exchange}
use Rattle.party_tables.specs.declared.exchange.Kind.{Kind}
use Rattle.party_tables.specs.declared.exchange.Kind.TheVariants as kind
use Rattle.party_tables.specs.Names.{name_behind}
use Rattle.party_tables.specs.Keys.{sends}
use Rattle.role_base.specs.Exchanges.{new_label}
use Rattle.party_state.specs.State.{Party, link_with, record_with, exchange_with}
use Rattle.party_tables.proofs.Tables.{one_found}
use Rattle.bank_keys.specs.Ksm.{body_count, body_new, opened_kk}
use Rattle.world_laws.specs.World.{Fact}
use Rattle.world_laws.proofs.Links.Waiting.{new_of}
use Rattle.world_laws.proofs.Agreeing.Known.{Mine, counted, issued}

-- the name that an exchange waits for, of two keys that of the first
abbrev pub sent_name_by : Kind → Option KeyName
sent_name_by (kind.KeySent name via) = Some name
sent_name_by (kind.Asked ultimate) = None
sent_name_by (kind.Translating ultimate value cta) = None
sent_name_by (kind.Ending name) = None
sent_name_by (kind.PairSent name) = Some name

-- the name of the second of two keys
abbrev pub second_name_by : Kind → Option KeyName
second_name_by (kind.KeySent name via) = None
second_name_by (kind.Asked ultimate) = None
second_name_by (kind.Translating ultimate value cta) = None
second_name_by (kind.Ending name) = None
second_name_by (kind.PairSent name) = Some (name_behind name)

-- an exchange waits for a key of this name
abbrev pub SendsName : Kind → KeyName → Type 0
SendsName k name = (sent_name_by k ≡ Some name) ⊎ (second_name_by k ≡ Some name)

-- what an exchange tells beside its name: the label of a new key-encrypting key, or that two keys went
abbrev pub mark_of : Kind → Option (List ℕ)
mark_of (kind.KeySent name via) = new_label via
mark_of (kind.Asked ultimate) = None
mark_of (kind.Translating ultimate value cta) = None
mark_of (kind.Ending name) = None
mark_of (kind.PairSent name) = Some []

pub marked : (k : Kind) (new : List ℕ) → new_of k ≡ Some new → mark_of k ≡ Some new
marked (kind.KeySent name via) new h = h
marked (kind.Asked ultimate) new h = absurd (cc)
marked (kind.Translating ultimate value cta) new h = absurd (cc)
marked (kind.Ending name) new h = absurd (cc)
marked (kind.PairSent name) new h = absurd (cc)

-- each exchange that waits for a key waits for a pending one of the party's own
pub record SentOk (s : Party) (peer : List ℕ) (name : KeyName) : Type 0 where
  pub own : name.originator ≡ s.own
  pub pending : (r : KeyRec) → record_with (record { peer = peer; name = name }) s ≡ Some r → r.status ≡ Pending

abbrev pub AllSent : Party → Type 0
AllSent s = (peer : List ℕ) (e : Exchange) (name : KeyName) → exchange_with peer s ≡ Some e → SendsName e.kind name → SentOk s peer name

-- a new one names a key whose count was not reached
pub record NewSent (s : Party) (peer : List ℕ) (name : KeyName) : Type 0 where
  pub link : LinkRec
  pub found : link_with (sends peer name.label) s ≡ Some link
  pub low : link.next ≤ name.count
  pub issuer : name.issuer ≡ s.own

abbrev pub NewsMove : Party → Party → Type 0
NewsMove s t = (peer : List ℕ) (e : Exchange) (name : KeyName) (new : List ℕ) → exchange_with peer t ≡ Some e → sent_name_by e.kind ≡ Some name → mark_of e.kind ≡ Some new → (exchange_with peer s ≡ Some e) ⊎ NewSent s peer name

pub news_stay : (s t : Party) → t.exchanges ≡ s.exchanges → NewsMove s t
news_stay s t e peer x name new h n w = inl (subst (λ (es : List Exchange). exchange_with peer (record s { exchanges = es }) ≡ Some x) e h)

-- a name that is past isn't a new one
pub mine_not_new : (fs : List Fact) (s : Party) (k : RecordKey) → Mine fs s k → NewSent s k.peer k.name → ⊥
mine_not_new fs s k (counted i l h r below) n = let e : l.next ≡ n.link.next = ap (λ (z : LinkRec). z.next) (one_found l n.link h n.found) in omega (arith, below, n.low, e)
mine_not_new fs s k (issued other i) n = other n.issuer

-- the new key-encrypting key that an exchange waits for is the one that the text carries
pub record NewFits (s : Party) (peer : List ℕ) (pair : Pair) (b : KsmBody) (new : List ℕ) : Type 0 where
  pub kk : List ℕ × NewKk
  pub carried : body_new b ≡ Some kk
  pub label : kk.0 ≡ new
  pub pair_is : (l : LinkRec) → link_with (sends peer new) s ≡ Some l → l.pair ≡ opened_kk pair (body_count b) kk.1

-- Facts
