-- What holds at the end of every honest run beside the laws (this project's profile): of key-encrypting keys, of what waits
-- for an answer, of the codes that were made, and of the keys that were accepted.
use Rattle.std.specs.Prelude.{◌≡◌, ◌⊎◌, ℕ, ◌≤◌, true, false, Option, Some, None, IfSome, List, ◌∷◌, map, All, AllPairs, Contains}
use Rattle.x_base.specs.declared.key_name.KeyName.{KeyName}
use Rattle.x_base.specs.declared.key_name.FullName.{FullName}
use Rattle.x_mac.specs.declared.pair.Pair.{Pair}
use Rattle.csm_grammar.specs.declared.message.Ksm.{Ksm}
use Rattle.csm_grammar.specs.declared.message.Rsm.{Rsm}
use Rattle.csm_grammar.specs.declared.message.Message.{Message}
use Rattle.csm_grammar.specs.declared.message.Message.TheVariants as message
use Rattle.csm_grammar.specs.Spelling.{Says}
use Rattle.party_tables.specs.declared.exchange.Exchange.{Exchange}
use Rattle.party_tables.specs.declared.exchange.Kind.TheVariants as kind
use Rattle.party_tables.specs.declared.exchange.Via.TheVariants as vias
use Rattle.party_tables.specs.declared.key.KeyRec.{KeyRec}
use Rattle.party_tables.specs.declared.key.KeyStatus.TheVariants.{Pending}
use Rattle.party_tables.specs.declared.link.LinkRec.{LinkRec}
use Rattle.party_tables.specs.Keys.{sends, takes}
use Rattle.party_tables.specs.Names.{name_behind}
use Rattle.party_state.specs.State.{Party, link_with, record_with, exchange_with}
use Rattle.member.specs.Member.{Member}
use Rattle.world_laws.specs.World.{Fact, Acceptance, World, member_at}
use Rattle.party_state.specs.Rows.{OfKsm, OfDsm, OfAnswer}
use Rattle.role_base.specs.Conditions.{body_issuer}
use Rattle.bank_keys.specs.Ksm.{body_count, body_new, body_twin, key_names}
use Rattle.world_laws.specs.Carried.{carried_kk, carried_keys, carried_name, label_given, IsOfTwo}
use Rattle.world_laws.specs.Honest.{HasFact}
use Rattle.world_laws.specs.Laws.{HasAccepted, HoldsKey}
use Rattle.world_laws.specs.Starts.{HasOtherEnd}

-- each link for sending that is ready has its other end, with the same pair
abbrev pub ReadyAtBothEnds : World → Type 0
ReadyAtBothEnds w = (p : List ℕ) (x : Member) (peer label : List ℕ) (l : LinkRec) → member_at p w.members ≡ Some x → link_with (sends peer label) x.party ≡ Some l → l.ready ≡ true
    → HasOtherEnd w.members peer (takes p label) l

-- where both ends of a key-encrypting key stand, the count that is expected is no more than the next that is used
abbrev pub CountsMeet : World → Type 0
CountsMeet w = (p : List ℕ) (x : Member) (peer label : List ℕ) (l : LinkRec) (y : Member) (m : LinkRec) → member_at p w.members ≡ Some x → link_with (sends peer label) x.party ≡ Some l
    → member_at peer w.members ≡ Some y → link_with (takes p label) y.party ≡ Some m → m.next ≤ l.next

-- where an exchange waits for the answer to a key that went with a new key-encrypting key, its link stands and isn't ready,
-- and the record of the key stands and is pending
pub record WaitsWithNewKk (p : Party) (peer : List ℕ) (name : KeyName) (new : List ℕ) : Type 0 where
  pub link : LinkRec
  pub found : link_with (sends peer new) p ≡ Some link
  pub unready : link.ready ≡ false
  pub entry : KeyRec
  pub stands : record_with (record { peer = peer; name = name }) p ≡ Some entry
  pub pending : entry.status ≡ Pending

abbrev pub WaitingStands : World → Type 0
WaitingStands w = (p : List ℕ) (x : Member) (peer : List ℕ) (e : Exchange) (name : KeyName) (label new : List ℕ) → member_at p w.members ≡ Some x → exchange_with peer x.party ≡ Some e
    → e.kind ≡ kind.KeySent name (vias.Direct label (Some new)) → WaitsWithNewKk x.party peer name new

-- where an exchange waits for the answer to two keys, the record of each stands and is pending
pub record StandsPending (p : Party) (peer : List ℕ) (name : KeyName) : Type 0 where
  pub entry : KeyRec
  pub found : record_with (record { peer = peer; name = name }) p ≡ Some entry
  pub pending : entry.status ≡ Pending

abbrev pub TwinsStand : World → Type 0
TwinsStand w = (p : List ℕ) (x : Member) (peer : List ℕ) (e : Exchange) (name : KeyName) → member_at p w.members ≡ Some x → exchange_with peer x.party ≡ Some e → e.kind ≡ kind.PairSent name
    → StandsPending x.party peer name × StandsPending x.party peer (name_behind name)

-- and each key service message that was made under the name of the first carries two
abbrev pub TwinsCarried : World → Type 0
TwinsCarried w = (p : List ℕ) (x : Member) (peer : List ℕ) (e : Exchange) (name : KeyName) → member_at p w.members ≡ Some x → exchange_with peer x.party ≡ Some e → e.kind ≡ kind.PairSent name
    → (f : Fact) (m : Ksm) → Contains w.facts f → Says f.text (message.Ksm m) → f.under ≡ record { name = name; recipient = peer } → IsOfTwo m.body

-- the originator that a message names
abbrev pub sender_of : Message → List ℕ
sender_of (message.Rsi m) = m.originator
sender_of (message.Rfs m) = m.originator
sender_of (message.Rtr m) = m.originator
sender_of (message.Ksm m) = m.originator
sender_of (message.Rsm m) = m.originator
sender_of (message.Ers m) = m.originator
sender_of (message.Esm m) = m.originator
sender_of (message.Dsm m) = m.originator

-- whoever made the code is the originator that the text names
abbrev pub IsMadeBySender : Fact → Type 0
IsMadeBySender f = (m : Message) → Says f.text m → f.maker ≡ sender_of m

abbrev pub MadeBySenders : World → Type 0
MadeBySenders w = All IsMadeBySender w.facts

-- two key service messages have no name of their keys in common
abbrev pub KsmApart : Fact → Fact → Type 0
KsmApart f g = (m n : Ksm) → Says f.text (message.Ksm m) → Says g.text (message.Ksm n)
    → (u : FullName) → Contains (key_names f.under (body_twin m.body)) u → ¬ (Contains (key_names g.under (body_twin n.body)) u)

abbrev pub OneKsmPerName : World → Type 0
OneKsmPerName w = AllPairs KsmApart w.facts

-- the answer to a key was made where a message with it was accepted, whose list of names it begins; the answer to the end of a
-- key, where that end was accepted

pub record HasTaken (accs : List Acceptance) (party : List ℕ) (first : FullName) : Type 0 where
  pub acceptance : Acceptance
  pub stands : Contains accs acceptance
  pub class_is : acceptance.class ≡ OfKsm
  pub party_is : acceptance.party ≡ party
  pub more : List FullName
  pub names_are : acceptance.names ≡ first ∷ more

abbrev pub IsAnswerTaken : List Acceptance → Fact → Option KeyName → Type 0
IsAnswerTaken accs f None = HasTaken accs f.maker f.under
IsAnswerTaken accs f (Some name) = HasAccepted accs OfDsm f.maker f.under

abbrev pub AnswersTaken : World → Type 0
AnswersTaken w = (f : Fact) (m : Rsm) → Contains w.facts f → Says f.text (message.Rsm m) → IsAnswerTaken w.acceptances f m.idd

-- a key that was accepted has this value at both ends: with it the party holds it, unless it accepted its end, or the answer
-- to its end; and where its originator has a record of it, that has this value
pub record HasOneValue (w : World) (party : List ℕ) (u : FullName) (value : ℕ) : Type 0 where
  pub held : HoldsKey w.members party (record { peer = u.name.originator; name = u.name }) value ⊎ (HasAccepted w.acceptances OfDsm party u ⊎ HasAccepted w.acceptances OfAnswer party u)
  pub sent : (x : Member) (r : KeyRec) → member_at u.name.originator w.members ≡ Some x → record_with (record { peer = u.recipient; name = u.name }) x.party ≡ Some r → r.value ≡ value

-- a key-encrypting key stands for taking, with this pair
pub record TakesUnder (p : Party) (peer label : List ℕ) (pair : Pair) : Type 0 where
  pub link : LinkRec
  pub found : link_with (takes peer label) p ≡ Some link
  pub pair_is : link.pair ≡ pair

-- what is known of an accepted key service message
pub record IsTaken (w : World) (a : Acceptance) : Type 0 where
  pub ksm : Ksm
  pub said : Says a.text (message.Ksm ksm)
  pub receiver : ksm.receiver ≡ a.party
  -- the key-encrypting key under which it came stands at the party, under the label that the message gives
  pub member : Member
  pub at : member_at a.party w.members ≡ Some member
  pub link : LinkRec
  pub found : link_with (takes (body_issuer ksm.originator ksm.body) link.label) member.party ≡ Some link
  pub label : IfSome (label_given ksm.body) (λ given. link.label ≡ given)
  -- its code was made under the name of its first key
  pub made : HasFact w.facts (carried_name link.label ksm (body_count ksm.body)) a.text
  -- the keys that it carries are those that were accepted, each with its carried value at both ends
  pub names : a.names ≡ map (λ k. carried_name link.label ksm k.count) (carried_keys link.pair ksm)
  pub keys : All (λ k. HasOneValue w a.party (carried_name link.label ksm k.count) k.value) (carried_keys link.pair ksm)
  -- a new key-encrypting key that it carries stands at the party with its carried pair
  pub new : IfSome (body_new ksm.body) (λ kk. TakesUnder member.party ksm.originator kk.0 (carried_kk link.pair (body_count ksm.body) kk.1))

abbrev pub KeysTaken : World → Type 0
KeysTaken w = All (λ (a : Acceptance). a.class ≡ OfKsm → IsTaken w a) w.acceptances
