-- What is known of each fact and of each acceptance.
use Rattle.std.proofs.lemmas.List.Elements.{Contains-append_left, Contains-push}
use Rattle.std.proofs.Common.{IfSome, ◌++◌, inl, inr, refl, ap, sym, ◌∙◌, subst, [], None, ◌∷◌, Contains, ◌≡◌, ◌≢◌, ◌⊎◌, ℕ, ◌<◌, true, Option, Some, None, List}
use Rattle.x_base.specs.declared.key_name.KeyName.{KeyName}
use Rattle.x_base.specs.declared.key_name.FullName.{FullName}
use Rattle.x_mac.specs.declared.pair.Pair.{Pair}
use Rattle.x_seal.specs.Wrapped.{unwrap_of, unseal_of}
use Rattle.csm_grammar.specs.declared.message.Message.{Message}
use Rattle.csm_grammar.specs.declared.message.Message.TheVariants as message
use Rattle.csm_grammar.specs.declared.message.KsmBody.{KsmBody}
use Rattle.csm_grammar.specs.declared.message.NewKk.{NewKk}
use Rattle.csm_grammar.specs.declared.message.Rtr.{Rtr}
use Rattle.csm_grammar.specs.declared.message.Rfs.{Rfs}
use Rattle.csm_grammar.specs.declared.message.Rsm.{Rsm}
use Rattle.csm_grammar.specs.declared.message.Ksm.{Ksm}
use Rattle.csm_grammar.specs.Spelling.{Says}
use Rattle.party_tables.specs.declared.link.LinkRec.{LinkRec}
use Rattle.party_tables.specs.declared.key.RecordKey.{RecordKey}
use Rattle.party_tables.specs.declared.key.KeyRec.{KeyRec}
use Rattle.party_tables.specs.declared.exchange.Exchange.{Exchange}
use Rattle.party_tables.specs.Keys.{sends, takes}
use Rattle.party_state.specs.State.{Party, centre_label, link_with, record_with, exchange_with}
use Rattle.party_state.specs.Rows.{OfKsm, OfDsm, OfAnswer}
use Rattle.role_base.specs.Conditions.{body_issuer}
use Rattle.party_tables.specs.declared.exchange.Kind.TheVariants as kind
use Rattle.party_tables.specs.Names.{full_behind}
use Rattle.bank_keys.specs.Ksm.{body_count, body_twin, body_value, second_value, body_new, opened_kk, key_names}
use Rattle.bank_keys.specs.declared.waits.KeyAtCentre.{KeyAtCentre}
use Rattle.bank_keys.specs.Waiting.{waiting_with}
use Rattle.member.specs.Member.{Member}
use Rattle.world_laws.specs.World.{Fact, Acceptance, member_at}
use Rattle.world_laws.specs.Carried.{label_given}
use Rattle.world_laws.specs.Facts.{HasTaken}
use Rattle.world_laws.specs.Honest.{HasFact}
use Rattle.world_laws.specs.Laws.{IsHeld, HasAccepted, partner_of, IsEndedAt}
use Rattle.world_laws.proofs.Links.Waiting.{new_of}
use Rattle.world_laws.proofs.Lists.Among.{first_in}
use Rattle.world_laws.proofs.Links.Taken.{name_among}
use Rattle.world_laws.proofs.Agreeing.Lists.{Counts, Lists, to_peer, full_at}
use Rattle.world_laws.proofs.Agreeing.Known.{Mine, Known}
use Rattle.world_laws.proofs.Agreeing.KeyRecords.{Gone}
use Rattle.world_laws.proofs.Agreeing.Waiting.{sent_name_by, NewFits}

abbrev pub ksm_key : Ksm → List ℕ → RecordKey
ksm_key k label = record { peer = k.receiver; name = record { issuer = body_issuer k.originator k.body; originator = k.originator; label = label; count = body_count k.body } }

-- a record's key at the originator, by the full name
abbrev pub at_peer : FullName → RecordKey
at_peer u = record { peer = u.recipient; name = u.name }

-- a text brings, under the pair of its link, the key of this full name with this value: its first, whose name is that of the
-- fact, or the one behind it
pub data Carries (pair : Pair) (originator receiver : List ℕ) (b : KsmBody) (first u : FullName) (value : ℕ) : Type 0 where
  as_first : u ≡ first → value ≡ body_value pair originator receiver b → Carries pair originator receiver b first u value
  as_second : (kd : ℕ) → body_twin b ≡ Some kd → u ≡ full_behind first → value ≡ second_value pair b kd → Carries pair originator receiver b first u value

-- a KSM's fact: the names of its keys are past at its originator, and each key of these names there is the one that the text
-- carries under the issuer's link
pub record KsmFact (v : Lists) (f : Fact) (k : Ksm) : Type 0 where
  pub label : List ℕ
  pub under : f.under ≡ to_peer (ksm_key k label)
  pub issuer : Member
  pub at_issuer : member_at (body_issuer k.originator k.body) v.members ≡ Some issuer
  pub link : LinkRec
  pub found : link_with (sends k.receiver label) issuer.party ≡ Some link
  pub ready : link.ready ≡ true
  pub party : Member
  pub at : member_at k.originator v.members ≡ Some party
  pub past : (u : FullName) (value : ℕ) → Carries link.pair k.originator k.receiver k.body f.under u value → Mine v.facts party.party (at_peer u)
  pub value : (u : FullName) (value : ℕ) → Carries link.pair k.originator k.receiver k.body f.under u value → (r : KeyRec) → record_with (at_peer u) party.party ≡ Some r → r.value ≡ value
  pub waits : (e : Exchange) (new : List ℕ) → exchange_with k.receiver party.party ≡ Some e → sent_name_by e.kind ≡ Some (ksm_key k label).name → new_of e.kind ≡ Some new → NewFits party.party k.receiver link.pair k.body new
  -- where the originator still waits for the answer to two keys of this name, the text carries two
  pub twins : (e : Exchange) → exchange_with k.receiver party.party ≡ Some e → e.kind ≡ kind.PairSent (ksm_key k label).name → (kd : ℕ) × (body_twin k.body ≡ Some kd)

-- where the bank still waits at this count, it waits with this value
abbrev pub WaitsWith : Party → List ℕ → ℕ → ℕ → Type 0
WaitsWith s centre cta value = (t : KeyAtCentre) → waiting_with s centre ≡ Some t → t.cta ≡ cta → t.value ≡ value

pub record WaitsAt (ps : List Member) (bank centre : List ℕ) (cta value : ℕ) : Type 0 where
  pub party : Member
  pub at : member_at bank ps ≡ Some party
  pub link : LinkRec
  pub found : link_with (sends centre centre_label) party.party ≡ Some link
  pub ready : link.ready ≡ true
  pub below : cta < link.next
  pub value_is : WaitsWith party.party centre cta value

-- a RFS's fact ties the key with the centre to what the text carries
pub record RfsFact (ps : List Member) (f : Fact) (m : Rfs) : Type 0 where
  pub value : ℕ
  pub waits : WaitsAt ps m.originator m.receiver m.cta value
  pub opened : unwrap_of waits.link.pair m.cta m.kd ≡ value

abbrev pub kdu_value : LinkRec → Rtr → ℕ
kdu_value l m = unseal_of l.pair m.receiver m.ultimate m.ctb m.kdu

abbrev pub RtrForm : List Member → Party → FullName → Rtr → ℕ → Option (ℕ × ℕ) → Type 0
RtrForm ps s u m value (Some k) = (a : LinkRec) × (link_with (sends m.receiver centre_label) s ≡ Some a) × (a.ready ≡ true) × (unwrap_of a.pair k.1 k.0 ≡ value) × (k.1 < a.next)
RtrForm ps s u m value None = WaitsAt ps m.receiver m.originator u.name.count value

-- an RTR's fact ties what it carries for both to one value
pub record RtrFact (ps : List Member) (f : Fact) (m : Rtr) : Type 0 where
  pub party : Member
  pub at : member_at m.originator ps ≡ Some party
  pub link : LinkRec
  pub found : link_with (sends m.ultimate centre_label) party.party ≡ Some link
  pub ready : link.ready ≡ true
  pub below : m.ctb < link.next
  pub form : RtrForm ps party.party f.under m (kdu_value link m) m.kd

pub taken_more : (accs more : List Acceptance) (p : List ℕ) (u : FullName) → HasTaken accs p u → HasTaken (accs ++ more) p u
taken_more accs more p u h = record { acceptance = h.acceptance; stands = Contains-append_left accs more h.acceptance h.stands; class_is = h.class_is; party_is = h.party_is; more = h.more; names_are = h.names_are }

abbrev pub RsmOk : List Acceptance → Fact → Rsm → Option KeyName → Type 0
RsmOk accs f r None = HasTaken accs r.originator f.under
RsmOk accs f r (Some n) = HasAccepted accs OfDsm r.originator f.under

abbrev pub MessageOk : Lists → Fact → Message → Type 0
MessageOk v f (message.Rsi m) = Unit {0}
MessageOk v f (message.Rfs m) = RfsFact v.members f m
MessageOk v f (message.Rtr m) = RtrFact v.members f m
MessageOk v f (message.Ksm k) = KsmFact v f k
MessageOk v f (message.Rsm r) = RsmOk v.acceptances f r r.idd
MessageOk v f (message.Ers m) = Unit {0}
MessageOk v f (message.Esm m) = Unit {0}
MessageOk v f (message.Dsm m) = Unit {0}

abbrev pub FactOk : Lists → Fact → Type 0
FactOk v f = (m : Message) → Says f.text m → MessageOk v f m

-- no two facts with an RTR have one centre, one ultimate recipient and one count for it
abbrev pub RtrApart : Fact → Fact → Type 0
RtrApart f g = (m n : Rtr) → Says f.text (message.Rtr m) → Says g.text (message.Rtr n) → m.originator ≡ n.originator → m.ultimate ≡ n.ultimate → m.ctb ≢ n.ctb

-- Acceptances

-- the record of an accepted KSM is held with the carried value
abbrev pub Keeps : Party → FullName → ℕ → Type 0
Keeps s u value = (r : KeyRec) × (record_with (record { peer = u.name.originator; name = u.name }) s ≡ Some r) × IsHeld r.status × (r.value ≡ value)

-- the link that an accepted KSM's new key-encrypting key has
abbrev pub TakesNew : Party → List ℕ → Pair → KsmBody → List ℕ × NewKk → Type 0
TakesNew s peer pair b kk = (t : LinkRec) × (link_with (takes peer kk.0) s ≡ Some t) × (t.pair ≡ opened_kk pair (body_count b) kk.1)

pub record TakenKsm (v : Lists) (a : Acceptance) : Type 0 where
  pub party : Member
  pub at : member_at a.party v.members ≡ Some party
  pub ksm : Ksm
  pub said : Says a.text (message.Ksm ksm)
  -- the name of the first key
  pub under : FullName
  pub names : a.names ≡ key_names under (body_twin ksm.body)
  pub other : under.name.originator ≢ a.party
  pub recipient : under.recipient ≡ a.party
  pub fact : HasFact v.facts under a.text
  pub link : LinkRec
  pub found : link_with (takes under.name.issuer under.name.label) party.party ≡ Some link
  pub label : IfSome (label_given ksm.body) (λ given. under.name.label ≡ given)
  pub new : (kk : List ℕ × NewKk) → body_new ksm.body ≡ Some kk → TakesNew party.party under.name.originator link.pair ksm.body kk
  pub keeps : (u : FullName) (value : ℕ) → Carries link.pair ksm.originator a.party ksm.body under u value → Keeps party.party u value ⊎ Gone v.acceptances a.party u

pub record DsmOk (v : Lists) (party : List ℕ) (u : FullName) : Type 0 where
  pub ended : IsEndedAt v.members party u
  pub key : RecordKey
  pub full_is : full_at party key ≡ u
  pub known : (x : Member) → member_at party v.members ≡ Some x → Known v x.party key

pub record AcceptedOk (v : Lists) (a : Acceptance) : Type 0 where
  pub ksm : a.class ≡ OfKsm → TakenKsm v a
  pub dsm : a.class ≡ OfDsm → (u : FullName) → Contains a.names u → DsmOk v a.party u
  pub answer : a.class ≡ OfAnswer → (u : FullName) → Contains a.names u → HasAccepted v.acceptances OfDsm (partner_of a.party u) u

-- a KSM whose first key has a name was accepted about that name
abbrev pub taken_accepted : (accs : List Acceptance) (p : List ℕ) (u : FullName) → HasTaken accs p u → HasAccepted accs OfKsm p u
taken_accepted accs p u h = record { acceptance = h.acceptance; stands = h.stands; class_is = h.class_is; party_is = h.party_is; among = subst (λ (us : List FullName). Contains us u) (sym h.names_are) (first_in u h.more) }

abbrev first_of : FullName → List FullName → FullName
first_of u [] = u
first_of u (w ∷ ws) = w

head_is : (u w : FullName) (more : List FullName) (o : Option ℕ) → key_names u o ≡ w ∷ more → u ≡ w
head_is u w more None e = ap (first_of u) e
head_is u w more (Some kd) e = ap (first_of u) e

pub taken_first : (v : Lists) (p : List ℕ) (u : FullName) (h : HasTaken v.acceptances p u) (tk : TakenKsm v h.acceptance) → tk.under ≡ u
taken_first v p u h tk = head_is tk.under u h.more (body_twin tk.ksm.body) (sym tk.names ∙ h.names_are)

pub head_names : (u : FullName) (o : Option ℕ) → (more : List FullName) × (key_names u o ≡ u ∷ more)
head_names u None = ([], refl)
head_names u (Some kd) = (full_behind u ∷ [], refl)

abbrev pub LiveAccepted : Lists → Type 0
LiveAccepted v = (p : List ℕ) (x : Member) (k : RecordKey) (r : KeyRec) → member_at p v.members ≡ Some x → record_with k x.party ≡ Some r → k.name.originator ≡ x.party.own → Counts r.status → HasAccepted v.acceptances OfKsm k.peer (to_peer k)

-- the names of the keys that a text brings

-- they have the same recipient and originator
pub carries_same : (pair : Pair) (originator receiver : List ℕ) (b : KsmBody) (first u : FullName) (value : ℕ) → Carries pair originator receiver b first u value → (u.recipient ≡ first.recipient) × (u.name.originator ≡ first.name.originator)
carries_same pair originator receiver b first u value (as_first e i) = (ap (λ (z : FullName). z.recipient) e, ap (λ (z : FullName). z.name.originator) e)
carries_same pair originator receiver b first u value (as_second kd k e i) = (ap (λ (z : FullName). z.recipient) e, ap (λ (z : FullName). z.name.originator) e)

-- they are the names of an acceptance
pub carries_among : (pair : Pair) (originator receiver : List ℕ) (b : KsmBody) (first u : FullName) (value : ℕ) → Carries pair originator receiver b first u value → Contains (key_names first (body_twin b)) u
carries_among pair originator receiver b first u value (as_first e i) = go (body_twin b)
  where
    go : (o : Option ℕ) → Contains (key_names first o) u
    go None = subst (Contains (first ∷ [])) (sym e) (first_in first [])
    go (Some kd) = subst (Contains (first ∷ full_behind first ∷ [])) (sym e) (first_in first (full_behind first ∷ []))
carries_among pair originator receiver b first u value (as_second kd k e i) = subst (λ (o : Option ℕ). Contains (key_names first o) u) (sym k) (subst (Contains (first ∷ full_behind first ∷ [])) (sym e) (Contains-push (first ∷ []) (full_behind first)))

pub among_carries : (pair : Pair) (originator receiver : List ℕ) (b : KsmBody) (first u : FullName) → Contains (key_names first (body_twin b)) u → (value : ℕ) × Carries pair originator receiver b first u value
among_carries pair originator receiver b first u h = elim (name_among first u (body_twin b) h) [
  | inl e ↦ (body_value pair originator receiver b, as_first e refl)
  | inr e ↦ (second_value pair b e.0, as_second e.0 e.1 e.2 refl)
]

-- a text of one key brings it alone
pub carries_one : (pair : Pair) (originator receiver : List ℕ) (b : KsmBody) (first u : FullName) (value : ℕ) → body_twin b ≡ None → Carries pair originator receiver b first u value → (u ≡ first) × (value ≡ body_value pair originator receiver b)
carries_one pair originator receiver b first u value none (as_first e i) = (e, i)
carries_one pair originator receiver b first u value none (as_second kd k e i) = absurd (let n : None ≡ Some kd = sym none ∙ k in cc)

-- What agreement asks of an accepted row
