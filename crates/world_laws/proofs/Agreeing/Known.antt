-- Names of keys that no later edit puts anew.
use Rattle.std.proofs.Common.{arith, ◌≡◌, ◌≢◌, inl, inr, ℕ, ◌<◌, true, false, Option, Some, None, List, ◌++◌, refl, sym, ◌∙◌, ap, subst, Contains, bytes_eq}
use Rattle.std.proofs.lemmas.Bool.{false_from_ne_true}
use Rattle.std.proofs.lemmas.List.Elements.{Contains-append_left}
use Rattle.x_base.specs.declared.key_name.FullName.{FullName}
use Rattle.csm_grammar.specs.declared.message.Message.TheVariants as message
use Rattle.csm_grammar.specs.declared.message.Rtr.{Rtr}
use Rattle.csm_grammar.specs.Spelling.{Says}
use Rattle.party_tables.specs.declared.link.LinkRec.{LinkRec}
use Rattle.party_tables.specs.declared.key.RecordKey.{RecordKey}
use Rattle.party_tables.specs.declared.key.KeyRec.{KeyRec}
use Rattle.party_tables.specs.Keys.{sends, takes}
use Rattle.party_state.specs.State.{Party, centre_label, link_with, record_with}
use Rattle.party_state.specs.Rows.{Class, OfKsm}
use Rattle.party_tables.proofs.Keys.{test_idents}
use Rattle.party_tables.proofs.Tables.{one_found}
use Rattle.bank_keys.specs.declared.waits.KeyAtCentre.{KeyAtCentre}
use Rattle.bank_keys.specs.Waiting.{waiting_with}
use Rattle.member.specs.Member.{Member}
use Rattle.world_laws.specs.World.{Fact, Acceptance}
use Rattle.world_laws.specs.Honest.{HasFact}
use Rattle.world_laws.specs.Laws.{HasAccepted}
use Rattle.world_laws.proofs.Agreeing.Lists.{Lists, to_peer, to_own, full_at, Goes, WaitsMove}

-- a centre's answer was taken: its count is past, or nothing waits at its count any more
abbrev pub IsUsed : Party → Rtr → FullName → Option (ℕ × ℕ) → Type 0
IsUsed s m u (Some k) = (l : LinkRec) × (link_with (takes m.originator centre_label) s ≡ Some l) × (k.1 < l.next)
IsUsed s m u None = (l : LinkRec) × (link_with (sends m.originator centre_label) s ≡ Some l) × (l.ready ≡ true) × (u.name.count < l.next) × ((v : KeyAtCentre) → waiting_with s m.originator ≡ Some v → v.cta ≢ u.name.count)

pub record Issued (fs : List Fact) (s : Party) (k : RecordKey) : Type 0 where
  pub rtr : Rtr
  pub fact : Fact
  pub stands : Contains fs fact
  pub said : Says fact.text (message.Rtr rtr)
  pub centre : rtr.originator ≡ k.name.issuer
  pub ultimate : rtr.ultimate ≡ k.peer
  pub count : rtr.ctb ≡ k.name.count
  pub used : IsUsed s rtr fact.under rtr.kd

-- a name of the party's own that no later edit puts anew
pub data Mine (fs : List Fact) (s : Party) (k : RecordKey) : Type 0 where
  counted : k.name.issuer ≡ s.own → (l : LinkRec) → link_with (sends k.peer k.name.label) s ≡ Some l → l.ready ≡ true → k.name.count < l.next → Mine fs s k
  issued : k.name.issuer ≢ s.own → Issued fs s k → Mine fs s k

-- a name that no later edit puts anew
pub data Known (v : Lists) (s : Party) (k : RecordKey) : Type 0 where
  mine : k.name.originator ≡ s.own → Mine v.facts s k → Known v s k
  theirs : k.name.originator ≢ s.own → k.peer ≡ k.name.originator → HasAccepted v.acceptances OfKsm s.own (to_own k s.own) → Known v s k

abbrev pub KeysKnown : Lists → Party → Type 0
KeysKnown v s = (k : RecordKey) (r : KeyRec) → record_with k s ≡ Some r → Known v s k

pub class_more : (accs more : List Acceptance) (class : Class) (p : List ℕ) (u : FullName) → HasAccepted accs class p u → HasAccepted (accs ++ more) class p u
class_more accs more class p u h = record { acceptance = h.acceptance; stands = Contains-append_left accs more h.acceptance h.stands; class_is = h.class_is; party_is = h.party_is; among = h.among }

pub fact_more : (fs more : List Fact) (u : FullName) (t : List ℕ) → HasFact fs u t → HasFact (fs ++ more) u t
fact_more fs more u t h = record { fact = h.fact; stands = Contains-append_left fs more h.fact h.stands; under_is = h.under_is; text_is = h.text_is }

pub used_on : (s t : Party) (m : Rtr) (u : FullName) (kd : Option (ℕ × ℕ)) → Goes s t → WaitsMove s t → IsUsed s m u kd → IsUsed t m u kd
used_on s t m u (Some k) g w h = let n = g.taking (takes m.originator centre_label) h.0 refl h.1 in (n.0, n.1, omega (arith, h.2, n.2.next))
used_on s t m u None g w h = let n = g.ready (sends m.originator centre_label) h.0 h.1 h.2 in (n.0, n.1, n.2.ready h.2, omega (arith, h.3, n.2.next), waits)
  where
    waits : (v : KeyAtCentre) → waiting_with t m.originator ≡ Some v → v.cta ≢ u.name.count
    waits v i = elim (w m.originator v i) [
      | inl j ↦ h.4 v j
      | inr j ↦ (let e : h.0.next ≡ j.0.next = ap (λ (l : LinkRec). l.next) (one_found h.0 j.0 h.1 j.1) in λ q. omega (arith, h.3, j.2, e, q))
    ]

pub issued_on : (fs more : List Fact) (s t : Party) (k : RecordKey) → Goes s t → WaitsMove s t → Issued fs s k → Issued (fs ++ more) t k
issued_on fs more s t k g w i = record { rtr = i.rtr; fact = i.fact; stands = Contains-append_left fs more i.fact i.stands; said = i.said; centre = i.centre; ultimate = i.ultimate; count = i.count; used = used_on s t i.rtr i.fact.under i.rtr.kd g w i.used }

pub mine_on : (fs more : List Fact) (s t : Party) (k : RecordKey) → Goes s t → WaitsMove s t → Mine fs s k → Mine (fs ++ more) t k
mine_on fs more s t k g w (counted own l h r below) = let m = g.ready (sends k.peer k.name.label) l h r in counted (own ∙ sym g.own) m.0 m.1 (m.2.ready r) (omega (arith, below, m.2.next))
mine_on fs more s t k g w (issued other i) = issued (λ e. other (e ∙ g.own)) (issued_on fs more s t k g w i)

pub known_on : (v : Lists) (fs : List Fact) (accs : List Acceptance) (ps : List Member) (s t : Party) (k : RecordKey) → Goes s t → WaitsMove s t → Known v s k → Known (record { members = ps; facts = v.facts ++ fs; acceptances = v.acceptances ++ accs }) t k
known_on v fs accs ps s t k g w (mine own m) = mine (own ∙ sym g.own) (mine_on v.facts fs s t k g w m)
known_on v fs accs ps s t k g w (theirs other peer a) = theirs (λ o. other (o ∙ g.own)) peer (class_more v.acceptances accs OfKsm t.own (to_own k t.own) (subst (λ (p : List ℕ). HasAccepted v.acceptances OfKsm p (to_own k p)) (sym g.own) a))

pub not_equal : (a b : List ℕ) → a ≢ b → bytes_eq a b ≡ false
not_equal a b ne = false_from_ne_true (bytes_eq a b) (λ e. ne ((test_idents.decides a b).0 e))

pub full_mine : (own : List ℕ) (k : RecordKey) → k.name.originator ≡ own → full_at own k ≡ to_peer k
full_mine own k e = let t : bytes_eq k.name.originator own ≡ true = (test_idents.decides k.name.originator own).1 e in rw t refl

pub full_theirs : (own : List ℕ) (k : RecordKey) → k.name.originator ≢ own → full_at own k ≡ to_own k own
full_theirs own k ne = let t : bytes_eq k.name.originator own ≡ false = not_equal k.name.originator own ne in rw t refl

-- one to_peer name has one key
pub one_key : (v : Lists) (s : Party) (j k : RecordKey) → Known v s j → Known v s k → full_at s.own j ≡ full_at s.own k → j ≡ k
one_key v s j k a b e = go a b
  where
    name : j.name ≡ k.name
    name = ap (λ (u : FullName). u.name) e

    org : j.name.originator ≡ k.name.originator
    org i = (name i).originator

    build : j.peer ≡ k.peer → j ≡ k
    build p i = record { peer = p i; name = name i }

    go : Known v s j → Known v s k → j ≡ k
    go (mine o m) (mine q n) = build (ap (λ (u : FullName). u.recipient) (sym (full_mine s.own j o) ∙ (e ∙ full_mine s.own k q)))
    go (mine o m) (theirs q p x) = absurd (q (sym org ∙ o))
    go (theirs o p x) (mine q m) = absurd (o (org ∙ q))
    go (theirs o p x) (theirs q r y) = build (p ∙ (org ∙ sym r))
