-- A new key-encrypting key that is sent: what is decided with what was drawn, and that it can be kept.
use Rattle.std.proofs.Common.{arith, ◌≡◌, ℕ, ◌+◌, ◌≤◌, Bool, true, false, not, ◌&&◌, Result, Option, Some, None, List, [], ◌∷◌, ◌++◌, refl, ap, ◌∙◌, lit≤}
use Rattle.x_base.specs.Count.{IsCount}
use Rattle.x_base.specs.declared.key_name.KeyName.{KeyName}
use Rattle.x_base.specs.declared.text.NoMemory.{NoMemory}
use Rattle.x_base.specs.declared.verdict.Verdict.{Verdict}
use Rattle.x_base.specs.declared.verdict.Verdict.TheVariants.{CountSpent}
use Rattle.csm_write.specs.Shortness.{free_length}
use Rattle.party_state.specs.declared.decision.Decision.{Decision}
use Rattle.party_tables.specs.declared.link.LinkRec.{LinkRec}
use Rattle.party_tables.specs.declared.key.KeyRec.{KeyRec}
use Rattle.party_tables.specs.declared.key.KeyStatus.TheVariants.{Pending}
use Rattle.party_tables.specs.declared.exchange.Exchange.{Exchange}
use Rattle.party_tables.specs.declared.exchange.Kind.TheVariants as kind
use Rattle.party_tables.specs.declared.exchange.Via.TheVariants as vias
use Rattle.party_state.specs.declared.edit.Edit.TheVariants.{SetGen, PutLink, PutKey, PutExchange}
use Rattle.party_tables.specs.Keys.{link_key, record_key}
use Rattle.party_tables.specs.Ranges.{IsFittingExchange}
use Rattle.party_state.specs.State.{Party}
use Rattle.party_state.specs.Verdicts.{Test, verdict_of, TestsHold, is_accept, all_refuse}
use Rattle.party_state.proofs.Verdicts.{held_after}
use Rattle.role_base.specs.Conditions.{has_count, has_key_room, has_link_room}
use Rattle.role_base.specs.Deciding.{decision_of, refusal_of, Decides, AcceptsWith}
use Rattle.role_base.specs.Sending.{next_name}
use Rattle.role_base.specs.Standing.{LinkStands}
use Rattle.role_base.specs.Storable.{AreKeepable}
use Rattle.role_base.specs.Texts.{text_of}
use Rattle.role_base.proofs.ByRow.{by_refused}
use Rattle.role_base.proofs.Decided.{refuses, decides_with}
use Rattle.role_base.proofs.Failing.{unspent}
use Rattle.role_base.proofs.Keeping.{link_room}
use Rattle.role_base.proofs.PartyLaws.{HeldIfAccepted}
use Rattle.role_base.proofs.Spent.{spent_first}
use Rattle.role_base.proofs.Storable.{link_fits, key_fits}
use Rattle.bank_orders.specs.declared.draws.KkDrawn.{KkDrawn}
use Rattle.bank_orders.specs.StartKk.{kk_tests, kk_message, kk_reply, fresh_link, kk_edits, kk_sending}

-- the message has no contents of any length
pub kk_bounded : (p : Party) (l : LinkRec) (new : List ℕ) (single : Bool) (d : KkDrawn) → free_length (kk_message p l new single d) ≤ 64
kk_bounded p l new true d = lit≤ tt
kk_bounded p l new false d = lit≤ tt

refuse_both : (ts us : List Test) → all_refuse ts ≡ true → all_refuse us ≡ true → all_refuse (ts ++ us) ≡ true
refuse_both [] us r s = s
refuse_both (t ∷ ts) us r s = go (is_accept t.1) r (refuse_both ts us)
  where
    go : (w : Bool) → (not w && all_refuse ts) ≡ true → (all_refuse ts ≡ true → all_refuse us ≡ true → all_refuse (ts ++ us) ≡ true) → (not w && all_refuse (ts ++ us)) ≡ true
    go true r ih = cc
    go false r ih = ih r s

-- behind tests that refuse, what is accepted held each of its own
pub kk_held : HeldIfAccepted → (p : Party) (front : List Test) (l : LinkRec) (new : List ℕ) (o : Option KkDrawn) (v : Verdict) → all_refuse front ≡ true → v ≡ verdict_of (front ++ kk_tests p l new o) → is_accept v ≡ true → TestsHold (kk_tests p l new o)
kk_held held p front l new o v r e t = (held_after front (kk_tests p l new o) (held (front ++ kk_tests p l new o) (refuse_both front (kk_tests p l new o) r refl) (rw (← e) t))).1

-- under a link whose counts are spent nothing is sent
pub kk_spent : (p : Party) (front : List Test) (l : LinkRec) (new : List ℕ) (single : Bool) (o : Option KkDrawn) (v : Verdict) → all_refuse front ≡ true → has_count l ≡ false → v ≡ verdict_of (front ++ (false, CountSpent) ∷ []) → refusal_of v ≡ decision_of p (kk_sending p front l new single o)
kk_spent p front l new single None v r h e = ap refusal_of (spent_first front _ (has_count l) v h e) ∙ by_refused p (verdict_of (front ++ kk_tests p l new None))
kk_spent p front l new single (Some d) v r h e = refuses p (kk_sending p front l new single (Some d)) v (spent_first front _ (has_count l) v h e) (rw e (unspent front r)) refl

-- what is decided with what was drawn

pub kk_refused : (p : Party) (front : List Test) (l : LinkRec) (new : List ℕ) (single : Bool) (o : Option KkDrawn) (v : Verdict) → v ≡ verdict_of (front ++ kk_tests p l new o) → is_accept v ≡ false → refusal_of v ≡ decision_of p (kk_sending p front l new single o)
kk_refused p front l new single None v e f = ap refusal_of e ∙ by_refused p (verdict_of (front ++ kk_tests p l new None))
kk_refused p front l new single (Some d) v e f = refuses p (kk_sending p front l new single (Some d)) v e f refl

pub kk_undrawn : (p : Party) (front : List Test) (l : LinkRec) (new : List ℕ) (single : Bool) (o : Option KkDrawn) (v : Verdict) → o ≡ None → v ≡ verdict_of (front ++ kk_tests p l new o) → refusal_of v ≡ decision_of p (kk_sending p front l new single o)
kk_undrawn p front l new single None v i e = ap refusal_of e ∙ by_refused p (verdict_of (front ++ kk_tests p l new None))
kk_undrawn p front l new single (Some d) v i e = cc

pub kk_sent : (result : Result Decision NoMemory) (p : Party) (front : List Test) (l : LinkRec) (new : List ℕ) (single : Bool) (o : Option KkDrawn) (keys : KkDrawn) (v : Verdict) → o ≡ Some keys
    → AcceptsWith p (kk_edits p l new single keys) (Some (kk_reply p l new single keys)) result → v ≡ verdict_of (front ++ kk_tests p l new o) → is_accept v ≡ true
    → Decides p (kk_sending p front l new single o) result
kk_sent result p front l new single None keys v i h e t = cc
kk_sent result p front l new single (Some d) keys v i h e t =
    let j : d ≡ keys = cc in
    decides_with result p (kk_sending p front l new single (Some d)) v (rw j h) e t

-- the edits

pub kk_same : (p : Party) (l : LinkRec) (new : List ℕ) (single : Bool) (keys : KkDrawn) (name : KeyName) (text : List ℕ) → name ≡ next_name p l → text ≡ text_of (kk_reply p l new single keys)
    → (SetGen keys.v ∷ PutLink (record l { next = l.next + 1 }) ∷ PutLink (fresh_link l new keys.pair) ∷ PutKey (record { peer = l.peer; name = name; value = keys.key; status = Pending })
    ∷ PutExchange (record { peer = l.peer; kind = kind.KeySent name (vias.Direct l.label (Some new)); text = text }) ∷ []) ≡ kk_edits p l new single keys
kk_same p l new single keys name text n t = rw (n, t) refl

-- the link in use is put in its place, and for the new one there is room
pub kk_keepable : (p : Party) (l fresh : LinkRec) (k : KeyRec) (e : Exchange) (v n : ℕ) → LinkStands p l → IsCount l.next → n ≡ l.next → fresh.next ≡ 2 → has_link_room p (link_key fresh) ≡ true → has_key_room p (record_key k) ≡ true → IsFittingExchange e
    → AreKeepable p (SetGen v ∷ PutLink (record l { next = n + 1 }) ∷ PutLink fresh ∷ PutKey k ∷ PutExchange e ∷ [])
kk_keepable p l fresh k e v n s c i two place room fits =
    let low = c.low in
    let high = c.high in
    let found = s.found in
    record {
      each = (tt, ((record { low = omega (arith, low, i); high = omega (arith, high, i) }, link_room p l s), ((record { low = omega (arith, two); high = omega (arith, two) }, link_fits p (link_key fresh) place), (key_fits p (record_key k) room, (fits, tt)))));
      order = rw found refl;
    }
