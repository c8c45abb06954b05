-- The edits of an accepted key service message are apart, and those of an accepted centre's answer.
use Rattle.std.proofs.Common.{◌≡◌, ℕ, ◌+◌, Bool, true, false, cond, not, Option, Some, None, List, ◌∷◌, ◌++◌, refl, bytes_eq}
use Rattle.std.proofs.lemmas.Bool.{and_parts, false_from_ne_true}
use Rattle.std.specs.Prelude.{is_none, is_some, ◌&&◌, nat_lt}
use Rattle.x_base.specs.declared.party.Side.TheVariants.{Takes}
use Rattle.csm_grammar.specs.declared.message.Ksm.{Ksm}
use Rattle.csm_grammar.specs.declared.message.KsmBody.{KsmBody}
use Rattle.csm_grammar.specs.declared.message.KsmBody.TheVariants as body
use Rattle.csm_grammar.specs.declared.message.NewKk.{NewKk}
use Rattle.csm_grammar.specs.declared.message.Rtr.{Rtr}
use Rattle.csm_grammar.specs.declared.arrival.Arrival.{Arrival}
use Rattle.party_tables.specs.declared.link.LinkKey.{LinkKey}
use Rattle.party_tables.specs.declared.link.LinkRec.{LinkRec}
use Rattle.party_tables.specs.declared.key.KeyRec.{KeyRec}
use Rattle.party_tables.specs.declared.exchange.Exchange.{Exchange}
use Rattle.party_tables.specs.declared.exchange.Via.{Via}
use Rattle.party_tables.specs.declared.exchange.Via.TheVariants as vias
use Rattle.party_state.specs.declared.edit.Edit.TheVariants.{PutLink, PutKey}
use Rattle.party_tables.specs.Keys.{same_link, link_key, record_key, takes}
use Rattle.party_state.specs.State.{Party, centre_label, link_with, exchange_with, is_usable}
use Rattle.party_tables.specs.Tables.{Distinct}
use Rattle.party_state.specs.Verdicts.{TestsHold, is_accept}
use Rattle.party_tables.proofs.Distinct.{first_found}
use Rattle.party_tables.proofs.Keys.{test_links}
use Rattle.role_base.specs.Apart.{AreApart}
use Rattle.role_base.proofs.PartyLaws.{HeldIfAccepted, LinkLaws, KeyLaws}
use Rattle.role_base.proofs.TwinKeys.{other_record}
use Rattle.role_base.proofs.Beginning.{peers_apart}
use Rattle.bank_keys.proofs.TwoKeys.{OtherKey, others_apart}
use Rattle.bank_keys.specs.declared.waits.KeyAtCentre.{KeyAtCentre}
use Rattle.bank_keys.specs.Waiting.{waiting_in, waiting_with, is_asked_in}
use Rattle.bank_keys.specs.Ksm.{link_in_use, body_link, body_count, body_next, body_new, body_record, second_edits, body_second, body_tests, new_tests, taken_edits, key_row, key_arrives}
use Rattle.bank_keys.specs.Rtr.{passed_on, used_edits, brought_value, brought_tests, brought, translated_tests, translated, rtr_with, rtr}
use Rattle.bank_keys.proofs.NewKeys.{all_refusing, new_held}

-- the link that is found is the one of its key

pub by_key : LinkLaws → (p : Party) (k : LinkKey) (l : LinkRec) → link_with k p ≡ Some l → link_with (link_key l) p ≡ Some l
by_key links p k l h = let e : k ≡ link_key l = links.found k l p h in rw e at h

in_use_stands : LinkLaws → (p : Party) (originator : List ℕ) (idk2 : Option (List ℕ)) (l : LinkRec) → Distinct link_key same_link p.links → link_in_use p originator idk2 ≡ Some l → link_with (link_key l) p ≡ Some l
in_use_stands links p originator None l d h = first_found link_key same_link test_links (is_usable originator Takes) l p.links d h
in_use_stands links p originator (Some label) l d h = go (bytes_eq label centre_label) h
  where
    go : (b : Bool) → cond b None (link_with (takes originator label) p) ≡ Some l → link_with (link_key l) p ≡ Some l
    go true h = absurd (cc)
    go false h = by_key links p (takes originator label) l h

pub body_stands : LinkLaws → (p : Party) (originator : List ℕ) (b : KsmBody) (l : LinkRec) → Distinct link_key same_link p.links → body_link p originator b ≡ Some l → link_with (link_key l) p ≡ Some l
body_stands links p originator (body.Direct idk2 new kd ctp) l d h = in_use_stands links p originator idk2 l d h
body_stands links p originator (body.Centre centre kdu ctb) l d h = by_key links p (takes centre centre_label) l h
body_stands links p originator (body.Twin idk2 first second ctp) l d h = go (nat_lt ctp 99999999999999) h
  where
    go : (b : Bool) → cond b (link_in_use p originator idk2) None ≡ Some l → link_with (link_key l) p ≡ Some l
    go true h = in_use_stands links p originator idk2 l d h
    go false h = absurd (cc)

-- a new link is put beside the one in use

some_none : {A : Type 0} {x : A} {o : Option A} → o ≡ Some x → o ≡ None → ⊥
some_none s n = cc

keys_differ : LinkLaws → (p : Party) (j k : LinkKey) (l : LinkRec) → link_with j p ≡ None → link_with k p ≡ Some l → same_link j k ≡ false
keys_differ links p j k l none some = false_from_ne_true (same_link j k) (λ e. (let i : j ≡ k = (links.same j k).0 e in some_none {x = l} (rw i some) none))

is_free : (label : Bool) (o : Option LinkRec) → (not label && is_none o) ≡ true → o ≡ None
is_free label None h = refl
is_free label (Some l) h = absurd (let t : false ≡ true = (and_parts (not label) false h).1 in cc)

taken_apart : LinkLaws → KeyLaws → (p : Party) (originator : List ℕ) (l : LinkRec) (count up : ℕ) (n : Option (List ℕ × NewKk)) (k : KeyRec) (o : Option KeyRec) → OtherKey k o → link_with (link_key l) p ≡ Some l → TestsHold (new_tests p originator l count n) → AreApart (PutLink (record l { next = up }) ∷ (taken_edits originator l count n ++ PutKey k ∷ second_edits o))
taken_apart links keys p originator l count up None k None ne at t = ((refl, tt), (tt, tt))
taken_apart links keys p originator l count up None k (Some j) ne at t = ((refl, (refl, tt)), ((other_record keys (record_key k) (record_key j) ne, tt), (tt, tt)))
taken_apart links keys p originator l count up (Some n) k None ne at t =
    let free : link_with (takes originator n.0) p ≡ None = is_free (bytes_eq n.0 centre_label) (link_with (takes originator n.0) p) t.0 in
    ((keys_differ links p (takes originator n.0) (link_key l) l free at, (refl, tt)), ((refl, tt), (tt, tt)))
taken_apart links keys p originator l count up (Some n) k (Some j) ne at t =
    let free : link_with (takes originator n.0) p ≡ None = is_free (bytes_eq n.0 centre_label) (link_with (takes originator n.0) p) t.0 in
    ((keys_differ links p (takes originator n.0) (link_key l) l free at, (refl, (refl, tt))), ((refl, (refl, tt)), ((other_record keys (record_key k) (record_key j) ne, tt), (tt, tt))))

key_apart : HeldIfAccepted → LinkLaws → KeyLaws → (p : Party) (a : Arrival) (m : Ksm) (b : KsmBody) (o : Option LinkRec) → Distinct link_key same_link p.links → body_link p m.originator b ≡ o → is_accept (key_row p a m b o).verdict ≡ true → AreApart (key_row p a m b o).edits
key_apart held links keys p a m b None d found t = tt
key_apart held links keys p a m b (Some l) d found t =
    let h : TestsHold (body_tests p a m b l) = held (body_tests p a m b l) (all_refusing p a m b l) t in
    taken_apart links keys p m.originator l (body_count b) (body_next b) (body_new b) (body_record p m b l) (body_second p m b l) (others_apart p m b l) (body_stands links p m.originator b l d found) (new_held p a m b l h).0

pub ksm_apart : HeldIfAccepted → LinkLaws → KeyLaws → (p : Party) (a : Arrival) (m : Ksm) → Distinct link_key same_link p.links → is_accept (key_arrives p a m).verdict ≡ true → AreApart (key_arrives p a m).edits
ksm_apart held links keys p a m d t = key_apart held links keys p a m m.body (body_link p m.originator m.body) d refl t

-- answers of centres: the exchange with the centre goes, and one with another peer comes

asked_there : (o : Option Exchange) (u : List ℕ) → is_asked_in o u ≡ true → is_some o ≡ true
asked_there None u h = cc
asked_there (Some e) u h = refl

waiting_there : (o : Option Exchange) (t : KeyAtCentre) → waiting_in o ≡ Some t → is_some o ≡ true
waiting_there None t h = cc
waiting_there (Some e) t h = refl

passed_apart : (p : Party) (m : Rtr) (used : Option LinkRec) (value : ℕ) (via : Via) → is_some (exchange_with m.originator p) ≡ true → is_none (exchange_with m.ultimate p) ≡ true → AreApart (used_edits used ++ passed_on p m value via)
passed_apart p m None value via there free = ((refl, (refl, tt)), ((peers_apart p m.originator m.ultimate there free, tt), (tt, tt)))
passed_apart p m (Some l) value via there free = ((refl, (refl, (refl, tt))), ((refl, (refl, tt)), ((peers_apart p m.originator m.ultimate there free, tt), (tt, tt))))

with_apart : HeldIfAccepted → (p : Party) (a : Arrival) (m : Rtr) (o : Option (ℕ × ℕ)) → is_accept (rtr_with p a m o).verdict ≡ true → AreApart (rtr_with p a m o).edits
with_apart held p a m (Some k) t = by_link (link_with (takes m.originator centre_label) p) t
  where
    by_link : (o : Option LinkRec) → is_accept (brought p a m k o).verdict ≡ true → AreApart (brought p a m k o).edits
    by_link None t = tt
    by_link (Some l) t =
        let h : TestsHold (brought_tests p a m k l) = held (brought_tests p a m k l) refl t in
        passed_apart p m (Some (record l { next = k.1 + 1 })) (brought_value l k) (vias.Distribution m.originator k.1) (asked_there (exchange_with m.originator p) m.ultimate h.1.1.0) h.1.1.1.0
with_apart held p a m None t = by_waiting (waiting_with p m.originator) refl t
  where
    by_waiting : (o : Option KeyAtCentre) → waiting_with p m.originator ≡ o → is_accept (translated p a m o).verdict ≡ true → AreApart (translated p a m o).edits
    by_waiting None e t = tt
    by_waiting (Some w) e t =
        let h : TestsHold (translated_tests p a m w) = held (translated_tests p a m w) refl t in
        passed_apart p m None w.value (vias.Translation m.originator) (waiting_there (exchange_with m.originator p) w e) h.1.1.1.0

pub rtr_apart : HeldIfAccepted → (p : Party) (a : Arrival) (m : Rtr) → is_accept (rtr p a m).verdict ≡ true → AreApart (rtr p a m).edits
rtr_apart held p a m t = with_apart held p a m m.kd t
