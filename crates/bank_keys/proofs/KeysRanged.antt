-- What the rows of key service messages and of centres' answers put is in range, and what they write is short.
use Rattle.std.proofs.Common.{◌≡◌, ℕ, ◌+◌, ◌<◌, ◌≤◌, ◌^◌, Bool, true, false, cond, Option, Some, None, IfSome, Ok, List, [], ◌∷◌, ◌++◌, length, refl, subst, lit≤, arith}
use Rattle.std.specs.Prelude.{nat_lt}
use Rattle.std.specs.List.{AllByRecursion}
use Rattle.std.proofs.lemmas.Bool.{ltb-true}
use Rattle.x_base.specs.Names.{IsIdent, IsLabel}
use Rattle.x_base.specs.Count.{IsCount}
use Rattle.x_base.specs.KeyName.{IsKeyName}
use Rattle.x_mac.specs.declared.pair.Pair.{Pair}
use Rattle.x_gen.specs.Laws.{OddStays}
use Rattle.x_seal.specs.Wrapped.{unwrap_of, unseal_of}
use Rattle.csm_grammar.specs.declared.arrival.Arrival.{Arrival}
use Rattle.csm_grammar.specs.declared.message.Message.TheVariants as message
use Rattle.csm_grammar.specs.declared.message.Extras.{Extras}
use Rattle.csm_grammar.specs.declared.message.Ksm.{Ksm}
use Rattle.csm_grammar.specs.declared.message.KsmBody.{KsmBody}
use Rattle.csm_grammar.specs.declared.message.KsmBody.TheVariants as body
use Rattle.csm_grammar.specs.declared.message.NewKk.{NewKk}
use Rattle.csm_grammar.specs.declared.message.NewKk.TheVariants as new_kk
use Rattle.csm_grammar.specs.declared.message.Rtr.{Rtr}
use Rattle.csm_grammar.specs.Arrivals.{IsArrived}
use Rattle.csm_grammar.specs.Kinds.{IsFieldOfKind}
use Rattle.csm_grammar.specs.Messages.{body_fields, extra_fields, fields_of}
use Rattle.csm_write.specs.Shortness.{CanonShort}
use Rattle.party_tables.specs.Keys.{link_key, takes}
use Rattle.party_tables.specs.Ranges.{IsWord, IsPair, IsNextCount, IsLink, IsRecord, IsVia, IsKind, longest_text}
use Rattle.party_tables.specs.declared.exchange.Exchange.{Exchange}
use Rattle.party_tables.specs.declared.exchange.Kind.{Kind}
use Rattle.party_tables.specs.declared.exchange.Kind.TheVariants as kind
use Rattle.party_tables.specs.declared.exchange.Via.{Via}
use Rattle.party_tables.specs.declared.exchange.Via.TheVariants as vias
use Rattle.party_tables.specs.declared.link.LinkRec.{LinkRec}
use Rattle.party_state.specs.Ranges.{IsParty}
use Rattle.party_state.specs.State.{Party, centre_label, link_with, exchange_with}
use Rattle.party_state.specs.declared.edit.Edit.{Edit}
use Rattle.party_state.specs.declared.edit.Edit.TheVariants.{PutKey}
use Rattle.party_state.specs.Verdicts.{Test, verdict_of}
use Rattle.role_base.specs.Deciding.{decision_of}
use Rattle.role_base.specs.Ranged.{IsRanged}
use Rattle.role_base.specs.Standing.{LinkStands}
use Rattle.role_base.specs.Texts.{text_of, is_verified}
use Rattle.role_base.proofs.Counted.{next_on}
use Rattle.role_base.proofs.Kept.{row_kept}
use Rattle.role_base.proofs.PartyLaws.{HeldIfAccepted, LinkLaws, LinksInRange, ExchangesInRange}
use Rattle.role_base.proofs.Ranged.{AllInRange, AreRanged, AreCounts, row_ranged, nothing_ranged, refused_kept, coded_short, with_next, error_short}
use Rattle.bank_keys.specs.declared.waits.KeyAtCentre.{KeyAtCentre}
use Rattle.bank_keys.specs.Waiting.{waiting_by, waiting_in, waiting_with}
use Rattle.bank_keys.specs.Ksm.{IsCounted, response, link_in_use, body_link, body_count, body_next, body_name, body_value, body_code, body_counts, body_new, body_record, body_second, second_edits, taken_edits, opened_kk, key_row, key_arrives}
use Rattle.bank_keys.specs.Rtr.{centre_name, centre_ksm, passed_reply, passed_on, used_edits, brought_value, brought_tests, brought, translated_tests, translated, rtr_row, rtr_with, rtr}
use Rattle.bank_keys.proofs.CentreAnswers.{passed_keepable, passed_few, brought_room, translated_room}
use Rattle.bank_keys.proofs.Counts.{key_tells_count}
use Rattle.bank_keys.proofs.KeysApart.{by_key as of_key, body_stands}
use Rattle.bank_keys.proofs.KeysKept.{key_kept}
use Rattle.role_base.proofs.Keeping.{link_room}

-- what a key service message brings

abbrev IsTypedBody : KsmBody → Type 0
IsTypedBody (body.Direct idk2 new kd ctp) = IfSome new (λ (n : List ℕ × NewKk). IsLabel n.0) × IsCount ctp
IsTypedBody (body.Centre centre kdu ctb) = IsIdent centre × IsCount ctb
IsTypedBody (body.Twin idk2 first second ctp) = Unit {0} × IsCount ctp

body_typed : (b : KsmBody) (e : Extras) → AllByRecursion IsFieldOfKind (body_fields b ++ extra_fields e) → IsTypedBody b
body_typed (body.Direct None None kd ctp) e h = (tt, h.1.0)
body_typed (body.Direct (Some idk2) None kd ctp) e h = (tt, h.1.1.0)
body_typed (body.Direct idk2 (Some new) kd ctp) e h = by_new new.1 idk2 h
  where
    by_new : (k : NewKk) (o : Option (List ℕ)) → AllByRecursion IsFieldOfKind (body_fields (body.Direct o (Some (new.0, k)) kd ctp) ++ extra_fields e) → IsLabel new.0 × IsCount ctp
    by_new (new_kk.Double l r) None h = (h.0, h.1.1.1.0)
    by_new (new_kk.Double l r) (Some idk2) h = (h.0, h.1.1.1.1.0)
    by_new (new_kk.Single k) None h = (h.0, h.1.1.1.0)
    by_new (new_kk.Single k) (Some idk2) h = (h.0, h.1.1.1.1.0)
body_typed (body.Centre centre kdu ctb) e h = (h.0, h.1.1.0)
body_typed (body.Twin None first second ctp) e h = (tt, h.1.1.0)
body_typed (body.Twin (Some idk2) first second ctp) e h = (tt, h.1.1.1.0)

count_typed : (b : KsmBody) → IsTypedBody b → IsCount (body_count b)
count_typed (body.Direct idk2 new kd ctp) t = t.1
count_typed (body.Centre centre kdu ctb) t = t.1
count_typed (body.Twin idk2 first second ctp) t = t.1

counts_typed : (b : KsmBody) → IsTypedBody b → AreCounts (body_counts b)
counts_typed (body.Direct idk2 new kd ctp) t = record { ctp = t.1; cta = tt; ctb = tt }
counts_typed (body.Centre centre kdu ctb) t = record { ctp = tt; cta = tt; ctb = t.1 }
counts_typed (body.Twin idk2 first second ctp) t = record { ctp = t.1; cta = tt; ctb = tt }

-- two keys come under a link before the last count alone
body_counted : (p : Party) (originator : List ℕ) (b : KsmBody) (l : LinkRec) → IsTypedBody b → body_link p originator b ≡ Some l → IsCounted b
body_counted p originator (body.Direct idk2 new kd ctp) l t h = tt
body_counted p originator (body.Centre centre kdu ctb) l t h = tt
body_counted p originator (body.Twin idk2 first second ctp) l t h = go (nat_lt ctp 99999999999999) refl h
  where
    go : (b : Bool) → nat_lt ctp 99999999999999 ≡ b → cond b (link_in_use p originator idk2) None ≡ Some l → IsCount (ctp + 1)
    go true e h = let below : ctp < 99999999999999 = ltb-true ctp 99999999999999 e in record { low = omega arith; high = omega (arith, below) }
    go false e h = absurd (cc)

body_stands_in : LinkLaws → LinksInRange → (p : Party) (originator : List ℕ) (b : KsmBody) (l : LinkRec) → IsParty p → body_link p originator b ≡ Some l → LinkStands p l
body_stands_in links in_range p originator b l w h =
    let found = body_stands links p originator b l w.links_once h in
    record { found = found; range = in_range (link_key l) l p w found }

next_in_range : (b : KsmBody) → IsTypedBody b → IsCounted b → IsNextCount (body_next b)
next_in_range (body.Direct idk2 new kd ctp) t c = next_on ctp (ctp + 1) t.1 refl
next_in_range (body.Centre centre kdu ctb) t c = next_on ctb (ctb + 1) t.1 refl
next_in_range (body.Twin idk2 first second ctp) t c = next_on (ctp + 1) (ctp + 2) c (omega arith)

name_in_range : (p : Party) (originator : List ℕ) (b : KsmBody) (l : LinkRec) → IsIdent originator → IsTypedBody b → IsLink l → IsKeyName (body_name p originator b l).name
name_in_range p originator (body.Direct idk2 new kd ctp) l i t r = record { issuer = r.peer; originator = r.peer; label = r.label; count = t.1 }
name_in_range p originator (body.Centre centre kdu ctb) l i t r = record { issuer = t.0; originator = i; label = refl; count = t.1 }
name_in_range p originator (body.Twin idk2 first second ctp) l i t r = record { issuer = r.peer; originator = r.peer; label = r.label; count = t.1 }

-- what is unwrapped, and what is unsealed
pub record OpensBelow : Type 0 where
  pub unwrapped : (kk : Pair) (count sealed : ℕ) → unwrap_of kk count sealed < 2 ^ 64
  pub unsealed : (kk : Pair) (from to : List ℕ) (count sealed : ℕ) → unseal_of kk from to count sealed < 2 ^ 64

value_in_range : OpensBelow → (pair : Pair) (originator receiver : List ℕ) (b : KsmBody) → IsWord (body_value pair originator receiver b)
value_in_range below pair originator receiver (body.Direct idk2 None kd ctp) = below.unwrapped pair ctp kd
value_in_range below pair originator receiver (body.Direct idk2 (Some new) kd ctp) = below.unwrapped (opened_kk pair ctp new.1) 1 kd
value_in_range below pair originator receiver (body.Centre centre kdu ctb) = below.unsealed pair originator receiver ctb kdu
value_in_range below pair originator receiver (body.Twin idk2 first second ctp) = below.unwrapped pair ctp first

opened_in_range : OddStays → (pair : Pair) (count : ℕ) (new : NewKk) → IsPair (opened_kk pair count new)
opened_in_range odd pair count (new_kk.Double left right) = record { left = (odd _).below; right = (odd _).below }
opened_in_range odd pair count (new_kk.Single key) = record { left = (odd _).below; right = (odd _).below }

module _ (odd : OddStays) (below : OpensBelow) (p : Party) (m : Ksm) (l : LinkRec) (w : IsParty p) (i : IsIdent m.originator) (r : IsLink l) where
  taken_in_range : (count : ℕ) (new : Option (List ℕ × NewKk)) → IfSome new (λ (n : List ℕ × NewKk). IsLabel n.0) → AllInRange (taken_edits m.originator l count new)
  taken_in_range count None t = tt
  taken_in_range count (Some n) t = (record { peer = i; label = t; pair = opened_in_range odd l.pair count n.1; next = record { low = omega arith; high = omega arith } }, tt)

  record_in_range : (b : KsmBody) → IsTypedBody b → IsRecord (body_record p m b l)
  record_in_range b t = record { peer = i; name = name_in_range p m.originator b l i t r; value = value_in_range below l.pair m.originator p.own b }

  second_in_range : (b : KsmBody) → IsTypedBody b → IsCounted b → AllInRange (second_edits (body_second p m b l))
  second_in_range (body.Direct idk2 new kd ctp) t c = tt
  second_in_range (body.Centre centre kdu ctb) t c = tt
  second_in_range (body.Twin idk2 first second ctp) t c = (record { peer = i; name = record { issuer = r.peer; originator = r.peer; label = r.label; count = c }; value = below.unwrapped l.pair (ctp + 1) second }, tt)

  new_typed : (b : KsmBody) → IsTypedBody b → IfSome (body_new b) (λ (n : List ℕ × NewKk). IsLabel n.0)
  new_typed (body.Direct idk2 new kd ctp) t = t.0
  new_typed (body.Centre centre kdu ctb) t = tt
  new_typed (body.Twin idk2 first second ctp) t = tt

  held_in_range : (b : KsmBody) → IsTypedBody b → IsCounted b → AllInRange (taken_edits m.originator l (body_count b) (body_new b) ++ PutKey (body_record p m b l) ∷ second_edits (body_second p m b l))
  held_in_range b t c = by_taken (taken_edits m.originator l (body_count b) (body_new b)) (taken_in_range (body_count b) (body_new b) (new_typed b t))
    where
      by_taken : (es : List Edit) → AllInRange es → AllInRange (es ++ PutKey (body_record p m b l) ∷ second_edits (body_second p m b l))
      by_taken [] h = (record_in_range b t, second_in_range b t c)
      by_taken (e ∷ es) h = (h.0, by_taken es h.1)

pub ksm_ranged : CanonShort → OddStays → OpensBelow → HeldIfAccepted → LinkLaws → LinksInRange → (p : Party) (a : Arrival) (m : Ksm) → IsArrived a → a.parsed.message ≡ message.Ksm m → IsParty p → IsRanged p (decision_of p (key_arrives p a m))
ksm_ranged short odd below held links in_range p a m arrived e w = by_link m.body (body_typed m.body m.extras typed.1.1) (body_link p m.originator m.body) refl
  where
    typed : AllByRecursion IsFieldOfKind (fields_of (message.Ksm m))
    typed = rw e at arrived.typed

    by_link : (b : KsmBody) → IsTypedBody b → (o : Option LinkRec) → body_link p m.originator b ≡ o → IsRanged p (decision_of p (key_row p a m b o))
    by_link b t None f = row_ranged p (key_row p a m b None) (refused_kept p _) (nothing_ranged _)
    by_link b t (Some l) f =
        let st : LinkStands p l = body_stands_in links in_range p m.originator b l w f in
        let c : IsCounted b = body_counted p m.originator b l t f in
        row_ranged p (key_row p a m b (Some l)) (key_kept held p a m b l (Ok (decision_of p (key_row p a m b (Some l)))) st (count_typed b t) c refl).kept
        (record {
          edits = λ _. (with_next l (body_next b) st.range (next_in_range b t c), held_in_range odd below p m l w typed.1.0 st.range b t c);
          reply = λ _. coded_short short (response p m.originator) (body_name p m.originator b l) (body_code l.pair m.originator p.own b) (typed.1.0, (w.own, tt)) (lit≤ tt);
          answer = error_short short p m.originator (body_counts b) (key_row p a m b (Some l)).verdict (body_name p m.originator b l) (body_code l.pair m.originator p.own b) w.own typed.1.0 (counts_typed b t)
              (key_tells_count p m b l (is_verified a (body_code l.pair m.originator p.own b)) st.range);
        })

-- answers of centres

pub record IsTypedAnswer (m : Rtr) : Type 0 where
  pub originator : IsIdent m.originator
  pub ultimate : IsIdent m.ultimate
  pub kdu : m.kdu < 2 ^ 64
  pub ctb : IsCount m.ctb
  pub kd : IfSome m.kd (λ (k : ℕ × ℕ). IsCount k.1)

-- what stands behind the ultimate recipient, with a key or without
record IsTypedRest (m : Rtr) (o : Option (ℕ × ℕ)) : Type 0 where
  kdu : m.kdu < 2 ^ 64
  ctb : IsCount m.ctb
  kd : IfSome o (λ (k : ℕ × ℕ). IsCount k.1)

answer_typed : (a : Arrival) (m : Rtr) → IsArrived a → a.parsed.message ≡ message.Rtr m → IsTypedAnswer m
answer_typed a m arrived e = record { originator = h.1.0; ultimate = h.1.1.0; kdu = (rest m.kd h).kdu; ctb = (rest m.kd h).ctb; kd = (rest m.kd h).kd }
  where
    h : AllByRecursion IsFieldOfKind (fields_of (message.Rtr m))
    h = rw e at arrived.typed

    rest : (o : Option (ℕ × ℕ)) → AllByRecursion IsFieldOfKind (fields_of (message.Rtr (record m { kd = o }))) → IsTypedRest m o
    rest None h = record { kdu = h.1.1.1.0; ctb = h.1.1.1.1.0; kd = tt }
    rest (Some k) h = record { kdu = h.1.1.1.1.0; ctb = h.1.1.1.1.1.1.0; kd = h.1.1.1.1.1.0 }

passed_short : CanonShort → (p : Party) (m : Rtr) (value : ℕ) → IsIdent p.own → IsTypedAnswer m → length (text_of (passed_reply p m value)) ≤ longest_text
passed_short short p m value own t = coded_short short (message.Ksm (centre_ksm p m)) (record { name = centre_name p m; recipient = m.ultimate }) value (t.ultimate, (own, (t.originator, (t.kdu, (t.ctb, tt))))) (lit≤ tt)

-- the rows where a key goes on, with the link that brought it, its value and its way
passed_ranged : CanonShort → (p : Party) (m : Rtr) (tests : List Test) (used : Option LinkRec) (value : ℕ) (via : Via) → IsParty p → IsTypedAnswer m → IfSome used IsLink → IsWord value → IsVia via → AreRanged (rtr_row p m tests used value via)
passed_ranged short p m tests used value via w t u v y = record { edits = λ _. by_used used u; reply = λ _. passed_short short p m value w.own t; answer = tt }
  where
    name : IsKeyName (centre_name p m)
    name = record { issuer = t.originator; originator = w.own; label = refl; count = t.ctb }

    rest : AllInRange (passed_on p m value via)
    rest = (record { peer = t.ultimate; name = name; value = v }, (t.originator, (record { peer = t.ultimate; kind = (name, y); text = passed_short short p m value w.own t }, tt)))

    by_used : (o : Option LinkRec) → IfSome o IsLink → AllInRange (used_edits o ++ passed_on p m value via)
    by_used None u = rest
    by_used (Some l) u = (u, rest)

waiting_in_range : ExchangesInRange → (p : Party) (peer : List ℕ) (x : KeyAtCentre) → IsParty p → waiting_with p peer ≡ Some x → IsWord x.value
waiting_in_range in_range p peer x w h = by_exchange (exchange_with peer p) refl h
  where
    by_kind : (k : Kind) → IsKind k → waiting_by k ≡ Some x → IsWord x.value
    by_kind (kind.Translating ultimate value cta) i h =
        let made : KeyAtCentre = record { ultimate = ultimate; value = value; cta = cta } in
        let is : made ≡ x = cc in
        subst (λ (y : KeyAtCentre). IsWord y.value) is i.1
    by_kind (kind.Asked ultimate) i h = absurd (cc)
    by_kind (kind.KeySent name via) i h = absurd (cc)
    by_kind (kind.Ending name) i h = absurd (cc)
    by_kind (kind.PairSent name) i h = absurd (cc)

    by_exchange : (o : Option Exchange) → exchange_with peer p ≡ o → waiting_in o ≡ Some x → IsWord x.value
    by_exchange None f h = absurd (cc)
    by_exchange (Some e) f h = by_kind e.kind (in_range peer e p w f).kind h

pub rtr_ranged : CanonShort → OpensBelow → HeldIfAccepted → LinkLaws → LinksInRange → ExchangesInRange → (p : Party) (a : Arrival) (m : Rtr) → IsArrived a → a.parsed.message ≡ message.Rtr m → IsParty p → IsRanged p (decision_of p (rtr p a m))
rtr_ranged short below held links in_range exchanges_in_range p a m arrived e w = by_key m.kd (answer_typed a m arrived e).kd
  where
    t : IsTypedAnswer m
    t = answer_typed a m arrived e

    by_link : (k : ℕ × ℕ) → IsCount k.1 → (o : Option LinkRec) → link_with (takes m.originator centre_label) p ≡ o → IsRanged p (decision_of p (brought p a m k o))
    by_link k c None f = row_ranged p (brought p a m k None) (refused_kept p _) (nothing_ranged _)
    by_link k c (Some l) f =
        let found = by_link_key l f in
        let r : IsLink l = in_range (link_key l) l p w found in
        let st : LinkStands p l = record { found = found; range = r } in
        let next : IsNextCount (k.1 + 1) = next_on k.1 (k.1 + 1) c refl in
        row_ranged p (brought p a m k (Some l))
        (row_kept p (brought p a m k (Some l))
        (λ h. passed_keepable p m (Some (record l { next = k.1 + 1 })) (brought_value l k) (vias.Distribution m.originator k.1) (next, link_room p l st)
        (brought_room held p m k l (is_verified a (brought_value l k)) (verdict_of (brought_tests p a m k l)) refl h) (passed_short short p m (brought_value l k) w.own t))
        (passed_few p m (Some (record l { next = k.1 + 1 })) (brought_value l k) (vias.Distribution m.originator k.1)))
        (passed_ranged short p m (brought_tests p a m k l) (Some (record l { next = k.1 + 1 })) (brought_value l k) (vias.Distribution m.originator k.1) w t (with_next l (k.1 + 1) r next) (below.unwrapped l.pair k.1 k.0) (t.originator, c))
      where
        by_link_key : (l : LinkRec) → link_with (takes m.originator centre_label) p ≡ Some l → link_with (link_key l) p ≡ Some l
        by_link_key l f = of_key links p (takes m.originator centre_label) l f

    by_waiting : (o : Option KeyAtCentre) → waiting_with p m.originator ≡ o → IsRanged p (decision_of p (translated p a m o))
    by_waiting None f = row_ranged p (translated p a m None) (refused_kept p _) (nothing_ranged _)
    by_waiting (Some x) f =
        row_ranged p (translated p a m (Some x))
        (row_kept p (translated p a m (Some x))
        (λ h. passed_keepable p m None x.value (vias.Translation m.originator) tt
        (translated_room held p m x (is_verified a x.value) (verdict_of (translated_tests p a m x)) refl h) (passed_short short p m x.value w.own t))
        (passed_few p m None x.value (vias.Translation m.originator)))
        (passed_ranged short p m (translated_tests p a m x) None x.value (vias.Translation m.originator) w t tt (waiting_in_range exchanges_in_range p m.originator x w f) t.originator)

    by_key : (o : Option (ℕ × ℕ)) → IfSome o (λ (k : ℕ × ℕ). IsCount k.1) → IsRanged p (decision_of p (rtr_with p a m o))
    by_key (Some k) c = by_link k c (link_with (takes m.originator centre_label) p) refl
    by_key None c = by_waiting (waiting_with p m.originator) refl
