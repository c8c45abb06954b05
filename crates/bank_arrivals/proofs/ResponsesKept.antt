-- The changes of responses can be kept.
use Rattle.std.proofs.Common.{arith, ◌≡◌, ℕ, true, Option, Some, None, Result, IfOk, List, option_map, refl}
use Rattle.x_base.specs.declared.text.NoMemory.{NoMemory}
use Rattle.x_base.specs.declared.key_name.KeyName.{KeyName}
use Rattle.csm_grammar.specs.declared.arrival.Arrival.{Arrival}
use Rattle.csm_grammar.specs.declared.message.Rsm.{Rsm}
use Rattle.party_state.specs.declared.decision.Decision.{Decision}
use Rattle.party_tables.specs.declared.link.LinkRec.{LinkRec}
use Rattle.party_tables.specs.declared.key.KeyRec.{KeyRec}
use Rattle.party_tables.specs.declared.exchange.Via.{Via}
use Rattle.party_tables.specs.declared.exchange.Kind.{Kind}
use Rattle.party_tables.specs.declared.exchange.Kind.TheVariants as kind
use Rattle.party_tables.specs.declared.exchange.Exchange.{Exchange}
use Rattle.party_tables.specs.Keys.{record_key}
use Rattle.party_state.specs.Ranges.{IsParty}
use Rattle.party_state.specs.State.{Party, exchange_with}
use Rattle.role_base.specs.declared.exchanges.Sent.{Sent}
use Rattle.role_base.specs.declared.exchanges.Twins.{Twins}
use Rattle.role_base.specs.Deciding.{change_of, decision_of, Decides}
use Rattle.role_base.specs.Storable.{IsStorable, can_put_key}
use Rattle.role_base.specs.Standing.{LinkStands, KeyStands}
use Rattle.role_base.specs.Exchanges.{record_of, sent_by, sent_in, sent_to, twins_to, ending_by, ending_in, ending_with, new_link}
use Rattle.bank_arrivals.specs.Rsm.{rsm, rsm_with, rsm_to, rsm_twins, rsm_by, answer_to}
use Rattle.role_base.proofs.Found.{new_link_stands, key_stands}
use Rattle.role_base.proofs.Kept.{row_kept, made_kept}
use Rattle.role_base.proofs.Keeping.{link_room, key_room, key_room_behind}
use Rattle.bank_arrivals.proofs.TwinsStanding.{TwinsStand, twins_stand}
use Rattle.role_base.proofs.PartyLaws.{LinksFound, KeysFound, LinksInRange}

-- the record of a key that was sent stands
pub sent_stands : KeysFound → (p : Party) (peer : List ℕ) (s : Sent) → sent_to p peer ≡ Some s → KeyStands p s.key
sent_stands keys p peer s h = by_exchange (exchange_with peer p) h
  where
    by_record : (name : KeyName) (via : Via) (o : Option KeyRec) → record_of p peer name ≡ o → option_map (λ (k : KeyRec). let t : Sent = record { key = k; via = via } in t) o ≡ Some s → KeyStands p s.key
    by_record name via None f h = absurd (cc)
    by_record name via (Some k) f h = let e : s.key ≡ k = cc in rw e (key_stands keys p (record { peer = peer; name = name }) k f)

    by_kind : (k : Kind) → sent_by p peer k ≡ Some s → KeyStands p s.key
    by_kind (kind.KeySent name via) h = by_record name via (record_of p peer name) refl h
    by_kind (kind.Asked ultimate) h = absurd (cc)
    by_kind (kind.Translating ultimate value cta) h = absurd (cc)
    by_kind (kind.Ending name) h = absurd (cc)
    by_kind (kind.PairSent name) h = absurd (cc)

    by_exchange : (o : Option Exchange) → sent_in p peer o ≡ Some s → KeyStands p s.key
    by_exchange None h = absurd (cc)
    by_exchange (Some e) h = by_kind e.kind h

-- the response to a key
rsm_to_kept : LinksFound → KeysFound → LinksInRange → (p : Party) (a : Arrival) (m : Rsm) (o : Option Sent) → IsParty p → sent_to p m.originator ≡ o → IsStorable p (change_of p (rsm_to p a m o))
rsm_to_kept links keys in_range p a m None w h = row_kept p (rsm_to p a m None) (λ _. record { each = tt; order = refl }) (omega arith)
rsm_to_kept links keys in_range p a m (Some s) w h = by_link (new_link p m.originator s.via) refl
  where
    key : can_put_key p (record_key s.key) ≡ true
    key = key_room p s.key (sent_stands keys p m.originator s h)

    by_link : (l : Option LinkRec) → new_link p m.originator s.via ≡ l → IsStorable p (change_of p (rsm_to p a m (Some s)))
    by_link None e = row_kept p (rsm_to p a m (Some s)) (λ _. rw e (record { each = (key, (tt, tt)); order = refl })) (rw e (omega arith))
    by_link (Some l) e = let st : LinkStands p l = new_link_stands links in_range p m.originator s.via l w e in
        row_kept p (rsm_to p a m (Some s)) (λ _. rw e (record { each = ((st.range.next, link_room p l st), (key, (tt, tt))); order = refl })) (rw e (omega arith))

-- the response to two keys, or to one
rsm_by_kept : LinksFound → KeysFound → LinksInRange → (p : Party) (a : Arrival) (m : Rsm) (o : Option Twins) → IsParty p → twins_to p m.originator ≡ o → IsStorable p (change_of p (rsm_by p a m o))
rsm_by_kept links keys in_range p a m None w h = rsm_to_kept links keys in_range p a m (sent_to p m.originator) w refl
rsm_by_kept links keys in_range p a m (Some t) w h =
    let st : TwinsStand p t = twins_stand keys p m.originator t h in
    row_kept p (rsm_twins p a m t) (λ _. record { each = (key_room p t.first st.first, (key_room_behind _ p t.second st.second, (tt, tt))); order = refl }) (omega arith)

pub ending_stands : KeysFound → (p : Party) (peer : List ℕ) (k : KeyRec) → ending_with p peer ≡ Some k → KeyStands p k
ending_stands keys p peer k h = by_exchange (exchange_with peer p) h
  where
    by_kind : (x : Kind) → ending_by p peer x ≡ Some k → KeyStands p k
    by_kind (kind.Ending name) h = key_stands keys p (record { peer = peer; name = name }) k h
    by_kind (kind.KeySent name via) h = absurd (cc)
    by_kind (kind.Asked ultimate) h = absurd (cc)
    by_kind (kind.Translating ultimate value cta) h = absurd (cc)
    by_kind (kind.PairSent name) h = absurd (cc)

    by_exchange : (o : Option Exchange) → ending_in p peer o ≡ Some k → KeyStands p k
    by_exchange None h = absurd (cc)
    by_exchange (Some e) h = by_kind e.kind h

-- the response to the end of a key
answer_to_kept : KeysFound → (p : Party) (a : Arrival) (m : Rsm) (name : KeyName) (o : Option KeyRec) → ending_with p m.originator ≡ o → IsStorable p (change_of p (answer_to p a m name o))
answer_to_kept keys p a m name None h = row_kept p (answer_to p a m name None) (λ _. record { each = tt; order = refl }) (omega arith)
answer_to_kept keys p a m name (Some k) h = row_kept p (answer_to p a m name (Some k)) (λ _. record { each = (key_room p k (ending_stands keys p m.originator k h), (tt, tt)); order = refl }) (omega arith)

pub rsm_kept : LinksFound → KeysFound → LinksInRange → (p : Party) (a : Arrival) (m : Rsm) (made : Result Decision NoMemory) → IsParty p → IfOk made (λ d. d ≡ decision_of p (rsm p a m)) → Decides p (rsm p a m) made
rsm_kept links keys in_range p a m made w e = made_kept p (rsm p a m) made (by_name m.idd) e
  where
    by_name : (o : Option KeyName) → IsStorable p (change_of p (rsm_with p a m o))
    by_name None = rsm_by_kept links keys in_range p a m (twins_to p m.originator) w refl
    by_name (Some name) = answer_to_kept keys p a m name (ending_with p m.originator) refl
