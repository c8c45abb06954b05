-- The change of an error message can be kept.
use Rattle.std.proofs.Common.{◌≡◌, ℕ, ◌≤◌, Bool, true, false, cond, Option, Some, None, Result, IfOk, IfSome, List, [], ◌∷◌, ◌++◌, length, option_map, refl, arith, lit≤}
use Rattle.std.specs.List.{list_any}
use Rattle.x_base.specs.Count.{IsCount}
use Rattle.x_base.specs.declared.text.NoMemory.{NoMemory}
use Rattle.x_base.specs.declared.key_name.KeyName.{KeyName}
use Rattle.csm_grammar.specs.declared.arrival.Arrival.{Arrival}
use Rattle.csm_grammar.specs.declared.message.Esm.{Esm}
use Rattle.party_state.specs.declared.decision.Decision.{Decision}
use Rattle.party_tables.specs.declared.link.LinkKey.{LinkKey}
use Rattle.party_tables.specs.declared.link.LinkRec.{LinkRec}
use Rattle.party_tables.specs.declared.key.KeyRec.{KeyRec}
use Rattle.party_tables.specs.declared.key.KeyStatus.TheVariants.{Ended}
use Rattle.party_tables.specs.declared.exchange.Via.{Via}
use Rattle.party_tables.specs.declared.exchange.Via.TheVariants as vias
use Rattle.party_tables.specs.declared.exchange.Kind.{Kind}
use Rattle.party_tables.specs.declared.exchange.Kind.TheVariants as kind
use Rattle.party_tables.specs.declared.exchange.Exchange.{Exchange}
use Rattle.party_state.specs.declared.edit.Edit.{Edit}
use Rattle.party_state.specs.declared.edit.Edit.TheVariants.{PutKey, DropExchange}
use Rattle.party_tables.specs.Keys.{record_key, sends}
use Rattle.party_tables.specs.Ranges.{IsVia, IsKind, longest_text}
use Rattle.party_state.specs.Ranges.{IsParty}
use Rattle.party_state.specs.State.{Party, centre_label, link_with, exchange_with}
use Rattle.csm_write.specs.Shortness.{CanonShort}
use Rattle.party_state.specs.Rows.{Row}
use Rattle.role_base.specs.Texts.{text_of, is_plain}
use Rattle.role_base.specs.Deciding.{change_of, decision_of, Decides}
use Rattle.role_base.specs.Storable.{IsStorable, can_put_key, AreKeepable, puts_link, AreFew}
use Rattle.role_base.specs.Standing.{LinkStands, KeyStands}
use Rattle.party_tables.specs.Names.{name_behind}
use Rattle.role_base.specs.declared.exchanges.Sent.{Sent}
use Rattle.role_base.specs.declared.exchanges.Twins.{Twins}
use Rattle.bank_arrivals.specs.declared.asking_again.Retry.{Retry}
use Rattle.bank_arrivals.specs.declared.error_message.ErrorSubject.{ErrorSubject}
use Rattle.bank_arrivals.specs.declared.error_message.ErrorSubject.TheVariants.{SentKey, SentTwins, Translated}
use Rattle.role_base.specs.Exchanges.{record_of, both_of, new_link, dropped}
use Rattle.bank_arrivals.specs.AskingAgain.{retry_by, retry_of, retry_in, ers_reply, asked_again}
use Rattle.bank_arrivals.specs.Esm.{subject_by, subject_in, subject_with, is_renewed, via_link, subject_link, raised, error_row, error_of, plain_esm, error}
use Rattle.bank_arrivals.proofs.AskingShort.{IsHeard, IsRetry, is_retry, ers_short}
use Rattle.role_base.proofs.Found.{found_stands, key_stands}
use Rattle.role_base.proofs.Keeping.{link_room, key_room, key_room_behind}
use Rattle.bank_arrivals.proofs.TwinsStanding.{TwinsStand}
use Rattle.role_base.proofs.Kept.{row_kept, made_kept}
use Rattle.role_base.proofs.Counted.{greater_next}
use Rattle.role_base.proofs.PartyLaws.{LinksFound, KeysFound, LinksInRange, ExchangesInRange}

-- the record of a key that an error message speaks of stands, and its way is in its range
abbrev pub SubjectStands : Party → ErrorSubject → Type 0
SubjectStands p (SentKey s) = KeyStands p s.key × IsVia s.via
SubjectStands p (SentTwins t) = TwinsStand p t
SubjectStands p (Translated value cta) = Unit {0}

pub subject_stands : KeysFound → ExchangesInRange → (p : Party) (peer : List ℕ) (s : ErrorSubject) → IsParty p → subject_with p peer ≡ Some s → SubjectStands p s
subject_stands keys in_range p peer s w h = by_exchange (exchange_with peer p) refl h
  where
    by_record : (name : KeyName) (via : Via) (o : Option KeyRec) → IsVia via → record_of p peer name ≡ o → option_map SentKey (option_map (λ (k : KeyRec). let t : Sent = record { key = k; via = via } in t) o) ≡ Some s → SubjectStands p s
    by_record name via None i f h = absurd (cc)
    by_record name via (Some k) i f h =
        let t : Sent = record { key = k; via = via } in
        let e : s ≡ SentKey t = cc in
        rw e (key_stands keys p (record { peer = peer; name = name }) k f, i)

    by_records : (name : KeyName) (a b : Option KeyRec) → record_of p peer name ≡ a → record_of p peer (name_behind name) ≡ b → option_map SentTwins (both_of a b) ≡ Some s → SubjectStands p s
    by_records name None b f g h = absurd (cc)
    by_records name (Some j) None f g h = absurd (cc)
    by_records name (Some j) (Some k) f g h =
        let t : Twins = record { first = j; second = k } in
        let e : s ≡ SentTwins t = cc in
        rw e (record { first = key_stands keys p (record { peer = peer; name = name }) j f; second = key_stands keys p (record { peer = peer; name = name_behind name }) k g })

    by_kind : (x : Kind) → IsKind x → subject_by p peer x ≡ Some s → SubjectStands p s
    by_kind (kind.KeySent name via) i h = by_record name via (record_of p peer name) i.1 refl h
    by_kind (kind.Translating ultimate value cta) i h = let e : s ≡ Translated value cta = cc in rw e tt
    by_kind (kind.Asked ultimate) i h = absurd (cc)
    by_kind (kind.Ending name) i h = absurd (cc)
    by_kind (kind.PairSent name) i h = by_records name (record_of p peer name) (record_of p peer (name_behind name)) refl refl h

    by_exchange : (o : Option Exchange) → exchange_with peer p ≡ o → subject_in p peer o ≡ Some s → SubjectStands p s
    by_exchange None f h = absurd (cc)
    by_exchange (Some e) f h = by_kind e.kind (in_range peer e p w f).kind h

-- a link that is looked up stands
looked_up : LinksFound → LinksInRange → (p : Party) (k : LinkKey) → IsParty p → IfSome (link_with k p) (LinkStands p)
looked_up links in_range p k w = go (link_with k p) refl
  where
    go : (o : Option LinkRec) → link_with k p ≡ o → IfSome o (LinkStands p)
    go None h = tt
    go (Some l) h = found_stands links in_range p k l w h

-- the link whose count the message names stands
pub counted_stands : LinksFound → LinksInRange → (p : Party) (peer : List ℕ) (s : ErrorSubject) → IsParty p → IfSome (subject_link p peer s) (LinkStands p)
counted_stands links in_range p peer (Translated value cta) w = looked_up links in_range p (sends peer centre_label) w
counted_stands links in_range p peer (SentTwins t) w = looked_up links in_range p (sends peer t.first.name.label) w
counted_stands links in_range p peer (SentKey s) w = by_via s.via
  where
    by_label : (label : List ℕ) (b : Bool) → IfSome (cond b None (link_with (sends peer label) p)) (LinkStands p)
    by_label label true = tt
    by_label label false = looked_up links in_range p (sends peer label) w

    by_via : (via : Via) → IfSome (via_link p peer via) (LinkStands p)
    by_via (vias.Direct label new) = by_label label (is_renewed label new)
    by_via (vias.Distribution centre cta) = tt
    by_via (vias.Translation centre) = tt

raised_few : (p : Party) (l : Option LinkRec) (c : Option ℕ) (rest : List Edit) → IfSome l (LinkStands p) → IfSome c IsCount → AreKeepable p rest → list_any puts_link rest ≡ false → length rest ≤ 8 → AreFew p (raised l c ++ rest)
raised_few p None c rest st i t n few = record { keepable = t; few = omega arith }
raised_few p (Some l) None rest st i t n few = record { keepable = t; few = omega arith }
raised_few p (Some l) (Some c) rest st i t n few = record {
  keepable = record { each = ((greater_next l.next c st.range.next i, link_room p l st), t.each); order = rw n t.order };
  few = omega arith;
}

-- where a centre is asked again, its text is short
abbrev pub IsAskedShort : Party → Esm → ℕ → Option Retry → Type 0
IsAskedShort p m value again = IfSome again (λ t. length (text_of (ers_reply p m value t)) ≤ longest_text)

pub asked_short : CanonShort → (p : Party) (m : Esm) (value : ℕ) (again : Option Retry) → IsParty p → IsHeard m → IfSome again IsRetry → IsAskedShort p m value again
asked_short short p m value None w i r = tt
asked_short short p m value (Some t) w i r = ers_short short p m value t w.own i r

-- an error message with an authentication code
about_kept : LinksFound → KeysFound → LinksInRange → ExchangesInRange → CanonShort → (p : Party) (a : Arrival) (m : Esm) (o : Option ErrorSubject) → IsParty p → IsHeard m → IfSome m.ctr IsCount → subject_with p m.originator ≡ o → IsStorable p (change_of p (error_of p a m o (retry_in p o m.ctr)))
about_kept links keys links_in_range in_range short p a m None w g i h = row_kept p (error_of p a m None None) (λ _. record { each = tt; order = refl }) (lit≤ tt)
about_kept links keys links_in_range in_range short p a m (Some s) w g i h = kept (by_subject s (subject_stands keys in_range p m.originator s w h))
  where
    kept : AreFew p (error_row p a m s (retry_of p s m.ctr)).edits → IsStorable p (change_of p (error_row p a m s (retry_of p s m.ctr)))
    kept f = row_kept p (error_row p a m s (retry_of p s m.ctr)) (λ _. f.keepable) f.few

    raised_with : (x : ErrorSubject) (rest : List Edit) → AreKeepable p rest → list_any puts_link rest ≡ false → length rest ≤ 8 → AreFew p (raised (subject_link p m.originator x) m.ctr ++ rest)
    raised_with x rest t n few = raised_few p (subject_link p m.originator x) m.ctr rest (counted_stands links links_in_range p m.originator x w) i t n few

    by_link : (x : Sent) (l : Option LinkRec) (t : Option Retry) → can_put_key p (record_key x.key) ≡ true → IsAskedShort p m x.key.value t → AreFew p (raised (subject_link p m.originator (SentKey x)) m.ctr ++ ((dropped l ++ PutKey (record x.key { status = Ended }) ∷ []) ++ DropExchange m.originator ∷ asked_again p m x.key.value t))
    by_link x None None room c = raised_with (SentKey x) _ (record { each = (room, (tt, tt)); order = refl }) refl (lit≤ tt)
    by_link x None (Some t) room c = raised_with (SentKey x) _ (record { each = (room, (tt, (record { kind = tt; text = c }, tt))); order = refl }) refl (lit≤ tt)
    by_link x (Some l) None room c = raised_with (SentKey x) _ (record { each = (tt, (room, (tt, tt))); order = refl }) refl (lit≤ tt)
    by_link x (Some l) (Some t) room c = raised_with (SentKey x) _ (record { each = (tt, (room, (tt, (record { kind = tt; text = c }, tt)))); order = refl }) refl (lit≤ tt)

    by_subject : (x : ErrorSubject) → SubjectStands p x → AreFew p (error_row p a m x (retry_of p x m.ctr)).edits
    by_subject (SentKey x) st = by_link x (new_link p m.originator x.via) (retry_by p x.via m.ctr) (key_room p x.key st.0) (asked_short short p m x.key.value (retry_by p x.via m.ctr) w g (is_retry p x.via m.ctr st.1 i))
    by_subject (SentTwins t) st = raised_with (SentTwins t) _ (record { each = (key_room p t.first st.first, (key_room_behind _ p t.second st.second, (tt, tt))); order = refl }) refl (lit≤ tt)
    by_subject (Translated value cta) st = raised_with (Translated value cta) _ (record { each = (tt, tt); order = refl }) refl (lit≤ tt)

pub esm_kept : LinksFound → KeysFound → LinksInRange → ExchangesInRange → CanonShort → (p : Party) (a : Arrival) (m : Esm) (made : Result Decision NoMemory) → IsParty p → IsHeard m → IfSome m.ctr IsCount → IfOk made (λ d. d ≡ decision_of p (error p a m)) → Decides p (error p a m) made
esm_kept links keys links_in_range in_range short p a m made w g i e = made_kept p (error p a m) made (by_closing (is_plain a.parsed.shut) (about_kept links keys links_in_range in_range short p a m (subject_with p m.originator) w g i refl)) e
  where
    plain : IsStorable p (change_of p (plain_esm p a m))
    plain = row_kept p (plain_esm p a m) (λ _. record { each = tt; order = refl }) (lit≤ tt)

    about : Row
    about = error_of p a m (subject_with p m.originator) (retry_in p (subject_with p m.originator) m.ctr)

    by_closing : (b : Bool) → IsStorable p (change_of p about) → IsStorable p (change_of p (cond b (plain_esm p a m) about))
    by_closing true k = plain
    by_closing false k = k
