-- The edits of an arrival's row are apart.
use Rattle.std.proofs.Common.{◌≡◌, ◌≢◌, ℕ, max, Bool, true, false, cond, is_some, Option, Some, None, List, [], ◌∷◌, ◌++◌, refl, sym, ap, ◌∙◌, bytes_eq}
use Rattle.std.specs.Prelude.{option_map, is_none, IfSome}
use Rattle.std.proofs.lemmas.Bool.{true≢false, false_from_ne_true}
use Rattle.std.proofs.lemmas.Slice.Eq.{bytes_eq-Decides}
use Rattle.x_base.specs.declared.key_name.KeyName.{KeyName}
use Rattle.x_gen.specs.Gen.{good_draw}
use Rattle.csm_grammar.specs.declared.message.Rsm.{Rsm}
use Rattle.csm_grammar.specs.declared.message.Esm.{Esm}
use Rattle.csm_grammar.specs.declared.message.Dsm.{Dsm}
use Rattle.csm_grammar.specs.declared.message.Rsi.{Rsi}
use Rattle.csm_grammar.specs.declared.arrival.Arrival.{Arrival}
use Rattle.x_base.specs.declared.party.Side.TheVariants.{Sends}
use Rattle.party_tables.specs.declared.link.LinkKey.{LinkKey}
use Rattle.party_tables.specs.declared.link.LinkRec.{LinkRec}
use Rattle.party_tables.specs.declared.key.KeyRec.{KeyRec}
use Rattle.party_tables.specs.declared.key.KeyStatus.TheVariants.{Ended}
use Rattle.party_tables.specs.declared.exchange.Via.{Via}
use Rattle.party_tables.specs.declared.exchange.Via.TheVariants as vias
use Rattle.party_tables.specs.declared.exchange.Kind.{Kind}
use Rattle.party_tables.specs.declared.exchange.Kind.TheVariants as kind
use Rattle.party_tables.specs.declared.exchange.Exchange.{Exchange}
use Rattle.party_state.specs.declared.edit.Edit.{Edit}
use Rattle.party_state.specs.declared.edit.Edit.TheVariants.{PutLink, PutKey, DropExchange}
use Rattle.party_tables.specs.declared.key.RecordKey.{RecordKey}
use Rattle.party_tables.specs.Names.{name_behind}
use Rattle.party_state.specs.Verdicts.{Test}
use Rattle.bank_arrivals.proofs.About.{names_same}
use Rattle.bank_arrivals.proofs.HeardErrors.{IsFree}
use Rattle.bank_arrivals.proofs.Beginning.{retry_in_free}
use Rattle.role_base.specs.declared.exchanges.Twins.{Twins}
use Rattle.bank_arrivals.specs.declared.draws.TwinsDrawn.{TwinsDrawn}
use Rattle.role_base.specs.Conditions.{is_two_keys}
use Rattle.role_base.proofs.TwinKeys.{TwinsAt, twins_at, behind_other, other_record, records_apart}
use Rattle.role_base.proofs.Beginning.{peers_apart}
use Rattle.bank_arrivals.specs.SendingTwins.{twins_drawn, first_pending, second_pending, twins_sending_drawn}
use Rattle.party_tables.specs.Keys.{same_link, same_record, link_key, record_key, same_name, sends}
use Rattle.role_base.specs.Apart.{AreApart}
use Rattle.role_base.proofs.SendingApart.{sending_apart}
use Rattle.party_tables.specs.Statuses.{is_ended}
use Rattle.party_state.specs.State.{Party, centre_label, link_with, exchange_with, first_link}
use Rattle.role_base.specs.declared.exchanges.Sent.{Sent}
use Rattle.bank_arrivals.specs.declared.asking_again.Retry.{Retry}
use Rattle.bank_arrivals.specs.declared.error_message.ErrorSubject.{ErrorSubject}
use Rattle.bank_arrivals.specs.declared.error_message.ErrorSubject.TheVariants.{SentKey, SentTwins, Translated}
use Rattle.bank_arrivals.specs.declared.disconnection.NamedKey.{NamedKey}
use Rattle.role_base.specs.Texts.{is_plain}
use Rattle.role_base.specs.Exchanges.{record_of, sent_to, twins_by, twins_in, twins_to, twins_value, ending_with, new_link_at, new_link, readied, dropped, ended}
use Rattle.role_base.proofs.PartyLaws.{LinkLaws, KeyLaws}
use Rattle.bank_arrivals.specs.Rsi.{rsi_tests, rsi_row, rsi_under, rsi}
use Rattle.bank_arrivals.specs.Rsm.{rsm_to, rsm_by, answer_to, rsm_with, rsm}
use Rattle.bank_arrivals.specs.Esm.{subject_by, subject_in, subject_with, is_renewed, via_link, raised, error_of, error_with, error}
use Rattle.bank_arrivals.specs.AskingAgain.{retry_in, asked_again}
use Rattle.bank_arrivals.specs.Dsm.{named_by, left_by, left_in, dsm_on, dsm}

-- the link of a new key-encrypting key isn't the one under which it went
new_apart : LinkLaws → (p : Party) (peer label : List ℕ) (new : Option (List ℕ)) (l x : LinkRec) → is_renewed label new ≡ false → link_with (sends peer label) p ≡ Some l → new_link_at p peer new ≡ Some x → same_link (link_key x) (link_key l) ≡ false
new_apart links p peer label None l x e f g = absurd (cc)
new_apart links p peer label (Some new) l x e f g =
    let i : sends peer label ≡ link_key l = links.found (sends peer label) l p f in
    let j : sends peer new ≡ link_key x = links.found (sends peer new) x p g in
    false_from_ne_true (same_link (link_key x) (link_key l)) (λ same. (
    let k : link_key x ≡ link_key l = (links.same (link_key x) (link_key l)).0 same in
    let one : new ≡ label = ap (λ (y : LinkKey). y.label) (j ∙ (k ∙ sym i)) in
    true≢false (sym ((bytes_eq-Decides new label).1 one) ∙ e)))

twins_apart : KeyLaws → (p : Party) (front : List Test) (l : LinkRec) (drawn : Option TwinsDrawn) → AreApart (twins_sending_drawn p front l drawn).edits
twins_apart keys p front l None = tt
twins_apart keys p front l (Some d) =
    let ne : record_key (second_pending p l d) ≢ record_key (first_pending p l d) = behind_other (record_key (first_pending p l d)) (record_key (second_pending p l d)) refl in
    ((refl, (refl, (refl, (refl, tt)))), ((refl, (refl, (refl, tt))), ((other_record keys (record_key (first_pending p l d)) (record_key (second_pending p l d)) ne, (refl, tt)), ((refl, tt), (tt, tt)))))

under_apart : KeyLaws → (p : Party) (a : Arrival) (m : Rsi) (moment : ℕ) (o : Option LinkRec) → AreApart (rsi_under p a m o moment).edits
under_apart keys p a m moment None = tt
under_apart keys p a m moment (Some l) = by_service (is_two_keys m.service)
  where
    by_service : (b : Bool) → AreApart (rsi_row p a m l moment b).edits
    by_service true = twins_apart keys p (rsi_tests p a m (Some l)) l (twins_drawn p.generator moment)
    by_service false = sending_apart p (rsi_tests p a m (Some l)) l (good_draw p.generator moment)

pub rsi_apart : KeyLaws → (p : Party) (a : Arrival) (m : Rsi) (moment : ℕ) → AreApart (rsi p a m moment).edits
rsi_apart keys p a m moment = under_apart keys p a m moment (first_link m.originator Sends p)

named_apart : KeyLaws → (p : Party) (a : Arrival) (m : Rsm) (o : Option KeyName) → AreApart (rsm_with p a m o).edits
named_apart keys p a m None = by_twins (twins_to p m.originator) refl
  where
    by_new : (l : Option LinkRec) (k : KeyRec) → AreApart (readied l ++ PutKey k ∷ DropExchange m.originator ∷ [])
    by_new None k = ((refl, tt), (tt, tt))
    by_new (Some l) k = ((refl, (refl, tt)), ((refl, tt), (tt, tt)))

    by_sent : (o : Option Sent) → AreApart (rsm_to p a m o).edits
    by_sent None = tt
    by_sent (Some s) = by_new (new_link p m.originator s.via) _

    by_twins : (o : Option Twins) → twins_to p m.originator ≡ o → AreApart (rsm_by p a m o).edits
    by_twins None h = by_sent (sent_to p m.originator)
    by_twins (Some t) h =
        let at = twins_at p m.originator t h in
        ((other_record keys (record_key t.first) (record_key t.second) (records_apart keys.found p m.originator at.name t.first t.second at.first at.second), (refl, tt)), ((refl, tt), (tt, tt)))
named_apart keys p a m (Some name) = by_record (ending_with p m.originator)
  where
    by_record : (o : Option KeyRec) → AreApart (answer_to p a m name o).edits
    by_record None = tt
    by_record (Some k) = ((refl, tt), (tt, tt))

pub rsm_apart : KeyLaws → (p : Party) (a : Arrival) (m : Rsm) → AreApart (rsm p a m).edits
rsm_apart keys p a m = named_apart keys p a m m.idd

-- an error message speaks of two keys that were sent at once
pub subject_twins : (p : Party) (peer : List ℕ) (t : Twins) → subject_with p peer ≡ Some (SentTwins t) → twins_to p peer ≡ Some t
subject_twins p peer t h = by_exchange (exchange_with peer p) h
  where
    by_option : (o : Option Twins) → option_map SentTwins o ≡ Some (SentTwins t) → o ≡ Some t
    by_option None h = absurd (cc)
    by_option (Some u) h = (let is : u ≡ t = cc in ap (λ (z : Twins). let o : Option Twins = Some z in o) is)

    by_sent : {A : Type 0} (o : Option Sent) → option_map SentKey o ≡ Some (SentTwins t) → A
    by_sent None h = absurd (cc)
    by_sent (Some s) h = absurd (cc)

    by_kind : (k : Kind) → subject_by p peer k ≡ Some (SentTwins t) → twins_by p peer k ≡ Some t
    by_kind (kind.PairSent name) h = by_option (twins_by p peer (kind.PairSent name)) h
    by_kind (kind.KeySent name via) h = by_sent _ h
    by_kind (kind.Asked ultimate) h = absurd (cc)
    by_kind (kind.Translating ultimate value cta) h = absurd (cc)
    by_kind (kind.Ending name) h = absurd (cc)

    by_exchange : (o : Option Exchange) → subject_in p peer o ≡ Some (SentTwins t) → twins_in p peer o ≡ Some t
    by_exchange None h = absurd (cc)
    by_exchange (Some e) h = by_kind e.kind h

-- who is asked again isn't who sent the error message
abbrev IsAway : Esm → Option Retry → Type 0
IsAway m None = Unit {0}
IsAway m (Some t) = bytes_eq t.centre m.originator ≡ false

error_apart : LinkLaws → KeyLaws → (p : Party) (a : Arrival) (m : Esm) (o : Option ErrorSubject) (again : Option Retry) → subject_with p m.originator ≡ o → IsAway m again → AreApart (error_of p a m o again).edits
error_apart links keys p a m None again h away = tt
error_apart links keys p a m (Some (SentTwins t)) again h away = by_link (link_with (sends m.originator t.first.name.label) p) m.ctr again away
  where
    at : TwinsAt p m.originator t
    at = twins_at p m.originator t (subject_twins p m.originator t h)

    other : same_record (record_key t.second) (record_key t.first) ≡ false
    other = other_record keys (record_key t.first) (record_key t.second) (records_apart keys.found p m.originator at.name t.first t.second at.first at.second)

    behind : Option Retry → List Edit
    behind r = (PutKey (record t.first { status = Ended }) ∷ PutKey (record t.second { status = Ended }) ∷ []) ++ DropExchange m.originator ∷ asked_again p m (twins_value t) r

    unraised : (r : Option Retry) → IsAway m r → AreApart (behind r)
    unraised None w = ((other, (refl, tt)), ((refl, tt), (tt, tt)))
    unraised (Some r) w = ((other, (refl, (refl, tt))), ((refl, (refl, tt)), ((w, tt), (tt, tt))))

    by_link : (l : Option LinkRec) (ctr : Option ℕ) (r : Option Retry) → IsAway m r → AreApart (raised l ctr ++ behind r)
    by_link None ctr r w = unraised r w
    by_link (Some l) None r w = unraised r w
    by_link (Some l) (Some n) None w = ((refl, (refl, (refl, tt))), unraised None w)
    by_link (Some l) (Some n) (Some r) w = ((refl, (refl, (refl, (refl, tt)))), unraised (Some r) w)
error_apart links keys p a m (Some (Translated value cta)) again h away = by_link (link_with (sends m.originator centre_label) p) m.ctr again away
  where
    by_link : (l : Option LinkRec) (ctr : Option ℕ) (t : Option Retry) → IsAway m t → AreApart (raised l ctr ++ DropExchange m.originator ∷ asked_again p m value t)
    by_link None ctr None w = (tt, tt)
    by_link None ctr (Some t) w = ((w, tt), (tt, tt))
    by_link (Some l) None None w = (tt, tt)
    by_link (Some l) None (Some t) w = ((w, tt), (tt, tt))
    by_link (Some l) (Some n) None w = ((refl, tt), (tt, tt))
    by_link (Some l) (Some n) (Some t) w = ((refl, (refl, tt)), ((w, tt), (tt, tt)))
error_apart links keys p a m (Some (SentKey s)) again h away = by_via s.via
  where
    -- the link that goes, the key that ends, and what is asked again
    behind : Option LinkRec → Option Retry → List Edit
    behind new t = (dropped new ++ PutKey (record s.key { status = Ended }) ∷ []) ++ DropExchange m.originator ∷ asked_again p m s.key.value t

    unraised : (new : Option LinkRec) (t : Option Retry) → IsAway m t → AreApart (behind new t)
    unraised None None w = ((refl, tt), (tt, tt))
    unraised None (Some t) w = ((refl, (refl, tt)), ((w, tt), (tt, tt)))
    unraised (Some new) None w = ((refl, (refl, tt)), ((refl, tt), (tt, tt)))
    unraised (Some new) (Some t) w = ((refl, (refl, (refl, tt))), ((refl, (refl, tt)), ((w, tt), (tt, tt))))

    raised_first : (new : Option LinkRec) (t : Option Retry) (x : LinkRec) → IsAway m t → IfSome new (λ y. same_link (link_key y) (link_key x) ≡ false) → AreApart (PutLink x ∷ behind new t)
    raised_first None None x w o = ((refl, (refl, tt)), unraised None None w)
    raised_first None (Some t) x w o = ((refl, (refl, (refl, tt))), unraised None (Some t) w)
    raised_first (Some new) None x w o = ((o, (refl, (refl, tt))), unraised (Some new) None w)
    raised_first (Some new) (Some t) x w o = ((o, (refl, (refl, (refl, tt)))), unraised (Some new) (Some t) w)

    by_link : (new o : Option LinkRec) (ctr : Option ℕ) → ((l : LinkRec) → o ≡ Some l → IfSome new (λ y. same_link (link_key y) (link_key l) ≡ false)) → AreApart (raised o ctr ++ behind new again)
    by_link new None ctr f = unraised new again away
    by_link new (Some l) None f = unraised new again away
    by_link new (Some l) (Some n) f = raised_first new again (record l { next = max l.next n }) away (f l refl)

    others : (label : List ℕ) (new : Option (List ℕ)) (l : LinkRec) → is_renewed label new ≡ false → link_with (sends m.originator label) p ≡ Some l → (o : Option LinkRec) → new_link_at p m.originator new ≡ o → IfSome o (λ y. same_link (link_key y) (link_key l) ≡ false)
    others label new l e f None g = tt
    others label new l e f (Some x) g = new_apart links p m.originator label new l x e f g

    by_label : (label : List ℕ) (new : Option (List ℕ)) (b : Bool) → is_renewed label new ≡ b → AreApart (raised (cond b None (link_with (sends m.originator label) p)) m.ctr ++ behind (new_link_at p m.originator new) again)
    by_label label new true e = unraised (new_link_at p m.originator new) again away
    by_label label new false e = by_link (new_link_at p m.originator new) (link_with (sends m.originator label) p) m.ctr (λ l f. others label new l e f (new_link_at p m.originator new) refl)

    by_via : (w : Via) → AreApart (raised (via_link p m.originator w) m.ctr ++ behind (new_link p m.originator w) again)
    by_via (vias.Direct label new) = by_label label new (is_renewed label new) refl
    by_via (vias.Distribution centre cta) = unraised None again away
    by_via (vias.Translation centre) = unraised None again away

-- what an error message speaks of is what an exchange is about
subject_there : (p : Party) (peer : List ℕ) (o : Option Exchange) (s : ErrorSubject) → subject_in p peer o ≡ Some s → is_some o ≡ true
subject_there p peer None s h = absurd (cc)
subject_there p peer (Some e) s h = refl

asks_away : (p : Party) (m : Esm) (o : Option Retry) → is_some (exchange_with m.originator p) ≡ true → IfSome o (IsFree p) → IsAway m o
asks_away p m None there f = tt
asks_away p m (Some t) there f = peers_apart p m.originator t.centre there (ap is_none f)

pub esm_apart : LinkLaws → KeyLaws → (p : Party) (a : Arrival) (m : Esm) → AreApart (error p a m).edits
esm_apart links keys p a m = go (is_plain a.parsed.shut)
  where
    away : (o : Option ErrorSubject) → subject_with p m.originator ≡ o → IsAway m (retry_in p o m.ctr)
    away None h = tt
    away (Some s) h = asks_away p m (retry_in p (Some s) m.ctr) (subject_there p m.originator (exchange_with m.originator p) s h) (retry_in_free p (Some s) m.ctr)

    go : (b : Bool) → AreApart (error_with p a m b (retry_in p (subject_with p m.originator) m.ctr)).edits
    go true = tt
    go false = error_apart links keys p a m (subject_with p m.originator) (retry_in p (subject_with p m.originator) m.ctr) refl (away (subject_with p m.originator) refl)

-- a key that is put, with what goes before it and behind it
abbrev around : KeyRec → List Edit × List Edit → List Edit
around k gone = gone.0 ++ (PutKey k ∷ gone.1)

on_apart : KeyLaws → (p : Party) (a : Arrival) (m : Dsm) (o : Option NamedKey) → AreApart (dsm_on p a m o).edits
on_apart keys p a m None = tt
on_apart keys p a m (Some n) = by_status (is_ended n.key.status)
  where
    ends : KeyRec
    ends = record n.key { status = Ended }

    gone : (l : Option LinkRec) → AreApart (dropped l ++ (PutKey ends ∷ DropExchange m.originator ∷ []))
    gone None = ((refl, tt), (tt, tt))
    gone (Some l) = ((refl, (refl, tt)), ((refl, tt), (tt, tt)))

    by_sent : (l : Option LinkRec) (b : Bool) → AreApart (around ends (cond b (dropped l, DropExchange m.originator ∷ []) ([], [])))
    by_sent l true = gone l
    by_sent l false = (tt, tt)

    by_ending : (b : Bool) → AreApart (around ends (cond b ([], DropExchange m.originator ∷ []) ([], [])))
    by_ending true = ((refl, tt), (tt, tt))
    by_ending false = (tt, tt)

    by_pair : (sent : KeyName) (j k : Option KeyRec) → record_of p m.originator sent ≡ j → record_of p m.originator (name_behind sent) ≡ k → (b c : Bool) → same_name n.key.name sent ≡ b → same_name n.key.name (name_behind sent) ≡ c
        → AreApart (around ends (cond b ([], ended k ++ DropExchange m.originator ∷ []) (cond c (ended j, DropExchange m.originator ∷ []) ([], []))))
    by_pair sent j None f g true c b_is c_is = ((refl, tt), (tt, tt))
    by_pair sent j (Some k) f g true c b_is c_is =
        let name : n.key.name ≡ sent = (names_same keys n.key.name sent).0 b_is in
        let key : record { peer = m.originator; name = name_behind sent } ≡ record_key k = keys.found (record { peer = m.originator; name = name_behind sent }) k p g in
        let ne : record_key k ≢ record_key ends = behind_other (record_key ends) (record_key k) (ap (λ (z : RecordKey). z.name) (sym key) ∙ ap name_behind (sym name)) in
        ((other_record keys (record_key ends) (record_key k) ne, (refl, tt)), ((refl, tt), (tt, tt)))
    by_pair sent None k f g false true b_is c_is = ((refl, tt), (tt, tt))
    by_pair sent (Some j) k f g false true b_is c_is =
        let name : n.key.name ≡ name_behind sent = (names_same keys n.key.name (name_behind sent)).0 c_is in
        let key : record { peer = m.originator; name = sent } ≡ record_key j = keys.found (record { peer = m.originator; name = sent }) j p f in
        let ne : record_key ends ≢ record_key j = behind_other (record_key j) (record_key ends) (name ∙ ap (λ (z : RecordKey). name_behind z.name) key) in
        ((other_record keys (record_key j) (record_key ends) ne, (refl, tt)), ((refl, tt), (tt, tt)))
    by_pair sent j k f g false false b_is c_is = (tt, tt)

    by_kind : (k : Kind) → AreApart (around ends (left_by p m.originator n.key.name k))
    by_kind (kind.KeySent sent via) = by_sent (new_link p m.originator via) (same_name n.key.name sent)
    by_kind (kind.Ending ending) = by_ending (same_name n.key.name ending)
    by_kind (kind.Asked ultimate) = (tt, tt)
    by_kind (kind.Translating ultimate value cta) = (tt, tt)
    by_kind (kind.PairSent sent) = by_pair sent (record_of p m.originator sent) (record_of p m.originator (name_behind sent)) refl refl (same_name n.key.name sent) (same_name n.key.name (name_behind sent)) refl refl

    by_exchange : (o : Option Exchange) → AreApart (around ends (left_in p m.originator n.key.name o))
    by_exchange None = (tt, tt)
    by_exchange (Some e) = by_kind e.kind

    by_status : (b : Bool) → AreApart (cond b [] (around ends (left_in p m.originator n.key.name (exchange_with m.originator p))))
    by_status true = tt
    by_status false = by_exchange (exchange_with m.originator p)

pub dsm_apart : KeyLaws → (p : Party) (a : Arrival) (m : Dsm) → AreApart (dsm p a m).edits
dsm_apart keys p a m = on_apart keys p a m (named_by p m)
