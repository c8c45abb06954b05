-- The rows of the messages that arrive at a bank.
use Rattle.std.specs.List.{AllByRecursion}
use Rattle.party_state.specs.Rows.{Row}
use Rattle.bank_keys.specs.Ksm.{body_link}
use Rattle.bank_arrivals.specs.declared.asking_again.Retry.{Retry}
use Rattle.bank_arrivals.specs.AskingAgain.{asked_again, retry_in}
use Rattle.bank_arrivals.specs.Esm.{error_row, error_of, error_with}
use Rattle.member.specs.BankRows.{message_row}
use Rattle.world_laws.proofs.Counting.Sound.{SoundRow}
use Rattle.world_laws.proofs.Counting.Quiet.{IsQuiet, all_fine, all_calm, no_free}
use Rattle.world_laws.proofs.Sound.Keys.{key_row_sound}
use Rattle.world_laws.proofs.Sound.Answers.{rtr_sound}
use Rattle.std.proofs.Common.{arith, ◌≡◌, ℕ, max, inl, Bool, true, false, cond, Option, Some, None, List, [], ◌∷◌, ◌++◌, refl}
use Rattle.x_base.specs.declared.key_name.KeyName.{KeyName}
use Rattle.x_base.specs.declared.party.Side.TheVariants.{Sends}
use Rattle.x_gen.specs.Gen.{good_draw}
use Rattle.csm_grammar.specs.declared.message.Rsi.{Rsi}
use Rattle.csm_grammar.specs.declared.message.Rsm.{Rsm}
use Rattle.csm_grammar.specs.declared.message.Esm.{Esm}
use Rattle.csm_grammar.specs.declared.message.Dsm.{Dsm}
use Rattle.csm_grammar.specs.declared.message.Message.{Message}
use Rattle.csm_grammar.specs.declared.message.Message.TheVariants as message
use Rattle.csm_grammar.specs.declared.arrival.Arrival.{Arrival}
use Rattle.csm_grammar.specs.Spelling.{Says}
use Rattle.party_tables.specs.declared.link.LinkRec.{LinkRec}
use Rattle.party_tables.specs.declared.key.KeyRec.{KeyRec}
use Rattle.party_tables.specs.declared.key.KeyStatus.TheVariants.{Ended, Live}
use Rattle.party_state.specs.declared.edit.Edit.{Edit}
use Rattle.party_state.specs.declared.edit.Edit.TheVariants.{PutKey, DropExchange, PutLink}
use Rattle.party_tables.specs.Keys.{link_key, same_name}
use Rattle.party_tables.specs.Statuses.{is_ended}
use Rattle.party_state.specs.State.{Party, link_with, first_link, apply, apply_edit, exchange_with}
use Rattle.party_state.specs.Verdicts.{verdict_of, is_accept}
use Rattle.role_base.specs.declared.exchanges.Sent.{Sent}
use Rattle.bank_arrivals.specs.declared.error_message.ErrorSubject.{ErrorSubject}
use Rattle.bank_arrivals.specs.declared.error_message.ErrorSubject.TheVariants.{SentKey, SentTwins, Translated}
use Rattle.bank_arrivals.specs.declared.disconnection.NamedKey.{NamedKey}
use Rattle.csm_grammar.specs.Arrivals.{authenticated_text}
use Rattle.role_base.specs.Texts.{is_plain}
use Rattle.role_base.specs.declared.exchanges.Twins.{Twins}
use Rattle.party_tables.specs.Names.{name_behind}
use Rattle.role_base.specs.Conditions.{is_two_keys}
use Rattle.role_base.specs.Exchanges.{record_of, new_link, sent_to, twins_to, twins_value, ending_with, readied, dropped, ended}
use Rattle.bank_arrivals.specs.SendingTwins.{twins_drawn}
use Rattle.bank_arrivals.specs.Rsi.{rsi_tests, rsi_row, rsi_under}
use Rattle.bank_arrivals.specs.Rsm.{rsm_front, end_front, rsm_to, rsm_twins, rsm_by, answer_to, rsm_with}
use Rattle.bank_arrivals.specs.Esm.{subject_with, subject_link, raised, subject_accepted, esm_front, plain_esm}
use Rattle.bank_arrivals.specs.Dsm.{named_by, dsm_front, dsm_on, left_by, left_in}
use Rattle.world_laws.proofs.Links.Growth.{AllFine, next_up}
use Rattle.world_laws.proofs.Links.Found.{HasLinks, FirstAt, first_at}
use Rattle.world_laws.proofs.Links.Waiting.{Waits, MayGo, change_waits, readied_waits, new_may_go, may_go_on}
use Rattle.world_laws.proofs.Counting.Sound.{IsSound}
use Rattle.world_laws.proofs.Counting.Quiet.{NoKsm, pairs_none, no_new, quiet_sound, refused_sound, Passes, passes_sound}
use Rattle.world_laws.proofs.Sound.Exchanges.{SentAt, sent_at, new_peer, subject_sent, subject_link_at}
use Rattle.world_laws.proofs.Sound.Commands.{sending_sound}
use Rattle.world_laws.proofs.Sound.TwinKeys.{twins_sound}
use Rattle.party_tables.specs.declared.exchange.Exchange.{Exchange}
use Rattle.party_tables.specs.declared.exchange.Via.{Via}
use Rattle.party_tables.specs.declared.exchange.Kind.{Kind}
use Rattle.party_tables.specs.declared.exchange.Kind.TheVariants as kind

pub rsi_sound : (p : Party) (a : Arrival) (m : Rsi) (moment : ℕ) (o : Option LinkRec) → HasLinks p → first_link m.originator Sends p ≡ o → IsSound None p (authenticated_text a) (rsi_under p a m o moment)
rsi_sound p a m moment None d h = refused_sound p (authenticated_text a) (verdict_of (rsi_tests p a m None))
rsi_sound p a m moment (Some l) d h = by_service (is_two_keys m.service)
  where
    f : FirstAt p m.originator Sends l
    f = first_at p m.originator Sends l d h

    by_service : (b : Bool) → IsSound None p (authenticated_text a) (rsi_row p a m l moment b)
    by_service true = twins_sound p (authenticated_text a) (rsi_tests p a m (Some l)) m.originator l (twins_drawn p.generator moment) (record { at = f.at; ready = f.ready })
    by_service false = sending_sound p (authenticated_text a) (rsi_tests p a m (Some l)) m.originator l (good_draw p.generator moment) (record { at = f.at; ready = f.ready })

-- its answers

rsm_sound : (p : Party) (a : Arrival) (m : Rsm) (o : Option Sent) → Waits p → sent_to p m.originator ≡ o → IsSound None p (authenticated_text a) (rsm_to p a m o)
rsm_sound p a m None w h = refused_sound p (authenticated_text a) (verdict_of (rsm_front p m None))
rsm_sound p a m (Some s) w h = record {
  made = no_new None;
  free = no_free p;
  edits = (by_link (new_link p m.originator s.via) refl).0;
  waits = (by_link (new_link p m.originator s.via) refl).1;
  uses = tt;
  apart = pairs_none;
  accepts = λ class. absurd (cc);
}
  where
    at : SentAt p m.originator s
    at = sent_at p m.originator s h

    by_link : (o : Option LinkRec) → new_link p m.originator s.via ≡ o → AllFine None p (readied o ++ PutKey (record s.key { status = Live }) ∷ DropExchange m.originator ∷ []) × (Waits p → Waits (apply (readied o ++ PutKey (record s.key { status = Live }) ∷ DropExchange m.originator ∷ []) p))
    by_link None e = ((tt, (tt, tt)), change_waits (PutKey (record s.key { status = Live }) ∷ DropExchange m.originator ∷ []) p (tt, (tt, tt)))
    by_link (Some l) e =
        let g = new_may_go p m.originator at.exchange at.name s.via w at.at at.kind_is l e in (
          (inl (l, g.0, record { peer = refl; label = refl; side = refl; pair = refl; next = omega arith; ready = λ r. refl; ready_takes = λ t. absurd (let side = g.1.side in cc) }), (tt, (tt, tt))),
          readied_waits p m.originator (record l { ready = true }) (record s.key { status = Live }) (via_peer l e),
        )
      where
        via_peer : (l : LinkRec) → new_link p m.originator s.via ≡ Some l → l.peer ≡ m.originator
        via_peer l e = new_peer p m.originator s.via l e

pub answer_sound : (p : Party) (a : Arrival) (m : Rsm) (name : KeyName) (o : Option KeyRec) → IsSound None p (authenticated_text a) (answer_to p a m name o)
answer_sound p a m name None = refused_sound p (authenticated_text a) (verdict_of (end_front p m name None))
answer_sound p a m name (Some k) = quiet_sound p (authenticated_text a) (answer_to p a m name (Some k)) (tt, (tt, tt)) refl (λ k e class. absurd (cc))

rsm_row_sound : (p : Party) (a : Arrival) (m : Rsm) (o : Option KeyName) → Waits p → IsSound None p (authenticated_text a) (rsm_with p a m o)
rsm_row_sound p a m None n = by_twins (twins_to p m.originator)
  where
    by_twins : (t : Option Twins) → IsSound None p (authenticated_text a) (rsm_by p a m t)
    by_twins None = rsm_sound p a m (sent_to p m.originator) n refl
    by_twins (Some t) = quiet_sound p (authenticated_text a) (rsm_twins p a m t) (tt, (tt, (tt, tt))) refl (λ k e class. absurd (cc))
rsm_row_sound p a m (Some name) n = answer_sound p a m name (ending_with p m.originator)

-- an error message

-- a link that may go, a record and an exchange, and what is quiet behind them
one_gone : (p : Party) (peer : List ℕ) (o : Option LinkRec) (k : KeyRec) (more : List Edit) → AllByRecursion IsQuiet more → ((l : LinkRec) → o ≡ Some l → MayGo p l) → Passes p ((dropped o ++ PutKey k ∷ []) ++ DropExchange peer ∷ more)
one_gone p peer None k more q f = ((tt, (tt, all_fine more _ q)), (tt, (tt, all_calm more _ q)))
one_gone p peer (Some l) k more q f = let g = f l refl in (((g.side, (g.link, g.found, g.unready)), (tt, (tt, all_fine more _ q))), (tt, (tt, (tt, all_calm more _ q))))

-- a count is raised, and what is given up goes
raised_passes : (p : Party) (peer : List ℕ) (found : Option LinkRec) (ctr : Option ℕ) (o : Option LinkRec) (k : KeyRec) (more : List Edit) → AllByRecursion IsQuiet more → ((l : LinkRec) → found ≡ Some l → link_with (link_key l) p ≡ Some l) → ((l : LinkRec) → o ≡ Some l → MayGo p l) → Passes p (raised found ctr ++ ((dropped o ++ PutKey k ∷ []) ++ DropExchange peer ∷ more))
raised_passes p peer None ctr o k more q f g = one_gone p peer o k more q g
raised_passes p peer (Some l) None o k more q f g = one_gone p peer o k more q g
raised_passes p peer (Some l) (Some n) o k more q f g = by_gone o g
  where
    at : link_with (link_key l) p ≡ Some l
    at = f l refl

    by_gone : (o : Option LinkRec) → ((j : LinkRec) → o ≡ Some j → MayGo p j) → Passes p (PutLink (record l { next = max l.next n }) ∷ ((dropped o ++ PutKey k ∷ []) ++ DropExchange peer ∷ more))
    by_gone None g = ((inl (l, at, next_up l (max l.next n) (omega arith)), (tt, (tt, all_fine more _ q))), ((l, at, refl), (tt, (tt, all_calm more _ q))))
    by_gone (Some j) g =
        let d : MayGo (apply_edit (PutLink (record l { next = max l.next n })) p) j = may_go_on p (record l { next = max l.next n }) l j at refl (g j refl) in
        ((inl (l, at, next_up l (max l.next n) (omega arith)), ((d.side, (d.link, d.found, d.unready)), (tt, (tt, all_fine more _ q)))), ((l, at, refl), (tt, (tt, (tt, all_calm more _ q)))))

raised_alone : (p : Party) (peer : List ℕ) (found : Option LinkRec) (ctr : Option ℕ) (more : List Edit) → AllByRecursion IsQuiet more → ((l : LinkRec) → found ≡ Some l → link_with (link_key l) p ≡ Some l) → Passes p (raised found ctr ++ DropExchange peer ∷ more)
raised_alone p peer None ctr more q f = ((tt, all_fine more _ q), (tt, all_calm more _ q))
raised_alone p peer (Some l) None more q f = ((tt, all_fine more _ q), (tt, all_calm more _ q))
raised_alone p peer (Some l) (Some n) more q f = ((inl (l, f l refl, next_up l (max l.next n) (omega arith)), (tt, all_fine more _ q)), ((l, f l refl, refl), (tt, all_calm more _ q)))

-- a count is raised, and two keys end
raised_twice : (p : Party) (peer : List ℕ) (found : Option LinkRec) (ctr : Option ℕ) (j k : KeyRec) (more : List Edit) → AllByRecursion IsQuiet more → ((l : LinkRec) → found ≡ Some l → link_with (link_key l) p ≡ Some l) → Passes p (raised found ctr ++ ((PutKey j ∷ PutKey k ∷ []) ++ DropExchange peer ∷ more))
raised_twice p peer None ctr j k more q f = ((tt, (tt, (tt, all_fine more _ q))), (tt, (tt, (tt, all_calm more _ q))))
raised_twice p peer (Some l) None j k more q f = ((tt, (tt, (tt, all_fine more _ q))), (tt, (tt, (tt, all_calm more _ q))))
raised_twice p peer (Some l) (Some n) j k more q f = ((inl (l, f l refl, next_up l (max l.next n) (omega arith)), (tt, (tt, (tt, all_fine more _ q)))), ((l, f l refl, refl), (tt, (tt, (tt, all_calm more _ q)))))

pub esm_no_ksm : (p : Party) (s : ErrorSubject) → NoKsm (subject_accepted p s)
esm_no_ksm p (SentKey s) a e class = absurd (cc)
esm_no_ksm p (SentTwins t) a e class = absurd (cc)
esm_no_ksm p (Translated value cta) a e class = absurd (cc)

again_quiet : (p : Party) (m : Esm) (value : ℕ) (t : Option Retry) → AllByRecursion IsQuiet (asked_again p m value t)
again_quiet p m value None = tt
again_quiet p m value (Some t) = (refl, tt)

-- the edits of an error message that is taken, whether a centre is asked again or not
pub error_passes : (p : Party) (a : Arrival) (m : Esm) (s : ErrorSubject) (again : Option Retry) → Waits p → subject_with p m.originator ≡ Some s → Passes p (error_row p a m s again).edits
error_passes p a m (SentKey s) again w h =
    let at : SentAt p m.originator s = sent_at p m.originator s (subject_sent p m.originator s h) in
    raised_passes p m.originator (subject_link p m.originator (SentKey s)) m.ctr (new_link p m.originator s.via) (record s.key { status = Ended }) (asked_again p m s.key.value again) (again_quiet p m s.key.value again) (λ l e. subject_link_at p m.originator (SentKey s) l e) (λ l e. (new_may_go p m.originator at.exchange at.name s.via w at.at at.kind_is l e).1)
error_passes p a m (SentTwins t) again w h = raised_twice p m.originator (subject_link p m.originator (SentTwins t)) m.ctr (record t.first { status = Ended }) (record t.second { status = Ended }) (asked_again p m (twins_value t) again) (again_quiet p m (twins_value t) again) (λ l e. subject_link_at p m.originator (SentTwins t) l e)
error_passes p a m (Translated value cta) again w h = raised_alone p m.originator (subject_link p m.originator (Translated value cta)) m.ctr (asked_again p m value again) (again_quiet p m value again) (λ l e. subject_link_at p m.originator (Translated value cta) l e)

esm_sound : (p : Party) (a : Arrival) (m : Esm) (o : Option ErrorSubject) (again : Option Retry) → Waits p → subject_with p m.originator ≡ o → IsSound None p (authenticated_text a) (error_of p a m o again)
esm_sound p a m None again w h = refused_sound p (authenticated_text a) (verdict_of (esm_front p m None))
esm_sound p a m (Some s) again w h = passes_sound p (authenticated_text a) (error_row p a m s again) (error_passes p a m s again w h) refl (esm_no_ksm p s)

pub error_sound : (p : Party) (a : Arrival) (m : Esm) (b : Bool) (again : Option Retry) → Waits p → IsSound None p (authenticated_text a) (error_with p a m b again)
error_sound p a m true again n = quiet_sound p (authenticated_text a) (plain_esm p a m) tt refl (λ k e. absurd (cc))
error_sound p a m false again n = esm_sound p a m (subject_with p m.originator) again n refl

-- the end of a key

-- what goes with the key, before it and behind it
abbrev around : KeyRec → List Edit × List Edit → List Edit
around k gone = gone.0 ++ (PutKey k ∷ gone.1)

pub dsm_passes : (p : Party) (a : Arrival) (m : Dsm) (n : NamedKey) → Waits p → Passes p (dsm_on p a m (Some n)).edits
dsm_passes p a m n w = by_status (is_ended n.key.status)
  where
    by_sent : (e : Exchange) (name : KeyName) (via : Via) → exchange_with m.originator p ≡ Some e → e.kind ≡ kind.KeySent name via → (o : Option LinkRec) → new_link p m.originator via ≡ o → (b : Bool) → Passes p (around (record n.key { status = Ended }) (cond b (dropped o, DropExchange m.originator ∷ []) ([], [])))
    by_sent e name via at is None l true = ((tt, (tt, tt)), (tt, (tt, tt)))
    by_sent e name via at is (Some j) l true = let g = (new_may_go p m.originator e name via w at is j l).1 in (((g.side, (g.link, g.found, g.unready)), (tt, (tt, tt))), (tt, (tt, (tt, tt))))
    by_sent e name via at is o l false = ((tt, tt), (tt, tt))

    by_ending : (b : Bool) → Passes p (around (record n.key { status = Ended }) (cond b ([], DropExchange m.originator ∷ []) ([], [])))
    by_ending true = ((tt, (tt, tt)), (tt, (tt, tt)))
    by_ending false = ((tt, tt), (tt, tt))

    -- of two keys the other ends too
    by_pair : (first second : Option KeyRec) (b c : Bool) → Passes p (around (record n.key { status = Ended }) (cond b ([], ended second ++ DropExchange m.originator ∷ []) (cond c (ended first, DropExchange m.originator ∷ []) ([], []))))
    by_pair first None true c = ((tt, (tt, tt)), (tt, (tt, tt)))
    by_pair first (Some k) true c = ((tt, (tt, (tt, tt))), (tt, (tt, (tt, tt))))
    by_pair None second false true = ((tt, (tt, tt)), (tt, (tt, tt)))
    by_pair (Some k) second false true = ((tt, (tt, (tt, tt))), (tt, (tt, (tt, tt))))
    by_pair first second false false = ((tt, tt), (tt, tt))

    by_kind : (e : Exchange) → exchange_with m.originator p ≡ Some e → (k : Kind) → e.kind ≡ k → Passes p (around (record n.key { status = Ended }) (left_by p m.originator n.key.name k))
    by_kind e at (kind.KeySent name via) is = by_sent e name via at is (new_link p m.originator via) refl (same_name n.key.name name)
    by_kind e at (kind.Ending name) is = by_ending (same_name n.key.name name)
    by_kind e at (kind.Asked ultimate) is = ((tt, tt), (tt, tt))
    by_kind e at (kind.Translating ultimate value cta) is = ((tt, tt), (tt, tt))
    by_kind e at (kind.PairSent name) is = by_pair (record_of p m.originator name) (record_of p m.originator (name_behind name)) (same_name n.key.name name) (same_name n.key.name (name_behind name))

    by_exchange : (o : Option Exchange) → exchange_with m.originator p ≡ o → Passes p (around (record n.key { status = Ended }) (left_in p m.originator n.key.name o))
    by_exchange None at = ((tt, tt), (tt, tt))
    by_exchange (Some e) at = by_kind e at e.kind refl

    by_status : (b : Bool) → Passes p (cond b [] (around (record n.key { status = Ended }) (left_in p m.originator n.key.name (exchange_with m.originator p))))
    by_status true = (tt, tt)
    by_status false = by_exchange (exchange_with m.originator p) refl

dsm_sound : (p : Party) (a : Arrival) (m : Dsm) (o : Option NamedKey) → Waits p → IsSound None p (authenticated_text a) (dsm_on p a m o)
dsm_sound p a m None w = refused_sound p (authenticated_text a) (verdict_of (dsm_front p m false))
dsm_sound p a m (Some n) w = passes_sound p (authenticated_text a) (dsm_on p a m (Some n)) (dsm_passes p a m n w) refl (λ k e class. absurd (cc))

abbrev plain_sound : {p : Party} {text : List ℕ} {r : Row} → IsSound None p text r → SoundRow p text r
plain_sound {p} {text} {r} g = record { new = None; sound = g }

pub message_sound : (p : Party) (a : Arrival) (m : Message) (moment : ℕ) → HasLinks p → Waits p → Says (authenticated_text a) m → is_accept (message_row p a m moment).verdict ≡ true → SoundRow p (authenticated_text a) (message_row p a m moment)
message_sound p a (message.Rsi m) moment d n said h = plain_sound (rsi_sound p a m moment (first_link m.originator Sends p) d refl)
message_sound p a (message.Rfs m) moment d n said h = plain_sound (refused_sound p (authenticated_text a) _)
message_sound p a (message.Rtr m) moment d n said h = plain_sound (rtr_sound p a m m.kd h)
message_sound p a (message.Ksm m) moment d n said h = key_row_sound p a m m.body (body_link p m.originator m.body) d said refl refl h
message_sound p a (message.Rsm m) moment d n said h = plain_sound (rsm_row_sound p a m m.idd n)
message_sound p a (message.Ers m) moment d n said h = plain_sound (refused_sound p (authenticated_text a) _)
message_sound p a (message.Esm m) moment d n said h = plain_sound (error_sound p a m (is_plain a.parsed.shut) (retry_in p (subject_with p m.originator) m.ctr) n)
message_sound p a (message.Dsm m) moment d n said h = plain_sound (dsm_sound p a m (named_by p m) n)
