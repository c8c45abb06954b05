-- The other arrivals at a bank begin an exchange only with a peer with whom none stands.
use Rattle.std.proofs.Common.{◌≡◌, ℕ, Bool, true, false, cond, Option, Some, None, IfSome, List, [], ◌∷◌, ◌++◌, refl}
use Rattle.x_base.specs.declared.key_name.KeyName.{KeyName}
use Rattle.x_base.specs.declared.party.Side.TheVariants.{Sends}
use Rattle.x_gen.specs.declared.generator.Gen.{Gen}
use Rattle.x_gen.specs.Gen.{good_draw}
use Rattle.csm_grammar.specs.declared.message.Rsi.{Rsi}
use Rattle.csm_grammar.specs.declared.message.Rsm.{Rsm}
use Rattle.csm_grammar.specs.declared.message.Esm.{Esm}
use Rattle.csm_grammar.specs.declared.message.Dsm.{Dsm}
use Rattle.csm_grammar.specs.declared.arrival.Arrival.{Arrival}
use Rattle.party_tables.specs.declared.link.LinkRec.{LinkRec}
use Rattle.party_tables.specs.declared.key.KeyRec.{KeyRec}
use Rattle.party_tables.specs.declared.key.KeyStatus.TheVariants.{Ended}
use Rattle.party_tables.specs.declared.exchange.Kind.{Kind}
use Rattle.party_tables.specs.declared.exchange.Kind.TheVariants as kind
use Rattle.party_tables.specs.declared.exchange.Exchange.{Exchange}
use Rattle.party_state.specs.declared.edit.Edit.{Edit}
use Rattle.party_state.specs.declared.edit.Edit.TheVariants.{PutKey, DropExchange}
use Rattle.party_tables.specs.Keys.{same_name}
use Rattle.party_tables.specs.Names.{name_behind}
use Rattle.party_tables.specs.Statuses.{is_ended}
use Rattle.party_state.specs.State.{Party, first_link, exchange_with}
use Rattle.party_state.specs.Verdicts.{Test, TestsHold, is_accept}
use Rattle.role_base.specs.declared.exchanges.Sent.{Sent}
use Rattle.role_base.specs.declared.exchanges.Twins.{Twins}
use Rattle.role_base.specs.Beginning.{AllBeginFree}
use Rattle.role_base.specs.Conditions.{is_two_keys}
use Rattle.role_base.specs.Exchanges.{record_of, sent_to, twins_to, ending_with, new_link, readied, dropped, ended}
use Rattle.role_base.specs.Sending.{sending_tests, sending_drawn}
use Rattle.role_base.specs.Texts.{is_plain}
use Rattle.role_base.proofs.PartyLaws.{HeldIfAccepted}
use Rattle.role_base.proofs.Beginning.{first_peer, free_with, begin_append, dropped_begin, sending_begins}
use Rattle.bank_arrivals.specs.declared.asking_again.Retry.{Retry}
use Rattle.bank_arrivals.specs.declared.disconnection.NamedKey.{NamedKey}
use Rattle.bank_arrivals.specs.declared.error_message.ErrorSubject.{ErrorSubject}
use Rattle.bank_arrivals.specs.declared.error_message.ErrorSubject.TheVariants.{SentKey, SentTwins, Translated}
use Rattle.bank_arrivals.specs.declared.draws.TwinsDrawn.{TwinsDrawn}
use Rattle.bank_arrivals.specs.AskingAgain.{retry_in, asked_again}
use Rattle.bank_arrivals.specs.SendingTwins.{twins_drawn, twins_tests, twins_sending_drawn}
use Rattle.bank_arrivals.specs.Rsi.{rsi_tests, rsi_row, rsi_under, rsi}
use Rattle.bank_arrivals.specs.Rsm.{rsm_to, rsm_by, answer_to, rsm_with, rsm}
use Rattle.bank_arrivals.specs.Esm.{subject_with, subject_value, subject_link, subject_ended, raised, error_of, error_with, error}
use Rattle.bank_arrivals.specs.Dsm.{named_by, left_by, left_in, dsm_on, dsm}
use Rattle.bank_arrivals.proofs.HeardErrors.{IsFree, retry_free}

twins_begin : (p : Party) (front : List Test) (l : LinkRec) (d : TwinsDrawn) → exchange_with l.peer p ≡ None → AllBeginFree p (twins_sending_drawn p front l (Some d)).edits
twins_begin p front l d f = (tt, (tt, (tt, (tt, (f, tt)))))

pub rsi_begins : HeldIfAccepted → (p : Party) (a : Arrival) (m : Rsi) (moment : ℕ) → is_accept (rsi p a m moment).verdict ≡ true → AllBeginFree p (rsi p a m moment).edits
rsi_begins held p a m moment e = by_link (first_link m.originator Sends p) refl e
  where
    by_draw : (l : LinkRec) → first_link m.originator Sends p ≡ Some l → (d : Option (ℕ × Gen)) → is_accept (sending_drawn p (rsi_tests p a m (Some l)) l d).verdict ≡ true → AllBeginFree p (sending_drawn p (rsi_tests p a m (Some l)) l d).edits
    by_draw l f None e = tt
    by_draw l f (Some d) e =
        let h : TestsHold (rsi_tests p a m (Some l) ++ sending_tests p l (Some d)) = held (rsi_tests p a m (Some l) ++ sending_tests p l (Some d)) refl e in
        sending_begins p (rsi_tests p a m (Some l)) l (Some d) (free_with p m.originator l.peer (first_peer p m.originator Sends l f) h.1.1.1.0)

    by_two : (l : LinkRec) → first_link m.originator Sends p ≡ Some l → (d : Option TwinsDrawn) → is_accept (twins_sending_drawn p (rsi_tests p a m (Some l)) l d).verdict ≡ true → AllBeginFree p (twins_sending_drawn p (rsi_tests p a m (Some l)) l d).edits
    by_two l f None e = tt
    by_two l f (Some d) e =
        let h : TestsHold (rsi_tests p a m (Some l) ++ twins_tests p l (Some d)) = held (rsi_tests p a m (Some l) ++ twins_tests p l (Some d)) refl e in
        twins_begin p (rsi_tests p a m (Some l)) l d (free_with p m.originator l.peer (first_peer p m.originator Sends l f) h.1.1.1.0)

    by_keys : (l : LinkRec) → first_link m.originator Sends p ≡ Some l → (two : Bool) → is_accept (rsi_row p a m l moment two).verdict ≡ true → AllBeginFree p (rsi_row p a m l moment two).edits
    by_keys l f true e = by_two l f (twins_drawn p.generator moment) e
    by_keys l f false e = by_draw l f (good_draw p.generator moment) e

    by_link : (o : Option LinkRec) → first_link m.originator Sends p ≡ o → is_accept (rsi_under p a m o moment).verdict ≡ true → AllBeginFree p (rsi_under p a m o moment).edits
    by_link None f e = tt
    by_link (Some l) f e = by_keys l f (is_two_keys m.service) e

named_begins : (p : Party) (a : Arrival) (m : Rsm) (o : Option KeyName) → AllBeginFree p (rsm_with p a m o).edits
named_begins p a m None = by_twins (twins_to p m.originator)
  where
    by_new : (l : Option LinkRec) (k : KeyRec) → AllBeginFree p (readied l ++ PutKey k ∷ DropExchange m.originator ∷ [])
    by_new None k = (tt, (tt, tt))
    by_new (Some l) k = (tt, (tt, (tt, tt)))

    by_sent : (o : Option Sent) → AllBeginFree p (rsm_to p a m o).edits
    by_sent None = tt
    by_sent (Some s) = by_new (new_link p m.originator s.via) _

    by_twins : (o : Option Twins) → AllBeginFree p (rsm_by p a m o).edits
    by_twins None = by_sent (sent_to p m.originator)
    by_twins (Some t) = (tt, (tt, (tt, tt)))
named_begins p a m (Some name) = by_record (ending_with p m.originator)
  where
    by_record : (o : Option KeyRec) → AllBeginFree p (answer_to p a m name o).edits
    by_record None = tt
    by_record (Some k) = (tt, (tt, tt))

pub rsm_begins : (p : Party) (a : Arrival) (m : Rsm) → AllBeginFree p (rsm p a m).edits
rsm_begins p a m = named_begins p a m m.idd

-- an error message: a centre is asked again only where no exchange with it stands

pub retry_in_free : (p : Party) (s : Option ErrorSubject) (ctr : Option ℕ) → IfSome (retry_in p s ctr) (IsFree p)
retry_in_free p None ctr = tt
retry_in_free p (Some (SentKey s)) ctr = retry_free p s.via ctr
retry_in_free p (Some (SentTwins t)) ctr = tt
retry_in_free p (Some (Translated value cta)) ctr = tt

raised_begin : (p : Party) (o : Option LinkRec) (c : Option ℕ) → AllBeginFree p (raised o c)
raised_begin p None c = tt
raised_begin p (Some l) None = tt
raised_begin p (Some l) (Some n) = (tt, tt)

ended_begin : (p : Party) (peer : List ℕ) (s : ErrorSubject) → AllBeginFree p (subject_ended p peer s)
ended_begin p peer (SentKey s) = begin_append p (dropped (new_link p peer s.via)) (PutKey (record s.key { status = Ended }) ∷ []) (dropped_begin p (new_link p peer s.via)) (tt, tt)
ended_begin p peer (SentTwins t) = (tt, (tt, tt))
ended_begin p peer (Translated value cta) = tt

asked_begins : (p : Party) (m : Esm) (value : ℕ) (t : Option Retry) → IfSome t (IsFree p) → AllBeginFree p (asked_again p m value t)
asked_begins p m value None f = tt
asked_begins p m value (Some t) f = (f, tt)

error_begins : (p : Party) (a : Arrival) (m : Esm) (o : Option ErrorSubject) (t : Option Retry) → IfSome t (IsFree p) → AllBeginFree p (error_of p a m o t).edits
error_begins p a m None t f = tt
error_begins p a m (Some s) t f =
    begin_append p (raised (subject_link p m.originator s) m.ctr) (subject_ended p m.originator s ++ DropExchange m.originator ∷ asked_again p m (subject_value s) t) (raised_begin p (subject_link p m.originator s) m.ctr)
    (begin_append p (subject_ended p m.originator s) (DropExchange m.originator ∷ asked_again p m (subject_value s) t) (ended_begin p m.originator s) (tt, asked_begins p m (subject_value s) t f))

pub esm_begins : (p : Party) (a : Arrival) (m : Esm) → AllBeginFree p (error p a m).edits
esm_begins p a m = go (is_plain a.parsed.shut)
  where
    go : (b : Bool) → AllBeginFree p (error_with p a m b (retry_in p (subject_with p m.originator) m.ctr)).edits
    go true = tt
    go false = error_begins p a m (subject_with p m.originator) (retry_in p (subject_with p m.originator) m.ctr) (retry_in_free p (subject_with p m.originator) m.ctr)

-- a disconnection

abbrev around : KeyRec → List Edit × List Edit → List Edit
around k gone = gone.0 ++ (PutKey k ∷ gone.1)

on_begins : (p : Party) (a : Arrival) (m : Dsm) (o : Option NamedKey) → AllBeginFree p (dsm_on p a m o).edits
on_begins p a m None = tt
on_begins p a m (Some n) = by_status (is_ended n.key.status)
  where
    ends : KeyRec
    ends = record n.key { status = Ended }

    by_sent : (l : Option LinkRec) (b : Bool) → AllBeginFree p (around ends (cond b (dropped l, DropExchange m.originator ∷ []) ([], [])))
    by_sent l true = begin_append p (dropped l) (PutKey ends ∷ DropExchange m.originator ∷ []) (dropped_begin p l) (tt, (tt, tt))
    by_sent l false = (tt, tt)

    by_ending : (b : Bool) → AllBeginFree p (around ends (cond b ([], DropExchange m.originator ∷ []) ([], [])))
    by_ending true = (tt, (tt, tt))
    by_ending false = (tt, tt)

    by_names : (i j : Option KeyRec) (b c : Bool) → AllBeginFree p (around ends (cond b ([], ended j ++ DropExchange m.originator ∷ []) (cond c (ended i, DropExchange m.originator ∷ []) ([], []))))
    by_names i None true c = (tt, (tt, tt))
    by_names i (Some x) true c = (tt, (tt, (tt, tt)))
    by_names None j false true = (tt, (tt, tt))
    by_names (Some x) j false true = (tt, (tt, (tt, tt)))
    by_names i j false false = (tt, tt)

    by_kind : (k : Kind) → AllBeginFree p (around ends (left_by p m.originator n.key.name k))
    by_kind (kind.KeySent sent via) = by_sent (new_link p m.originator via) (same_name n.key.name sent)
    by_kind (kind.Ending ending) = by_ending (same_name n.key.name ending)
    by_kind (kind.Asked ultimate) = (tt, tt)
    by_kind (kind.Translating ultimate value cta) = (tt, tt)
    by_kind (kind.PairSent sent) = by_names (record_of p m.originator sent) (record_of p m.originator (name_behind sent)) (same_name n.key.name sent) (same_name n.key.name (name_behind sent))

    by_exchange : (o : Option Exchange) → AllBeginFree p (around ends (left_in p m.originator n.key.name o))
    by_exchange None = (tt, tt)
    by_exchange (Some e) = by_kind e.kind

    by_status : (b : Bool) → AllBeginFree p (cond b [] (around ends (left_in p m.originator n.key.name (exchange_with m.originator p))))
    by_status true = tt
    by_status false = by_exchange (exchange_with m.originator p)

pub dsm_begins : (p : Party) (a : Arrival) (m : Dsm) → AllBeginFree p (dsm p a m).edits
dsm_begins p a m = on_begins p a m (named_by p m)
