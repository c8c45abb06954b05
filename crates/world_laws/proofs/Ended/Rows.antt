-- What each row accepts is what its message tells.
use Rattle.std.proofs.Common.{◌≡◌, ℕ, Bool, true, false, cond, Option, Some, None, List, [], ◌∷◌, ◌++◌, refl, sym, ap, bytes_eq}
use Rattle.x_base.specs.declared.key_name.KeyName.{KeyName}
use Rattle.x_base.specs.declared.key_name.FullName.{FullName}
use Rattle.x_base.specs.declared.party.Role.{Role}
use Rattle.x_base.specs.declared.party.Role.TheVariants.{Bank, Distribution, Translation}
use Rattle.x_base.specs.declared.party.Side.TheVariants.{Sends}
use Rattle.x_base.specs.declared.verdict.Verdict.{Verdict}
use Rattle.x_base.specs.declared.verdict.Verdict.TheVariants.{BadMac, NoExchange, WrongClass, NotForMe, UnknownKey, UnknownKk, UnknownPeer}
use Rattle.x_gen.specs.declared.generator.Gen.{Gen}
use Rattle.x_gen.specs.Gen.{good_draw}
use Rattle.csm_grammar.specs.declared.arrival.Arrival.{Arrival}
use Rattle.csm_grammar.specs.declared.message.Rsi.{Rsi}
use Rattle.csm_grammar.specs.declared.message.Rtr.{Rtr}
use Rattle.csm_grammar.specs.declared.message.Ksm.{Ksm}
use Rattle.csm_grammar.specs.declared.message.Rfs.{Rfs}
use Rattle.csm_grammar.specs.declared.message.Rsm.{Rsm}
use Rattle.csm_grammar.specs.declared.message.Ers.{Ers}
use Rattle.csm_grammar.specs.declared.message.Esm.{Esm}
use Rattle.csm_grammar.specs.declared.message.Dsm.{Dsm}
use Rattle.csm_grammar.specs.declared.message.Message.{Message}
use Rattle.csm_grammar.specs.declared.message.Message.TheVariants as message
use Rattle.csm_grammar.specs.Arrivals.{authenticated_text}
use Rattle.party_tables.specs.declared.answer.Answer.{Answer}
use Rattle.party_tables.specs.declared.exchange.Exchange.{Exchange}
use Rattle.party_tables.specs.declared.exchange.Kind.{Kind}
use Rattle.party_tables.specs.declared.exchange.Kind.TheVariants as kind
use Rattle.party_tables.specs.declared.key.KeyRec.{KeyRec}
use Rattle.party_tables.specs.declared.link.LinkRec.{LinkRec}
use Rattle.party_tables.specs.Keys.{sends, takes}
use Rattle.party_tables.specs.Names.{full_name}
use Rattle.party_tables.proofs.Keys.{test_names}
use Rattle.party_state.specs.declared.command.Command.{Command}
use Rattle.party_state.specs.declared.command.Command.TheVariants as command
use Rattle.party_state.specs.declared.command.Input.{Input}
use Rattle.party_state.specs.declared.command.Input.TheVariants as input
use Rattle.party_state.specs.Rows.{Accepted, OfKsm, OfAnswer, OfDsm, refused}
use Rattle.party_state.specs.State.{Party, centre_label, link_with, first_link, exchange_with, answer_with, knows}
use Rattle.party_state.specs.Verdicts.{Test, TestsHold, is_accept}
use Rattle.party_state.proofs.Verdicts.{held, blocked}
use Rattle.role_base.specs.declared.exchanges.Sent.{Sent}
use Rattle.role_base.specs.declared.exchanges.Twins.{Twins}
use Rattle.role_base.proofs.Addressed.{for_me}
use Rattle.role_base.specs.Centres.{centre_command}
use Rattle.role_base.specs.Load.{load}
use Rattle.role_base.specs.Conditions.{body_issuer, is_for, is_two_keys, other_class}
use Rattle.role_base.specs.Exchanges.{record_of, ending_by, ending_in, ending_with, sent_to, twins_to}
use Rattle.role_base.specs.Texts.{is_plain, is_verified}
use Rattle.bank_orders.specs.Start.{sending_link, start_tests, start_under}
use Rattle.role_base.specs.Sending.{sending_drawn}
use Rattle.bank_orders.specs.declared.draws.KkDrawn.{KkDrawn}
use Rattle.bank_orders.specs.Draws.{kk_drawn}
use Rattle.bank_orders.specs.StartKk.{kk_sending, start_kk_under}
use Rattle.bank_orders.specs.Ask.{ask_of}
use Rattle.bank_orders.specs.Translate.{translate_drawn, translate_under}
use Rattle.bank_orders.specs.Resend.{resend_of}
use Rattle.bank_orders.specs.Ending.{end_record}
use Rattle.bank_orders.specs.Orders.{command_row}
use Rattle.bank_keys.specs.Ksm.{body_link, key_row}
use Rattle.bank_keys.specs.declared.waits.KeyAtCentre.{KeyAtCentre}
use Rattle.bank_keys.specs.Waiting.{waiting_with}
use Rattle.bank_keys.specs.Rtr.{brought, translated, rtr_with}
use Rattle.bank_arrivals.specs.declared.asking_again.Retry.{Retry}
use Rattle.bank_arrivals.specs.declared.disconnection.NamedKey.{NamedKey}
use Rattle.bank_arrivals.specs.declared.draws.TwinsDrawn.{TwinsDrawn}
use Rattle.bank_arrivals.specs.declared.error_message.ErrorSubject.{ErrorSubject}
use Rattle.bank_arrivals.specs.declared.error_message.ErrorSubject.TheVariants.{SentKey, SentTwins, Translated}
use Rattle.bank_arrivals.specs.AskingAgain.{retry_in}
use Rattle.bank_arrivals.specs.SendingTwins.{twins_drawn, twins_sending_drawn}
use Rattle.bank_arrivals.specs.Rsi.{rsi_tests, rsi_row, rsi_under}
use Rattle.bank_arrivals.specs.Rsm.{end_front, rsm_to, rsm_by, answer_to, rsm_with}
use Rattle.bank_arrivals.specs.Esm.{subject_with, error_of, error_with}
use Rattle.bank_arrivals.specs.Dsm.{named_by, dsm_on}
use Rattle.member.specs.BankRows.{message_row}
use Rattle.distribution_role.specs.Answering.{answering}
use Rattle.distribution_role.specs.Requests.{rsi_tests as centre_tests, rsi_between, rsi_for}
use Rattle.distribution_role.specs.Recovery.{ers_tests, at_least, ers_between}
use Rattle.distribution_role.specs.Rows.{distribution_message}
use Rattle.translation_role.specs.Service.{rfs_between}
use Rattle.translation_role.specs.Rows.{translation_message}
use Rattle.member.specs.Rows.{row_by, row_at}
use Rattle.world_laws.specs.World.{Acceptance}
use Rattle.world_laws.specs.Steps.{acceptances_of, received_text}
use Rattle.world_laws.specs.Answered.{is_key_or_end, keys_and_ends, named_key, answer_of, dsm_acceptance, ksm_acceptance, message_acceptances}
use Rattle.world_laws.proofs.Sound.Exchanges.{RecordAt, record_at}
use Rattle.world_laws.proofs.Ended.Names.{named_at, names_carried}

-- what a row accepts is no key service message, no disconnection and no answer to one
abbrev pub NoKeyOrEnd : Option Accepted → Type 0
NoKeyOrEnd None = Unit {0}
NoKeyOrEnd (Some a) = is_key_or_end a.class ≡ false

pub none_added : (own text : List ℕ) (o : Option Accepted) → NoKeyOrEnd o → keys_and_ends (acceptances_of own text o) ≡ []
none_added own text None n = refl
none_added own text (Some a) n = rw n refl

-- commands

sending_none : (p : Party) (o : Option LinkRec) (peer : List ℕ) (moment : ℕ) → NoKeyOrEnd (start_under p peer o moment).accepts
sending_none p None peer moment = tt
sending_none p (Some l) peer moment = by_draw (good_draw p.generator moment)
  where
    by_draw : (d : Option (ℕ × Gen)) → NoKeyOrEnd (sending_drawn p (start_tests p peer (Some l)) l d).accepts
    by_draw None = tt
    by_draw (Some d) = tt

kk_none : (p : Party) (o : Option LinkRec) (peer new : List ℕ) (single : Bool) (moment : ℕ) → NoKeyOrEnd (start_kk_under p peer new single o moment).accepts
kk_none p None peer new single moment = tt
kk_none p (Some l) peer new single moment = by_draw (kk_drawn p.generator moment single)
  where
    by_draw : (d : Option KkDrawn) → NoKeyOrEnd (kk_sending p (start_tests p peer (Some l)) l new single d).accepts
    by_draw None = tt
    by_draw (Some d) = tt

translate_none : (p : Party) (centre u : List ℕ) (o : Option LinkRec) (moment : ℕ) → NoKeyOrEnd (translate_under p centre u o moment).accepts
translate_none p centre u None moment = tt
translate_none p centre u (Some l) moment = by_draw (good_draw p.generator moment)
  where
    by_draw : (d : Option (ℕ × Gen)) → NoKeyOrEnd (translate_drawn p centre u l d).accepts
    by_draw None = tt
    by_draw (Some d) = tt

ask_none : (p : Party) (peer : List ℕ) (o : Option (List ℕ)) → NoKeyOrEnd (ask_of p peer o).accepts
ask_none p peer None = tt
ask_none p peer (Some u) = tt

resend_none : (o : Option Exchange) → NoKeyOrEnd (resend_of o).accepts
resend_none None = tt
resend_none (Some e) = tt

end_none : (p : Party) (peer : List ℕ) (o : Option KeyRec) → NoKeyOrEnd (end_record p peer o).accepts
end_none p peer None = tt
end_none p peer (Some k) = tt

command_none : (p : Party) (c : Command) (moment : ℕ) → NoKeyOrEnd (command_row p c moment).accepts
command_none p (command.Load peer label side pair) moment = tt
command_none p (command.Start peer label) moment = sending_none p (sending_link p peer label) peer moment
command_none p (command.StartKk peer label new single) moment = kk_none p (sending_link p peer label) peer new single moment
command_none p (command.Ask peer ultimate) moment = ask_none p peer ultimate
command_none p (command.Translate centre ultimate) moment = translate_none p centre ultimate (link_with (sends centre centre_label) p) moment
command_none p (command.Resend peer) moment = resend_none (exchange_with peer p)
command_none p (command.End peer name) moment = end_none p peer (record_of p peer name)
command_none p (command.Drop peer) moment = tt
command_none p command.Purge moment = tt

-- messages at a bank

request_none : (p : Party) (a : Arrival) (m : Rsi) (moment : ℕ) (o : Option LinkRec) → NoKeyOrEnd (rsi_under p a m o moment).accepts
request_none p a m moment None = tt
request_none p a m moment (Some l) = by_service (is_two_keys m.service)
  where
    by_twins : (d : Option TwinsDrawn) → NoKeyOrEnd (twins_sending_drawn p (rsi_tests p a m (Some l)) l d).accepts
    by_twins None = tt
    by_twins (Some d) = tt

    by_draw : (d : Option (ℕ × Gen)) → NoKeyOrEnd (sending_drawn p (rsi_tests p a m (Some l)) l d).accepts
    by_draw None = tt
    by_draw (Some d) = tt

    by_service : (b : Bool) → NoKeyOrEnd (rsi_row p a m l moment b).accepts
    by_service true = by_twins (twins_drawn p.generator moment)
    by_service false = by_draw (good_draw p.generator moment)

rtr_none : (p : Party) (a : Arrival) (m : Rtr) (o : Option (ℕ × ℕ)) → NoKeyOrEnd (rtr_with p a m o).accepts
rtr_none p a m (Some k) = by_link (link_with (takes m.originator centre_label) p)
  where
    by_link : (o : Option LinkRec) → NoKeyOrEnd (brought p a m k o).accepts
    by_link None = tt
    by_link (Some l) = tt
rtr_none p a m None = by_waiting (waiting_with p m.originator)
  where
    by_waiting : (o : Option KeyAtCentre) → NoKeyOrEnd (translated p a m o).accepts
    by_waiting None = tt
    by_waiting (Some t) = tt

plain_none : (p : Party) (a : Arrival) (m : Rsm) → NoKeyOrEnd (rsm_with p a m None).accepts
plain_none p a m = by_twins (twins_to p m.originator)
  where
    by_sent : (o : Option Sent) → NoKeyOrEnd (rsm_to p a m o).accepts
    by_sent None = tt
    by_sent (Some s) = refl

    by_twins : (o : Option Twins) → NoKeyOrEnd (rsm_by p a m o).accepts
    by_twins None = by_sent (sent_to p m.originator)
    by_twins (Some t) = refl

esm_none : (p : Party) (a : Arrival) (m : Esm) (b : Bool) (again : Option Retry) → NoKeyOrEnd (error_with p a m b again).accepts
esm_none p a m true again = tt
esm_none p a m false again = by_subject (subject_with p m.originator)
  where
    by_subject : (o : Option ErrorSubject) → NoKeyOrEnd (error_of p a m o again).accepts
    by_subject None = tt
    by_subject (Some (SentKey s)) = refl
    by_subject (Some (SentTwins t)) = refl
    by_subject (Some (Translated value cta)) = tt

-- a key service message

first_test : (b : Bool) (v : Verdict) → is_accept (cond b v NotForMe) ≡ true → b ≡ true
first_test true v h = refl
first_test false v h = absurd (cc)

key_added : (p : Party) (a : Arrival) (m : Ksm) (o : Option LinkRec) → body_link p m.originator m.body ≡ o → is_accept (key_row p a m m.body o).verdict ≡ true
    → keys_and_ends (acceptances_of p.own (authenticated_text a) (key_row p a m m.body o).accepts) ≡ ksm_acceptance p a m o
key_added p a m None e h = absurd (blocked ((is_for p m.receiver m.originator, NotForMe) ∷ (knows (body_issuer m.originator m.body) p, UnknownPeer) ∷ []) UnknownKk refl refl h)
key_added p a m (Some l) e h =
    let for : is_for p m.receiver m.originator ≡ true = first_test (is_for p m.receiver m.originator) _ h in
    ap (λ (us : List FullName). let r : List Acceptance = record { party = p.own; text = authenticated_text a; class = OfKsm; names = us } ∷ [] in r) (names_carried p m l e (for_me p m.receiver m.originator for).0)

-- a disconnection

dsm_added : (p : Party) (a : Arrival) (m : Dsm) (o : Option NamedKey) → named_by p m ≡ o → is_accept (dsm_on p a m o).verdict ≡ true
    → keys_and_ends (acceptances_of p.own (authenticated_text a) (dsm_on p a m o).accepts) ≡ dsm_acceptance p a m
dsm_added p a m None e h = absurd (blocked ((is_for p m.receiver m.originator, NotForMe) ∷ []) UnknownKey refl refl h)
dsm_added p a m (Some n) e h =
    let k : RecordAt p m.originator m.idd n.key = record_at p m.originator m.idd n.key (named_at p m n e) in
    let under : full_name p.own n.key ≡ named_key p m.originator m.idd = (λ i. record { name = k.name_is i; recipient = cond (bytes_eq (k.name_is i).originator p.own) (k.peer_is i) p.own }) in
    ap (λ (u : FullName). let r : List Acceptance = record { party = p.own; text = authenticated_text a; class = OfDsm; names = u ∷ [] } ∷ [] in r) under

-- the answer to the end of a key

ending_record : (p : Party) (peer : List ℕ) (k : KeyRec) → ending_with p peer ≡ Some k → k.peer ≡ peer
ending_record p peer k h = by_exchange (exchange_with peer p) h
  where
    by_kind : (d : Kind) → ending_by p peer d ≡ Some k → k.peer ≡ peer
    by_kind (kind.Ending name) h = (record_at p peer name k h).peer_is
    by_kind (kind.Asked ultimate) h = absurd (cc)
    by_kind (kind.Translating ultimate value cta) h = absurd (cc)
    by_kind (kind.KeySent name via) h = absurd (cc)
    by_kind (kind.PairSent name) h = absurd (cc)

    by_exchange : (o : Option Exchange) → ending_in p peer o ≡ Some k → k.peer ≡ peer
    by_exchange None h = absurd (cc)
    by_exchange (Some e) h = by_kind e.kind h

answer_added : (p : Party) (a : Arrival) (m : Rsm) (name : KeyName) (o : Option KeyRec) → ending_with p m.originator ≡ o → is_accept (answer_to p a m name o).verdict ≡ true
    → keys_and_ends (acceptances_of p.own (authenticated_text a) (answer_to p a m name o).accepts) ≡ answer_of p a m.originator (Some name)
answer_added p a m name None e h = absurd (blocked ((is_for p m.receiver m.originator, NotForMe) ∷ []) NoExchange refl refl h)
answer_added p a m name (Some k) e h =
    let t : TestsHold (end_front p m name (Some k) ++ (is_verified a k.value, BadMac) ∷ []) = held (end_front p m name (Some k) ++ (is_verified a k.value, BadMac) ∷ []) refl h in
    let is : name ≡ k.name = (test_names.decides name k.name).0 t.1.0 in
    let peer : k.peer ≡ m.originator = ending_record p m.originator k e in
    let under : full_name p.own k ≡ named_key p m.originator name = (λ i. record { name = (sym is) i; recipient = cond (bytes_eq ((sym is) i).originator p.own) (peer i) p.own }) in
    ap (λ (u : FullName). let r : List Acceptance = record { party = p.own; text = authenticated_text a; class = OfAnswer; names = u ∷ [] } ∷ [] in r) under

bank_accepts : (p : Party) (a : Arrival) (m : Message) (moment : ℕ) → is_accept (message_row p a m moment).verdict ≡ true → keys_and_ends (acceptances_of p.own (authenticated_text a) (message_row p a m moment).accepts) ≡ message_acceptances p a m
bank_accepts p a (message.Rsi m) moment h = none_added p.own (authenticated_text a) _ (request_none p a m moment (first_link m.originator Sends p))
bank_accepts p a (message.Rfs m) moment h = refl
bank_accepts p a (message.Rtr m) moment h = none_added p.own (authenticated_text a) _ (rtr_none p a m m.kd)
bank_accepts p a (message.Ksm m) moment h = key_added p a m (body_link p m.originator m.body) refl h
bank_accepts p a (message.Rsm m) moment h = by_name m.idd h
  where
    by_name : (o : Option KeyName) → is_accept (rsm_with p a m o).verdict ≡ true → keys_and_ends (acceptances_of p.own (authenticated_text a) (rsm_with p a m o).accepts) ≡ answer_of p a m.originator o
    by_name None h = none_added p.own (authenticated_text a) _ (plain_none p a m)
    by_name (Some name) h = answer_added p a m name (ending_with p m.originator) refl h
bank_accepts p a (message.Ers m) moment h = refl
bank_accepts p a (message.Esm m) moment h = none_added p.own (authenticated_text a) _ (esm_none p a m (is_plain a.parsed.shut) (retry_in p (subject_with p m.originator) m.ctr))
bank_accepts p a (message.Dsm m) moment h = dsm_added p a m (named_by p m) refl h

-- at the centres

answering_none : (p : Party) (requester u : List ℕ) (tests : List Test) (l b : LinkRec) (d : Option (ℕ × Gen)) → NoKeyOrEnd (answering p requester u tests l b d).accepts
answering_none p requester u tests l b None = tt
answering_none p requester u tests l b (Some d) = tt

centre_request_none : (p : Party) (a : Arrival) (m : Rsi) (o : Option (List ℕ)) (moment : ℕ) → NoKeyOrEnd (rsi_for p a m o moment).accepts
centre_request_none p a m None moment = tt
centre_request_none p a m (Some u) moment = by_links (link_with (sends m.originator centre_label) p) (link_with (sends u centre_label) p) (good_draw p.generator moment)
  where
    by_links : (fa fb : Option LinkRec) (d : Option (ℕ × Gen)) → NoKeyOrEnd (rsi_between p a m u fa fb d).accepts
    by_links None fb d = tt
    by_links (Some l) None d = tt
    by_links (Some l) (Some b) d = answering_none p m.originator u (centre_tests p a m u l b) l b d

ers_none : (p : Party) (a : Arrival) (m : Ers) (o : Option Answer) (fa fb : Option LinkRec) (d : Option (ℕ × Gen)) → NoKeyOrEnd (ers_between p a m o fa fb d).accepts
ers_none p a m None fa fb d = tt
ers_none p a m (Some t) None fb d = tt
ers_none p a m (Some t) (Some l) None d = tt
ers_none p a m (Some t) (Some l) (Some b) d = answering_none p m.originator m.ultimate (ers_tests p a m t l b) l (at_least b m.ctr) d

rfs_none : (p : Party) (a : Arrival) (m : Rfs) (fa fb : Option LinkRec) → NoKeyOrEnd (rfs_between p a m fa fb).accepts
rfs_none p a m None fb = tt
rfs_none p a m (Some l) None = tt
rfs_none p a m (Some l) (Some b) = tt

-- a class that a centre doesn't serve is never accepted
unserved_never : {A : Type 0} (b : Bool) → is_accept (cond b WrongClass NotForMe) ≡ true → A
unserved_never true h = absurd (cc)
unserved_never false h = absurd (cc)

key_never : {A : Type 0} (p : Party) (m : Ksm) → is_accept (other_class p m.receiver m.originator (body_issuer m.originator m.body)).verdict ≡ true → A
key_never p m h = absurd (blocked ((is_for p m.receiver m.originator, NotForMe) ∷ (knows (body_issuer m.originator m.body) p, UnknownPeer) ∷ []) WrongClass refl refl h)

distribution_accepts : (p : Party) (a : Arrival) (m : Message) (moment : ℕ) → is_accept (distribution_message p a m moment).verdict ≡ true → keys_and_ends (acceptances_of p.own (authenticated_text a) (distribution_message p a m moment).accepts) ≡ message_acceptances p a m
distribution_accepts p a (message.Rsi m) moment h = none_added p.own (authenticated_text a) _ (centre_request_none p a m m.ultimate moment)
distribution_accepts p a (message.Rfs m) moment h = refl
distribution_accepts p a (message.Rtr m) moment h = refl
distribution_accepts p a (message.Ksm m) moment h = key_never p m h
distribution_accepts p a (message.Rsm m) moment h = unserved_never (is_for p m.receiver m.originator) h
distribution_accepts p a (message.Ers m) moment h = none_added p.own (authenticated_text a) _ (ers_none p a m (answer_with (record { requester = m.originator; ultimate = m.ultimate }) p) (link_with (sends m.originator centre_label) p) (link_with (sends m.ultimate centre_label) p) (good_draw p.generator moment))
distribution_accepts p a (message.Esm m) moment h = refl
distribution_accepts p a (message.Dsm m) moment h = unserved_never (is_for p m.receiver m.originator) h

translation_accepts : (p : Party) (a : Arrival) (m : Message) → is_accept (translation_message p a m).verdict ≡ true → keys_and_ends (acceptances_of p.own (authenticated_text a) (translation_message p a m).accepts) ≡ message_acceptances p a m
translation_accepts p a (message.Rsi m) h = refl
translation_accepts p a (message.Rfs m) h = none_added p.own (authenticated_text a) _ (rfs_none p a m (link_with (takes m.originator centre_label) p) (link_with (sends m.ultimate centre_label) p))
translation_accepts p a (message.Rtr m) h = refl
translation_accepts p a (message.Ksm m) h = key_never p m h
translation_accepts p a (message.Rsm m) h = unserved_never (is_for p m.receiver m.originator) h
translation_accepts p a (message.Ers m) h = refl
translation_accepts p a (message.Esm m) h = refl
translation_accepts p a (message.Dsm m) h = unserved_never (is_for p m.receiver m.originator) h

centre_none : (p : Party) (c : Command) → NoKeyOrEnd (centre_command p c).accepts
centre_none p (command.Load peer label side pair) = go (bytes_eq label centre_label)
  where
    go : (b : Bool) → NoKeyOrEnd (cond b (load p peer label side pair) (refused WrongClass)).accepts
    go true = tt
    go false = tt
centre_none p (command.Start peer label) = tt
centre_none p (command.StartKk peer label new single) = tt
centre_none p (command.Ask peer ultimate) = tt
centre_none p (command.Translate centre ultimate) = tt
centre_none p (command.Resend peer) = tt
centre_none p (command.End peer name) = tt
centre_none p (command.Drop peer) = tt
centre_none p command.Purge = tt

-- what an input shows of that
abbrev pub input_acceptances : Party → Input → List Acceptance
input_acceptances p (input.Ordered c) = []
input_acceptances p (input.Arrived a) = message_acceptances p a a.parsed.message

role_accepts : (r : Role) (p : Party) (i : Input) (moment : ℕ) → is_accept (row_by r p i moment).verdict ≡ true → keys_and_ends (acceptances_of p.own (received_text i) (row_by r p i moment).accepts) ≡ input_acceptances p i
role_accepts Bank p (input.Ordered c) moment h = none_added p.own [] _ (command_none p c moment)
role_accepts Bank p (input.Arrived a) moment h = bank_accepts p a a.parsed.message moment h
role_accepts Distribution p (input.Ordered c) moment h = none_added p.own [] _ (centre_none p c)
role_accepts Distribution p (input.Arrived a) moment h = distribution_accepts p a a.parsed.message moment h
role_accepts Translation p (input.Ordered c) moment h = none_added p.own [] _ (centre_none p c)
role_accepts Translation p (input.Arrived a) moment h = translation_accepts p a a.parsed.message h

pub row_accepts : (p : Party) (i : Input) (moment : ℕ) → is_accept (row_at p i moment).verdict ≡ true → keys_and_ends (acceptances_of p.own (received_text i) (row_at p i moment).accepts) ≡ input_acceptances p i
row_accepts p i moment h = role_accepts p.role p i moment h
