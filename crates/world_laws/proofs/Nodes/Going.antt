-- No row of a bank begins a party, so its name stays.
use Rattle.csm_grammar.specs.declared.message.NewKk.{NewKk}
use Rattle.csm_grammar.specs.declared.message.Rtr.{Rtr}
use Rattle.party_tables.specs.Keys.{sends, takes}
use Rattle.party_state.specs.State.{link_with, centre_label}
use Rattle.bank_arrivals.specs.Esm.{subject_value}
use Rattle.bank_orders.specs.declared.draws.KkDrawn.{KkDrawn}
use Rattle.bank_orders.specs.Draws.{kk_drawn}
use Rattle.bank_orders.specs.StartKk.{kk_sending, start_kk_under}
use Rattle.bank_keys.specs.Ksm.{body_link, body_count, body_new, body_record, body_second, second_edits, taken_edits, key_row}
use Rattle.bank_keys.specs.declared.waits.KeyAtCentre.{KeyAtCentre}
use Rattle.bank_keys.specs.Waiting.{waiting_with}
use Rattle.bank_orders.specs.Translate.{translate_drawn, translate_under}
use Rattle.bank_keys.specs.Rtr.{brought, translated, rtr_with}
use Rattle.bank_arrivals.specs.declared.asking_again.Retry.{Retry}
use Rattle.bank_arrivals.specs.AskingAgain.{asked_again, retry_in}
use Rattle.bank_arrivals.specs.Esm.{error_of}
use Rattle.bank_orders.specs.Orders.{command_row}
use Rattle.member.specs.BankRows.{message_row}
use Rattle.role_base.specs.Texts.{is_plain}
use Rattle.std.proofs.Common.{◌≡◌, ℕ, Bool, true, false, cond, Option, Some, None, List, [], ◌∷◌, ◌++◌, refl, ◌∙◌}
use Rattle.std.specs.List.{AllByRecursion}
use Rattle.x_base.specs.declared.key_name.KeyName.{KeyName}
use Rattle.x_base.specs.declared.party.Side.TheVariants.{Sends}
use Rattle.x_gen.specs.declared.generator.Gen.{Gen}
use Rattle.x_gen.specs.Gen.{good_draw}
use Rattle.csm_grammar.specs.declared.message.Rsi.{Rsi}
use Rattle.csm_grammar.specs.declared.message.Ksm.{Ksm}
use Rattle.csm_grammar.specs.declared.message.KsmBody.{KsmBody}
use Rattle.csm_grammar.specs.declared.message.Rsm.{Rsm}
use Rattle.csm_grammar.specs.declared.message.Esm.{Esm}
use Rattle.csm_grammar.specs.declared.message.Dsm.{Dsm}
use Rattle.csm_grammar.specs.declared.message.Message.{Message}
use Rattle.csm_grammar.specs.declared.message.Message.TheVariants as message
use Rattle.csm_grammar.specs.declared.arrival.Arrival.{Arrival}
use Rattle.party_tables.specs.declared.link.LinkRec.{LinkRec}
use Rattle.party_tables.specs.declared.key.KeyRec.{KeyRec}
use Rattle.party_tables.specs.declared.key.KeyStatus.TheVariants.{Ended}
use Rattle.party_tables.specs.declared.exchange.Kind.{Kind}
use Rattle.party_tables.specs.declared.exchange.Kind.TheVariants as kind
use Rattle.party_tables.specs.declared.exchange.Exchange.{Exchange}
use Rattle.party_state.specs.declared.edit.Edit.{Edit}
use Rattle.party_state.specs.declared.edit.Edit.TheVariants.{Begin, PutLink, DropLink, PutKey, DropEnded, PutExchange, DropExchange, PutAnswer, SetGen}
use Rattle.party_state.specs.declared.command.Command.{Command}
use Rattle.party_state.specs.declared.command.Command.TheVariants as command
use Rattle.party_tables.specs.Keys.{same_name}
use Rattle.party_state.specs.Ranges.{IsNoBegin}
use Rattle.party_tables.specs.Statuses.{is_ended}
use Rattle.party_state.specs.State.{Party, apply_edit, apply, first_link, exchange_with}
use Rattle.party_state.specs.Verdicts.{Test}
use Rattle.role_base.specs.declared.exchanges.Sent.{Sent}
use Rattle.role_base.specs.declared.exchanges.Twins.{Twins}
use Rattle.role_base.specs.Conditions.{is_two_keys}
use Rattle.party_tables.specs.Names.{name_behind}
use Rattle.bank_arrivals.specs.declared.draws.TwinsDrawn.{TwinsDrawn}
use Rattle.bank_arrivals.specs.SendingTwins.{twins_drawn, twins_sending_drawn}
use Rattle.bank_arrivals.specs.declared.error_message.ErrorSubject.{ErrorSubject}
use Rattle.bank_arrivals.specs.declared.error_message.ErrorSubject.TheVariants.{SentKey, SentTwins, Translated}
use Rattle.bank_arrivals.specs.declared.disconnection.NamedKey.{NamedKey}
use Rattle.role_base.specs.Texts.{is_plain}
use Rattle.role_base.specs.Exchanges.{ended, record_of, sent_to, twins_to, ending_with, new_link, readied, dropped}
use Rattle.role_base.specs.Sending.{sending_drawn}
use Rattle.bank_orders.specs.Start.{sending_link, start_tests, start_under}
use Rattle.bank_orders.specs.Resend.{resend_of}
use Rattle.bank_orders.specs.GivingUp.{given_up, given_up_in}
use Rattle.bank_orders.specs.Ending.{end_record}
use Rattle.bank_arrivals.specs.Rsi.{rsi_tests, rsi_row, rsi_under}
use Rattle.bank_arrivals.specs.Rsm.{rsm_to, rsm_by, answer_to, rsm_with}
use Rattle.bank_arrivals.specs.Esm.{subject_with, subject_link, raised, subject_ended, plain_esm}
use Rattle.bank_arrivals.specs.Dsm.{named_by, left_by, left_in, dsm_on}

abbrev pub Goes : Edit → Type 0
Goes e = IsNoBegin e

abbrev pub GoesOn : List Edit → Type 0
GoesOn es = AllByRecursion Goes es

abbrev pub ok : Unit {0}
ok = tt

pub edit_own : (p : Party) (e : Edit) → IsNoBegin e → (apply_edit e p).own ≡ p.own
edit_own p (Begin own role generator) n = absurd n
edit_own p (PutLink l) n = refl
edit_own p (DropLink peer label side) n = refl
edit_own p (PutKey k) n = refl
edit_own p DropEnded n = refl
edit_own p (PutExchange e) n = refl
edit_own p (DropExchange peer) n = refl
edit_own p (PutAnswer a) n = refl
edit_own p (SetGen v) n = refl

pub own_stays : (es : List Edit) (p : Party) → GoesOn es → (apply es p).own ≡ p.own
own_stays [] p n = refl
own_stays (e ∷ es) p n = own_stays es (apply_edit e p) n.1 ∙ edit_own p e n.0

pub joined : (es fs : List Edit) → GoesOn es → GoesOn fs → GoesOn (es ++ fs)
joined [] fs a b = b
joined (e ∷ es) fs a b = (a.0, joined es fs a.1 b)

pub dropped_goes : (o : Option LinkRec) → GoesOn (dropped o)
dropped_goes None = tt
dropped_goes (Some l) = (ok, tt)

pub readied_goes : (o : Option LinkRec) → GoesOn (readied o)
readied_goes None = tt
readied_goes (Some l) = (ok, tt)

pub ended_goes : (o : Option KeyRec) → GoesOn (ended o)
ended_goes None = tt
ended_goes (Some k) = (ok, tt)

pub raised_goes : (o : Option LinkRec) (ctr : Option ℕ) → GoesOn (raised o ctr)
raised_goes None ctr = tt
raised_goes (Some l) None = tt
raised_goes (Some l) (Some n) = (ok, tt)

pub sending_goes : (p : Party) (front : List Test) (l : LinkRec) (o : Option (ℕ × Gen)) → GoesOn (sending_drawn p front l o).edits
sending_goes p front l None = tt
sending_goes p front l (Some d) = (ok, (ok, (ok, (ok, tt))))

pub given_up_goes : (p : Party) (peer : List ℕ) (o : Option Exchange) → GoesOn (given_up_in p peer o)
given_up_goes p peer None = tt
given_up_goes p peer (Some e) = joined (given_up p peer e.kind) (DropExchange peer ∷ []) (by_kind e.kind) (ok, tt)
  where
    by_kind : (k : Kind) → GoesOn (given_up p peer k)
    by_kind (kind.KeySent name via) = joined (dropped (new_link p peer via)) (ended (record_of p peer name)) (dropped_goes (new_link p peer via)) (ended_goes (record_of p peer name))
    by_kind (kind.Asked ultimate) = tt
    by_kind (kind.Translating ultimate value cta) = tt
    by_kind (kind.Ending name) = tt
    by_kind (kind.PairSent name) = joined (ended (record_of p peer name)) (ended (record_of p peer (name_behind name))) (ended_goes (record_of p peer name)) (ended_goes (record_of p peer (name_behind name)))

pub kk_goes : (p : Party) (peer new : List ℕ) (single : Bool) (o : Option LinkRec) (moment : ℕ) → GoesOn (start_kk_under p peer new single o moment).edits
kk_goes p peer new single None moment = tt
kk_goes p peer new single (Some l) moment = go (kk_drawn p.generator moment single)
  where
    go : (d : Option KkDrawn) → GoesOn (kk_sending p (start_tests p peer (Some l)) l new single d).edits
    go None = tt
    go (Some d) = (ok, (ok, (ok, (ok, (ok, tt)))))

pub translate_goes : (p : Party) (centre u : List ℕ) (o : Option LinkRec) (moment : ℕ) → GoesOn (translate_under p centre u o moment).edits
translate_goes p centre u None moment = tt
translate_goes p centre u (Some l) moment = go (good_draw p.generator moment)
  where
    go : (d : Option (ℕ × Gen)) → GoesOn (translate_drawn p centre u l d).edits
    go None = tt
    go (Some d) = (ok, (ok, (ok, tt)))

pub command_goes : (p : Party) (c : Command) (moment : ℕ) → GoesOn (command_row p c moment).edits
command_goes p (command.Load peer label side pair) moment = (ok, tt)
command_goes p (command.Start peer label) moment = go (sending_link p peer label)
  where
    go : (o : Option LinkRec) → GoesOn (start_under p peer o moment).edits
    go None = tt
    go (Some l) = sending_goes p (start_tests p peer (Some l)) l (good_draw p.generator moment)
command_goes p (command.StartKk peer label new single) moment = kk_goes p peer new single (sending_link p peer label) moment
command_goes p (command.Ask peer None) moment = tt
command_goes p (command.Ask peer (Some ultimate)) moment = (ok, tt)
command_goes p (command.Translate centre ultimate) moment = translate_goes p centre ultimate (link_with (sends centre centre_label) p) moment
command_goes p (command.Resend peer) moment = go (exchange_with peer p)
  where
    go : (o : Option Exchange) → GoesOn (resend_of o).edits
    go None = tt
    go (Some x) = tt
command_goes p (command.End peer name) moment = go (record_of p peer name)
  where
    go : (o : Option KeyRec) → GoesOn (end_record p peer o).edits
    go None = tt
    go (Some k) = (ok, (ok, tt))
command_goes p (command.Drop peer) moment = given_up_goes p peer (exchange_with peer p)
command_goes p command.Purge moment = (ok, tt)

pub rsi_goes : (p : Party) (a : Arrival) (m : Rsi) (moment : ℕ) (o : Option LinkRec) → GoesOn (rsi_under p a m o moment).edits
rsi_goes p a m moment None = tt
rsi_goes p a m moment (Some l) = by_service (is_two_keys m.service)
  where
    by_draw : (o : Option TwinsDrawn) → GoesOn (twins_sending_drawn p (rsi_tests p a m (Some l)) l o).edits
    by_draw None = tt
    by_draw (Some d) = (ok, (ok, (ok, (ok, (ok, tt)))))

    by_service : (b : Bool) → GoesOn (rsi_row p a m l moment b).edits
    by_service true = by_draw (twins_drawn p.generator moment)
    by_service false = sending_goes p (rsi_tests p a m (Some l)) l (good_draw p.generator moment)

pub key_goes : (p : Party) (a : Arrival) (m : Ksm) (b : KsmBody) (o : Option LinkRec) → GoesOn (key_row p a m b o).edits
key_goes p a m b None = tt
key_goes p a m b (Some l) = (ok, go (body_new b))
  where
    behind : (o : Option KeyRec) → GoesOn (PutKey (body_record p m b l) ∷ second_edits o)
    behind None = (ok, tt)
    behind (Some k) = (ok, (ok, tt))

    go : (n : Option (List ℕ × NewKk)) → GoesOn (taken_edits m.originator l (body_count b) n ++ PutKey (body_record p m b l) ∷ second_edits (body_second p m b l))
    go None = behind (body_second p m b l)
    go (Some n) = (ok, behind (body_second p m b l))

pub rtr_goes : (p : Party) (a : Arrival) (m : Rtr) (kd : Option (ℕ × ℕ)) → GoesOn (rtr_with p a m kd).edits
rtr_goes p a m (Some k) = go (link_with (takes m.originator centre_label) p)
  where
    go : (o : Option LinkRec) → GoesOn (brought p a m k o).edits
    go None = tt
    go (Some l) = (ok, (ok, (ok, (ok, tt))))
rtr_goes p a m None = go (waiting_with p m.originator)
  where
    go : (o : Option KeyAtCentre) → GoesOn (translated p a m o).edits
    go None = tt
    go (Some t) = (ok, (ok, (ok, tt)))

pub rsm_goes : (p : Party) (a : Arrival) (m : Rsm) (o : Option KeyName) → GoesOn (rsm_with p a m o).edits
rsm_goes p a m None = by_twins (twins_to p m.originator)
  where
    go : (o : Option Sent) → GoesOn (rsm_to p a m o).edits
    go None = tt
    go (Some s) = joined (readied (new_link p m.originator s.via)) _ (readied_goes (new_link p m.originator s.via)) (ok, (ok, tt))

    by_twins : (t : Option Twins) → GoesOn (rsm_by p a m t).edits
    by_twins None = go (sent_to p m.originator)
    by_twins (Some t) = (ok, (ok, (ok, tt)))
rsm_goes p a m (Some name) = go (ending_with p m.originator)
  where
    go : (o : Option KeyRec) → GoesOn (answer_to p a m name o).edits
    go None = tt
    go (Some k) = (ok, (ok, tt))

pub subject_goes : (p : Party) (peer : List ℕ) (s : ErrorSubject) → GoesOn (subject_ended p peer s)
subject_goes p peer (SentKey s) = joined (dropped (new_link p peer s.via)) _ (dropped_goes (new_link p peer s.via)) (ok, tt)
subject_goes p peer (SentTwins t) = (ok, (ok, tt))
subject_goes p peer (Translated value cta) = tt

pub again_goes : (p : Party) (m : Esm) (value : ℕ) (t : Option Retry) → GoesOn (DropExchange m.originator ∷ asked_again p m value t)
again_goes p m value None = (ok, tt)
again_goes p m value (Some t) = (ok, (ok, tt))

pub esm_goes : (p : Party) (a : Arrival) (m : Esm) (b : Bool) (o : Option ErrorSubject) (again : Option Retry) → GoesOn (cond b (plain_esm p a m) (error_of p a m o again)).edits
esm_goes p a m true o again = tt
esm_goes p a m false None again = tt
esm_goes p a m false (Some s) again = joined (raised (subject_link p m.originator s) m.ctr) _ (raised_goes (subject_link p m.originator s) m.ctr) (joined (subject_ended p m.originator s) (DropExchange m.originator ∷ asked_again p m (subject_value s) again) (subject_goes p m.originator s) (again_goes p m (subject_value s) again))

-- the edits before a key that ends, and those behind it
abbrev pub BothGo : List Edit × List Edit → Type 0
BothGo gone = GoesOn gone.0 × GoesOn gone.1

pub dsm_goes : (p : Party) (a : Arrival) (m : Dsm) (o : Option NamedKey) → GoesOn (dsm_on p a m o).edits
dsm_goes p a m None = tt
dsm_goes p a m (Some n) = by_status (is_ended n.key.status)
  where
    by_sent : (o : Option LinkRec) (b : Bool) → BothGo (cond b (dropped o, DropExchange m.originator ∷ []) ([], []))
    by_sent o true = (dropped_goes o, (ok, tt))
    by_sent o false = (tt, tt)

    by_ending : (b : Bool) → BothGo (cond b ([], DropExchange m.originator ∷ []) ([], []))
    by_ending true = (tt, (ok, tt))
    by_ending false = (tt, tt)

    by_pair : (sent : KeyName) (b d : Bool) → BothGo (cond b ([], ended (record_of p m.originator (name_behind sent)) ++ DropExchange m.originator ∷ []) (cond d (ended (record_of p m.originator sent), DropExchange m.originator ∷ []) ([], [])))
    by_pair sent true d = (tt, joined (ended (record_of p m.originator (name_behind sent))) (DropExchange m.originator ∷ []) (ended_goes (record_of p m.originator (name_behind sent))) (ok, tt))
    by_pair sent false true = (ended_goes (record_of p m.originator sent), (ok, tt))
    by_pair sent false false = (tt, tt)

    by_kind : (k : Kind) → BothGo (left_by p m.originator n.key.name k)
    by_kind (kind.KeySent sent via) = by_sent (new_link p m.originator via) (same_name n.key.name sent)
    by_kind (kind.Ending ending) = by_ending (same_name n.key.name ending)
    by_kind (kind.Asked ultimate) = (tt, tt)
    by_kind (kind.Translating ultimate value cta) = (tt, tt)
    by_kind (kind.PairSent sent) = by_pair sent (same_name n.key.name sent) (same_name n.key.name (name_behind sent))

    by_exchange : (o : Option Exchange) → BothGo (left_in p m.originator n.key.name o)
    by_exchange None = (tt, tt)
    by_exchange (Some e) = by_kind e.kind

    by_status : (b : Bool) → GoesOn (cond b [] ((left_in p m.originator n.key.name (exchange_with m.originator p)).0 ++ (PutKey (record n.key { status = Ended }) ∷ (left_in p m.originator n.key.name (exchange_with m.originator p)).1)))
    by_status true = tt
    by_status false = (let g = by_exchange (exchange_with m.originator p) in joined _ _ g.0 (ok, g.1))

pub message_goes : (p : Party) (a : Arrival) (m : Message) (moment : ℕ) → GoesOn (message_row p a m moment).edits
message_goes p a (message.Rsi m) moment = rsi_goes p a m moment (first_link m.originator Sends p)
message_goes p a (message.Rfs m) moment = tt
message_goes p a (message.Rtr m) moment = rtr_goes p a m m.kd
message_goes p a (message.Ksm m) moment = key_goes p a m m.body (body_link p m.originator m.body)
message_goes p a (message.Rsm m) moment = rsm_goes p a m m.idd
message_goes p a (message.Ers m) moment = tt
message_goes p a (message.Esm m) moment = esm_goes p a m (is_plain a.parsed.shut) (subject_with p m.originator) (retry_in p (subject_with p m.originator) m.ctr)
message_goes p a (message.Dsm m) moment = dsm_goes p a m (named_by p m)
