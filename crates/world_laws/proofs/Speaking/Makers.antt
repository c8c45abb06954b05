-- Each text that a party writes under a key names the party as its originator.
use Rattle.role_base.specs.declared.exchanges.Twins.{Twins}
use Rattle.role_base.specs.Exchanges.{twins_to}
use Rattle.role_base.specs.Conditions.{is_two_keys}
use Rattle.bank_keys.specs.Ksm.{body_code}
use Rattle.bank_arrivals.specs.declared.draws.TwinsDrawn.{TwinsDrawn}
use Rattle.bank_arrivals.specs.SendingTwins.{twins_drawn, twins_sending_drawn}
use Rattle.bank_arrivals.specs.Rsm.{rsm_by}
use Rattle.std.proofs.Common.{◌≡◌, ℕ, Bool, true, false, cond, max, Option, Some, None, List, refl, option_map, bytes_eq}
use Rattle.x_base.specs.declared.key_name.KeyName.{KeyName}
use Rattle.x_base.specs.declared.key_name.FullName.{FullName}
use Rattle.x_base.specs.declared.party.Role.{Role}
use Rattle.x_base.specs.declared.party.Role.TheVariants as role
use Rattle.x_base.specs.declared.party.Side.TheVariants.{Sends}
use Rattle.x_base.specs.declared.verdict.Verdict.TheVariants.{WrongClass}
use Rattle.x_gen.specs.declared.generator.Gen.{Gen}
use Rattle.x_gen.specs.Gen.{good_draw}
use Rattle.csm_grammar.specs.declared.arrival.Arrival.{Arrival}
use Rattle.csm_grammar.specs.declared.message.Message.{Message}
use Rattle.csm_grammar.specs.declared.message.Message.TheVariants as message
use Rattle.csm_grammar.specs.declared.message.Dsm.{Dsm}
use Rattle.csm_grammar.specs.declared.message.Ers.{Ers}
use Rattle.csm_grammar.specs.declared.message.Esm.{Esm}
use Rattle.csm_grammar.specs.declared.message.Ksm.{Ksm}
use Rattle.csm_grammar.specs.declared.message.KsmBody.{KsmBody}
use Rattle.csm_grammar.specs.declared.message.KsmBody.TheVariants as body
use Rattle.csm_grammar.specs.declared.message.Rfs.{Rfs}
use Rattle.csm_grammar.specs.declared.message.Rsi.{Rsi}
use Rattle.csm_grammar.specs.declared.message.Rsm.{Rsm}
use Rattle.csm_grammar.specs.declared.message.Rtr.{Rtr}
use Rattle.party_tables.specs.declared.answer.Answer.{Answer}
use Rattle.party_state.specs.declared.command.Command.{Command}
use Rattle.party_state.specs.declared.command.Command.TheVariants as command
use Rattle.party_state.specs.declared.command.Input.{Input}
use Rattle.party_state.specs.declared.command.Input.TheVariants as input
use Rattle.party_tables.specs.declared.exchange.Exchange.{Exchange}
use Rattle.party_tables.specs.declared.key.KeyRec.{KeyRec}
use Rattle.party_tables.specs.declared.link.LinkRec.{LinkRec}
use Rattle.party_tables.specs.Keys.{sends, takes}
use Rattle.party_state.specs.Rows.{Row, Reply, Coded, Plain, Again, refused}
use Rattle.party_state.specs.State.{Party, centre_label, link_with, exchange_with, answer_with, first_link}
use Rattle.party_state.specs.Verdicts.{Test, verdict_of}
use Rattle.role_base.specs.Errors.{error_letter, expected_count, coded_under}
use Rattle.role_base.specs.Exchanges.{record_of, sent_to, ending_with}
use Rattle.role_base.specs.Sending.{sending_drawn}
use Rattle.role_base.specs.Texts.{is_plain}
use Rattle.role_base.specs.declared.exchanges.Sent.{Sent}
use Rattle.role_base.specs.Load.{load}
use Rattle.bank_orders.specs.Start.{sending_link, start_tests, start_under}
use Rattle.bank_orders.specs.Resend.{resend_of}
use Rattle.bank_orders.specs.Ending.{end_record}
use Rattle.bank_arrivals.specs.Rsi.{rsi_tests as bank_rsi_tests, rsi_row as bank_rsi_row, rsi_under}
use Rattle.bank_arrivals.specs.Rsm.{rsm_to, answer_to, rsm_with}
use Rattle.bank_arrivals.specs.Esm.{subject_with}
use Rattle.bank_arrivals.specs.Dsm.{named_by, dsm_on}
use Rattle.bank_arrivals.specs.declared.disconnection.NamedKey.{NamedKey}
use Rattle.bank_arrivals.specs.declared.error_message.ErrorSubject.{ErrorSubject}
use Rattle.bank_keys.specs.Rtr.{brought, translated, rtr_with}
use Rattle.bank_orders.specs.Translate.{translate_drawn, translate_under}
use Rattle.distribution_role.specs.Requests.{rsi_tests as centre_tests, rsi_between, rsi_for}
use Rattle.distribution_role.specs.Recovery.{ers_tests, ers_between}
use Rattle.distribution_role.specs.Answering.{answering}
use Rattle.bank_orders.specs.declared.draws.KkDrawn.{KkDrawn}
use Rattle.bank_orders.specs.Draws.{kk_drawn}
use Rattle.bank_arrivals.specs.Esm.{error_of, error_with}
use Rattle.bank_arrivals.specs.AskingAgain.{retry_in}
use Rattle.bank_arrivals.specs.declared.asking_again.Retry.{Retry}
use Rattle.bank_keys.specs.Ksm.{body_link, body_name, body_tests, body_message, key_row}
use Rattle.bank_orders.specs.StartKk.{kk_sending, start_kk_under}
use Rattle.translation_role.specs.Service.{rfs_between, rfs_tests, rfs_under, rfs_value, rfs_message}
use Rattle.bank_keys.specs.declared.waits.KeyAtCentre.{KeyAtCentre}
use Rattle.bank_keys.specs.Waiting.{waiting_with}
use Rattle.member.specs.Rows.{row_by}
use Rattle.bank_orders.specs.Orders.{command_row}
use Rattle.member.specs.BankRows.{message_row}
use Rattle.role_base.specs.Centres.{centre_command}
use Rattle.distribution_role.specs.Rows.{distribution_message}
use Rattle.translation_role.specs.Rows.{translation_message}
use Rattle.member.specs.Rows.{row_at}
use Rattle.world_laws.specs.Facts.{sender_of}

abbrev pub SentBy : List ℕ → Option Reply → Type 0
SentBy own None = Unit {0}
SentBy own (Some (Coded m under value)) = sender_of m ≡ own
SentBy own (Some (Plain m)) = Unit {0}
SentBy own (Some (Again text)) = Unit {0}

-- what a row writes, and what answers its refusal
pub record BySelf (own : List ℕ) (r : Row) : Type 0 where
  pub reply : SentBy own r.reply
  pub answer : SentBy own r.answer

module _ (p : Party) where
  sending_self : (front : List Test) (l : LinkRec) (o : Option (ℕ × Gen)) → BySelf p.own (sending_drawn p front l o)
  sending_self front l None = record { reply = tt; answer = tt }
  sending_self front l (Some d) = record { reply = refl; answer = tt }

  start_self : (peer : List ℕ) (o : Option LinkRec) (moment : ℕ) → BySelf p.own (start_under p peer o moment)
  start_self peer None moment = record { reply = tt; answer = tt }
  start_self peer (Some l) moment = sending_self (start_tests p peer (Some l)) l (good_draw p.generator moment)

  kk_self : (peer new : List ℕ) (single : Bool) (l : LinkRec) (d : Option KkDrawn) → BySelf p.own (kk_sending p (start_tests p peer (Some l)) l new single d)
  kk_self peer new single l None = record { reply = tt; answer = tt }
  kk_self peer new single l (Some d) = record { reply = refl; answer = tt }

  start_kk_self : (peer new : List ℕ) (single : Bool) (o : Option LinkRec) (moment : ℕ) → BySelf p.own (start_kk_under p peer new single o moment)
  start_kk_self peer new single None moment = record { reply = tt; answer = tt }
  start_kk_self peer new single (Some l) moment = kk_self peer new single l (kk_drawn p.generator moment single)

  translate_self : (centre u : List ℕ) (o : Option LinkRec) (moment : ℕ) → BySelf p.own (translate_under p centre u o moment)
  translate_self centre u None moment = record { reply = tt; answer = tt }
  translate_self centre u (Some l) moment = by (good_draw p.generator moment)
    where
      by : (d : Option (ℕ × Gen)) → BySelf p.own (translate_drawn p centre u l d)
      by None = record { reply = tt; answer = tt }
      by (Some d) = record { reply = refl; answer = tt }

  resend_self : (o : Option Exchange) → BySelf p.own (resend_of o)
  resend_self None = record { reply = tt; answer = tt }
  resend_self (Some e) = record { reply = tt; answer = tt }

  end_self : (peer : List ℕ) (o : Option KeyRec) → BySelf p.own (end_record p peer o)
  end_self peer None = record { reply = tt; answer = tt }
  end_self peer (Some k) = record { reply = refl; answer = tt }

  command_self : (c : Command) (moment : ℕ) → BySelf p.own (command_row p c moment)
  command_self (command.Load peer label side pair) moment = record { reply = tt; answer = tt }
  command_self (command.Start peer label) moment = start_self peer (sending_link p peer label) moment
  command_self (command.StartKk peer label new single) moment = start_kk_self peer new single (sending_link p peer label) moment
  command_self (command.Ask peer None) moment = record { reply = tt; answer = tt }
  command_self (command.Ask peer (Some ultimate)) moment = record { reply = tt; answer = tt }
  command_self (command.Translate centre ultimate) moment = translate_self centre ultimate (link_with (sends centre centre_label) p) moment
  command_self (command.Resend peer) moment = resend_self (exchange_with peer p)
  command_self (command.End peer name) moment = end_self peer (record_of p peer name)
  command_self (command.Drop peer) moment = record { reply = tt; answer = tt }
  command_self command.Purge moment = record { reply = tt; answer = tt }

  rsi_self : (a : Arrival) (m : Rsi) (moment : ℕ) (o : Option LinkRec) → BySelf p.own (rsi_under p a m o moment)
  rsi_self a m moment None = record { reply = tt; answer = tt }
  rsi_self a m moment (Some l) = by_service (is_two_keys m.service)
    where
      by_draw : (o : Option TwinsDrawn) → BySelf p.own (twins_sending_drawn p (bank_rsi_tests p a m (Some l)) l o)
      by_draw None = record { reply = tt; answer = tt }
      by_draw (Some d) = record { reply = refl; answer = tt }

      by_service : (b : Bool) → BySelf p.own (bank_rsi_row p a m l moment b)
      by_service true = by_draw (twins_drawn p.generator moment)
      by_service false = sending_self (bank_rsi_tests p a m (Some l)) l (good_draw p.generator moment)

  rtr_self : (a : Arrival) (m : Rtr) (kd : Option (ℕ × ℕ)) → BySelf p.own (rtr_with p a m kd)
  rtr_self a m (Some k) = go (link_with (takes m.originator centre_label) p)
    where
      go : (o : Option LinkRec) → BySelf p.own (brought p a m k o)
      go None = record { reply = tt; answer = tt }
      go (Some l) = record { reply = refl; answer = tt }
  rtr_self a m None = go (waiting_with p m.originator)
    where
      go : (o : Option KeyAtCentre) → BySelf p.own (translated p a m o)
      go None = record { reply = tt; answer = tt }
      go (Some t) = record { reply = refl; answer = tt }

  -- the error message to a refused text
  error_self : (originator : List ℕ) (b : KsmBody) (under : FullName) (value : ℕ) (ctr : Option ℕ) (o : Option (List ℕ)) → SentBy p.own (coded_under under value (option_map (λ erf. body_message p originator b erf ctr) o))
  error_self originator b under value ctr None = tt
  error_self originator (body.Direct idk2 new kd ctp) under value ctr (Some erf) = refl
  error_self originator (body.Centre centre kdu ctb) under value ctr (Some erf) = refl
  error_self originator (body.Twin idk2 first second ctp) under value ctr (Some erf) = refl

  key_self : (a : Arrival) (m : Ksm) (b : KsmBody) (o : Option LinkRec) → BySelf p.own (key_row p a m b o)
  key_self a m b None = record { reply = tt; answer = tt }
  key_self a m b (Some l) = record {
    reply = refl;
    answer = error_self m.originator b (body_name p m.originator b l) (body_code l.pair m.originator p.own b) (expected_count (verdict_of (body_tests p a m b l))) (error_letter (verdict_of (body_tests p a m b l)));
  }

  rsm_self : (a : Arrival) (m : Rsm) (o : Option KeyName) → BySelf p.own (rsm_with p a m o)
  rsm_self a m None = by_twins (twins_to p m.originator)
    where
      go : (o : Option Sent) → BySelf p.own (rsm_to p a m o)
      go None = record { reply = tt; answer = tt }
      go (Some s) = record { reply = tt; answer = tt }

      by_twins : (t : Option Twins) → BySelf p.own (rsm_by p a m t)
      by_twins None = go (sent_to p m.originator)
      by_twins (Some t) = record { reply = tt; answer = tt }
  rsm_self a m (Some name) = go (ending_with p m.originator)
    where
      go : (o : Option KeyRec) → BySelf p.own (answer_to p a m name o)
      go None = record { reply = tt; answer = tt }
      go (Some k) = record { reply = tt; answer = tt }

  esm_self : (a : Arrival) (m : Esm) (b : Bool) (again : Option Retry) → BySelf p.own (error_with p a m b again)
  esm_self a m true again = record { reply = tt; answer = tt }
  esm_self a m false again = go (subject_with p m.originator) again
    where
      go : (o : Option ErrorSubject) (t : Option Retry) → BySelf p.own (error_of p a m o t)
      go None t = record { reply = tt; answer = tt }
      go (Some s) None = record { reply = tt; answer = tt }
      go (Some s) (Some t) = record { reply = refl; answer = tt }

  dsm_self : (a : Arrival) (m : Dsm) (o : Option NamedKey) → BySelf p.own (dsm_on p a m o)
  dsm_self a m None = record { reply = tt; answer = tt }
  dsm_self a m (Some n) = record { reply = refl; answer = tt }

  bank_self : (a : Arrival) (m : Message) (moment : ℕ) → BySelf p.own (message_row p a m moment)
  bank_self a (message.Rsi m) moment = rsi_self a m moment (first_link m.originator Sends p)
  bank_self a (message.Rfs m) moment = record { reply = tt; answer = tt }
  bank_self a (message.Rtr m) moment = rtr_self a m m.kd
  bank_self a (message.Ksm m) moment = key_self a m m.body (body_link p m.originator m.body)
  bank_self a (message.Rsm m) moment = rsm_self a m m.idd
  bank_self a (message.Ers m) moment = record { reply = tt; answer = tt }
  bank_self a (message.Esm m) moment = esm_self a m (is_plain a.parsed.shut) (retry_in p (subject_with p m.originator) m.ctr)
  bank_self a (message.Dsm m) moment = dsm_self a m (named_by p m)

  answering_self : (requester u : List ℕ) (tests : List Test) (a b : LinkRec) (d : Option (ℕ × Gen)) → BySelf p.own (answering p requester u tests a b d)
  answering_self requester u tests a b None = record { reply = tt; answer = tt }
  answering_self requester u tests a b (Some d) = record { reply = refl; answer = tt }

  centre_rsi_self : (a : Arrival) (m : Rsi) (u : Option (List ℕ)) (moment : ℕ) → BySelf p.own (rsi_for p a m u moment)
  centre_rsi_self a m None moment = record { reply = tt; answer = tt }
  centre_rsi_self a m (Some u) moment = go (link_with (sends m.originator centre_label) p) (link_with (sends u centre_label) p)
    where
      go : (fa fb : Option LinkRec) → BySelf p.own (rsi_between p a m u fa fb (good_draw p.generator moment))
      go None fb = record { reply = tt; answer = tt }
      go (Some l) None = record { reply = tt; answer = tt }
      go (Some l) (Some b) = answering_self m.originator u (centre_tests p a m u l b) l b (good_draw p.generator moment)

  ers_self : (a : Arrival) (m : Ers) (o : Option Answer) (fa fb : Option LinkRec) (d : Option (ℕ × Gen)) → BySelf p.own (ers_between p a m o fa fb d)
  ers_self a m None fa fb d = record { reply = tt; answer = tt }
  ers_self a m (Some t) None fb d = record { reply = tt; answer = tt }
  ers_self a m (Some t) (Some l) None d = record { reply = tt; answer = tt }
  ers_self a m (Some t) (Some l) (Some b) d = answering_self m.originator m.ultimate (ers_tests p a m t l b) l (record b { next = max b.next m.ctr }) d

  distribution_self : (a : Arrival) (m : Message) (moment : ℕ) → BySelf p.own (distribution_message p a m moment)
  distribution_self a (message.Rsi m) moment = centre_rsi_self a m m.ultimate moment
  distribution_self a (message.Rfs m) moment = record { reply = tt; answer = tt }
  distribution_self a (message.Rtr m) moment = record { reply = tt; answer = tt }
  distribution_self a (message.Ksm m) moment = record { reply = tt; answer = tt }
  distribution_self a (message.Rsm m) moment = record { reply = tt; answer = tt }
  distribution_self a (message.Ers m) moment = ers_self a m (answer_with (record { requester = m.originator; ultimate = m.ultimate }) p) (link_with (sends m.originator centre_label) p) (link_with (sends m.ultimate centre_label) p) (good_draw p.generator moment)
  distribution_self a (message.Esm m) moment = record { reply = tt; answer = tt }
  distribution_self a (message.Dsm m) moment = record { reply = tt; answer = tt }

  rfs_error_self : (m : Rfs) (under : FullName) (value : ℕ) (ctr : Option ℕ) (o : Option (List ℕ)) → SentBy p.own (coded_under under value (option_map (λ erf. rfs_message p m erf ctr) o))
  rfs_error_self m under value ctr None = tt
  rfs_error_self m under value ctr (Some erf) = refl

  translation_self : (a : Arrival) (m : Message) → BySelf p.own (translation_message p a m)
  translation_self a (message.Rsi m) = record { reply = tt; answer = tt }
  translation_self a (message.Rfs m) = go (link_with (takes m.originator centre_label) p) (link_with (sends m.ultimate centre_label) p)
    where
      go : (fa fb : Option LinkRec) → BySelf p.own (rfs_between p a m fa fb)
      go None fb = record { reply = tt; answer = tt }
      go (Some l) None = record { reply = tt; answer = tt }
      go (Some l) (Some b) = record {
        reply = refl;
        answer = rfs_error_self m (rfs_under p m) (rfs_value m l) (expected_count (verdict_of (rfs_tests p a m l b))) (error_letter (verdict_of (rfs_tests p a m l b)));
      }
  translation_self a (message.Rtr m) = record { reply = tt; answer = tt }
  translation_self a (message.Ksm m) = record { reply = tt; answer = tt }
  translation_self a (message.Rsm m) = record { reply = tt; answer = tt }
  translation_self a (message.Ers m) = record { reply = tt; answer = tt }
  translation_self a (message.Esm m) = record { reply = tt; answer = tt }
  translation_self a (message.Dsm m) = record { reply = tt; answer = tt }

  centre_self : (c : Command) → BySelf p.own (centre_command p c)
  centre_self (command.Load peer label side pair) = go (bytes_eq label centre_label)
    where
      go : (b : Bool) → BySelf p.own (cond b (load p peer label side pair) (refused WrongClass))
      go true = record { reply = tt; answer = tt }
      go false = record { reply = tt; answer = tt }
  centre_self (command.Start peer label) = record { reply = tt; answer = tt }
  centre_self (command.StartKk peer label new single) = record { reply = tt; answer = tt }
  centre_self (command.Ask peer ultimate) = record { reply = tt; answer = tt }
  centre_self (command.Translate centre ultimate) = record { reply = tt; answer = tt }
  centre_self (command.Resend peer) = record { reply = tt; answer = tt }
  centre_self (command.End peer name) = record { reply = tt; answer = tt }
  centre_self (command.Drop peer) = record { reply = tt; answer = tt }
  centre_self command.Purge = record { reply = tt; answer = tt }

  role_self : (r : Role) (j : Input) (moment : ℕ) → BySelf p.own (row_by r p j moment)
  role_self role.Bank (input.Ordered c) moment = command_self c moment
  role_self role.Bank (input.Arrived a) moment = bank_self a a.parsed.message moment
  role_self role.Distribution (input.Ordered c) moment = centre_self c
  role_self role.Distribution (input.Arrived a) moment = distribution_self a a.parsed.message moment
  role_self role.Translation (input.Ordered c) moment = centre_self c
  role_self role.Translation (input.Arrived a) moment = translation_self a a.parsed.message

pub row_self : (p : Party) (j : Input) (moment : ℕ) → BySelf p.own (row_at p j moment)
row_self p j moment = role_self p p.role j moment
