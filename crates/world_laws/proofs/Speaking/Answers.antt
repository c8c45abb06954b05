-- Each answer to a refused text is an error message.
use Rattle.role_base.specs.declared.exchanges.Twins.{Twins}
use Rattle.role_base.specs.Exchanges.{twins_to}
use Rattle.role_base.specs.Conditions.{is_two_keys}
use Rattle.bank_arrivals.specs.declared.draws.TwinsDrawn.{TwinsDrawn}
use Rattle.bank_arrivals.specs.SendingTwins.{twins_drawn, twins_sending_drawn}
use Rattle.bank_arrivals.specs.Rsm.{rsm_by}
use Rattle.world_laws.proofs.Roles.Inputs.{IsInput}
use Rattle.csm_read.proofs.Arrived.{arrival_says}
use Rattle.role_base.specs.Texts.{is_plain}
use Rattle.csm_grammar.specs.declared.message.Message.TheVariants as message
use Rattle.bank_keys.specs.Rtr.{brought, translated, rtr_with}
use Rattle.bank_orders.specs.Translate.{translate_drawn, translate_under}
use Rattle.distribution_role.specs.Requests.{rsi_tests as centre_tests, rsi_between, rsi_for}
use Rattle.distribution_role.specs.Recovery.{ers_tests, ers_between}
use Rattle.distribution_role.specs.Answering.{answering}
use Rattle.bank_orders.specs.declared.draws.KkDrawn.{KkDrawn}
use Rattle.bank_orders.specs.Draws.{kk_drawn}
use Rattle.bank_arrivals.specs.Esm.{error_of, error_with}
use Rattle.bank_arrivals.specs.AskingAgain.{retry_in}
use Rattle.bank_arrivals.specs.declared.asking_again.Retry.{Retry}
use Rattle.bank_keys.specs.Ksm.{body_link}
use Rattle.bank_orders.specs.StartKk.{kk_sending, start_kk_under}
use Rattle.bank_keys.specs.declared.waits.KeyAtCentre.{KeyAtCentre}
use Rattle.bank_keys.specs.Waiting.{waiting_with}
use Rattle.bank_arrivals.specs.Dsm.{named_by, dsm_on}
use Rattle.bank_orders.specs.Ending.{end_record}
use Rattle.bank_arrivals.specs.Esm.{subject_with}
use Rattle.role_base.specs.Exchanges.{record_of, sent_to, ending_with}
use Rattle.bank_arrivals.specs.Rsm.{rsm_to, answer_to, rsm_with}
use Rattle.role_base.specs.Sending.{sending_drawn}
use Rattle.bank_orders.specs.Start.{start_tests, start_under}
use Rattle.csm_grammar.specs.Arrivals.{authenticated_text}
use Rattle.bank_arrivals.specs.declared.disconnection.NamedKey.{NamedKey}
use Rattle.bank_arrivals.specs.declared.error_message.ErrorSubject.{ErrorSubject}
use Rattle.role_base.specs.declared.exchanges.Sent.{Sent}
use Rattle.csm_grammar.specs.Spelling.{Says}
use Rattle.csm_grammar.specs.declared.arrival.Arrival.{Arrival}
use Rattle.csm_grammar.specs.declared.message.Dsm.{Dsm}
use Rattle.csm_grammar.specs.declared.message.Ers.{Ers}
use Rattle.csm_grammar.specs.declared.message.Esm.{Esm}
use Rattle.csm_grammar.specs.declared.message.Message.{Message}
use Rattle.csm_grammar.specs.declared.message.Rsi.{Rsi}
use Rattle.csm_grammar.specs.declared.message.Rsm.{Rsm}
use Rattle.csm_grammar.specs.declared.message.Rtr.{Rtr}
use Rattle.party_tables.specs.Keys.{sends, takes}
use Rattle.party_state.specs.Rows.{Reply}
use Rattle.party_state.specs.State.{Party, centre_label, link_with, exchange_with}
use Rattle.party_state.specs.Verdicts.{Test}
use Rattle.party_tables.specs.declared.answer.Answer.{Answer}
use Rattle.party_tables.specs.declared.exchange.Exchange.{Exchange}
use Rattle.party_tables.specs.declared.key.KeyRec.{KeyRec}
use Rattle.party_tables.specs.declared.link.LinkRec.{LinkRec}
use Rattle.std.proofs.Common.{◌≡◌, ℕ, Bool, true, false, Option, Some, None, List, refl, sym, subst, max}
use Rattle.world_laws.proofs.Links.Found.{HasLinks}
use Rattle.x_base.specs.declared.key_name.KeyName.{KeyName}
use Rattle.x_base.specs.declared.party.Side.TheVariants.{Sends}
use Rattle.x_gen.specs.Gen.{good_draw}
use Rattle.x_gen.specs.declared.generator.Gen.{Gen}
use Rattle.party_state.specs.declared.command.Command.{Command}
use Rattle.party_state.specs.declared.command.Command.TheVariants as command
use Rattle.party_state.specs.declared.command.Input.{Input}
use Rattle.party_state.specs.declared.command.Input.TheVariants as input
use Rattle.x_base.specs.declared.party.Role.{Role}
use Rattle.x_base.specs.declared.party.Role.TheVariants as role
use Rattle.party_state.specs.State.{answer_with, first_link}
use Rattle.bank_arrivals.specs.Rsi.{rsi_tests as bank_rsi_tests, rsi_row as bank_rsi_row, rsi_under}
use Rattle.bank_orders.specs.Start.{sending_link}
use Rattle.bank_orders.specs.Resend.{resend_of}
use Rattle.bank_keys.specs.Ksm.{body_link}
use Rattle.member.specs.Rows.{row_by}
use Rattle.bank_orders.specs.Orders.{command_row}
use Rattle.member.specs.BankRows.{message_row}
use Rattle.role_base.specs.Centres.{centre_command}
use Rattle.distribution_role.specs.Rows.{distribution_message}
use Rattle.translation_role.specs.Rows.{translation_message}
use Rattle.world_laws.specs.Events.{IsCommand}
use Rattle.world_laws.proofs.Texts.Names.{IsNamed}
use Rattle.x_gen.specs.Gen.{good_draw}
use Rattle.world_laws.proofs.Speaking.Wellformed.{TellsEsm}
use Rattle.world_laws.proofs.Speaking.Errors.{key_tells, rfs_tells}

module _ (p : Party) (i : IsNamed p) where
  pub none_tells : (o : Option Reply) → o ≡ None → TellsEsm o
  none_tells o e = subst TellsEsm (sym e) tt

  sending_none : (front : List Test) (l : LinkRec) (o : Option (ℕ × Gen)) → (sending_drawn p front l o).answer ≡ None
  sending_none front l None = refl
  sending_none front l (Some d) = refl

  command_none : (c : Command) (moment : ℕ) → (command_row p c moment).answer ≡ None
  command_none (command.Load peer label side pair) moment = refl
  command_none (command.Start peer label) moment = go (sending_link p peer label)
    where
      go : (o : Option LinkRec) → (start_under p peer o moment).answer ≡ None
      go None = refl
      go (Some l) = sending_none (start_tests p peer (Some l)) l (good_draw p.generator moment)
  command_none (command.StartKk peer label new single) moment = go (sending_link p peer label)
    where
      by : (l : LinkRec) (d : Option KkDrawn) → (kk_sending p (start_tests p peer (Some l)) l new single d).answer ≡ None
      by l None = refl
      by l (Some d) = refl

      go : (o : Option LinkRec) → (start_kk_under p peer new single o moment).answer ≡ None
      go None = refl
      go (Some l) = by l (kk_drawn p.generator moment single)
  command_none (command.Ask peer None) moment = refl
  command_none (command.Ask peer (Some ultimate)) moment = refl
  command_none (command.Translate centre ultimate) moment = go (link_with (sends centre centre_label) p)
    where
      by : (l : LinkRec) (d : Option (ℕ × Gen)) → (translate_drawn p centre ultimate l d).answer ≡ None
      by l None = refl
      by l (Some d) = refl

      go : (o : Option LinkRec) → (translate_under p centre ultimate o moment).answer ≡ None
      go None = refl
      go (Some l) = by l (good_draw p.generator moment)
  command_none (command.Resend peer) moment = go (exchange_with peer p)
    where
      go : (o : Option Exchange) → (resend_of o).answer ≡ None
      go None = refl
      go (Some x) = refl
  command_none (command.End peer name) moment = go (record_of p peer name)
    where
      go : (o : Option KeyRec) → (end_record p peer o).answer ≡ None
      go None = refl
      go (Some k) = refl
  command_none (command.Drop peer) moment = refl
  command_none command.Purge moment = refl

  rsi_none : (a : Arrival) (m : Rsi) (moment : ℕ) (o : Option LinkRec) → (rsi_under p a m o moment).answer ≡ None
  rsi_none a m moment None = refl
  rsi_none a m moment (Some l) = by_service (is_two_keys m.service)
    where
      by_draw : (o : Option TwinsDrawn) → (twins_sending_drawn p (bank_rsi_tests p a m (Some l)) l o).answer ≡ None
      by_draw None = refl
      by_draw (Some d) = refl

      by_service : (b : Bool) → (bank_rsi_row p a m l moment b).answer ≡ None
      by_service true = by_draw (twins_drawn p.generator moment)
      by_service false = sending_none (bank_rsi_tests p a m (Some l)) l (good_draw p.generator moment)

  rtr_none : (a : Arrival) (m : Rtr) (kd : Option (ℕ × ℕ)) → (rtr_with p a m kd).answer ≡ None
  rtr_none a m (Some k) = go (link_with (takes m.originator centre_label) p)
    where
      go : (o : Option LinkRec) → (brought p a m k o).answer ≡ None
      go None = refl
      go (Some l) = refl
  rtr_none a m None = go (waiting_with p m.originator)
    where
      go : (o : Option KeyAtCentre) → (translated p a m o).answer ≡ None
      go None = refl
      go (Some t) = refl

  rsm_none : (a : Arrival) (m : Rsm) (o : Option KeyName) → (rsm_with p a m o).answer ≡ None
  rsm_none a m None = by_twins (twins_to p m.originator)
    where
      go : (o : Option Sent) → (rsm_to p a m o).answer ≡ None
      go None = refl
      go (Some s) = refl

      by_twins : (t : Option Twins) → (rsm_by p a m t).answer ≡ None
      by_twins None = go (sent_to p m.originator)
      by_twins (Some t) = refl
  rsm_none a m (Some name) = go (ending_with p m.originator)
    where
      go : (o : Option KeyRec) → (answer_to p a m name o).answer ≡ None
      go None = refl
      go (Some k) = refl

  pub esm_none : (a : Arrival) (m : Esm) (b : Bool) (again : Option Retry) → (error_with p a m b again).answer ≡ None
  esm_none a m true again = refl
  esm_none a m false again = go (subject_with p m.originator)
    where
      go : (o : Option ErrorSubject) → (error_of p a m o again).answer ≡ None
      go None = refl
      go (Some s) = refl

  dsm_none : (a : Arrival) (m : Dsm) (o : Option NamedKey) → (dsm_on p a m o).answer ≡ None
  dsm_none a m None = refl
  dsm_none a m (Some n) = refl

  bank_tells : (a : Arrival) (m : Message) (moment : ℕ) → HasLinks p → Says (authenticated_text a) m → TellsEsm (message_row p a m moment).answer
  bank_tells a (message.Rsi m) moment d said = none_tells (message_row p a (message.Rsi m) moment).answer (rsi_none a m moment (first_link m.originator Sends p))
  bank_tells a (message.Rfs m) moment d said = tt
  bank_tells a (message.Rtr m) moment d said = none_tells (message_row p a (message.Rtr m) moment).answer (rtr_none a m m.kd)
  bank_tells a (message.Ksm m) moment d said = key_tells p i a m m.body (body_link p m.originator m.body) d refl refl said
  bank_tells a (message.Rsm m) moment d said = none_tells (message_row p a (message.Rsm m) moment).answer (rsm_none a m m.idd)
  bank_tells a (message.Ers m) moment d said = tt
  bank_tells a (message.Esm m) moment d said = none_tells (message_row p a (message.Esm m) moment).answer (esm_none a m (is_plain a.parsed.shut) (retry_in p (subject_with p m.originator) m.ctr))
  bank_tells a (message.Dsm m) moment d said = none_tells (message_row p a (message.Dsm m) moment).answer (dsm_none a m (named_by p m))

  answering_none : (requester u : List ℕ) (tests : List Test) (a b : LinkRec) (d : Option (ℕ × Gen)) → (answering p requester u tests a b d).answer ≡ None
  answering_none requester u tests a b None = refl
  answering_none requester u tests a b (Some d) = refl

  centre_rsi_none : (a : Arrival) (m : Rsi) (u : Option (List ℕ)) (moment : ℕ) → (rsi_for p a m u moment).answer ≡ None
  centre_rsi_none a m None moment = refl
  centre_rsi_none a m (Some u) moment = go (link_with (sends m.originator centre_label) p) (link_with (sends u centre_label) p)
    where
      go : (fa fb : Option LinkRec) → (rsi_between p a m u fa fb (good_draw p.generator moment)).answer ≡ None
      go None fb = refl
      go (Some l) None = refl
      go (Some l) (Some b) = answering_none m.originator u (centre_tests p a m u l b) l b (good_draw p.generator moment)

  ers_none : (a : Arrival) (m : Ers) (o : Option Answer) (fa fb : Option LinkRec) (d : Option (ℕ × Gen)) → (ers_between p a m o fa fb d).answer ≡ None
  ers_none a m None fa fb d = refl
  ers_none a m (Some t) None fb d = refl
  ers_none a m (Some t) (Some l) None d = refl
  ers_none a m (Some t) (Some l) (Some b) d = answering_none m.originator m.ultimate (ers_tests p a m t l b) l (record b { next = max b.next m.ctr }) d

  distribution_tells : (a : Arrival) (m : Message) (moment : ℕ) → TellsEsm (distribution_message p a m moment).answer
  distribution_tells a (message.Rsi m) moment = none_tells (distribution_message p a (message.Rsi m) moment).answer (centre_rsi_none a m m.ultimate moment)
  distribution_tells a (message.Rfs m) moment = tt
  distribution_tells a (message.Rtr m) moment = tt
  distribution_tells a (message.Ksm m) moment = tt
  distribution_tells a (message.Rsm m) moment = tt
  distribution_tells a (message.Ers m) moment = none_tells (distribution_message p a (message.Ers m) moment).answer (ers_none a m (answer_with (record { requester = m.originator; ultimate = m.ultimate }) p) (link_with (sends m.originator centre_label) p) (link_with (sends m.ultimate centre_label) p) (good_draw p.generator moment))
  distribution_tells a (message.Esm m) moment = tt
  distribution_tells a (message.Dsm m) moment = tt

  translation_tells : (a : Arrival) (m : Message) → Says (authenticated_text a) m → TellsEsm (translation_message p a m).answer
  translation_tells a (message.Rsi m) said = tt
  translation_tells a (message.Rfs m) said = rfs_tells p i a m (link_with (takes m.originator centre_label) p) (link_with (sends m.ultimate centre_label) p) said refl
  translation_tells a (message.Rtr m) said = tt
  translation_tells a (message.Ksm m) said = tt
  translation_tells a (message.Rsm m) said = tt
  translation_tells a (message.Ers m) said = tt
  translation_tells a (message.Esm m) said = tt
  translation_tells a (message.Dsm m) said = tt

  centre_none : (c : Command) → IsCommand c → TellsEsm (centre_command p c).answer
  centre_none (command.Load peer label side pair) e = absurd e
  centre_none (command.Start peer label) e = tt
  centre_none (command.StartKk peer label new single) e = tt
  centre_none (command.Ask peer ultimate) e = tt
  centre_none (command.Translate centre ultimate) e = tt
  centre_none (command.Resend peer) e = tt
  centre_none (command.End peer name) e = tt
  centre_none (command.Drop peer) e = tt
  centre_none command.Purge e = tt

  pub role_tells : (r : Role) (j : Input) (moment : ℕ) → IsInput j → HasLinks p → TellsEsm (row_by r p j moment).answer
  role_tells role.Bank (input.Ordered c) moment e d = none_tells (command_row p c moment).answer (command_none c moment)
  role_tells role.Bank (input.Arrived a) moment e d = bank_tells a a.parsed.message moment d (arrival_says a)
  role_tells role.Distribution (input.Ordered c) moment e d = centre_none c e
  role_tells role.Distribution (input.Arrived a) moment e d = distribution_tells a a.parsed.message moment
  role_tells role.Translation (input.Ordered c) moment e d = centre_none c e
  role_tells role.Translation (input.Arrived a) moment e d = translation_tells a a.parsed.message (arrival_says a)
