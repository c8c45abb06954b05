-- Agreement: each accepted row of the standard, by role.
use Rattle.std.proofs.Common.{Contains}
use Rattle.world_laws.proofs.Roles.Inputs.{IsInput}
use Rattle.csm_read.proofs.Arrived.{arrival_says}
use Rattle.role_base.specs.Texts.{is_plain}
use Rattle.csm_grammar.specs.declared.message.Message.TheVariants as message
use Rattle.bank_orders.specs.Draws.{kk_drawn}
use Rattle.bank_arrivals.specs.AskingAgain.{retry_in}
use Rattle.bank_keys.specs.Ksm.{body_link, body_twin, body_name, body_front, body_edits, key_names, key_row, key_lead_with}
use Rattle.x_base.specs.declared.key_name.FullName.{FullName}
use Rattle.role_base.specs.Conditions.{is_two_keys}
use Rattle.bank_arrivals.specs.SendingTwins.{twins_drawn}
use Rattle.world_laws.proofs.Sound.TwinKeys.{twins_sound}
use Rattle.world_laws.proofs.Agreeing.TwinRows.{twins_below, twins_agreeing}
use Rattle.bank_orders.specs.StartKk.{start_kk_under}
use Rattle.bank_arrivals.specs.Dsm.{named_by}
use Rattle.bank_arrivals.specs.Esm.{subject_with}
use Rattle.role_base.specs.Exchanges.{record_of}
use Rattle.role_base.specs.Sending.{sending_drawn}
use Rattle.bank_orders.specs.Start.{start_tests, start_under}
use Rattle.csm_grammar.specs.Arrivals.{authenticated_text}
use Rattle.csm_grammar.specs.Spelling.{Says}
use Rattle.csm_grammar.specs.declared.arrival.Arrival.{Arrival}
use Rattle.csm_grammar.specs.declared.message.Ksm.{Ksm}
use Rattle.csm_grammar.specs.declared.message.KsmBody.{KsmBody}
use Rattle.csm_grammar.specs.declared.message.Message.{Message}
use Rattle.csm_grammar.specs.declared.message.Rsi.{Rsi}
use Rattle.party_tables.specs.Keys.{sends, takes}
use Rattle.party_state.specs.Rows.{OfKsm, refused}
use Rattle.party_state.specs.State.{centre_label, link_with, exchange_with, apply}
use Rattle.party_state.specs.Verdicts.{verdict_of, is_accept}
use Rattle.party_tables.specs.declared.exchange.Exchange.{Exchange}
use Rattle.party_tables.specs.declared.link.LinkKey.{LinkKey}
use Rattle.party_tables.specs.declared.link.LinkRec.{LinkRec}
use Rattle.std.proofs.Common.{◌≡◌, ℕ, Bool, true, false, Option, Some, None, List, [], refl}
use Rattle.std.proofs.lemmas.List.Elements.{All-contains}
use Rattle.world_laws.proofs.Links.Taking.{grown_takes}
use Rattle.world_laws.proofs.Counting.Accepting.{AcceptedBelow, ksm_apart}
use Rattle.world_laws.proofs.Counting.Counts.{CountedAt}
use Rattle.world_laws.proofs.Counting.Sound.{IsSound}
use Rattle.world_laws.proofs.Links.Found.{HasLinks, SendingAt}
use Rattle.world_laws.proofs.Links.Waiting.{Waits}
use Rattle.world_laws.specs.Laws.{HasAccepted}
use Rattle.member.specs.Member.{Member}
use Rattle.world_laws.specs.World.{World, member_at}
use Rattle.x_base.specs.declared.party.Side.TheVariants.{Sends}
use Rattle.x_base.specs.declared.verdict.Verdict.{Verdict}
use Rattle.x_gen.specs.Gen.{good_draw}
use Rattle.x_gen.specs.declared.generator.Gen.{Gen}
use Rattle.party_state.specs.declared.command.Command.{Command}
use Rattle.party_state.specs.declared.command.Command.TheVariants as command
use Rattle.party_state.specs.declared.command.Input.{Input}
use Rattle.party_state.specs.declared.command.Input.TheVariants as input
use Rattle.x_base.specs.declared.party.Role.{Role}
use Rattle.x_base.specs.declared.party.Role.TheVariants as role
use Rattle.party_state.specs.State.{answer_with, first_link}
use Rattle.bank_arrivals.specs.Rsi.{rsi_tests as bank_rsi_tests, rsi_row as bank_rsi_row, rsi_under}
use Rattle.bank_orders.specs.Start.{sending_link}
use Rattle.bank_orders.specs.Resend.{resend_of}
use Rattle.bank_keys.specs.Ksm.{body_front, body_link}
use Rattle.member.specs.Rows.{row_by}
use Rattle.bank_orders.specs.Orders.{command_row}
use Rattle.member.specs.BankRows.{message_row}
use Rattle.role_base.specs.Centres.{centre_command}
use Rattle.distribution_role.specs.Rows.{distribution_message}
use Rattle.translation_role.specs.Rows.{translation_message}
use Rattle.world_laws.specs.Events.{IsCommand}
use Rattle.world_laws.proofs.Links.Found.{first_at, FirstAt, sending_at}
use Rattle.x_gen.specs.Gen.{good_draw}
use Rattle.world_laws.specs.Steps.{received_text}
use Rattle.world_laws.proofs.Links.Taking.{grown_takes}
use Rattle.world_laws.proofs.Counting.Accepting.{AcceptedBelow, ksm_apart}
use Rattle.world_laws.proofs.Counting.Counts.{CountedAt}
use Rattle.world_laws.proofs.Counting.Sound.{IsSound, Moves, moves}
use Rattle.world_laws.proofs.Links.Waiting.{Waits}
use Rattle.member.specs.Leads.{lead_by}
use Rattle.member.specs.BankLeads.{message_lead}
use Rattle.translation_role.specs.Rows.{translation_lead}
use Rattle.bank_keys.specs.Ksm.{key_lead_with}
use Rattle.world_laws.proofs.Agreeing.Lists.{lists_of}
use Rattle.world_laws.proofs.Agreeing.Moves.{Agreeing}
use Rattle.world_laws.proofs.Agreeing.Agreed.{Agreed}
use Rattle.world_laws.proofs.Sound.Commands.{sending_sound}
use Rattle.world_laws.proofs.Agreeing.Steps.{still_agreeing, refused_agreeing}
use Rattle.world_laws.proofs.Agreeing.SendingRows.{kk_draw_sound, sending_agreeing, kk_agreeing}
use Rattle.world_laws.proofs.Agreeing.EndingRows.{drop_agreeing, end_agreeing, purge_agreeing}
use Rattle.world_laws.proofs.Agreeing.AnswerRows.{HonestAs, rtr_agreeing}
use Rattle.world_laws.proofs.Agreeing.AskingRows.{ask_agreeing, translate_row_agreeing}
use Rattle.world_laws.proofs.Agreeing.KeyRows.{taken_agreeing}
use Rattle.world_laws.proofs.Agreeing.ResponseRows.{rsm_row_agreeing}
use Rattle.world_laws.proofs.Agreeing.Disconnections.{dsm_agreeing}
use Rattle.world_laws.proofs.Agreeing.ErrorMessages.{error_row_agreeing, asks_for}
use Rattle.world_laws.proofs.Agreeing.CentreRows.{rsi_row_agreeing, ers_agreeing, rfs_agreeing}
use Rattle.change_code.specs.declared.space.Space.{Space}

module _ (n : ℕ) (w : World) (p : List ℕ) (x : Member) (space : Space) (at : member_at p w.members ≡ Some x) (c : CountedAt n w) (i : Agreed (lists_of w)) where
  pub links : HasLinks x.party
  links = c.links p x at

  pub waits : Waits x.party
  waits = c.waits p x at

  pub refused_row : (text : List ℕ) (v : Verdict) → Agreeing (lists_of w) x space text (refused v)
  refused_row text v = refused_agreeing (lists_of w) p x space at i text v

  pub start_row : (o : Option LinkKey) (peer : List ℕ) (label : Option (List ℕ)) (found : Option LinkRec) (moment : ℕ) → sending_link x.party peer label ≡ found → IsSound o x.party [] (start_under x.party peer found moment) → Agreeing (lists_of w) x space [] (start_under x.party peer found moment)
  start_row o peer label None moment s sound = refused_row [] (verdict_of (start_tests x.party peer None))
  start_row o peer label (Some l) moment s sound = sending_agreeing (lists_of w) p x space at i [] (start_tests x.party peer (Some l)) peer l moment (good_draw x.party.generator moment) refl (sending_at x.party peer label l links s) (sent_sound o (good_draw x.party.generator moment) sound)
    where
      sent_sound : (o : Option LinkKey) (d : Option (ℕ × Gen)) → IsSound o x.party [] (sending_drawn x.party (start_tests x.party peer (Some l)) l d) → IsSound None x.party [] (sending_drawn x.party (start_tests x.party peer (Some l)) l d)
      sent_sound o d g = sending_sound x.party [] (start_tests x.party peer (Some l)) peer l d (sending_at x.party peer label l links s)

  pub rsi_row : (a : Arrival) (m : Rsi) (found : Option LinkRec) (moment : ℕ) → first_link m.originator Sends x.party ≡ found → Agreeing (lists_of w) x space (authenticated_text a) (rsi_under x.party a m found moment)
  rsi_row a m None moment s = refused_row (authenticated_text a) (verdict_of (bank_rsi_tests x.party a m None))
  rsi_row a m (Some l) moment s = by_service (is_two_keys m.service)
    where
      f : FirstAt x.party m.originator Sends l
      f = first_at x.party m.originator Sends l links s

      st : SendingAt x.party m.originator l
      st = record { at = f.at; ready = f.ready }

      by_service : (b : Bool) → Agreeing (lists_of w) x space (authenticated_text a) (bank_rsi_row x.party a m l moment b)
      by_service true = twins_agreeing (lists_of w) p x space at i (authenticated_text a) (bank_rsi_tests x.party a m (Some l)) m.originator l (twins_drawn x.party.generator moment) (λ d e. twins_below x.party.generator moment d e) st (twins_sound x.party (authenticated_text a) (bank_rsi_tests x.party a m (Some l)) m.originator l (twins_drawn x.party.generator moment) st)
      by_service false = sending_agreeing (lists_of w) p x space at i (authenticated_text a) (bank_rsi_tests x.party a m (Some l)) m.originator l moment (good_draw x.party.generator moment) refl st (sending_sound x.party (authenticated_text a) (bank_rsi_tests x.party a m (Some l)) m.originator l (good_draw x.party.generator moment) st)

  pub kk_row : (o : Option LinkKey) (peer new : List ℕ) (single : Bool) (label : Option (List ℕ)) (found : Option LinkRec) (moment : ℕ) → sending_link x.party peer label ≡ found → is_accept (start_kk_under x.party peer new single found moment).verdict ≡ true → IsSound o x.party [] (start_kk_under x.party peer new single found moment) → Agreeing (lists_of w) x space [] (start_kk_under x.party peer new single found moment)
  kk_row o peer new single label None moment s h sound = refused_row [] (verdict_of (start_tests x.party peer None))
  kk_row o peer new single label (Some l) moment s h sound = kk_agreeing (lists_of w) p x space at i [] peer new single l (kk_drawn x.party.generator moment single) (λ d e. kk_draw_sound x.party.generator moment single d e) (sending_at x.party peer label l links s) h o sound

  pub resend_row : (found : Option Exchange) → Agreeing (lists_of w) x space [] (resend_of found)
  resend_row None = still_agreeing (lists_of w) p x space at i [] (resend_of None) refl tt tt tt
  resend_row (Some f) = still_agreeing (lists_of w) p x space at i [] (resend_of (Some f)) refl tt tt tt

  pub command_agrees : (o : Option LinkKey) (k : Command) (moment : ℕ) → IsCommand k → is_accept (command_row x.party k moment).verdict ≡ true → IsSound o x.party [] (command_row x.party k moment) → Agreeing (lists_of w) x space [] (command_row x.party k moment)
  command_agrees o (command.Load peer label side pair) moment e h sound = absurd e
  command_agrees o (command.Start peer label) moment e h sound = start_row o peer label (sending_link x.party peer label) moment refl sound
  command_agrees o (command.StartKk peer label new single) moment e h sound = kk_row o peer new single label (sending_link x.party peer label) moment refl h sound
  command_agrees o (command.Ask peer ultimate) moment e h sound = ask_agreeing (lists_of w) p x space at i [] peer ultimate
  command_agrees o (command.Translate centre ultimate) moment e h sound = translate_row_agreeing (lists_of w) p x space at i o [] centre ultimate (link_with (sends centre centre_label) x.party) moment refl sound
  command_agrees o (command.Resend peer) moment e h sound = resend_row (exchange_with peer x.party)
  command_agrees o (command.End peer name) moment e h sound = end_agreeing (lists_of w) p x space at i waits o [] peer name (record_of x.party peer name) refl h sound
  command_agrees o (command.Drop peer) moment e h sound = drop_agreeing (lists_of w) p x space at i waits o [] peer sound
  command_agrees o command.Purge moment e h sound = purge_agreeing (lists_of w) p x space at i waits []

  pub key_row_agrees : (o : Option LinkKey) (a : Arrival) (m : Ksm) (b : KsmBody) (found : Option LinkRec) → Says (authenticated_text a) (message.Ksm m) → m.body ≡ b → body_link x.party m.originator b ≡ found → HonestAs w.facts a (key_lead_with x.party a m b found) → is_accept (key_row x.party a m b found).verdict ≡ true → IsSound o x.party (authenticated_text a) (key_row x.party a m b found) → Agreeing (lists_of w) x space (authenticated_text a) (key_row x.party a m b found)
  key_row_agrees o a m b None said is found honest h sound = refused_row (authenticated_text a) (verdict_of (body_front x.party m b None))
  key_row_agrees o a m b (Some l) said is found honest h sound = taken_agreeing (lists_of w) p x space at i links a m b l said is found honest h o sound not_before
    where
      y : Member
      y = record { party = apply (body_edits x.party m b l) x.party; space = space }

      moved : Moves o x.party (apply (body_edits x.party m b l) x.party) (authenticated_text a) (key_row x.party a m b (Some l))
      moved = moves o x.party (apply (body_edits x.party m b l) x.party) (authenticated_text a) (key_row x.party a m b (Some l)) refl sound

      not_before : (u : FullName) → Contains (key_names (body_name x.party m.originator b l) (body_twin b)) u → HasAccepted w.acceptances OfKsm x.party.own u → ⊥
      not_before u in_row g = (ksm_apart w.members p x (record { party = apply (body_edits x.party m b l) x.party; space = space }) (authenticated_text a) at (grown_takes o x.party (apply (body_edits x.party m b l) x.party) moved.grown) c.links g.acceptance (record { class = OfKsm; names = key_names (body_name x.party m.originator b l) (body_twin b) })
          (All-contains (AcceptedBelow w.members) w.acceptances g.acceptance c.accepted g.stands) moved.accepts g.class_is refl g.party_is).0 u g.among in_row

  pub message_agrees : (o : Option LinkKey) (a : Arrival) (m : Message) (moment : ℕ) → Says (authenticated_text a) m → HonestAs w.facts a (message_lead x.party a m) → is_accept (message_row x.party a m moment).verdict ≡ true → IsSound o x.party (authenticated_text a) (message_row x.party a m moment) → Agreeing (lists_of w) x space (authenticated_text a) (message_row x.party a m moment)
  message_agrees o a (message.Rsi m) moment said honest h sound = rsi_row a m (first_link m.originator Sends x.party) moment refl
  message_agrees o a (message.Rfs m) moment said honest h sound = still_agreeing (lists_of w) p x space at i (authenticated_text a) (message_row x.party a (message.Rfs m) moment) refl tt tt tt
  message_agrees o a (message.Rtr m) moment said honest h sound = rtr_agreeing (lists_of w) p x space at i o a m m.kd refl said honest h sound
  message_agrees o a (message.Ksm m) moment said honest h sound = key_row_agrees o a m m.body (body_link x.party m.originator m.body) said refl refl honest h sound
  message_agrees o a (message.Rsm m) moment said honest h sound = rsm_row_agreeing (lists_of w) p x space at i links o a m m.idd refl said honest h sound
  message_agrees o a (message.Ers m) moment said honest h sound = still_agreeing (lists_of w) p x space at i (authenticated_text a) (message_row x.party a (message.Ers m) moment) refl tt tt tt
  message_agrees o a (message.Esm m) moment said honest h sound = error_row_agreeing (lists_of w) p x space at i waits o a m (is_plain a.parsed.shut) (retry_in x.party (subject_with x.party m.originator) m.ctr) (asks_for x.party (subject_with x.party m.originator) m.ctr) sound
  message_agrees o a (message.Dsm m) moment said honest h sound = dsm_agreeing (lists_of w) p x space at i waits o a m (named_by x.party m) refl sound

  pub distribution_agrees : (o : Option LinkKey) (a : Arrival) (m : Message) (moment : ℕ) → is_accept (distribution_message x.party a m moment).verdict ≡ true → IsSound o x.party (authenticated_text a) (distribution_message x.party a m moment) → Agreeing (lists_of w) x space (authenticated_text a) (distribution_message x.party a m moment)
  distribution_agrees o a (message.Rsi m) moment h sound = rsi_row_agreeing (lists_of w) p x space at i o a m m.ultimate moment h sound
  distribution_agrees o a (message.Ers m) moment h sound = ers_agreeing (lists_of w) p x space at i o a m (answer_with (record { requester = m.originator; ultimate = m.ultimate }) x.party) (link_with (sends m.originator centre_label) x.party) (link_with (sends m.ultimate centre_label) x.party) moment refl refl h sound
  distribution_agrees o a (message.Rfs m) moment h sound = still_agreeing (lists_of w) p x space at i (authenticated_text a) (distribution_message x.party a (message.Rfs m) moment) refl tt tt tt
  distribution_agrees o a (message.Rtr m) moment h sound = still_agreeing (lists_of w) p x space at i (authenticated_text a) (distribution_message x.party a (message.Rtr m) moment) refl tt tt tt
  distribution_agrees o a (message.Ksm m) moment h sound = still_agreeing (lists_of w) p x space at i (authenticated_text a) (distribution_message x.party a (message.Ksm m) moment) refl tt tt tt
  distribution_agrees o a (message.Rsm m) moment h sound = still_agreeing (lists_of w) p x space at i (authenticated_text a) (distribution_message x.party a (message.Rsm m) moment) refl tt tt tt
  distribution_agrees o a (message.Esm m) moment h sound = still_agreeing (lists_of w) p x space at i (authenticated_text a) (distribution_message x.party a (message.Esm m) moment) refl tt tt tt
  distribution_agrees o a (message.Dsm m) moment h sound = still_agreeing (lists_of w) p x space at i (authenticated_text a) (distribution_message x.party a (message.Dsm m) moment) refl tt tt tt

  pub translation_agrees : (o : Option LinkKey) (a : Arrival) (m : Message) → Says (authenticated_text a) m → HonestAs w.facts a (translation_lead x.party a m) → is_accept (translation_message x.party a m).verdict ≡ true → IsSound o x.party (authenticated_text a) (translation_message x.party a m) → Agreeing (lists_of w) x space (authenticated_text a) (translation_message x.party a m)
  translation_agrees o a (message.Rfs m) said honest h sound = rfs_agreeing (lists_of w) p x space at i o a m (link_with (takes m.originator centre_label) x.party) (link_with (sends m.ultimate centre_label) x.party) said refl refl honest h sound
  translation_agrees o a (message.Rsi m) said honest h sound = still_agreeing (lists_of w) p x space at i (authenticated_text a) (translation_message x.party a (message.Rsi m)) refl tt tt tt
  translation_agrees o a (message.Rtr m) said honest h sound = still_agreeing (lists_of w) p x space at i (authenticated_text a) (translation_message x.party a (message.Rtr m)) refl tt tt tt
  translation_agrees o a (message.Ksm m) said honest h sound = still_agreeing (lists_of w) p x space at i (authenticated_text a) (translation_message x.party a (message.Ksm m)) refl tt tt tt
  translation_agrees o a (message.Rsm m) said honest h sound = still_agreeing (lists_of w) p x space at i (authenticated_text a) (translation_message x.party a (message.Rsm m)) refl tt tt tt
  translation_agrees o a (message.Ers m) said honest h sound = still_agreeing (lists_of w) p x space at i (authenticated_text a) (translation_message x.party a (message.Ers m)) refl tt tt tt
  translation_agrees o a (message.Esm m) said honest h sound = still_agreeing (lists_of w) p x space at i (authenticated_text a) (translation_message x.party a (message.Esm m)) refl tt tt tt
  translation_agrees o a (message.Dsm m) said honest h sound = still_agreeing (lists_of w) p x space at i (authenticated_text a) (translation_message x.party a (message.Dsm m)) refl tt tt tt

  pub centre_agrees : (k : Command) → IsCommand k → Agreeing (lists_of w) x space [] (centre_command x.party k)
  centre_agrees (command.Load peer label side pair) e = absurd e
  centre_agrees (command.Start peer label) e = still_agreeing (lists_of w) p x space at i [] (centre_command x.party (command.Start peer label)) refl tt tt tt
  centre_agrees (command.StartKk peer label new single) e = still_agreeing (lists_of w) p x space at i [] (centre_command x.party (command.StartKk peer label new single)) refl tt tt tt
  centre_agrees (command.Ask peer ultimate) e = still_agreeing (lists_of w) p x space at i [] (centre_command x.party (command.Ask peer ultimate)) refl tt tt tt
  centre_agrees (command.Translate centre ultimate) e = still_agreeing (lists_of w) p x space at i [] (centre_command x.party (command.Translate centre ultimate)) refl tt tt tt
  centre_agrees (command.Resend peer) e = still_agreeing (lists_of w) p x space at i [] (centre_command x.party (command.Resend peer)) refl tt tt tt
  centre_agrees (command.End peer name) e = still_agreeing (lists_of w) p x space at i [] (centre_command x.party (command.End peer name)) refl tt tt tt
  centre_agrees (command.Drop peer) e = still_agreeing (lists_of w) p x space at i [] (centre_command x.party (command.Drop peer)) refl tt tt tt
  centre_agrees command.Purge e = still_agreeing (lists_of w) p x space at i [] (centre_command x.party command.Purge) refl tt tt tt

  abbrev pub HonestFor : Role → Input → Type 0
  HonestFor r (input.Ordered k) = Unit {0}
  HonestFor r (input.Arrived a) = HonestAs w.facts a (lead_by r x.party a)

  pub role_agrees : (o : Option LinkKey) (r : Role) (j : Input) (moment : ℕ) → IsInput j → HonestFor r j → is_accept (row_by r x.party j moment).verdict ≡ true → IsSound o x.party (received_text j) (row_by r x.party j moment) → Agreeing (lists_of w) x space (received_text j) (row_by r x.party j moment)
  role_agrees o role.Bank (input.Ordered k) moment e honest h sound = command_agrees o k moment e h sound
  role_agrees o role.Bank (input.Arrived a) moment e honest h sound = message_agrees o a a.parsed.message moment (arrival_says a) honest h sound
  role_agrees o role.Distribution (input.Ordered k) moment e honest h sound = centre_agrees k e
  role_agrees o role.Distribution (input.Arrived a) moment e honest h sound = distribution_agrees o a a.parsed.message moment h sound
  role_agrees o role.Translation (input.Ordered k) moment e honest h sound = centre_agrees k e
  role_agrees o role.Translation (input.Arrived a) moment e honest h sound = translation_agrees o a a.parsed.message (arrival_says a) honest h sound

-- each answer to a refused text is an error message
