-- How each row moves the counts that are expected.
use Rattle.party_tables.specs.Names.{name_behind}
use Rattle.role_base.specs.declared.exchanges.Twins.{Twins}
use Rattle.role_base.specs.Exchanges.{twins_to, ended}
use Rattle.role_base.specs.Conditions.{is_two_keys}
use Rattle.bank_arrivals.specs.declared.draws.TwinsDrawn.{TwinsDrawn}
use Rattle.bank_arrivals.specs.SendingTwins.{twins_drawn, twins_sending_drawn}
use Rattle.bank_arrivals.specs.Rsm.{rsm_by, rsm_twins}
use Rattle.std.proofs.Common.{arith, ◌≡◌, ℕ, ◌+◌, ◌≤◌, Bool, true, false, cond, Option, Some, None, List, [], ◌∷◌, ◌++◌, inl, refl, sym, ap, subst}
use Rattle.std.specs.List.{AllByRecursion}
use Rattle.x_base.specs.declared.key_name.KeyName.{KeyName}
use Rattle.x_base.specs.declared.party.Role.{Role}
use Rattle.x_base.specs.declared.party.Role.TheVariants.{Bank, Distribution, Translation}
use Rattle.x_base.specs.declared.party.Side.TheVariants.{Sends}
use Rattle.x_gen.specs.declared.generator.Gen.{Gen}
use Rattle.x_gen.specs.Gen.{good_draw}
use Rattle.csm_grammar.specs.declared.arrival.Arrival.{Arrival}
use Rattle.csm_grammar.specs.declared.message.Dsm.{Dsm}
use Rattle.csm_grammar.specs.declared.message.Esm.{Esm}
use Rattle.csm_grammar.specs.declared.message.Ksm.{Ksm}
use Rattle.csm_grammar.specs.declared.message.KsmBody.{KsmBody}
use Rattle.csm_grammar.specs.declared.message.Message.{Message}
use Rattle.csm_grammar.specs.declared.message.Message.TheVariants as message
use Rattle.csm_grammar.specs.declared.message.Rsi.{Rsi}
use Rattle.csm_grammar.specs.declared.message.Rsm.{Rsm}
use Rattle.csm_grammar.specs.declared.message.Rtr.{Rtr}
use Rattle.party_state.specs.declared.command.Command.{Command}
use Rattle.party_state.specs.declared.command.Command.TheVariants as command
use Rattle.party_state.specs.declared.command.Input.{Input}
use Rattle.party_state.specs.declared.command.Input.TheVariants as input
use Rattle.party_state.specs.declared.edit.Edit.{Edit}
use Rattle.party_state.specs.declared.edit.Edit.TheVariants.{PutKey, DropExchange}
use Rattle.party_tables.specs.declared.exchange.Exchange.{Exchange}
use Rattle.party_tables.specs.declared.exchange.Kind.{Kind}
use Rattle.party_tables.specs.declared.exchange.Kind.TheVariants as kind
use Rattle.party_tables.specs.declared.exchange.Via.{Via}
use Rattle.party_tables.specs.declared.exchange.Via.TheVariants as vias
use Rattle.party_tables.specs.declared.key.KeyRec.{KeyRec}
use Rattle.party_tables.specs.declared.key.KeyStatus.TheVariants.{Ended}
use Rattle.party_tables.specs.declared.link.LinkKey.{LinkKey}
use Rattle.party_tables.specs.declared.link.LinkRec.{LinkRec}
use Rattle.party_tables.specs.Keys.{same_link, link_key, same_name, sends, takes}
use Rattle.party_tables.specs.Statuses.{is_ended}
use Rattle.party_state.specs.State.{Party, apply, centre_label, link_with, exchange_with, first_link}
use Rattle.party_state.specs.Verdicts.{Test, is_accept}
use Rattle.party_tables.proofs.Keys.{test_links}
use Rattle.party_tables.proofs.Tables.{one_found, find_put_same}
use Rattle.role_base.specs.declared.exchanges.Sent.{Sent}
use Rattle.role_base.specs.Exchanges.{record_of, sent_to, ending_with, new_link, readied, dropped}
use Rattle.role_base.specs.Sending.{sending_drawn}
use Rattle.csm_grammar.specs.Arrivals.{authenticated_text}
use Rattle.role_base.specs.Texts.{is_plain}
use Rattle.bank_orders.specs.Start.{sending_link, start_tests, start_under}
use Rattle.bank_orders.specs.Resend.{resend_of}
use Rattle.bank_orders.specs.GivingUp.{given_up, given_up_in}
use Rattle.bank_orders.specs.Ending.{end_record}
use Rattle.bank_arrivals.specs.declared.disconnection.NamedKey.{NamedKey}
use Rattle.bank_arrivals.specs.declared.error_message.ErrorSubject.{ErrorSubject}
use Rattle.bank_arrivals.specs.declared.error_message.ErrorSubject.TheVariants.{SentKey, SentTwins, Translated}
use Rattle.bank_arrivals.specs.Rsi.{rsi_tests, rsi_row, rsi_under}
use Rattle.bank_arrivals.specs.Rsm.{rsm_to, answer_to, rsm_with}
use Rattle.bank_arrivals.specs.Esm.{subject_with, subject_link, subject_value, raised, subject_ended, plain_esm, error_of, via_link, is_renewed}
use Rattle.bank_arrivals.specs.Dsm.{named_by, left_by, left_in, dsm_on}
use Rattle.bank_keys.specs.Rtr.{translated, rtr_with, rtr_lead_with}
use Rattle.bank_orders.specs.Translate.{translate_drawn, translate_under}
use Rattle.bank_orders.specs.declared.draws.KkDrawn.{KkDrawn}
use Rattle.bank_orders.specs.Draws.{kk_drawn}
use Rattle.bank_arrivals.specs.declared.asking_again.Retry.{Retry}
use Rattle.bank_arrivals.specs.AskingAgain.{asked_again, retry_in}
use Rattle.bank_keys.specs.Ksm.{body_link, key_row, key_lead_with}
use Rattle.bank_orders.specs.StartKk.{kk_sending, start_kk_under, fresh_link, kk_edits}
use Rattle.bank_keys.specs.declared.waits.KeyAtCentre.{KeyAtCentre}
use Rattle.bank_keys.specs.Waiting.{waiting_with}
use Rattle.member.specs.Rows.{row_by, row_at}
use Rattle.bank_orders.specs.Orders.{command_row}
use Rattle.member.specs.BankRows.{message_row}
use Rattle.party_state.specs.Rows.{Made}
use Rattle.translation_role.specs.Rows.{translation_message, translation_lead}
use Rattle.party_tables.specs.Tables.{put_row}
use Rattle.csm_grammar.specs.Spelling.{Says}
use Rattle.csm_read.proofs.Arrived.{arrival_says}
use Rattle.member.specs.Leads.{lead_by}
use Rattle.member.specs.BankLeads.{message_lead}
use Rattle.member.specs.Member.{Member}
use Rattle.world_laws.specs.World.{member_at}
use Rattle.world_laws.specs.Events.{IsCommand}
use Rattle.world_laws.proofs.Roles.Inputs.{IsInput, HonestInput}
use Rattle.world_laws.proofs.Links.Found.{HasLinks, first_at, sending_at}
use Rattle.world_laws.proofs.Agreeing.Lists.{Lists}
use Rattle.world_laws.proofs.Agreeing.Agreed.{Agreed}
use Rattle.world_laws.proofs.Agreeing.Steps.{some_is}
use Rattle.world_laws.proofs.Agreeing.AnswerRows.{HonestAs}
use Rattle.world_laws.proofs.Agreeing.MeetingCounts.{side_of, PutsSends, CountsMove, change_takes, sending_counts}
use Rattle.world_laws.proofs.Agreeing.TakenCounts.{taken_counts, rtr_brought_counts, rfs_counts}
use Rattle.world_laws.proofs.Agreeing.CountCentres.{distribution_counts, centre_counts}
use Rattle.change_code.specs.declared.space.Space.{Space}

joined : (es fs : List Edit) → AllByRecursion PutsSends es → AllByRecursion PutsSends fs → AllByRecursion PutsSends (es ++ fs)
joined [] fs a b = b
joined (e ∷ es) fs a b = (a.0, joined es fs a.1 b)

new_side : (p : Party) (peer : List ℕ) (via : Via) (l : LinkRec) → new_link p peer via ≡ Some l → l.side ≡ Sends
new_side p peer (vias.Direct label None) l h = absurd (cc)
new_side p peer (vias.Direct label (Some new)) l h = side_of p (sends peer new) l h
new_side p peer (vias.Distribution centre cta) l h = absurd (cc)
new_side p peer (vias.Translation centre) l h = absurd (cc)

via_side : (p : Party) (peer : List ℕ) (via : Via) (l : LinkRec) → via_link p peer via ≡ Some l → l.side ≡ Sends
via_side p peer (vias.Direct label new) l h = go (is_renewed label new) h
  where
    go : (b : Bool) → cond b None (link_with (sends peer label) p) ≡ Some l → l.side ≡ Sends
    go true h = absurd (cc)
    go false h = side_of p (sends peer label) l h
via_side p peer (vias.Distribution centre cta) l h = absurd (cc)
via_side p peer (vias.Translation centre) l h = absurd (cc)

subject_side : (p : Party) (peer : List ℕ) (s : ErrorSubject) (l : LinkRec) → subject_link p peer s ≡ Some l → l.side ≡ Sends
subject_side p peer (SentKey s) l h = via_side p peer s.via l h
subject_side p peer (SentTwins t) l h = side_of p (sends peer t.first.name.label) l h
subject_side p peer (Translated value cta) l h = side_of p (sends peer centre_label) l h

dropped_sends : (o : Option LinkRec) → AllByRecursion PutsSends (dropped o)
dropped_sends None = tt
dropped_sends (Some l) = (tt, tt)

ended_sends : (o : Option KeyRec) → AllByRecursion PutsSends (ended o)
ended_sends None = tt
ended_sends (Some k) = (tt, tt)

readied_sends : (o : Option LinkRec) → ((l : LinkRec) → o ≡ Some l → l.side ≡ Sends) → AllByRecursion PutsSends (readied o)
readied_sends None f = tt
readied_sends (Some l) f = (f l refl, tt)

raised_sends : (o : Option LinkRec) (ctr : Option ℕ) → ((l : LinkRec) → o ≡ Some l → l.side ≡ Sends) → AllByRecursion PutsSends (raised o ctr)
raised_sends None ctr f = tt
raised_sends (Some l) None f = tt
raised_sends (Some l) (Some n) f = (f l refl, tt)

module _ (ms : List Member) (p : Party) (links : HasLinks p) where
  sending_of : (front : List Test) (l : LinkRec) (o : Option (ℕ × Gen)) → l.side ≡ Sends → CountsMove ms p (sending_drawn p front l o)
  sending_of front l None s = sending_counts ms p (sending_drawn p front l None) tt refl
  sending_of front l (Some d) s = sending_counts ms p (sending_drawn p front l (Some d)) (tt, (s, (tt, (tt, tt)))) refl

  start_counts : (peer : List ℕ) (label : Option (List ℕ)) (o : Option LinkRec) (moment : ℕ) → sending_link p peer label ≡ o → CountsMove ms p (start_under p peer o moment)
  start_counts peer label None moment s = sending_counts ms p (start_under p peer None moment) tt refl
  start_counts peer label (Some l) moment s = sending_of (start_tests p peer (Some l)) l (good_draw p.generator moment) (ap (λ (k : LinkKey). k.side) (sending_at p peer label l links s).at.key)

  kk_counts : (peer new : List ℕ) (single : Bool) (label : Option (List ℕ)) (o : Option LinkRec) (moment : ℕ) → sending_link p peer label ≡ o → CountsMove ms p (start_kk_under p peer new single o moment)
  kk_counts peer new single label None moment s = sending_counts ms p (start_kk_under p peer new single None moment) tt refl
  kk_counts peer new single label (Some l) moment s = go (kk_drawn p.generator moment single)
    where
      side : l.side ≡ Sends
      side = ap (λ (k : LinkKey). k.side) (sending_at p peer label l links s).at.key

      go : (d : Option KkDrawn) → CountsMove ms p (kk_sending p (start_tests p peer (Some l)) l new single d)
      go None = sending_counts ms p (kk_sending p (start_tests p peer (Some l)) l new single None) tt refl
      go (Some d) = record { takes_on = λ q label m h. inl (m, change_takes (kk_edits p l new single d) p q label m (tt, (side, (refl, (tt, (tt, tt))))) h, refl); begun = begun }
        where
          begun : (mk : Made) → Some (record { recipient = l.peer; label = new }) ≡ Some mk → (m : LinkRec) → link_with (sends mk.recipient mk.label) (apply (kk_edits p l new single d) p) ≡ Some m → 2 ≤ m.next
          begun mk e m h =
              let made : Made = record { recipient = l.peer; label = new } in
              let is : made ≡ mk = some_is made mk e in
              let at_new : link_with (sends l.peer new) (apply (kk_edits p l new single d) p) ≡ Some m = subst (λ (z : Made). link_with (sends z.recipient z.label) (apply (kk_edits p l new single d) p) ≡ Some m) (sym is) h in
              let found : link_with (sends l.peer new) (apply (kk_edits p l new single d) p) ≡ Some (fresh_link l new d.pair) = find_put_same link_key same_link test_links (fresh_link l new d.pair) (put_row link_key same_link (record l { next = l.next + 1 }) p.links) in
              let two : 2 ≡ m.next = ap (λ (z : LinkRec). z.next) (one_found (fresh_link l new d.pair) m found at_new) in
              omega (arith, two)

  translate_counts : (centre u : List ℕ) (o : Option LinkRec) (moment : ℕ) → link_with (sends centre centre_label) p ≡ o → CountsMove ms p (translate_under p centre u o moment)
  translate_counts centre u None moment e = sending_counts ms p (translate_under p centre u None moment) tt refl
  translate_counts centre u (Some l) moment e = go (good_draw p.generator moment)
    where
      go : (d : Option (ℕ × Gen)) → CountsMove ms p (translate_drawn p centre u l d)
      go None = sending_counts ms p (translate_drawn p centre u l None) tt refl
      go (Some d) = sending_counts ms p (translate_drawn p centre u l (Some d)) (tt, (side_of p (sends centre centre_label) l e, (tt, tt))) refl

  resend_counts : (o : Option Exchange) → CountsMove ms p (resend_of o)
  resend_counts None = sending_counts ms p (resend_of None) tt refl
  resend_counts (Some x) = sending_counts ms p (resend_of (Some x)) tt refl

  end_counts : (peer : List ℕ) (o : Option KeyRec) → CountsMove ms p (end_record p peer o)
  end_counts peer None = sending_counts ms p (end_record p peer None) tt refl
  end_counts peer (Some k) = sending_counts ms p (end_record p peer (Some k)) (tt, (tt, tt)) refl

  drop_sends : (peer : List ℕ) (o : Option Exchange) → AllByRecursion PutsSends (given_up_in p peer o)
  drop_sends peer None = tt
  drop_sends peer (Some e) = by_kind e.kind
    where
      by_kind : (k : Kind) → AllByRecursion PutsSends (given_up p peer k ++ DropExchange peer ∷ [])
      by_kind (kind.KeySent name via) = joined (dropped (new_link p peer via) ++ ended (record_of p peer name)) (DropExchange peer ∷ []) (joined (dropped (new_link p peer via)) (ended (record_of p peer name)) (dropped_sends (new_link p peer via)) (ended_sends (record_of p peer name))) (tt, tt)
      by_kind (kind.Asked ultimate) = (tt, tt)
      by_kind (kind.Translating ultimate value cta) = (tt, tt)
      by_kind (kind.Ending name) = (tt, tt)
      by_kind (kind.PairSent name) = joined (ended (record_of p peer name) ++ ended (record_of p peer (name_behind name))) (DropExchange peer ∷ []) (joined (ended (record_of p peer name)) (ended (record_of p peer (name_behind name))) (ended_sends (record_of p peer name)) (ended_sends (record_of p peer (name_behind name)))) (tt, tt)

  command_counts : (c : Command) (moment : ℕ) → IsCommand c → CountsMove ms p (command_row p c moment)
  command_counts (command.Load peer label side pair) moment i = absurd i
  command_counts (command.Start peer label) moment i = start_counts peer label (sending_link p peer label) moment refl
  command_counts (command.StartKk peer label new single) moment i = kk_counts peer new single label (sending_link p peer label) moment refl
  command_counts (command.Ask peer None) moment i = sending_counts ms p (command_row p (command.Ask peer None) moment) tt refl
  command_counts (command.Ask peer (Some ultimate)) moment i = sending_counts ms p (command_row p (command.Ask peer (Some ultimate)) moment) (tt, tt) refl
  command_counts (command.Translate centre ultimate) moment i = translate_counts centre ultimate (link_with (sends centre centre_label) p) moment refl
  command_counts (command.Resend peer) moment i = resend_counts (exchange_with peer p)
  command_counts (command.End peer name) moment i = end_counts peer (record_of p peer name)
  command_counts (command.Drop peer) moment i = sending_counts ms p (command_row p (command.Drop peer) moment) (drop_sends peer (exchange_with peer p)) refl
  command_counts command.Purge moment i = sending_counts ms p (command_row p command.Purge moment) (tt, tt) refl

  rsi_counts : (a : Arrival) (m : Rsi) (moment : ℕ) (o : Option LinkRec) → first_link m.originator Sends p ≡ o → CountsMove ms p (rsi_under p a m o moment)
  rsi_counts a m moment None e = sending_counts ms p (rsi_under p a m None moment) tt refl
  rsi_counts a m moment (Some l) e = by_service (is_two_keys m.service)
    where
      side : l.side ≡ Sends
      side = ap (λ (k : LinkKey). k.side) (first_at p m.originator Sends l links e).at.key

      by_draw : (o : Option TwinsDrawn) → CountsMove ms p (twins_sending_drawn p (rsi_tests p a m (Some l)) l o)
      by_draw None = sending_counts ms p (twins_sending_drawn p (rsi_tests p a m (Some l)) l None) tt refl
      by_draw (Some d) = sending_counts ms p (twins_sending_drawn p (rsi_tests p a m (Some l)) l (Some d)) (tt, (side, (tt, (tt, (tt, tt))))) refl

      by_service : (b : Bool) → CountsMove ms p (rsi_row p a m l moment b)
      by_service true = by_draw (twins_drawn p.generator moment)
      by_service false = sending_of (rsi_tests p a m (Some l)) l (good_draw p.generator moment) side

  translated_counts : (a : Arrival) (m : Rtr) (o : Option KeyAtCentre) → CountsMove ms p (translated p a m o)
  translated_counts a m None = sending_counts ms p (translated p a m None) tt refl
  translated_counts a m (Some t) = sending_counts ms p (translated p a m (Some t)) (tt, (tt, (tt, tt))) refl

  rsm_counts : (a : Arrival) (m : Rsm) (o : Option KeyName) → CountsMove ms p (rsm_with p a m o)
  rsm_counts a m None = by_twins (twins_to p m.originator)
    where
      go : (o : Option Sent) → CountsMove ms p (rsm_to p a m o)
      go None = sending_counts ms p (rsm_to p a m None) tt refl
      go (Some s) = sending_counts ms p (rsm_to p a m (Some s)) (joined (readied (new_link p m.originator s.via)) _ (readied_sends (new_link p m.originator s.via) (λ l e. new_side p m.originator s.via l e)) (tt, (tt, tt))) refl

      by_twins : (t : Option Twins) → CountsMove ms p (rsm_by p a m t)
      by_twins None = go (sent_to p m.originator)
      by_twins (Some t) = sending_counts ms p (rsm_twins p a m t) (tt, (tt, (tt, tt))) refl
  rsm_counts a m (Some name) = go (ending_with p m.originator)
    where
      go : (o : Option KeyRec) → CountsMove ms p (answer_to p a m name o)
      go None = sending_counts ms p (answer_to p a m name None) tt refl
      go (Some k) = sending_counts ms p (answer_to p a m name (Some k)) (tt, (tt, tt)) refl

  again_sends : (m : Esm) (value : ℕ) (t : Option Retry) → AllByRecursion PutsSends (DropExchange m.originator ∷ asked_again p m value t)
  again_sends m value None = (tt, tt)
  again_sends m value (Some t) = (tt, (tt, tt))

  subject_sends : (peer : List ℕ) (s : ErrorSubject) → AllByRecursion PutsSends (subject_ended p peer s)
  subject_sends peer (SentKey s) = joined (dropped (new_link p peer s.via)) _ (dropped_sends (new_link p peer s.via)) (tt, tt)
  subject_sends peer (SentTwins t) = (tt, (tt, tt))
  subject_sends peer (Translated value cta) = tt

  esm_counts : (a : Arrival) (m : Esm) (b : Bool) (o : Option ErrorSubject) (again : Option Retry) → CountsMove ms p (cond b (plain_esm p a m) (error_of p a m o again))
  esm_counts a m true o again = sending_counts ms p (plain_esm p a m) tt refl
  esm_counts a m false None again = sending_counts ms p (error_of p a m None again) tt refl
  esm_counts a m false (Some s) again = sending_counts ms p (error_of p a m (Some s) again) (joined (raised (subject_link p m.originator s) m.ctr) (subject_ended p m.originator s ++ DropExchange m.originator ∷ asked_again p m (subject_value s) again) (raised_sends (subject_link p m.originator s) m.ctr (λ l e. subject_side p m.originator s l e)) (joined (subject_ended p m.originator s) (DropExchange m.originator ∷ asked_again p m (subject_value s) again) (subject_sends m.originator s) (again_sends m (subject_value s) again))) refl

  dsm_counts : (a : Arrival) (m : Dsm) (o : Option NamedKey) → CountsMove ms p (dsm_on p a m o)
  dsm_counts a m None = sending_counts ms p (dsm_on p a m None) tt refl
  dsm_counts a m (Some n) = sending_counts ms p (dsm_on p a m (Some n)) (by_status (is_ended n.key.status)) refl
    where
      Both : List Edit × List Edit → Type 0
      Both gone = AllByRecursion PutsSends (gone.0 ++ (PutKey (record n.key { status = Ended }) ∷ gone.1))

      by_sent : (via : Via) (b : Bool) → Both (cond b (dropped (new_link p m.originator via), DropExchange m.originator ∷ []) ([], []))
      by_sent via true = joined (dropped (new_link p m.originator via)) _ (dropped_sends (new_link p m.originator via)) (tt, (tt, tt))
      by_sent via false = (tt, tt)

      by_ending : (b : Bool) → Both (cond b ([], DropExchange m.originator ∷ []) ([], []))
      by_ending true = (tt, (tt, tt))
      by_ending false = (tt, tt)

      by_pair : (j k : Option KeyRec) (b c : Bool) → Both (cond b ([], ended k ++ DropExchange m.originator ∷ []) (cond c (ended j, DropExchange m.originator ∷ []) ([], [])))
      by_pair j None true c = (tt, (tt, tt))
      by_pair j (Some k) true c = (tt, (tt, (tt, tt)))
      by_pair None k false true = (tt, (tt, tt))
      by_pair (Some j) k false true = (tt, (tt, (tt, tt)))
      by_pair j k false false = (tt, tt)

      by_kind : (k : Kind) → Both (left_by p m.originator n.key.name k)
      by_kind (kind.KeySent sent via) = by_sent via (same_name n.key.name sent)
      by_kind (kind.Ending ending) = by_ending (same_name n.key.name ending)
      by_kind (kind.Asked ultimate) = (tt, tt)
      by_kind (kind.Translating ultimate value cta) = (tt, tt)
      by_kind (kind.PairSent sent) = by_pair (record_of p m.originator sent) (record_of p m.originator (name_behind sent)) (same_name n.key.name sent) (same_name n.key.name (name_behind sent))

      by_exchange : (o : Option Exchange) → Both (left_in p m.originator n.key.name o)
      by_exchange None = (tt, tt)
      by_exchange (Some e) = by_kind e.kind

      by_status : (b : Bool) → AllByRecursion PutsSends (cond b [] ((left_in p m.originator n.key.name (exchange_with m.originator p)).0 ++ (PutKey (record n.key { status = Ended }) ∷ (left_in p m.originator n.key.name (exchange_with m.originator p)).1)))
      by_status true = tt
      by_status false = by_exchange (exchange_with m.originator p)

module _ (v : Lists) (p : List ℕ) (x : Member) (space : Space) (at : member_at p v.members ≡ Some x) (i : Agreed v) (links : HasLinks x.party) where
  key_counts : (a : Arrival) (m : Ksm) (b : KsmBody) (o : Option LinkRec) → Says (authenticated_text a) (message.Ksm m) → m.body ≡ b → body_link x.party m.originator b ≡ o → HonestAs v.facts a (key_lead_with x.party a m b o) → is_accept (key_row x.party a m b o).verdict ≡ true → CountsMove v.members x.party (key_row x.party a m b o)
  key_counts a m b None said is found honest h = sending_counts v.members x.party (key_row x.party a m b None) tt refl
  key_counts a m b (Some l) said is found honest h = taken_counts v p x space at i links a m b l said is found honest h

  rtr_counts : (a : Arrival) (m : Rtr) (kd : Option (ℕ × ℕ)) → m.kd ≡ kd → Says (authenticated_text a) (message.Rtr m) → HonestAs v.facts a (rtr_lead_with x.party a m kd) → is_accept (rtr_with x.party a m kd).verdict ≡ true → CountsMove v.members x.party (rtr_with x.party a m kd)
  rtr_counts a m (Some k) is said honest h = rtr_brought_counts v p x space at i a m k (link_with (takes m.originator centre_label) x.party) said is refl honest h
  rtr_counts a m None is said honest h = translated_counts v.members x.party links a m (waiting_with x.party m.originator)

  message_counts : (a : Arrival) (m : Message) (moment : ℕ) → Says (authenticated_text a) m → HonestAs v.facts a (message_lead x.party a m) → is_accept (message_row x.party a m moment).verdict ≡ true → CountsMove v.members x.party (message_row x.party a m moment)
  message_counts a (message.Rsi m) moment said honest h = rsi_counts v.members x.party links a m moment (first_link m.originator Sends x.party) refl
  message_counts a (message.Rfs m) moment said honest h = sending_counts v.members x.party (message_row x.party a (message.Rfs m) moment) tt refl
  message_counts a (message.Rtr m) moment said honest h = rtr_counts a m m.kd refl said honest h
  message_counts a (message.Ksm m) moment said honest h = key_counts a m m.body (body_link x.party m.originator m.body) said refl refl honest h
  message_counts a (message.Rsm m) moment said honest h = rsm_counts v.members x.party links a m m.idd
  message_counts a (message.Ers m) moment said honest h = sending_counts v.members x.party (message_row x.party a (message.Ers m) moment) tt refl
  message_counts a (message.Esm m) moment said honest h = esm_counts v.members x.party links a m (is_plain a.parsed.shut) (subject_with x.party m.originator) (retry_in x.party (subject_with x.party m.originator) m.ctr)
  message_counts a (message.Dsm m) moment said honest h = dsm_counts v.members x.party links a m (named_by x.party m)

  translation_counts : (a : Arrival) (m : Message) → Says (authenticated_text a) m → HonestAs v.facts a (translation_lead x.party a m) → is_accept (translation_message x.party a m).verdict ≡ true → CountsMove v.members x.party (translation_message x.party a m)
  translation_counts a (message.Rfs m) said honest h = rfs_counts v p x space at i a m (link_with (takes m.originator centre_label) x.party) (link_with (sends m.ultimate centre_label) x.party) said refl refl honest h
  translation_counts a (message.Rsi m) said honest h = sending_counts v.members x.party (translation_message x.party a (message.Rsi m)) tt refl
  translation_counts a (message.Rtr m) said honest h = sending_counts v.members x.party (translation_message x.party a (message.Rtr m)) tt refl
  translation_counts a (message.Ksm m) said honest h = sending_counts v.members x.party (translation_message x.party a (message.Ksm m)) tt refl
  translation_counts a (message.Rsm m) said honest h = sending_counts v.members x.party (translation_message x.party a (message.Rsm m)) tt refl
  translation_counts a (message.Ers m) said honest h = sending_counts v.members x.party (translation_message x.party a (message.Ers m)) tt refl
  translation_counts a (message.Esm m) said honest h = sending_counts v.members x.party (translation_message x.party a (message.Esm m)) tt refl
  translation_counts a (message.Dsm m) said honest h = sending_counts v.members x.party (translation_message x.party a (message.Dsm m)) tt refl

  abbrev HonestFor : Role → Input → Type 0
  HonestFor r (input.Ordered k) = Unit {0}
  HonestFor r (input.Arrived a) = HonestAs v.facts a (lead_by r x.party a)

  role_counts : (r : Role) (j : Input) (moment : ℕ) → IsInput j → HonestFor r j → is_accept (row_by r x.party j moment).verdict ≡ true → CountsMove v.members x.party (row_by r x.party j moment)
  role_counts Bank (input.Ordered k) moment e honest h = command_counts v.members x.party links k moment e
  role_counts Bank (input.Arrived a) moment e honest h = message_counts a a.parsed.message moment (arrival_says a) honest h
  role_counts Distribution (input.Ordered k) moment e honest h = centre_counts v.members x.party k e
  role_counts Distribution (input.Arrived a) moment e honest h = distribution_counts v.members x.party a a.parsed.message moment
  role_counts Translation (input.Ordered k) moment e honest h = centre_counts v.members x.party k e
  role_counts Translation (input.Arrived a) moment e honest h = translation_counts a a.parsed.message (arrival_says a) honest h

  honest_for : (j : Input) → HonestInput v.facts x.party j → HonestFor x.party.role j
  honest_for (input.Ordered k) h = tt
  honest_for (input.Arrived a) h = h

  pub row_counts : (j : Input) (moment : ℕ) → IsInput j → HonestInput v.facts x.party j → is_accept (row_at x.party j moment).verdict ≡ true → CountsMove v.members x.party (row_at x.party j moment)
  row_counts j moment e honest h = role_counts x.party.role j moment e (honest_for j honest) h
