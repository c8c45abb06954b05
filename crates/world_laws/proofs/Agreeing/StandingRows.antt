-- The edits of each row: a link goes only where the exchange with its peer goes, and an exchange with a new label comes
-- only where a new key-encrypting key is sent.
use Rattle.std.specs.Prelude.{option_map}
use Rattle.party_tables.specs.Names.{name_behind}
use Rattle.role_base.specs.declared.exchanges.Twins.{Twins}
use Rattle.role_base.specs.Exchanges.{twins_to, ended}
use Rattle.role_base.specs.Conditions.{is_two_keys}
use Rattle.bank_keys.specs.Ksm.{body_twin, second_record, second_edits, body_second}
use Rattle.bank_arrivals.specs.declared.draws.TwinsDrawn.{TwinsDrawn}
use Rattle.bank_arrivals.specs.SendingTwins.{twins_drawn, twins_sending_drawn}
use Rattle.bank_arrivals.specs.Rsm.{rsm_by}
use Rattle.std.proofs.Common.{◌≡◌, ℕ, Bool, true, false, cond, Option, Some, None, List, [], ◌∷◌, ◌++◌, inl, inr, refl, ap, subst}
use Rattle.std.specs.List.{AllByRecursion}
use Rattle.x_base.specs.declared.key_name.KeyName.{KeyName}
use Rattle.x_base.specs.declared.party.Role.{Role}
use Rattle.x_base.specs.declared.party.Role.TheVariants.{Bank, Distribution, Translation}
use Rattle.x_base.specs.declared.party.Side.TheVariants.{Sends}
use Rattle.x_gen.specs.declared.generator.Gen.{Gen}
use Rattle.x_gen.specs.Gen.{good_draw}
use Rattle.csm_grammar.specs.declared.arrival.Arrival.{Arrival}
use Rattle.csm_grammar.specs.declared.message.Dsm.{Dsm}
use Rattle.csm_grammar.specs.declared.message.Esm.{Esm}
use Rattle.csm_grammar.specs.declared.message.Ksm.{Ksm}
use Rattle.csm_grammar.specs.declared.message.KsmBody.{KsmBody}
use Rattle.csm_grammar.specs.declared.message.Message.{Message}
use Rattle.csm_grammar.specs.declared.message.Message.TheVariants as message
use Rattle.csm_grammar.specs.declared.message.NewKk.{NewKk}
use Rattle.csm_grammar.specs.declared.message.Rsi.{Rsi}
use Rattle.csm_grammar.specs.declared.message.Rsm.{Rsm}
use Rattle.csm_grammar.specs.declared.message.Rtr.{Rtr}
use Rattle.party_state.specs.declared.command.Command.{Command}
use Rattle.party_state.specs.declared.command.Command.TheVariants as command
use Rattle.party_state.specs.declared.command.Input.{Input}
use Rattle.party_state.specs.declared.command.Input.TheVariants as input
use Rattle.party_state.specs.declared.edit.Edit.{Edit}
use Rattle.party_state.specs.declared.edit.Edit.TheVariants.{PutKey, DropExchange}
use Rattle.party_tables.specs.declared.exchange.Exchange.{Exchange}
use Rattle.party_tables.specs.declared.exchange.Kind.{Kind}
use Rattle.party_tables.specs.declared.exchange.Kind.TheVariants as kind
use Rattle.party_tables.specs.declared.exchange.Via.{Via}
use Rattle.party_tables.specs.declared.exchange.Via.TheVariants as vias
use Rattle.party_tables.specs.declared.key.KeyRec.{KeyRec}
use Rattle.party_tables.specs.declared.key.KeyStatus.TheVariants.{Ended}
use Rattle.party_tables.specs.declared.link.LinkKey.{LinkKey}
use Rattle.party_tables.specs.declared.link.LinkRec.{LinkRec}
use Rattle.party_tables.specs.Keys.{same_link, link_key, same_name, sends, takes}
use Rattle.party_tables.specs.Statuses.{is_ended}
use Rattle.party_state.specs.State.{Party, centre_label, link_with, exchange_with, first_link}
use Rattle.party_state.specs.Verdicts.{Test}
use Rattle.party_tables.proofs.Keys.{test_links}
use Rattle.party_tables.proofs.Tables.{find_key}
use Rattle.role_base.specs.declared.exchanges.Sent.{Sent}
use Rattle.role_base.specs.Exchanges.{record_of, sent_to, ending_with, new_link, readied, dropped}
use Rattle.role_base.specs.Sending.{sending_drawn}
use Rattle.role_base.specs.Texts.{is_plain}
use Rattle.bank_orders.specs.Start.{sending_link, start_tests, start_under}
use Rattle.bank_orders.specs.Resend.{resend_of}
use Rattle.bank_orders.specs.GivingUp.{given_up, given_up_in}
use Rattle.bank_orders.specs.Ending.{end_record}
use Rattle.bank_arrivals.specs.declared.disconnection.NamedKey.{NamedKey}
use Rattle.bank_arrivals.specs.declared.error_message.ErrorSubject.{ErrorSubject}
use Rattle.bank_arrivals.specs.declared.error_message.ErrorSubject.TheVariants.{SentKey, SentTwins, Translated}
use Rattle.bank_arrivals.specs.Rsi.{rsi_tests, rsi_row, rsi_under}
use Rattle.bank_arrivals.specs.Rsm.{rsm_to, answer_to, rsm_with}
use Rattle.bank_arrivals.specs.Esm.{subject_with, subject_link, subject_value, raised, subject_ended, plain_esm}
use Rattle.bank_arrivals.specs.Dsm.{named_by, left_by, left_in, dsm_on}
use Rattle.bank_keys.specs.Rtr.{brought, translated, rtr_with}
use Rattle.bank_orders.specs.Translate.{translate_drawn, translate_under}
use Rattle.bank_orders.specs.declared.draws.KkDrawn.{KkDrawn}
use Rattle.bank_orders.specs.Draws.{kk_drawn}
use Rattle.bank_arrivals.specs.declared.asking_again.Retry.{Retry}
use Rattle.bank_arrivals.specs.AskingAgain.{asked_again, retry_in}
use Rattle.bank_arrivals.specs.Esm.{error_of}
use Rattle.bank_keys.specs.Ksm.{body_link, body_count, body_new, body_record, taken_edits, key_row}
use Rattle.bank_orders.specs.StartKk.{kk_sending, start_kk_under}
use Rattle.bank_keys.specs.declared.waits.KeyAtCentre.{KeyAtCentre}
use Rattle.bank_keys.specs.Waiting.{waiting_with}
use Rattle.member.specs.Rows.{row_by}
use Rattle.bank_orders.specs.Orders.{command_row}
use Rattle.member.specs.BankRows.{message_row}
use Rattle.member.specs.Rows.{row_at}
use Rattle.world_laws.proofs.Agreeing.Standing.{Freed, TidyIn, Tidy, RowNews, tidy, starts, twice, tidy_join, freed_behind}
use Rattle.world_laws.proofs.Agreeing.StandingCentres.{distribution_tidy, translation_tidy, centre_tidy}

new_peer : (p : Party) (peer : List ℕ) (via : Via) (l : LinkRec) → new_link p peer via ≡ Some l → peer ≡ l.peer
new_peer p peer (vias.Direct label None) l h = absurd (cc)
new_peer p peer (vias.Direct label (Some new)) l h = ap (λ (k : LinkKey). k.peer) (find_key link_key same_link test_links (sends peer new) l p.links h)
new_peer p peer (vias.Distribution centre cta) l h = absurd (cc)
new_peer p peer (vias.Translation centre) l h = absurd (cc)

dropped_tidy : (all : List Edit) (p : Party) (peer : List ℕ) (via : Via) → Freed all peer → AllByRecursion (TidyIn all) (dropped (new_link p peer via))
dropped_tidy all p peer via f = go (new_link p peer via) refl
  where
    go : (o : Option LinkRec) → new_link p peer via ≡ o → AllByRecursion (TidyIn all) (dropped o)
    go None e = tt
    go (Some l) e = (subst (Freed all) (new_peer p peer via l e) f, tt)

readied_tidy : (all : List Edit) (o : Option LinkRec) → AllByRecursion (TidyIn all) (readied o)
readied_tidy all None = tt
readied_tidy all (Some l) = (tt, tt)

ended_tidy : (all : List Edit) (o : Option KeyRec) → AllByRecursion (TidyIn all) (ended o)
ended_tidy all None = tt
ended_tidy all (Some k) = (tt, tt)

raised_tidy : (all : List Edit) (o : Option LinkRec) (ctr : Option ℕ) → AllByRecursion (TidyIn all) (raised o ctr)
raised_tidy all None ctr = tt
raised_tidy all (Some l) None = tt
raised_tidy all (Some l) (Some n) = (tt, tt)

module _ (p : Party) where
  sending_tidy : (front : List Test) (l : LinkRec) (o : Option (ℕ × Gen)) → Tidy (sending_drawn p front l o).edits
  sending_tidy front l None = tt
  sending_tidy front l (Some d) = (tt, (tt, (tt, (refl, tt))))

  start_tidy : (peer : List ℕ) (o : Option LinkRec) (moment : ℕ) → Tidy (start_under p peer o moment).edits
  start_tidy peer None moment = tt
  start_tidy peer (Some l) moment = sending_tidy (start_tests p peer (Some l)) l (good_draw p.generator moment)

  kk_news : (peer new : List ℕ) (single : Bool) (o : Option LinkRec) (moment : ℕ) → RowNews p (start_kk_under p peer new single o moment).edits
  kk_news peer new single None moment = tidy tt
  kk_news peer new single (Some l) moment = go (kk_drawn p.generator moment single)
    where
      go : (d : Option KkDrawn) → RowNews p (kk_sending p (start_tests p peer (Some l)) l new single d).edits
      go None = tidy tt
      go (Some d) = starts l new single d refl

  translate_tidy : (centre u : List ℕ) (o : Option LinkRec) (moment : ℕ) → Tidy (translate_under p centre u o moment).edits
  translate_tidy centre u None moment = tt
  translate_tidy centre u (Some l) moment = go (good_draw p.generator moment)
    where
      go : (d : Option (ℕ × Gen)) → Tidy (translate_drawn p centre u l d).edits
      go None = tt
      go (Some d) = (tt, (tt, (refl, tt)))

  resend_tidy : (o : Option Exchange) → Tidy (resend_of o).edits
  resend_tidy None = tt
  resend_tidy (Some x) = tt

  end_tidy : (peer : List ℕ) (o : Option KeyRec) → Tidy (end_record p peer o).edits
  end_tidy peer None = tt
  end_tidy peer (Some k) = (tt, (refl, tt))

  drop_tidy : (peer : List ℕ) (o : Option Exchange) → Tidy (given_up_in p peer o)
  drop_tidy peer None = tt
  drop_tidy peer (Some e) = by_kind e.kind
    where
      by_kind : (k : Kind) → Tidy (given_up p peer k ++ DropExchange peer ∷ [])
      by_kind (kind.KeySent name via) =
          let all : List Edit = given_up p peer (kind.KeySent name via) ++ DropExchange peer ∷ [] in
          let f : Freed all peer = freed_behind (given_up p peer (kind.KeySent name via)) (DropExchange peer ∷ []) peer (inl refl) in
          tidy_join all (given_up p peer (kind.KeySent name via)) (DropExchange peer ∷ [])
          (tidy_join all (dropped (new_link p peer via)) (ended (record_of p peer name)) (dropped_tidy all p peer via f) (ended_tidy all (record_of p peer name))) (tt, tt)
      by_kind (kind.Asked ultimate) = (tt, tt)
      by_kind (kind.Translating ultimate value cta) = (tt, tt)
      by_kind (kind.Ending name) = (tt, tt)
      by_kind (kind.PairSent name) =
          let all : List Edit = given_up p peer (kind.PairSent name) ++ DropExchange peer ∷ [] in
          tidy_join all (given_up p peer (kind.PairSent name)) (DropExchange peer ∷ [])
          (tidy_join all (ended (record_of p peer name)) (ended (record_of p peer (name_behind name))) (ended_tidy all (record_of p peer name)) (ended_tidy all (record_of p peer (name_behind name)))) (tt, tt)

  command_news : (c : Command) (moment : ℕ) → RowNews p (command_row p c moment).edits
  command_news (command.Load peer label side pair) moment = tidy (tt, tt)
  command_news (command.Start peer label) moment = tidy (start_tidy peer (sending_link p peer label) moment)
  command_news (command.StartKk peer label new single) moment = kk_news peer new single (sending_link p peer label) moment
  command_news (command.Ask peer None) moment = tidy tt
  command_news (command.Ask peer (Some ultimate)) moment = tidy (refl, tt)
  command_news (command.Translate centre ultimate) moment = tidy (translate_tidy centre ultimate (link_with (sends centre centre_label) p) moment)
  command_news (command.Resend peer) moment = tidy (resend_tidy (exchange_with peer p))
  command_news (command.End peer name) moment = tidy (end_tidy peer (record_of p peer name))
  command_news (command.Drop peer) moment = tidy (drop_tidy peer (exchange_with peer p))
  command_news command.Purge moment = tidy (tt, tt)

  rsi_news : (a : Arrival) (m : Rsi) (moment : ℕ) (o : Option LinkRec) → RowNews p (rsi_under p a m o moment).edits
  rsi_news a m moment None = tidy tt
  rsi_news a m moment (Some l) = by_service (is_two_keys m.service)
    where
      by_draw : (o : Option TwinsDrawn) → RowNews p (twins_sending_drawn p (rsi_tests p a m (Some l)) l o).edits
      by_draw None = tidy tt
      by_draw (Some d) = twice l d refl

      by_service : (b : Bool) → RowNews p (rsi_row p a m l moment b).edits
      by_service true = by_draw (twins_drawn p.generator moment)
      by_service false = tidy (sending_tidy (rsi_tests p a m (Some l)) l (good_draw p.generator moment))

  key_tidy : (a : Arrival) (m : Ksm) (b : KsmBody) (o : Option LinkRec) → Tidy (key_row p a m b o).edits
  key_tidy a m b None = tt
  key_tidy a m b (Some l) = (tt, go (body_new b))
    where
      second : (o : Option ℕ) → AllByRecursion (TidyIn (key_row p a m b (Some l)).edits) (second_edits (option_map (λ kd. second_record p m b l kd) o))
      second None = tt
      second (Some kd) = (tt, tt)

      go : (n : Option (List ℕ × NewKk)) → AllByRecursion (TidyIn (key_row p a m b (Some l)).edits) (taken_edits m.originator l (body_count b) n ++ PutKey (body_record p m b l) ∷ second_edits (body_second p m b l))
      go None = (tt, second (body_twin b))
      go (Some n) = (tt, (tt, second (body_twin b)))

  rtr_tidy : (a : Arrival) (m : Rtr) (kd : Option (ℕ × ℕ)) → Tidy (rtr_with p a m kd).edits
  rtr_tidy a m (Some k) = go (link_with (takes m.originator centre_label) p)
    where
      go : (o : Option LinkRec) → Tidy (brought p a m k o).edits
      go None = tt
      go (Some l) = (tt, (tt, (tt, (refl, tt))))
  rtr_tidy a m None = go (waiting_with p m.originator)
    where
      go : (o : Option KeyAtCentre) → Tidy (translated p a m o).edits
      go None = tt
      go (Some t) = (tt, (tt, (refl, tt)))

  rsm_tidy : (a : Arrival) (m : Rsm) (o : Option KeyName) → Tidy (rsm_with p a m o).edits
  rsm_tidy a m None = by_twins (twins_to p m.originator)
    where
      go : (o : Option Sent) → Tidy (rsm_to p a m o).edits
      go None = tt
      go (Some s) = tidy_join (rsm_to p a m (Some s)).edits (readied (new_link p m.originator s.via)) _ (readied_tidy (rsm_to p a m (Some s)).edits (new_link p m.originator s.via)) (tt, (tt, tt))

      by_twins : (t : Option Twins) → Tidy (rsm_by p a m t).edits
      by_twins None = go (sent_to p m.originator)
      by_twins (Some t) = (tt, (tt, (tt, tt)))
  rsm_tidy a m (Some name) = go (ending_with p m.originator)
    where
      go : (o : Option KeyRec) → Tidy (answer_to p a m name o).edits
      go None = tt
      go (Some k) = (tt, (tt, tt))

  again_tidy : (all : List Edit) (m : Esm) (value : ℕ) (t : Option Retry) → AllByRecursion (TidyIn all) (DropExchange m.originator ∷ asked_again p m value t)
  again_tidy all m value None = (tt, tt)
  again_tidy all m value (Some t) = (tt, (refl, tt))

  subject_tidy : (all : List Edit) (peer : List ℕ) (s : ErrorSubject) → Freed all peer → AllByRecursion (TidyIn all) (subject_ended p peer s)
  subject_tidy all peer (SentKey s) f = tidy_join all (dropped (new_link p peer s.via)) _ (dropped_tidy all p peer s.via f) (tt, tt)
  subject_tidy all peer (SentTwins t) f = (tt, (tt, tt))
  subject_tidy all peer (Translated value cta) f = tt

  esm_tidy : (a : Arrival) (m : Esm) (b : Bool) (o : Option ErrorSubject) (again : Option Retry) → Tidy (cond b (plain_esm p a m) (error_of p a m o again)).edits
  esm_tidy a m true o again = tt
  esm_tidy a m false None again = tt
  esm_tidy a m false (Some s) again =
      let up : List Edit = raised (subject_link p m.originator s) m.ctr in
      let gone : List Edit = subject_ended p m.originator s in
      let rest : List Edit = DropExchange m.originator ∷ asked_again p m (subject_value s) again in
      let all : List Edit = up ++ (gone ++ rest) in
      let f : Freed all m.originator = freed_behind up (gone ++ rest) m.originator (freed_behind gone rest m.originator (inl refl)) in
      tidy_join all up (gone ++ rest) (raised_tidy all (subject_link p m.originator s) m.ctr) (tidy_join all gone rest (subject_tidy all m.originator s f) (again_tidy all m (subject_value s) again))

  dsm_tidy : (a : Arrival) (m : Dsm) (o : Option NamedKey) → Tidy (dsm_on p a m o).edits
  dsm_tidy a m None = tt
  dsm_tidy a m (Some n) = by_status (is_ended n.key.status)
    where
      BothTidy : List Edit × List Edit → Type 0
      BothTidy gone = Tidy (gone.0 ++ (PutKey (record n.key { status = Ended }) ∷ gone.1))

      by_sent : (via : Via) (b : Bool) → BothTidy (cond b (dropped (new_link p m.originator via), DropExchange m.originator ∷ []) ([], []))
      by_sent via true =
          let first : List Edit = dropped (new_link p m.originator via) in
          let rest : List Edit = PutKey (record n.key { status = Ended }) ∷ DropExchange m.originator ∷ [] in
          tidy_join (first ++ rest) first rest (dropped_tidy (first ++ rest) p m.originator via (freed_behind first rest m.originator (inr (inl refl)))) (tt, (tt, tt))
      by_sent via false = (tt, tt)

      by_ending : (b : Bool) → BothTidy (cond b ([], DropExchange m.originator ∷ []) ([], []))
      by_ending true = (tt, (tt, tt))
      by_ending false = (tt, tt)

      by_pair : (j k : Option KeyRec) (b c : Bool) → BothTidy (cond b ([], ended k ++ DropExchange m.originator ∷ []) (cond c (ended j, DropExchange m.originator ∷ []) ([], [])))
      by_pair j None true c = (tt, (tt, tt))
      by_pair j (Some k) true c = (tt, (tt, (tt, tt)))
      by_pair None k false true = (tt, (tt, tt))
      by_pair (Some j) k false true = (tt, (tt, (tt, tt)))
      by_pair j k false false = (tt, tt)

      by_kind : (k : Kind) → BothTidy (left_by p m.originator n.key.name k)
      by_kind (kind.KeySent sent via) = by_sent via (same_name n.key.name sent)
      by_kind (kind.Ending ending) = by_ending (same_name n.key.name ending)
      by_kind (kind.Asked ultimate) = (tt, tt)
      by_kind (kind.Translating ultimate value cta) = (tt, tt)
      by_kind (kind.PairSent sent) = by_pair (record_of p m.originator sent) (record_of p m.originator (name_behind sent)) (same_name n.key.name sent) (same_name n.key.name (name_behind sent))

      by_exchange : (o : Option Exchange) → BothTidy (left_in p m.originator n.key.name o)
      by_exchange None = (tt, tt)
      by_exchange (Some e) = by_kind e.kind

      by_status : (b : Bool) → Tidy (cond b [] ((left_in p m.originator n.key.name (exchange_with m.originator p)).0 ++ (PutKey (record n.key { status = Ended }) ∷ (left_in p m.originator n.key.name (exchange_with m.originator p)).1)))
      by_status true = tt
      by_status false = by_exchange (exchange_with m.originator p)

  message_news : (a : Arrival) (m : Message) (moment : ℕ) → RowNews p (message_row p a m moment).edits
  message_news a (message.Rsi m) moment = rsi_news a m moment (first_link m.originator Sends p)
  message_news a (message.Rfs m) moment = tidy tt
  message_news a (message.Rtr m) moment = tidy (rtr_tidy a m m.kd)
  message_news a (message.Ksm m) moment = tidy (key_tidy a m m.body (body_link p m.originator m.body))
  message_news a (message.Rsm m) moment = tidy (rsm_tidy a m m.idd)
  message_news a (message.Ers m) moment = tidy tt
  message_news a (message.Esm m) moment = tidy (esm_tidy a m (is_plain a.parsed.shut) (subject_with p m.originator) (retry_in p (subject_with p m.originator) m.ctr))
  message_news a (message.Dsm m) moment = tidy (dsm_tidy a m (named_by p m))

  role_news : (r : Role) (j : Input) (moment : ℕ) → RowNews p (row_by r p j moment).edits
  role_news Bank (input.Ordered c) moment = command_news c moment
  role_news Bank (input.Arrived a) moment = message_news a a.parsed.message moment
  role_news Distribution (input.Ordered c) moment = tidy (centre_tidy p c)
  role_news Distribution (input.Arrived a) moment = tidy (distribution_tidy p a a.parsed.message moment)
  role_news Translation (input.Ordered c) moment = tidy (centre_tidy p c)
  role_news Translation (input.Arrived a) moment = tidy (translation_tidy p a a.parsed.message)

pub row_news : (p : Party) (j : Input) (moment : ℕ) → RowNews p (row_at p j moment).edits
row_news p j moment = role_news p p.role j moment
