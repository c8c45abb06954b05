-- The rows, for the law that asks nothing of what waits: the links that a party takes under go on, and a key service message
-- has a count that was not reached.
use Rattle.std.proofs.Common.{arith, ◌≡◌, ℕ, max, inl, inr, Bool, true, false, cond, Option, Some, None, List, [], ◌∷◌, ◌++◌, refl, sym, subst}
use Rattle.std.specs.List.{AllByRecursion}
use Rattle.x_base.specs.declared.key_name.KeyName.{KeyName}
use Rattle.x_base.specs.declared.party.Role.{Role}
use Rattle.x_base.specs.declared.party.Role.TheVariants.{Bank, Distribution, Translation}
use Rattle.x_base.specs.declared.party.Side.TheVariants.{Sends}
use Rattle.csm_grammar.specs.declared.arrival.Arrival.{Arrival}
use Rattle.csm_grammar.specs.declared.message.Rsm.{Rsm}
use Rattle.csm_grammar.specs.declared.message.Esm.{Esm}
use Rattle.csm_grammar.specs.declared.message.Dsm.{Dsm}
use Rattle.csm_grammar.specs.declared.message.Message.{Message}
use Rattle.csm_grammar.specs.declared.message.Message.TheVariants as message
use Rattle.csm_grammar.specs.Arrivals.{authenticated_text}
use Rattle.csm_grammar.specs.Spelling.{Says}
use Rattle.csm_read.proofs.Arrived.{arrival_says}
use Rattle.party_tables.specs.declared.link.LinkKey.{LinkKey}
use Rattle.party_tables.specs.declared.link.LinkRec.{LinkRec}
use Rattle.party_tables.specs.declared.key.KeyRec.{KeyRec}
use Rattle.party_tables.specs.declared.key.KeyStatus.TheVariants.{Ended, Live}
use Rattle.party_tables.specs.declared.exchange.Exchange.{Exchange}
use Rattle.party_tables.specs.declared.exchange.Kind.{Kind}
use Rattle.party_tables.specs.declared.exchange.Kind.TheVariants as kind
use Rattle.party_tables.specs.Keys.{link_key, sends, same_name}
use Rattle.party_tables.specs.Names.{name_behind}
use Rattle.party_tables.specs.Statuses.{is_ended}
use Rattle.party_state.specs.declared.command.Command.{Command}
use Rattle.party_state.specs.declared.command.Command.TheVariants as command
use Rattle.party_state.specs.declared.command.Input.{Input}
use Rattle.party_state.specs.declared.command.Input.TheVariants as input
use Rattle.party_state.specs.declared.edit.Edit.{Edit}
use Rattle.party_state.specs.declared.edit.Edit.TheVariants.{PutKey, DropExchange, PutLink}
use Rattle.party_state.specs.Rows.{Row}
use Rattle.party_state.specs.State.{Party, centre_label, link_with, first_link, exchange_with, apply, apply_edit}
use Rattle.party_state.specs.Verdicts.{verdict_of, is_accept}
use Rattle.role_base.specs.declared.exchanges.Sent.{Sent}
use Rattle.role_base.specs.declared.exchanges.Twins.{Twins}
use Rattle.role_base.specs.Differing.{differing}
use Rattle.role_base.specs.Exchanges.{record_of, new_link, sent_to, twins_to, ending_with, readied, dropped, ended}
use Rattle.role_base.specs.Texts.{is_plain}
use Rattle.bank_orders.specs.Start.{sending_link}
use Rattle.bank_orders.specs.GivingUp.{given_up, given_up_in, drop}
use Rattle.bank_orders.specs.Orders.{command_row}
use Rattle.bank_keys.specs.Ksm.{body_link}
use Rattle.bank_arrivals.specs.declared.asking_again.Retry.{Retry}
use Rattle.bank_arrivals.specs.declared.disconnection.NamedKey.{NamedKey}
use Rattle.bank_arrivals.specs.declared.error_message.ErrorSubject.{ErrorSubject}
use Rattle.bank_arrivals.specs.declared.error_message.ErrorSubject.TheVariants.{SentKey, SentTwins, Translated}
use Rattle.bank_arrivals.specs.AskingAgain.{asked_again, retry_in}
use Rattle.bank_arrivals.specs.Rsm.{rsm_front, rsm_to, rsm_twins, rsm_by, rsm_with}
use Rattle.bank_arrivals.specs.Esm.{subject_with, subject_link, subject_ended, raised, esm_front, plain_esm, error_row, error_of, error_with}
use Rattle.bank_arrivals.specs.Dsm.{named_by, dsm_front, dsm_on, left_by, left_in}
use Rattle.member.specs.BankRows.{message_row}
use Rattle.member.specs.Rows.{row_by, row_at}
use Rattle.world_laws.specs.Events.{IsCommand}
use Rattle.world_laws.specs.Steps.{received_text}
use Rattle.world_laws.proofs.Roles.Inputs.{IsInput}
use Rattle.world_laws.proofs.Rows.LeftOut.{left_out_by}
use Rattle.world_laws.proofs.Links.Growth.{next_up}
use Rattle.world_laws.proofs.Links.Found.{HasLinks, sending_at}
use Rattle.world_laws.proofs.Links.Taking.{TakesGrow, AllKeepTakes, TouchesSends, all_fine_takes, all_touch_keep, change_takes, new_sends}
use Rattle.world_laws.proofs.Counting.Sound.{AcceptsFine, IsSound, SoundRow, change_links}
use Rattle.world_laws.proofs.Counting.Quiet.{NoKsm, no_ksm, refused_sound, quiet_sound}
use Rattle.world_laws.proofs.Sound.Exchanges.{subject_link_at}
use Rattle.world_laws.proofs.Sound.NewKks.{start_kk_sound}
use Rattle.world_laws.proofs.Sound.Answers.{rtr_sound}
use Rattle.world_laws.proofs.Sound.Keys.{key_row_sound}
use Rattle.world_laws.proofs.Sound.Commands.{start_sound, resend_sound, end_sound, purge_sound, ask_of_sound, translate_sound}
use Rattle.world_laws.proofs.Sound.Arrivals.{rsi_sound, answer_sound, esm_no_ksm}
use Rattle.world_laws.proofs.Sound.Centres.{centre_command_sound, distribution_sound, translation_sound}

pub record TakesRow (p : Party) (text : List ℕ) (r : Row) : Type 0 where
  pub edits : AllKeepTakes p r.edits
  pub accepts : AcceptsFine p (apply r.edits p) text r.accepts

sound_takes : (o : Option LinkKey) (p : Party) (text : List ℕ) (r : Row) → IsSound o p text r → TakesRow p text r
sound_takes o p text r g = record { edits = all_fine_takes o r.edits p g.edits; accepts = g.accepts }

some_takes : (p : Party) (text : List ℕ) (r : Row) → SoundRow p text r → TakesRow p text r
some_takes p text r g = sound_takes g.new p text r g.sound

keeping_takes : (p : Party) (text : List ℕ) (r : Row) → AllKeepTakes p r.edits → NoKsm r.accepts → TakesRow p text r
keeping_takes p text r q n = record { edits = q; accepts = no_ksm p (apply r.edits p) text r.accepts n }

touching_takes : (p : Party) (text : List ℕ) (r : Row) → AllByRecursion TouchesSends r.edits → NoKsm r.accepts → TakesRow p text r
touching_takes p text r q n = keeping_takes p text r (all_touch_keep r.edits p q) n

touch_both : (es fs : List Edit) → AllByRecursion TouchesSends es → AllByRecursion TouchesSends fs → AllByRecursion TouchesSends (es ++ fs)
touch_both [] fs f g = g
touch_both (e ∷ es) fs f g = (f.0, touch_both es fs f.1 g)

-- what is given up

dropped_touch : (o : Option LinkRec) → ((l : LinkRec) → o ≡ Some l → l.side ≡ Sends) → AllByRecursion TouchesSends (dropped o)
dropped_touch None f = tt
dropped_touch (Some l) f = (f l refl, tt)

ended_touch : (o : Option KeyRec) → AllByRecursion TouchesSends (ended o)
ended_touch None = tt
ended_touch (Some k) = (tt, tt)

given_up_touch : (p : Party) (peer : List ℕ) (k : Kind) → AllByRecursion TouchesSends (given_up p peer k)
given_up_touch p peer (kind.KeySent name via) = touch_both (dropped (new_link p peer via)) (ended (record_of p peer name)) (dropped_touch (new_link p peer via) (new_sends p peer via)) (ended_touch (record_of p peer name))
given_up_touch p peer (kind.Asked ultimate) = tt
given_up_touch p peer (kind.Translating ultimate value cta) = tt
given_up_touch p peer (kind.Ending name) = tt
given_up_touch p peer (kind.PairSent name) = touch_both (ended (record_of p peer name)) (ended (record_of p peer (name_behind name))) (ended_touch (record_of p peer name)) (ended_touch (record_of p peer (name_behind name)))

given_up_in_touch : (p : Party) (peer : List ℕ) (o : Option Exchange) → AllByRecursion TouchesSends (given_up_in p peer o)
given_up_in_touch p peer None = tt
given_up_in_touch p peer (Some e) = touch_both (given_up p peer e.kind) (DropExchange peer ∷ []) (given_up_touch p peer e.kind) (tt, tt)

command_takes : (p : Party) (c : Command) (moment : ℕ) → IsCommand c → HasLinks p → is_accept (command_row p c moment).verdict ≡ true → TakesRow p [] (command_row p c moment)
command_takes p (command.Load peer label side pair) moment i d h = absurd i
command_takes p (command.Start peer label) moment i d h = sound_takes None p [] _ (start_sound p [] peer (sending_link p peer label) moment (λ l h. sending_at p peer label l d h))
command_takes p (command.StartKk peer label new single) moment i d h = some_takes p [] _ (start_kk_sound p [] peer new single (sending_link p peer label) moment (λ l h. sending_at p peer label l d h) h)
command_takes p (command.Ask peer ultimate) moment i d h = sound_takes None p [] _ (ask_of_sound p [] peer ultimate)
command_takes p (command.Translate centre ultimate) moment i d h = sound_takes None p [] _ (translate_sound p [] centre ultimate (link_with (sends centre centre_label) p) moment refl)
command_takes p (command.Resend peer) moment i d h = sound_takes None p [] _ (resend_sound p [] (exchange_with peer p))
command_takes p (command.End peer name) moment i d h = sound_takes None p [] _ (end_sound p [] peer (record_of p peer name))
command_takes p (command.Drop peer) moment i d h = touching_takes p [] (drop p peer) (given_up_in_touch p peer (exchange_with peer p)) (λ a e. absurd (cc))
command_takes p command.Purge moment i d h = sound_takes None p [] _ (purge_sound p [])

-- a response

rsm_takes : (p : Party) (a : Arrival) (m : Rsm) (o : Option Sent) → TakesRow p (authenticated_text a) (rsm_to p a m o)
rsm_takes p a m None = sound_takes None p (authenticated_text a) _ (refused_sound p (authenticated_text a) (verdict_of (rsm_front p m None)))
rsm_takes p a m (Some s) = touching_takes p (authenticated_text a) (rsm_to p a m (Some s)) (by_link (new_link p m.originator s.via) (new_sends p m.originator s.via)) (λ k e class. absurd (cc))
  where
    by_link : (o : Option LinkRec) → ((l : LinkRec) → o ≡ Some l → l.side ≡ Sends) → AllByRecursion TouchesSends (readied o ++ PutKey (record s.key { status = Live }) ∷ DropExchange m.originator ∷ [])
    by_link None f = (tt, (tt, tt))
    by_link (Some l) f = (f l refl, (tt, (tt, tt)))

rsm_row_takes : (p : Party) (a : Arrival) (m : Rsm) (o : Option KeyName) → TakesRow p (authenticated_text a) (rsm_with p a m o)
rsm_row_takes p a m None = by_twins (twins_to p m.originator)
  where
    by_twins : (t : Option Twins) → TakesRow p (authenticated_text a) (rsm_by p a m t)
    by_twins None = rsm_takes p a m (sent_to p m.originator)
    by_twins (Some t) = touching_takes p (authenticated_text a) (rsm_twins p a m t) (tt, (tt, (tt, tt))) (λ k e class. absurd (cc))
rsm_row_takes p a m (Some name) = sound_takes None p (authenticated_text a) _ (answer_sound p a m name (ending_with p m.originator))

-- an error message

raised_keep : (p : Party) (found : Option LinkRec) (ctr : Option ℕ) (more : List Edit) → AllByRecursion TouchesSends more → ((l : LinkRec) → found ≡ Some l → link_with (link_key l) p ≡ Some l) → AllKeepTakes p (raised found ctr ++ more)
raised_keep p None ctr more q f = all_touch_keep more p q
raised_keep p (Some l) None more q f = all_touch_keep more p q
raised_keep p (Some l) (Some n) more q f = (inr (inl (l, f l refl, next_up l (max l.next n) (omega arith))), all_touch_keep more (apply_edit (PutLink (record l { next = max l.next n })) p) q)

again_touch : (p : Party) (m : Esm) (value : ℕ) (t : Option Retry) → AllByRecursion TouchesSends (asked_again p m value t)
again_touch p m value None = tt
again_touch p m value (Some t) = (tt, tt)

subject_touch : (p : Party) (peer : List ℕ) (s : ErrorSubject) → AllByRecursion TouchesSends (subject_ended p peer s)
subject_touch p peer (SentKey s) = touch_both (dropped (new_link p peer s.via)) (PutKey (record s.key { status = Ended }) ∷ []) (dropped_touch (new_link p peer s.via) (new_sends p peer s.via)) (tt, tt)
subject_touch p peer (SentTwins t) = (tt, (tt, tt))
subject_touch p peer (Translated value cta) = tt

gone_touch : (p : Party) (m : Esm) (s : ErrorSubject) (more : List Edit) → AllByRecursion TouchesSends more → AllByRecursion TouchesSends (subject_ended p m.originator s ++ DropExchange m.originator ∷ more)
gone_touch p m s more q = touch_both (subject_ended p m.originator s) (DropExchange m.originator ∷ more) (subject_touch p m.originator s) (tt, q)

esm_takes : (p : Party) (a : Arrival) (m : Esm) (o : Option ErrorSubject) (again : Option Retry) → TakesRow p (authenticated_text a) (error_of p a m o again)
esm_takes p a m None again = sound_takes None p (authenticated_text a) _ (refused_sound p (authenticated_text a) (verdict_of (esm_front p m None)))
esm_takes p a m (Some s) again = keeping_takes p (authenticated_text a) (error_row p a m s again)
    (raised_keep p (subject_link p m.originator s) m.ctr _ (gone_touch p m s _ (again_touch p m _ again)) (λ l e. subject_link_at p m.originator s l e))
    (esm_no_ksm p s)

error_takes : (p : Party) (a : Arrival) (m : Esm) (b : Bool) (again : Option Retry) → TakesRow p (authenticated_text a) (error_with p a m b again)
error_takes p a m true again = sound_takes None p (authenticated_text a) _ (quiet_sound p (authenticated_text a) (plain_esm p a m) tt refl (λ k e. absurd (cc)))
error_takes p a m false again = esm_takes p a m (subject_with p m.originator) again

-- the end of a key

-- what goes with the key touches none of them, before it and behind it
abbrev PartsTouch : List Edit × List Edit → Type 0
PartsTouch gone = AllByRecursion TouchesSends gone.0 × AllByRecursion TouchesSends gone.1

left_touch : (p : Party) (peer : List ℕ) (name : KeyName) (k : Kind) → PartsTouch (left_by p peer name k)
left_touch p peer name (kind.KeySent sent via) = by_name (same_name name sent)
  where
    by_name : (b : Bool) → PartsTouch (cond b (dropped (new_link p peer via), DropExchange peer ∷ []) ([], []))
    by_name true = (dropped_touch (new_link p peer via) (new_sends p peer via), (tt, tt))
    by_name false = (tt, tt)
left_touch p peer name (kind.Ending ending) = by_name (same_name name ending)
  where
    by_name : (b : Bool) → PartsTouch (cond b ([], DropExchange peer ∷ []) ([], []))
    by_name true = (tt, (tt, tt))
    by_name false = (tt, tt)
left_touch p peer name (kind.Asked ultimate) = (tt, tt)
left_touch p peer name (kind.Translating ultimate value cta) = (tt, tt)
left_touch p peer name (kind.PairSent sent) = by_names (same_name name sent) (same_name name (name_behind sent))
  where
    by_names : (b c : Bool) → PartsTouch (cond b ([], ended (record_of p peer (name_behind sent)) ++ DropExchange peer ∷ []) (cond c (ended (record_of p peer sent), DropExchange peer ∷ []) ([], [])))
    by_names true c = (tt, touch_both (ended (record_of p peer (name_behind sent))) (DropExchange peer ∷ []) (ended_touch (record_of p peer (name_behind sent))) (tt, tt))
    by_names false true = (ended_touch (record_of p peer sent), (tt, tt))
    by_names false false = (tt, tt)

left_in_touch : (p : Party) (peer : List ℕ) (name : KeyName) (o : Option Exchange) → PartsTouch (left_in p peer name o)
left_in_touch p peer name None = (tt, tt)
left_in_touch p peer name (Some e) = left_touch p peer name e.kind

dsm_takes : (p : Party) (a : Arrival) (m : Dsm) (o : Option NamedKey) → TakesRow p (authenticated_text a) (dsm_on p a m o)
dsm_takes p a m None = sound_takes None p (authenticated_text a) _ (refused_sound p (authenticated_text a) (verdict_of (dsm_front p m false)))
dsm_takes p a m (Some n) = touching_takes p (authenticated_text a) (dsm_on p a m (Some n)) (by_status (is_ended n.key.status)) (λ k e class. absurd (cc))
  where
    by_status : (b : Bool) → AllByRecursion TouchesSends (cond b [] ((left_in p m.originator n.key.name (exchange_with m.originator p)).0 ++ (PutKey (record n.key { status = Ended }) ∷ (left_in p m.originator n.key.name (exchange_with m.originator p)).1)))
    by_status true = tt
    by_status false =
        let t = left_in_touch p m.originator n.key.name (exchange_with m.originator p) in
        touch_both (left_in p m.originator n.key.name (exchange_with m.originator p)).0 (PutKey (record n.key { status = Ended }) ∷ (left_in p m.originator n.key.name (exchange_with m.originator p)).1) t.0 (tt, t.1)

message_takes : (p : Party) (a : Arrival) (m : Message) (moment : ℕ) → HasLinks p → Says (authenticated_text a) m → is_accept (message_row p a m moment).verdict ≡ true → TakesRow p (authenticated_text a) (message_row p a m moment)
message_takes p a (message.Rsi m) moment d said h = sound_takes None p (authenticated_text a) _ (rsi_sound p a m moment (first_link m.originator Sends p) d refl)
message_takes p a (message.Rfs m) moment d said h = sound_takes None p (authenticated_text a) _ (refused_sound p (authenticated_text a) _)
message_takes p a (message.Rtr m) moment d said h = sound_takes None p (authenticated_text a) _ (rtr_sound p a m m.kd h)
message_takes p a (message.Ksm m) moment d said h = some_takes p (authenticated_text a) _ (key_row_sound p a m m.body (body_link p m.originator m.body) d said refl refl h)
message_takes p a (message.Rsm m) moment d said h = rsm_row_takes p a m m.idd
message_takes p a (message.Ers m) moment d said h = sound_takes None p (authenticated_text a) _ (refused_sound p (authenticated_text a) _)
message_takes p a (message.Esm m) moment d said h = error_takes p a m (is_plain a.parsed.shut) (retry_in p (subject_with p m.originator) m.ctr)
message_takes p a (message.Dsm m) moment d said h = dsm_takes p a m (named_by p m)

role_takes : (r : Role) (p : Party) (i : Input) (moment : ℕ) → IsInput i → HasLinks p → is_accept (row_by r p i moment).verdict ≡ true → TakesRow p (received_text i) (row_by r p i moment)
role_takes Bank p (input.Ordered c) moment e d h = command_takes p c moment e d h
role_takes Bank p (input.Arrived a) moment e d h = message_takes p a a.parsed.message moment d (arrival_says a) h
role_takes Distribution p (input.Ordered c) moment e d h = sound_takes None p [] _ (centre_command_sound p c e)
role_takes Distribution p (input.Arrived a) moment e d h = sound_takes None p (authenticated_text a) _ (distribution_sound p a a.parsed.message moment h)
role_takes Translation p (input.Ordered c) moment e d h = sound_takes None p [] _ (centre_command_sound p c e)
role_takes Translation p (input.Arrived a) moment e d h = sound_takes None p (authenticated_text a) _ (translation_sound p a a.parsed.message h)

-- of the party that the edits that differ give
pub record TakesMove (s t : Party) (text : List ℕ) (r : Row) : Type 0 where
  pub grown : TakesGrow s t
  pub links : HasLinks s → HasLinks t
  pub accepts : AcceptsFine s t text r.accepts

takes_move : (s t : Party) (text : List ℕ) (r : Row) → t ≡ apply r.edits s → TakesRow s text r → TakesMove s t text r
takes_move s t text r e g = subst (λ (u : Party). TakesMove s u text r) (sym e) (record { grown = change_takes r.edits s g.edits; links = change_links r.edits s; accepts = g.accepts })

pub row_takes : (p : Party) (i : Input) (moment : ℕ) → IsInput i → HasLinks p → is_accept (row_at p i moment).verdict ≡ true → TakesMove p (apply (differing p (row_at p i moment).edits) p) (received_text i) (row_at p i moment)
row_takes p i moment e d h = takes_move p (apply (differing p (row_at p i moment).edits) p) (received_text i) (row_at p i moment) (left_out_by p.role p i moment d h) (role_takes p.role p i moment e d h)
