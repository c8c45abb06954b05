-- Each row, at each role.
use Rattle.std.proofs.Common.{◌≡◌, ℕ, Bool, true, false, Option, Some, None, List, refl}
use Rattle.x_base.specs.declared.key_name.KeyName.{KeyName}
use Rattle.x_base.specs.declared.party.Role.{Role}
use Rattle.x_base.specs.declared.party.Role.TheVariants.{Bank, Distribution, Translation}
use Rattle.x_base.specs.declared.party.Side.TheVariants.{Sends}
use Rattle.x_gen.specs.Gen.{good_draw}
use Rattle.csm_grammar.specs.declared.message.Rsi.{Rsi}
use Rattle.csm_grammar.specs.declared.message.Rtr.{Rtr}
use Rattle.csm_grammar.specs.declared.message.Ksm.{Ksm}
use Rattle.csm_grammar.specs.declared.message.KsmBody.{KsmBody}
use Rattle.csm_grammar.specs.declared.message.Rsm.{Rsm}
use Rattle.csm_grammar.specs.declared.message.Ers.{Ers}
use Rattle.csm_grammar.specs.declared.message.Esm.{Esm}
use Rattle.csm_grammar.specs.declared.message.Dsm.{Dsm}
use Rattle.csm_grammar.specs.declared.message.Message.{Message}
use Rattle.csm_grammar.specs.declared.message.Message.TheVariants as message
use Rattle.csm_grammar.specs.declared.arrival.Arrival.{Arrival}
use Rattle.party_tables.specs.declared.answer.Answer.{Answer}
use Rattle.party_tables.specs.declared.exchange.Exchange.{Exchange}
use Rattle.party_tables.specs.declared.key.KeyRec.{KeyRec}
use Rattle.party_tables.specs.declared.link.LinkRec.{LinkRec}
use Rattle.party_tables.specs.Keys.{sends, takes}
use Rattle.party_state.specs.declared.command.Command.{Command}
use Rattle.party_state.specs.declared.command.Command.TheVariants as command
use Rattle.party_state.specs.declared.command.Input.{Input}
use Rattle.party_state.specs.declared.command.Input.TheVariants as input
use Rattle.party_state.specs.State.{Party, centre_label, link_with, first_link, exchange_with, answer_with}
use Rattle.role_base.specs.declared.exchanges.Sent.{Sent}
use Rattle.role_base.specs.declared.exchanges.Twins.{Twins}
use Rattle.role_base.specs.Centres.{centre_command}
use Rattle.role_base.specs.Conditions.{is_two_keys}
use Rattle.role_base.specs.Exchanges.{record_of, sent_to, twins_to, ending_with}
use Rattle.role_base.specs.Texts.{is_plain}
use Rattle.bank_orders.specs.Start.{sending_link}
use Rattle.bank_orders.specs.Ask.{ask_of}
use Rattle.bank_orders.specs.Resend.{resend_of}
use Rattle.bank_orders.specs.Ending.{end_record}
use Rattle.bank_orders.specs.Orders.{command_row}
use Rattle.bank_keys.specs.Ksm.{body_link, key_row}
use Rattle.bank_keys.specs.declared.waits.KeyAtCentre.{KeyAtCentre}
use Rattle.bank_keys.specs.Waiting.{waiting_with}
use Rattle.bank_keys.specs.Rtr.{brought, translated, rtr_with}
use Rattle.bank_arrivals.specs.declared.asking_again.Retry.{Retry}
use Rattle.bank_arrivals.specs.declared.disconnection.NamedKey.{NamedKey}
use Rattle.bank_arrivals.specs.declared.error_message.ErrorSubject.{ErrorSubject}
use Rattle.bank_arrivals.specs.AskingAgain.{retry_in}
use Rattle.bank_arrivals.specs.SendingTwins.{twins_drawn}
use Rattle.bank_arrivals.specs.Rsi.{rsi_tests, rsi_row, rsi_under}
use Rattle.bank_arrivals.specs.Rsm.{rsm_to, rsm_by, answer_to, rsm_with}
use Rattle.bank_arrivals.specs.Esm.{subject_with, error_of, error_with}
use Rattle.bank_arrivals.specs.Dsm.{named_by, dsm_on}
use Rattle.member.specs.BankRows.{message_row}
use Rattle.distribution_role.specs.Requests.{rsi_tests as centre_tests, rsi_between, rsi_for}
use Rattle.distribution_role.specs.Recovery.{ers_tests, at_least, ers_between}
use Rattle.distribution_role.specs.Rows.{distribution_message}
use Rattle.translation_role.specs.Rows.{translation_message}
use Rattle.member.specs.Rows.{row_by, row_at}
use Rattle.world_laws.specs.Events.{IsCommand}
use Rattle.world_laws.proofs.Roles.Inputs.{IsInput}
use Rattle.world_laws.proofs.Links.Found.{HasLinks, FirstAt, first_at, sending_at}
use Rattle.world_laws.proofs.Shown.Rows.{RowShows, sending_shows, start_shows, start_kk_shows, twins_shows, translate_shows, answering_shows, rfs_shows}

ask_shows : (p : Party) (peer : List ℕ) (o : Option (List ℕ)) → RowShows p (ask_of p peer o)
ask_shows p peer None = record { uses = refl; birth = refl }
ask_shows p peer (Some u) = record { uses = refl; birth = refl }

resend_shows : (p : Party) (o : Option Exchange) → RowShows p (resend_of o)
resend_shows p None = record { uses = refl; birth = refl }
resend_shows p (Some e) = record { uses = refl; birth = refl }

end_shows : (p : Party) (peer : List ℕ) (o : Option KeyRec) → RowShows p (end_record p peer o)
end_shows p peer None = record { uses = refl; birth = refl }
end_shows p peer (Some k) = record { uses = refl; birth = refl }

command_shows : (p : Party) (c : Command) (moment : ℕ) → IsCommand c → HasLinks p → RowShows p (command_row p c moment)
command_shows p (command.Load peer label side pair) moment i d = absurd i
command_shows p (command.Start peer label) moment i d = start_shows p peer (sending_link p peer label) moment (λ l h. sending_at p peer label l d h)
command_shows p (command.StartKk peer label new single) moment i d = start_kk_shows p peer new single (sending_link p peer label) moment (λ l h. sending_at p peer label l d h)
command_shows p (command.Ask peer ultimate) moment i d = ask_shows p peer ultimate
command_shows p (command.Translate centre ultimate) moment i d = translate_shows p centre ultimate (link_with (sends centre centre_label) p) moment refl
command_shows p (command.Resend peer) moment i d = resend_shows p (exchange_with peer p)
command_shows p (command.End peer name) moment i d = end_shows p peer (record_of p peer name)
command_shows p (command.Drop peer) moment i d = record { uses = refl; birth = refl }
command_shows p command.Purge moment i d = record { uses = refl; birth = refl }

bank_rsi_shows : (p : Party) (a : Arrival) (m : Rsi) (moment : ℕ) (o : Option LinkRec) → HasLinks p → first_link m.originator Sends p ≡ o → RowShows p (rsi_under p a m o moment)
bank_rsi_shows p a m moment None d h = record { uses = refl; birth = refl }
bank_rsi_shows p a m moment (Some l) d h = by_service (is_two_keys m.service)
  where
    f : FirstAt p m.originator Sends l
    f = first_at p m.originator Sends l d h

    by_service : (b : Bool) → RowShows p (rsi_row p a m l moment b)
    by_service true = twins_shows p (rsi_tests p a m (Some l)) m.originator l moment (twins_drawn p.generator moment) refl (record { at = f.at; ready = f.ready })
    by_service false = sending_shows p (rsi_tests p a m (Some l)) m.originator l p.generator moment (good_draw p.generator moment) refl (record { at = f.at; ready = f.ready })

rtr_shows : (p : Party) (a : Arrival) (m : Rtr) (o : Option (ℕ × ℕ)) → RowShows p (rtr_with p a m o)
rtr_shows p a m (Some k) = by_link (link_with (takes m.originator centre_label) p)
  where
    by_link : (o : Option LinkRec) → RowShows p (brought p a m k o)
    by_link None = record { uses = refl; birth = refl }
    by_link (Some l) = record { uses = refl; birth = refl }
rtr_shows p a m None = by_waiting (waiting_with p m.originator)
  where
    by_waiting : (o : Option KeyAtCentre) → RowShows p (translated p a m o)
    by_waiting None = record { uses = refl; birth = refl }
    by_waiting (Some t) = record { uses = refl; birth = refl }

key_shows : (p : Party) (a : Arrival) (m : Ksm) (b : KsmBody) (o : Option LinkRec) → RowShows p (key_row p a m b o)
key_shows p a m b None = record { uses = refl; birth = refl }
key_shows p a m b (Some l) = record { uses = refl; birth = refl }

rsm_shows : (p : Party) (a : Arrival) (m : Rsm) (o : Option KeyName) → RowShows p (rsm_with p a m o)
rsm_shows p a m None = by_twins (twins_to p m.originator)
  where
    by_sent : (o : Option Sent) → RowShows p (rsm_to p a m o)
    by_sent None = record { uses = refl; birth = refl }
    by_sent (Some s) = record { uses = refl; birth = refl }

    by_twins : (o : Option Twins) → RowShows p (rsm_by p a m o)
    by_twins None = by_sent (sent_to p m.originator)
    by_twins (Some t) = record { uses = refl; birth = refl }
rsm_shows p a m (Some name) = by_record (ending_with p m.originator)
  where
    by_record : (o : Option KeyRec) → RowShows p (answer_to p a m name o)
    by_record None = record { uses = refl; birth = refl }
    by_record (Some k) = record { uses = refl; birth = refl }

esm_shows : (p : Party) (a : Arrival) (m : Esm) (b : Bool) (again : Option Retry) → RowShows p (error_with p a m b again)
esm_shows p a m true again = record { uses = refl; birth = refl }
esm_shows p a m false again = by_subject (subject_with p m.originator) again
  where
    by_subject : (o : Option ErrorSubject) (again : Option Retry) → RowShows p (error_of p a m o again)
    by_subject None again = record { uses = refl; birth = refl }
    by_subject (Some s) None = record { uses = refl; birth = refl }
    by_subject (Some s) (Some t) = record { uses = refl; birth = refl }

dsm_shows : (p : Party) (a : Arrival) (m : Dsm) (o : Option NamedKey) → RowShows p (dsm_on p a m o)
dsm_shows p a m None = record { uses = refl; birth = refl }
dsm_shows p a m (Some n) = record { uses = refl; birth = refl }

message_shows : (p : Party) (a : Arrival) (m : Message) (moment : ℕ) → HasLinks p → RowShows p (message_row p a m moment)
message_shows p a (message.Rsi m) moment d = bank_rsi_shows p a m moment (first_link m.originator Sends p) d refl
message_shows p a (message.Rfs m) moment d = record { uses = refl; birth = refl }
message_shows p a (message.Rtr m) moment d = rtr_shows p a m m.kd
message_shows p a (message.Ksm m) moment d = key_shows p a m m.body (body_link p m.originator m.body)
message_shows p a (message.Rsm m) moment d = rsm_shows p a m m.idd
message_shows p a (message.Ers m) moment d = record { uses = refl; birth = refl }
message_shows p a (message.Esm m) moment d = esm_shows p a m (is_plain a.parsed.shut) (retry_in p (subject_with p m.originator) m.ctr)
message_shows p a (message.Dsm m) moment d = dsm_shows p a m (named_by p m)

-- the centres

centre_shows : (p : Party) (c : Command) → IsCommand c → RowShows p (centre_command p c)
centre_shows p (command.Load peer label side pair) i = absurd i
centre_shows p (command.Start peer label) i = record { uses = refl; birth = refl }
centre_shows p (command.StartKk peer label new single) i = record { uses = refl; birth = refl }
centre_shows p (command.Ask peer ultimate) i = record { uses = refl; birth = refl }
centre_shows p (command.Translate centre ultimate) i = record { uses = refl; birth = refl }
centre_shows p (command.Resend peer) i = record { uses = refl; birth = refl }
centre_shows p (command.End peer name) i = record { uses = refl; birth = refl }
centre_shows p (command.Drop peer) i = record { uses = refl; birth = refl }
centre_shows p command.Purge i = record { uses = refl; birth = refl }

request_shows : (p : Party) (a : Arrival) (m : Rsi) (o : Option (List ℕ)) (moment : ℕ) → RowShows p (rsi_for p a m o moment)
request_shows p a m None moment = record { uses = refl; birth = refl }
request_shows p a m (Some u) moment = by_links (link_with (sends m.originator centre_label) p) (link_with (sends u centre_label) p) refl refl
  where
    by_links : (fa fb : Option LinkRec) → link_with (sends m.originator centre_label) p ≡ fa → link_with (sends u centre_label) p ≡ fb → RowShows p (rsi_between p a m u fa fb (good_draw p.generator moment))
    by_links None fb ea eb = record { uses = refl; birth = refl }
    by_links (Some l) None ea eb = record { uses = refl; birth = refl }
    by_links (Some l) (Some b) ea eb = answering_shows p m.originator u (centre_tests p a m u l b) l b b p.generator moment (good_draw p.generator moment) refl ea eb refl

ers_shows : (p : Party) (a : Arrival) (m : Ers) (moment : ℕ) → (o : Option Answer) (fa fb : Option LinkRec) → link_with (sends m.originator centre_label) p ≡ fa → link_with (sends m.ultimate centre_label) p ≡ fb → RowShows p (ers_between p a m o fa fb (good_draw p.generator moment))
ers_shows p a m moment None fa fb ea eb = record { uses = refl; birth = refl }
ers_shows p a m moment (Some t) None fb ea eb = record { uses = refl; birth = refl }
ers_shows p a m moment (Some t) (Some l) None ea eb = record { uses = refl; birth = refl }
ers_shows p a m moment (Some t) (Some l) (Some b) ea eb = answering_shows p m.originator m.ultimate (ers_tests p a m t l b) l b (at_least b m.ctr) p.generator moment (good_draw p.generator moment) refl ea eb refl

distribution_shows : (p : Party) (a : Arrival) (m : Message) (moment : ℕ) → RowShows p (distribution_message p a m moment)
distribution_shows p a (message.Rsi m) moment = request_shows p a m m.ultimate moment
distribution_shows p a (message.Rfs m) moment = record { uses = refl; birth = refl }
distribution_shows p a (message.Rtr m) moment = record { uses = refl; birth = refl }
distribution_shows p a (message.Ksm m) moment = record { uses = refl; birth = refl }
distribution_shows p a (message.Rsm m) moment = record { uses = refl; birth = refl }
distribution_shows p a (message.Ers m) moment = ers_shows p a m moment (answer_with (record { requester = m.originator; ultimate = m.ultimate }) p) (link_with (sends m.originator centre_label) p) (link_with (sends m.ultimate centre_label) p) refl refl
distribution_shows p a (message.Esm m) moment = record { uses = refl; birth = refl }
distribution_shows p a (message.Dsm m) moment = record { uses = refl; birth = refl }

translation_shows : (p : Party) (a : Arrival) (m : Message) → RowShows p (translation_message p a m)
translation_shows p a (message.Rsi m) = record { uses = refl; birth = refl }
translation_shows p a (message.Rfs m) = rfs_shows p a m (link_with (takes m.originator centre_label) p) (link_with (sends m.ultimate centre_label) p) refl
translation_shows p a (message.Rtr m) = record { uses = refl; birth = refl }
translation_shows p a (message.Ksm m) = record { uses = refl; birth = refl }
translation_shows p a (message.Rsm m) = record { uses = refl; birth = refl }
translation_shows p a (message.Ers m) = record { uses = refl; birth = refl }
translation_shows p a (message.Esm m) = record { uses = refl; birth = refl }
translation_shows p a (message.Dsm m) = record { uses = refl; birth = refl }

role_shows : (r : Role) (p : Party) (i : Input) (moment : ℕ) → IsInput i → HasLinks p → RowShows p (row_by r p i moment)
role_shows Bank p (input.Ordered c) moment e d = command_shows p c moment e d
role_shows Bank p (input.Arrived a) moment e d = message_shows p a a.parsed.message moment d
role_shows Distribution p (input.Ordered c) moment e d = centre_shows p c e
role_shows Distribution p (input.Arrived a) moment e d = distribution_shows p a a.parsed.message moment
role_shows Translation p (input.Ordered c) moment e d = centre_shows p c e
role_shows Translation p (input.Arrived a) moment e d = translation_shows p a a.parsed.message

pub row_shows : (p : Party) (i : Input) (moment : ℕ) → IsInput i → HasLinks p → RowShows p (row_at p i moment)
row_shows p i moment e d = role_shows p.role p i moment e d
