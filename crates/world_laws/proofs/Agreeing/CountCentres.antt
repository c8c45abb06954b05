-- How each row of a centre moves the counts that are expected.
use Rattle.std.proofs.Common.{◌≡◌, ℕ, max, Option, Some, None, List, refl}
use Rattle.x_base.specs.declared.party.Side.TheVariants.{Sends}
use Rattle.x_gen.specs.declared.generator.Gen.{Gen}
use Rattle.x_gen.specs.Gen.{good_draw}
use Rattle.csm_grammar.specs.declared.arrival.Arrival.{Arrival}
use Rattle.csm_grammar.specs.declared.message.Message.{Message}
use Rattle.csm_grammar.specs.declared.message.Message.TheVariants as message
use Rattle.csm_grammar.specs.declared.message.Rsi.{Rsi}
use Rattle.party_state.specs.declared.command.Command.{Command}
use Rattle.party_state.specs.declared.command.Command.TheVariants as command
use Rattle.party_tables.specs.declared.link.LinkRec.{LinkRec}
use Rattle.party_tables.specs.Keys.{sends}
use Rattle.party_state.specs.State.{Party, centre_label, link_with, answer_with}
use Rattle.party_state.specs.Verdicts.{Test}
use Rattle.csm_grammar.specs.declared.message.Ers.{Ers}
use Rattle.party_tables.specs.declared.answer.Answer.{Answer}
use Rattle.distribution_role.specs.Answering.{answering}
use Rattle.distribution_role.specs.Requests.{rsi_tests as centre_tests, rsi_between, rsi_for}
use Rattle.distribution_role.specs.Recovery.{ers_tests, ers_between}
use Rattle.role_base.specs.Centres.{centre_command}
use Rattle.distribution_role.specs.Rows.{distribution_message}
use Rattle.member.specs.Member.{Member}
use Rattle.world_laws.specs.Events.{IsCommand}
use Rattle.world_laws.proofs.Agreeing.MeetingCounts.{side_of, CountsMove, sending_counts}

module _ (ms : List Member) (p : Party) where
  answering_counts : (requester u : List ℕ) (tests : List Test) (a b : LinkRec) (d : Option (ℕ × Gen)) → a.side ≡ Sends → b.side ≡ Sends → CountsMove ms p (answering p requester u tests a b d)
  answering_counts requester u tests a b None sa sb = sending_counts ms p (answering p requester u tests a b None) tt refl
  answering_counts requester u tests a b (Some d) sa sb = sending_counts ms p (answering p requester u tests a b (Some d)) (tt, (sa, (sb, (tt, tt)))) refl

  centre_rsi_counts : (a : Arrival) (m : Rsi) (u : Option (List ℕ)) (moment : ℕ) → CountsMove ms p (rsi_for p a m u moment)
  centre_rsi_counts a m None moment = sending_counts ms p (rsi_for p a m None moment) tt refl
  centre_rsi_counts a m (Some u) moment = go (link_with (sends m.originator centre_label) p) (link_with (sends u centre_label) p) refl refl
    where
      go : (fa fb : Option LinkRec) → link_with (sends m.originator centre_label) p ≡ fa → link_with (sends u centre_label) p ≡ fb → CountsMove ms p (rsi_between p a m u fa fb (good_draw p.generator moment))
      go None fb ea eb = sending_counts ms p (rsi_between p a m u None fb (good_draw p.generator moment)) tt refl
      go (Some l) None ea eb = sending_counts ms p (rsi_between p a m u (Some l) None (good_draw p.generator moment)) tt refl
      go (Some l) (Some b) ea eb = answering_counts m.originator u (centre_tests p a m u l b) l b (good_draw p.generator moment) (side_of p (sends m.originator centre_label) l ea) (side_of p (sends u centre_label) b eb)

  ers_counts : (a : Arrival) (m : Ers) (o : Option Answer) (fa fb : Option LinkRec) (d : Option (ℕ × Gen)) → link_with (sends m.originator centre_label) p ≡ fa → link_with (sends m.ultimate centre_label) p ≡ fb → CountsMove ms p (ers_between p a m o fa fb d)
  ers_counts a m None fa fb d ea eb = sending_counts ms p (ers_between p a m None fa fb d) tt refl
  ers_counts a m (Some t) None fb d ea eb = sending_counts ms p (ers_between p a m (Some t) None fb d) tt refl
  ers_counts a m (Some t) (Some l) None d ea eb = sending_counts ms p (ers_between p a m (Some t) (Some l) None d) tt refl
  ers_counts a m (Some t) (Some l) (Some b) d ea eb = answering_counts m.originator m.ultimate (ers_tests p a m t l b) l (record b { next = max b.next m.ctr }) d (side_of p (sends m.originator centre_label) l ea) (side_of p (sends m.ultimate centre_label) b eb)

  pub distribution_counts : (a : Arrival) (m : Message) (moment : ℕ) → CountsMove ms p (distribution_message p a m moment)
  distribution_counts a (message.Rsi m) moment = centre_rsi_counts a m m.ultimate moment
  distribution_counts a (message.Rfs m) moment = sending_counts ms p (distribution_message p a (message.Rfs m) moment) tt refl
  distribution_counts a (message.Rtr m) moment = sending_counts ms p (distribution_message p a (message.Rtr m) moment) tt refl
  distribution_counts a (message.Ksm m) moment = sending_counts ms p (distribution_message p a (message.Ksm m) moment) tt refl
  distribution_counts a (message.Rsm m) moment = sending_counts ms p (distribution_message p a (message.Rsm m) moment) tt refl
  distribution_counts a (message.Ers m) moment = ers_counts a m (answer_with (record { requester = m.originator; ultimate = m.ultimate }) p) (link_with (sends m.originator centre_label) p) (link_with (sends m.ultimate centre_label) p) (good_draw p.generator moment) refl refl
  distribution_counts a (message.Esm m) moment = sending_counts ms p (distribution_message p a (message.Esm m) moment) tt refl
  distribution_counts a (message.Dsm m) moment = sending_counts ms p (distribution_message p a (message.Dsm m) moment) tt refl

  pub centre_counts : (c : Command) → IsCommand c → CountsMove ms p (centre_command p c)
  centre_counts (command.Load peer label side pair) i = absurd i
  centre_counts (command.Start peer label) i = sending_counts ms p (centre_command p (command.Start peer label)) tt refl
  centre_counts (command.StartKk peer label new single) i = sending_counts ms p (centre_command p (command.StartKk peer label new single)) tt refl
  centre_counts (command.Ask peer ultimate) i = sending_counts ms p (centre_command p (command.Ask peer ultimate)) tt refl
  centre_counts (command.Translate centre ultimate) i = sending_counts ms p (centre_command p (command.Translate centre ultimate)) tt refl
  centre_counts (command.Resend peer) i = sending_counts ms p (centre_command p (command.Resend peer)) tt refl
  centre_counts (command.End peer name) i = sending_counts ms p (centre_command p (command.End peer name)) tt refl
  centre_counts (command.Drop peer) i = sending_counts ms p (centre_command p (command.Drop peer)) tt refl
  centre_counts command.Purge i = sending_counts ms p (centre_command p command.Purge) tt refl
