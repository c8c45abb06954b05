-- The edits of each row of the centres: no link goes, and no exchange comes.
use Rattle.std.proofs.Common.{ℕ, Bool, true, false, cond, max, Option, Some, None, List, bytes_eq}
use Rattle.x_base.specs.declared.verdict.Verdict.TheVariants.{WrongClass}
use Rattle.x_gen.specs.declared.generator.Gen.{Gen}
use Rattle.x_gen.specs.Gen.{good_draw}
use Rattle.csm_grammar.specs.declared.arrival.Arrival.{Arrival}
use Rattle.csm_grammar.specs.declared.message.Ers.{Ers}
use Rattle.csm_grammar.specs.declared.message.Message.{Message}
use Rattle.csm_grammar.specs.declared.message.Message.TheVariants as message
use Rattle.csm_grammar.specs.declared.message.Rsi.{Rsi}
use Rattle.party_tables.specs.declared.answer.Answer.{Answer}
use Rattle.party_state.specs.declared.command.Command.{Command}
use Rattle.party_state.specs.declared.command.Command.TheVariants as command
use Rattle.party_tables.specs.declared.link.LinkRec.{LinkRec}
use Rattle.party_tables.specs.Keys.{sends, takes}
use Rattle.party_state.specs.Rows.{refused}
use Rattle.party_state.specs.State.{Party, centre_label, link_with, answer_with}
use Rattle.party_state.specs.Verdicts.{Test}
use Rattle.role_base.specs.Load.{load}
use Rattle.distribution_role.specs.Answering.{answering}
use Rattle.distribution_role.specs.Requests.{rsi_tests as centre_tests, rsi_between, rsi_for}
use Rattle.distribution_role.specs.Recovery.{ers_tests, ers_between}
use Rattle.translation_role.specs.Service.{rfs_between}
use Rattle.role_base.specs.Centres.{centre_command}
use Rattle.distribution_role.specs.Rows.{distribution_message}
use Rattle.translation_role.specs.Rows.{translation_message}
use Rattle.world_laws.proofs.Agreeing.Standing.{Tidy}

module _ (p : Party) where
  answering_tidy : (requester u : List ℕ) (tests : List Test) (a b : LinkRec) (d : Option (ℕ × Gen)) → Tidy (answering p requester u tests a b d).edits
  answering_tidy requester u tests a b None = tt
  answering_tidy requester u tests a b (Some d) = (tt, (tt, (tt, (tt, tt))))

  centre_rsi_tidy : (a : Arrival) (m : Rsi) (u : Option (List ℕ)) (moment : ℕ) → Tidy (rsi_for p a m u moment).edits
  centre_rsi_tidy a m None moment = tt
  centre_rsi_tidy a m (Some u) moment = go (link_with (sends m.originator centre_label) p) (link_with (sends u centre_label) p)
    where
      go : (fa fb : Option LinkRec) → Tidy (rsi_between p a m u fa fb (good_draw p.generator moment)).edits
      go None fb = tt
      go (Some l) None = tt
      go (Some l) (Some b) = answering_tidy m.originator u (centre_tests p a m u l b) l b (good_draw p.generator moment)

  ers_tidy : (a : Arrival) (m : Ers) (o : Option Answer) (fa fb : Option LinkRec) (d : Option (ℕ × Gen)) → Tidy (ers_between p a m o fa fb d).edits
  ers_tidy a m None fa fb d = tt
  ers_tidy a m (Some t) None fb d = tt
  ers_tidy a m (Some t) (Some l) None d = tt
  ers_tidy a m (Some t) (Some l) (Some b) d = answering_tidy m.originator m.ultimate (ers_tests p a m t l b) l (record b { next = max b.next m.ctr }) d

  pub distribution_tidy : (a : Arrival) (m : Message) (moment : ℕ) → Tidy (distribution_message p a m moment).edits
  distribution_tidy a (message.Rsi m) moment = centre_rsi_tidy a m m.ultimate moment
  distribution_tidy a (message.Rfs m) moment = tt
  distribution_tidy a (message.Rtr m) moment = tt
  distribution_tidy a (message.Ksm m) moment = tt
  distribution_tidy a (message.Rsm m) moment = tt
  distribution_tidy a (message.Ers m) moment = ers_tidy a m (answer_with (record { requester = m.originator; ultimate = m.ultimate }) p) (link_with (sends m.originator centre_label) p) (link_with (sends m.ultimate centre_label) p) (good_draw p.generator moment)
  distribution_tidy a (message.Esm m) moment = tt
  distribution_tidy a (message.Dsm m) moment = tt

  pub translation_tidy : (a : Arrival) (m : Message) → Tidy (translation_message p a m).edits
  translation_tidy a (message.Rsi m) = tt
  translation_tidy a (message.Rfs m) = go (link_with (takes m.originator centre_label) p) (link_with (sends m.ultimate centre_label) p)
    where
      go : (fa fb : Option LinkRec) → Tidy (rfs_between p a m fa fb).edits
      go None fb = tt
      go (Some l) None = tt
      go (Some l) (Some b) = (tt, (tt, tt))
  translation_tidy a (message.Rtr m) = tt
  translation_tidy a (message.Ksm m) = tt
  translation_tidy a (message.Rsm m) = tt
  translation_tidy a (message.Ers m) = tt
  translation_tidy a (message.Esm m) = tt
  translation_tidy a (message.Dsm m) = tt

  pub centre_tidy : (c : Command) → Tidy (centre_command p c).edits
  centre_tidy (command.Load peer label side pair) = go (bytes_eq label centre_label)
    where
      go : (b : Bool) → Tidy (cond b (load p peer label side pair) (refused WrongClass)).edits
      go true = (tt, tt)
      go false = tt
  centre_tidy (command.Start peer label) = tt
  centre_tidy (command.StartKk peer label new single) = tt
  centre_tidy (command.Ask peer ultimate) = tt
  centre_tidy (command.Translate centre ultimate) = tt
  centre_tidy (command.Resend peer) = tt
  centre_tidy (command.End peer name) = tt
  centre_tidy (command.Drop peer) = tt
  centre_tidy command.Purge = tt
