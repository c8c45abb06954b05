-- No row begins a party.
use Rattle.std.proofs.Common.{filter, max, bytes_eq}
use Rattle.x_base.specs.declared.verdict.Verdict.TheVariants.{WrongClass}
use Rattle.csm_grammar.specs.declared.message.Ers.{Ers}
use Rattle.party_tables.specs.declared.answer.Answer.{Answer}
use Rattle.party_tables.specs.Keys.{sends, takes}
use Rattle.party_state.specs.State.{link_with, centre_label, answer_with}
use Rattle.party_state.specs.Rows.{refused}
use Rattle.role_base.specs.Load.{load}
use Rattle.role_base.specs.Differing.{differs, differing}
use Rattle.distribution_role.specs.Answering.{answering}
use Rattle.distribution_role.specs.Requests.{rsi_tests as centre_tests, rsi_between, rsi_for}
use Rattle.distribution_role.specs.Recovery.{ers_tests, ers_between}
use Rattle.translation_role.specs.Service.{rfs_between}
use Rattle.role_base.specs.Centres.{centre_command}
use Rattle.distribution_role.specs.Rows.{distribution_message}
use Rattle.translation_role.specs.Rows.{translation_message}
use Rattle.member.specs.Rows.{row_by, row_at}
use Rattle.std.proofs.Common.{ℕ, Bool, true, false, cond, Option, Some, None, List, [], ◌∷◌}
use Rattle.x_base.specs.declared.party.Role.{Role}
use Rattle.x_base.specs.declared.party.Role.TheVariants.{Bank, Distribution, Translation}
use Rattle.x_gen.specs.declared.generator.Gen.{Gen}
use Rattle.x_gen.specs.Gen.{good_draw}
use Rattle.csm_grammar.specs.declared.message.Rsi.{Rsi}
use Rattle.csm_grammar.specs.declared.message.Message.{Message}
use Rattle.csm_grammar.specs.declared.message.Message.TheVariants as message
use Rattle.csm_grammar.specs.declared.arrival.Arrival.{Arrival}
use Rattle.party_tables.specs.declared.link.LinkRec.{LinkRec}
use Rattle.party_state.specs.declared.edit.Edit.{Edit}
use Rattle.party_state.specs.declared.command.Command.{Command}
use Rattle.party_state.specs.declared.command.Command.TheVariants as command
use Rattle.party_state.specs.declared.command.Input.{Input}
use Rattle.party_state.specs.declared.command.Input.TheVariants as input
use Rattle.party_state.specs.State.{Party}
use Rattle.party_state.specs.Verdicts.{Test}
use Rattle.world_laws.proofs.Nodes.Going.{GoesOn, ok, command_goes, message_goes}

answering_goes : (p : Party) (requester u : List ℕ) (tests : List Test) (a b : LinkRec) (d : Option (ℕ × Gen)) → GoesOn (answering p requester u tests a b d).edits
answering_goes p requester u tests a b None = tt
answering_goes p requester u tests a b (Some d) = (ok, (ok, (ok, (ok, tt))))

centre_rsi_goes : (p : Party) (a : Arrival) (m : Rsi) (u : Option (List ℕ)) (moment : ℕ) → GoesOn (rsi_for p a m u moment).edits
centre_rsi_goes p a m None moment = tt
centre_rsi_goes p a m (Some u) moment = go (link_with (sends m.originator centre_label) p) (link_with (sends u centre_label) p)
  where
    go : (fa fb : Option LinkRec) → GoesOn (rsi_between p a m u fa fb (good_draw p.generator moment)).edits
    go None fb = tt
    go (Some l) None = tt
    go (Some l) (Some b) = answering_goes p m.originator u (centre_tests p a m u l b) l b (good_draw p.generator moment)

ers_goes : (p : Party) (a : Arrival) (m : Ers) (o : Option Answer) (fa fb : Option LinkRec) (d : Option (ℕ × Gen)) → GoesOn (ers_between p a m o fa fb d).edits
ers_goes p a m None fa fb d = tt
ers_goes p a m (Some t) None fb d = tt
ers_goes p a m (Some t) (Some l) None d = tt
ers_goes p a m (Some t) (Some l) (Some b) d = answering_goes p m.originator m.ultimate (ers_tests p a m t l b) l (record b { next = max b.next m.ctr }) d

distribution_goes : (p : Party) (a : Arrival) (m : Message) (moment : ℕ) → GoesOn (distribution_message p a m moment).edits
distribution_goes p a (message.Rsi m) moment = centre_rsi_goes p a m m.ultimate moment
distribution_goes p a (message.Rfs m) moment = tt
distribution_goes p a (message.Rtr m) moment = tt
distribution_goes p a (message.Ksm m) moment = tt
distribution_goes p a (message.Rsm m) moment = tt
distribution_goes p a (message.Ers m) moment = ers_goes p a m (answer_with (record { requester = m.originator; ultimate = m.ultimate }) p) (link_with (sends m.originator centre_label) p) (link_with (sends m.ultimate centre_label) p) (good_draw p.generator moment)
distribution_goes p a (message.Esm m) moment = tt
distribution_goes p a (message.Dsm m) moment = tt

translation_goes : (p : Party) (a : Arrival) (m : Message) → GoesOn (translation_message p a m).edits
translation_goes p a (message.Rsi m) = tt
translation_goes p a (message.Rfs m) = go (link_with (takes m.originator centre_label) p) (link_with (sends m.ultimate centre_label) p)
  where
    go : (fa fb : Option LinkRec) → GoesOn (rfs_between p a m fa fb).edits
    go None fb = tt
    go (Some l) None = tt
    go (Some l) (Some b) = (ok, (ok, tt))
translation_goes p a (message.Rtr m) = tt
translation_goes p a (message.Ksm m) = tt
translation_goes p a (message.Rsm m) = tt
translation_goes p a (message.Ers m) = tt
translation_goes p a (message.Esm m) = tt
translation_goes p a (message.Dsm m) = tt

centre_goes : (p : Party) (c : Command) → GoesOn (centre_command p c).edits
centre_goes p (command.Load peer label side pair) = go (bytes_eq label centre_label)
  where
    go : (b : Bool) → GoesOn (cond b (load p peer label side pair) (refused WrongClass)).edits
    go true = (ok, tt)
    go false = tt
centre_goes p (command.Start peer label) = tt
centre_goes p (command.StartKk peer label new single) = tt
centre_goes p (command.Ask peer ultimate) = tt
centre_goes p (command.Translate centre ultimate) = tt
centre_goes p (command.Resend peer) = tt
centre_goes p (command.End peer name) = tt
centre_goes p (command.Drop peer) = tt
centre_goes p command.Purge = tt

role_goes : (r : Role) (p : Party) (i : Input) (moment : ℕ) → GoesOn (row_by r p i moment).edits
role_goes Bank p (input.Ordered c) moment = command_goes p c moment
role_goes Bank p (input.Arrived a) moment = message_goes p a a.parsed.message moment
role_goes Distribution p (input.Ordered c) moment = centre_goes p c
role_goes Distribution p (input.Arrived a) moment = distribution_goes p a a.parsed.message moment
role_goes Translation p (input.Ordered c) moment = centre_goes p c
role_goes Translation p (input.Arrived a) moment = translation_goes p a a.parsed.message

pub row_goes : (p : Party) (i : Input) (moment : ℕ) → GoesOn (row_at p i moment).edits
row_goes p i moment = role_goes p.role p i moment

-- also where those that make no difference are left out
filter_goes : (p : Party) (es : List Edit) → GoesOn es → GoesOn (filter (differs p) es)
filter_goes p [] g = tt
filter_goes p (e ∷ es) g = go (differs p e) (filter_goes p es g.1)
  where
    go : (b : Bool) → GoesOn (filter (differs p) es) → GoesOn (cond b (e ∷ filter (differs p) es) (filter (differs p) es))
    go true ih = (g.0, ih)
    go false ih = ih

pub differing_goes : (p : Party) (es : List Edit) → GoesOn es → GoesOn (differing p es)
unfolding differing
differing_goes p es g = filter_goes p es g
