-- What the rows of centres write and put is well formed; and so is each standard row.
use Rattle.world_laws.proofs.Roles.Inputs.{IsInput}
use Rattle.world_laws.proofs.Sound.Centres.{answering_held}
use Rattle.party_state.specs.Verdicts.{TestsHold as TestsHold}
use Rattle.csm_read.proofs.Arrived.{arrival_says}
use Rattle.csm_grammar.specs.declared.message.Message.TheVariants as message
use Rattle.distribution_role.specs.Requests.{rsi_tests as centre_tests, rsi_between, rsi_for}
use Rattle.distribution_role.specs.Recovery.{ers_tests, ers_between}
use Rattle.distribution_role.specs.Answering.{answering}
use Rattle.translation_role.specs.Service.{rfs_tests, rfs_between}
use Rattle.csm_grammar.specs.Arrivals.{authenticated_text}
use Rattle.csm_grammar.specs.Spelling.{Says}
use Rattle.csm_grammar.specs.declared.arrival.Arrival.{Arrival}
use Rattle.csm_grammar.specs.declared.message.Ers.{Ers}
use Rattle.csm_grammar.specs.declared.message.Message.{Message}
use Rattle.csm_grammar.specs.declared.message.Rfs.{Rfs}
use Rattle.csm_grammar.specs.declared.message.Rsi.{Rsi}
use Rattle.party_state.proofs.Verdicts.{held}
use Rattle.party_tables.specs.Keys.{sends, takes}
use Rattle.party_state.specs.State.{Party, centre_label, link_with}
use Rattle.party_state.specs.Verdicts.{Test, is_accept}
use Rattle.party_tables.specs.declared.answer.Answer.{Answer}
use Rattle.party_tables.specs.declared.link.LinkKey.{LinkKey}
use Rattle.party_tables.specs.declared.link.LinkRec.{LinkRec}
use Rattle.std.proofs.Common.{arith, ◌≡◌, ℕ, ◌+◌, true, Option, Some, None, List, refl, ap, subst, max}
use Rattle.std.proofs.lemmas.Bool.{and_parts}
use Rattle.world_laws.proofs.Links.Found.{HasLinks, link_at}
use Rattle.x_gen.specs.Gen.{good_draw}
use Rattle.x_gen.specs.declared.generator.Gen.{Gen}
use Rattle.x_base.specs.Names.{IsIdent}
use Rattle.x_base.specs.Count.{IsCount}
use Rattle.party_state.specs.declared.command.Command.{Command}
use Rattle.party_state.specs.declared.command.Command.TheVariants as command
use Rattle.party_state.specs.declared.command.Input.{Input}
use Rattle.party_state.specs.declared.command.Input.TheVariants as input
use Rattle.x_base.specs.declared.party.Role.{Role}
use Rattle.x_base.specs.declared.party.Role.TheVariants as role
use Rattle.party_state.specs.State.{answer_with}
use Rattle.role_base.specs.Conditions.{has_count}
use Rattle.translation_role.specs.Service.{rfs_tests}
use Rattle.member.specs.Rows.{row_by}
use Rattle.role_base.specs.Centres.{centre_command}
use Rattle.distribution_role.specs.Rows.{distribution_message}
use Rattle.translation_role.specs.Rows.{translation_message}
use Rattle.world_laws.specs.Events.{IsCommand}
use Rattle.world_laws.proofs.Texts.Names.{LinkNamed, IsNamed}
use Rattle.world_laws.proofs.Texts.OwnMessages.{rtr_own, translated_own}
use Rattle.csm_grammar.proofs.Parts.{rfs_cta, ers_ctr}
use Rattle.world_laws.proofs.Speaking.Wellformed.{Speaks, next_after, count_of, linked, up_named}
use Rattle.world_laws.proofs.Speaking.Commands.{command_speaks}
use Rattle.world_laws.proofs.Speaking.Arrivals.{message_speaks}

module _ (p : Party) (i : IsNamed p) where
  pub answering_speaks : (requester u : List ℕ) (tests : List Test) (a b : LinkRec) (drawn : Option (ℕ × Gen)) → IsIdent requester → IsIdent u → LinkNamed a → LinkNamed b → IsCount a.next → IsCount b.next → Speaks (answering p requester u tests a b drawn)
  answering_speaks requester u tests a b None to for na nb ca cb = record { names = tt; reply = tt }
  answering_speaks requester u tests a b (Some d) to for na nb ca cb = record { names = (tt, (up_named p i a (a.next + 1) na (next_after a.next ca), (up_named p i b (b.next + 1) nb (next_after b.next cb), (tt, tt)))); reply = rtr_own p requester u a b d.0 i.own to for ca cb }

  pub peer_named : (k : LinkKey) (l : LinkRec) → link_with k p ≡ Some l → IsIdent k.peer
  peer_named k l e = subst IsIdent (ap (λ (z : LinkKey). z.peer) (link_at p k l e).key) (linked p i k l e).peer

  pub centre_rsi_speaks : (a : Arrival) (m : Rsi) (o : Option (List ℕ)) (moment : ℕ) → is_accept (rsi_for p a m o moment).verdict ≡ true → Speaks (rsi_for p a m o moment)
  centre_rsi_speaks a m None moment h = record { names = tt; reply = tt }
  centre_rsi_speaks a m (Some u) moment h = go (link_with (sends m.originator centre_label) p) (link_with (sends u centre_label) p) (good_draw p.generator moment) refl refl h
    where
      go : (fa fb : Option LinkRec) (d : Option (ℕ × Gen)) → link_with (sends m.originator centre_label) p ≡ fa → link_with (sends u centre_label) p ≡ fb → is_accept (rsi_between p a m u fa fb d).verdict ≡ true → Speaks (rsi_between p a m u fa fb d)
      go None fb d ea eb h = record { names = tt; reply = tt }
      go (Some l) None d ea eb h = record { names = tt; reply = tt }
      go (Some l) (Some b) d ea eb h =
          let t : TestsHold (centre_tests p a m u l b) = answering_held p m.originator u (centre_tests p a m u l b) l b d refl refl h in
          let both = and_parts (has_count l) (has_count b) t.1.1.1.1.1.0 in
          let na : LinkNamed l = linked p i (sends m.originator centre_label) l ea in
          let nb : LinkNamed b = linked p i (sends u centre_label) b eb in
          answering_speaks m.originator u (centre_tests p a m u l b) l b d (peer_named (sends m.originator centre_label) l ea) (peer_named (sends u centre_label) b eb) na nb (count_of l na.next both.0) (count_of b nb.next both.1)

  pub ers_speaks : (a : Arrival) (m : Ers) (o : Option Answer) (fa fb : Option LinkRec) (d : Option (ℕ × Gen)) → Says (authenticated_text a) (message.Ers m) → link_with (sends m.originator centre_label) p ≡ fa → link_with (sends m.ultimate centre_label) p ≡ fb → is_accept (ers_between p a m o fa fb d).verdict ≡ true → Speaks (ers_between p a m o fa fb d)
  ers_speaks a m None fa fb d said ea eb h = record { names = tt; reply = tt }
  ers_speaks a m (Some t) None fb d said ea eb h = record { names = tt; reply = tt }
  ers_speaks a m (Some t) (Some l) None d said ea eb h = record { names = tt; reply = tt }
  ers_speaks a m (Some t) (Some l) (Some b) d said ea eb h =
      let g : TestsHold (ers_tests p a m t l b) = answering_held p m.originator m.ultimate (ers_tests p a m t l b) l (record b { next = max b.next m.ctr }) d refl refl h in
      let both = and_parts (has_count l) (has_count b) g.1.1.1.1.1.1.0 in
      let na : LinkNamed l = linked p i (sends m.originator centre_label) l ea in
      let nb : LinkNamed b = linked p i (sends m.ultimate centre_label) b eb in
      let cb : IsCount b.next = count_of b nb.next both.1 in
      let ctr : IsCount m.ctr = ers_ctr (authenticated_text a) m said in
      let cm : IsCount (max b.next m.ctr) = record { low = omega (arith, cb.low); high = omega (arith, cb.high, ctr.high) } in
      answering_speaks m.originator m.ultimate (ers_tests p a m t l b) l (record b { next = max b.next m.ctr }) d (peer_named (sends m.originator centre_label) l ea) (peer_named (sends m.ultimate centre_label) b eb) na (up_named p i b (max b.next m.ctr) nb (record { low = omega (arith, cm.low); high = omega (arith, cm.high) })) (count_of l na.next both.0) cm

  pub rfs_speaks : (a : Arrival) (m : Rfs) (fa fb : Option LinkRec) → Says (authenticated_text a) (message.Rfs m) → link_with (takes m.originator centre_label) p ≡ fa → link_with (sends m.ultimate centre_label) p ≡ fb → is_accept (rfs_between p a m fa fb).verdict ≡ true → Speaks (rfs_between p a m fa fb)
  rfs_speaks a m None fb said ea eb h = record { names = tt; reply = tt }
  rfs_speaks a m (Some l) None said ea eb h = record { names = tt; reply = tt }
  rfs_speaks a m (Some l) (Some b) said ea eb h =
      let t : TestsHold (rfs_tests p a m l b) = held (rfs_tests p a m l b) refl h in
      let na : LinkNamed l = linked p i (takes m.originator centre_label) l ea in
      let nb : LinkNamed b = linked p i (sends m.ultimate centre_label) b eb in
      let cb : IsCount b.next = count_of b nb.next t.1.1.1.1.1.1.1.0 in
      record { names = (up_named p i l (m.cta + 1) na (next_after m.cta (rfs_cta (authenticated_text a) m said)), (up_named p i b (b.next + 1) nb (next_after b.next cb), tt)); reply = translated_own p m l b i.own (peer_named (takes m.originator centre_label) l ea) (peer_named (sends m.ultimate centre_label) b eb) cb }

  pub distribution_speaks : (a : Arrival) (m : Message) (moment : ℕ) → Says (authenticated_text a) m → is_accept (distribution_message p a m moment).verdict ≡ true → Speaks (distribution_message p a m moment)
  distribution_speaks a (message.Rsi m) moment said h = centre_rsi_speaks a m m.ultimate moment h
  distribution_speaks a (message.Rfs m) moment said h = record { names = tt; reply = tt }
  distribution_speaks a (message.Rtr m) moment said h = record { names = tt; reply = tt }
  distribution_speaks a (message.Ksm m) moment said h = record { names = tt; reply = tt }
  distribution_speaks a (message.Rsm m) moment said h = record { names = tt; reply = tt }
  distribution_speaks a (message.Ers m) moment said h = ers_speaks a m (answer_with (record { requester = m.originator; ultimate = m.ultimate }) p) (link_with (sends m.originator centre_label) p) (link_with (sends m.ultimate centre_label) p) (good_draw p.generator moment) said refl refl h
  distribution_speaks a (message.Esm m) moment said h = record { names = tt; reply = tt }
  distribution_speaks a (message.Dsm m) moment said h = record { names = tt; reply = tt }

  pub translation_speaks : (a : Arrival) (m : Message) → Says (authenticated_text a) m → is_accept (translation_message p a m).verdict ≡ true → Speaks (translation_message p a m)
  translation_speaks a (message.Rsi m) said h = record { names = tt; reply = tt }
  translation_speaks a (message.Rfs m) said h = rfs_speaks a m (link_with (takes m.originator centre_label) p) (link_with (sends m.ultimate centre_label) p) said refl refl h
  translation_speaks a (message.Rtr m) said h = record { names = tt; reply = tt }
  translation_speaks a (message.Ksm m) said h = record { names = tt; reply = tt }
  translation_speaks a (message.Rsm m) said h = record { names = tt; reply = tt }
  translation_speaks a (message.Ers m) said h = record { names = tt; reply = tt }
  translation_speaks a (message.Esm m) said h = record { names = tt; reply = tt }
  translation_speaks a (message.Dsm m) said h = record { names = tt; reply = tt }

  pub centre_speaks : (c : Command) → IsCommand c → Speaks (centre_command p c)
  centre_speaks (command.Load peer label side pair) e = absurd e
  centre_speaks (command.Start peer label) e = record { names = tt; reply = tt }
  centre_speaks (command.StartKk peer label new single) e = record { names = tt; reply = tt }
  centre_speaks (command.Ask peer ultimate) e = record { names = tt; reply = tt }
  centre_speaks (command.Translate centre ultimate) e = record { names = tt; reply = tt }
  centre_speaks (command.Resend peer) e = record { names = tt; reply = tt }
  centre_speaks (command.End peer name) e = record { names = tt; reply = tt }
  centre_speaks (command.Drop peer) e = record { names = tt; reply = tt }
  centre_speaks command.Purge e = record { names = tt; reply = tt }

  pub role_speaks : (r : Role) (j : Input) (moment : ℕ) → IsInput j → HasLinks p → is_accept (row_by r p j moment).verdict ≡ true → Speaks (row_by r p j moment)
  role_speaks role.Bank (input.Ordered c) moment e d h = command_speaks p i c moment e d h
  role_speaks role.Bank (input.Arrived a) moment e d h = message_speaks p i a a.parsed.message moment d (arrival_says a) h
  role_speaks role.Distribution (input.Ordered c) moment e d h = centre_speaks c e
  role_speaks role.Distribution (input.Arrived a) moment e d h = distribution_speaks a a.parsed.message moment (arrival_says a) h
  role_speaks role.Translation (input.Ordered c) moment e d h = centre_speaks c e
  role_speaks role.Translation (input.Arrived a) moment e d h = translation_speaks a a.parsed.message (arrival_says a) h
  -- the answers to refused texts
