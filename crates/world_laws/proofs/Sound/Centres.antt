-- The rows of the centres: what the laws that need no honesty ask.
use Rattle.role_base.specs.Conditions.{is_data_key}
use Rattle.party_state.proofs.Verdicts.{blocked}
use Rattle.std.proofs.Common.{arith, ◌≡◌, ◌≢◌, ℕ, ◌+◌, ◌≤◌, inl, not, true, false, Option, Some, None, List, [], ◌∷◌, ◌++◌, refl, sym, ◌∙◌, ap, subst, bytes_eq}
use Rattle.std.proofs.lemmas.Bool.{and_parts}
use Rattle.x_base.specs.declared.party.Side.TheVariants.{Sends, Takes}
use Rattle.csm_grammar.specs.declared.message.Message.TheVariants as message
use Rattle.csm_grammar.specs.declared.arrival.Arrival.{Arrival}
use Rattle.party_tables.specs.declared.link.LinkKey.{LinkKey}
use Rattle.party_tables.specs.declared.link.LinkRec.{LinkRec}
use Rattle.party_tables.specs.Tables.{find_row, put_row}
use Rattle.party_tables.specs.Keys.{same_link, link_key, sends, takes}
use Rattle.party_state.specs.State.{Party, centre_label, link_with}
use Rattle.party_state.specs.Verdicts.{TestsHold, is_accept}
use Rattle.party_state.proofs.Verdicts.{held}
use Rattle.csm_grammar.specs.Arrivals.{authenticated_text}
use Rattle.world_laws.proofs.Links.Growth.{LinkGrows, next_up}
use Rattle.world_laws.proofs.Links.Found.{LinkAt}
use Rattle.world_laws.proofs.Links.Waiting.{change_waits}
use Rattle.world_laws.proofs.Counting.Sound.{IsSound}
use Rattle.std.proofs.Common.{max}
use Rattle.x_gen.specs.declared.generator.Gen.{Gen}
use Rattle.x_gen.specs.Gen.{good_draw}
use Rattle.x_base.specs.declared.verdict.Verdict.TheVariants.{WeakDraws}
use Rattle.csm_grammar.specs.declared.message.Rsi.{Rsi}
use Rattle.csm_grammar.specs.declared.message.Rfs.{Rfs}
use Rattle.csm_grammar.specs.declared.message.Ers.{Ers}
use Rattle.csm_grammar.specs.declared.message.Message.{Message}
use Rattle.party_tables.specs.declared.answer.Answer.{Answer}
use Rattle.party_state.specs.declared.command.Command.{Command}
use Rattle.party_state.specs.declared.command.Command.TheVariants as command
use Rattle.party_state.specs.State.{answer_with}
use Rattle.party_state.specs.Verdicts.{Test, verdict_of, all_refuse}
use Rattle.party_state.proofs.Verdicts.{held_after}
use Rattle.role_base.specs.Centres.{request_front}
use Rattle.distribution_role.specs.Requests.{rsi_front, rsi_tests, rsi_between, rsi_for}
use Rattle.distribution_role.specs.Recovery.{ers_front, ers_tests, ers_between}
use Rattle.distribution_role.specs.Answering.{answering}
use Rattle.translation_role.specs.Service.{rfs_front, rfs_tests, rfs_between}
use Rattle.role_base.specs.Centres.{centre_command}
use Rattle.distribution_role.specs.Rows.{distribution_message}
use Rattle.translation_role.specs.Rows.{translation_message}
use Rattle.world_laws.specs.Events.{IsCommand}
use Rattle.world_laws.proofs.Links.Growth.{link_on, link_stays}
use Rattle.world_laws.proofs.Links.Found.{link_at}
use Rattle.world_laws.proofs.Links.Putting.{put_at, put_past, not_eq}
use Rattle.world_laws.proofs.Counting.Quiet.{refused_sound, no_new, no_free, pairs_one, pairs_two}
use Rattle.world_laws.proofs.Sound.Keys.{count_low}

-- both links of a centre's answer, afterwards
pub record BothUp (s : Party) (requester u : List ℕ) (a b b0 : LinkRec) : Type 0 where
  pub first_at : link_with (link_key a) s ≡ Some a
  pub second_at : find_row link_key same_link (link_key b) (put_row link_key same_link (record a { next = a.next + 1 }) s.links) ≡ Some b0
  pub first : find_row link_key same_link (sends requester centre_label) (put_row link_key same_link (record b { next = b.next + 1 }) (put_row link_key same_link (record a { next = a.next + 1 }) s.links)) ≡ Some (record a { next = a.next + 1 })
  pub second : find_row link_key same_link (sends u centre_label) (put_row link_key same_link (record b { next = b.next + 1 }) (put_row link_key same_link (record a { next = a.next + 1 }) s.links)) ≡ Some (record b { next = b.next + 1 })

pub both_up : (s : Party) (requester u : List ℕ) (a b b0 : LinkRec) → link_with (sends requester centre_label) s ≡ Some a → link_with (sends u centre_label) s ≡ Some b0 → LinkGrows b0 b → u ≢ requester → BothUp s requester u a b b0
both_up s requester u a b b0 at_a at_b g ne =
    let ka : LinkAt s (sends requester centre_label) a = link_at s (sends requester centre_label) a at_a in
    let kb : LinkAt s (sends u centre_label) b0 = link_at s (sends u centre_label) b0 at_b in
    let up_a : LinkRec = record a { next = a.next + 1 } in
    let up_b : LinkRec = record b { next = b.next + 1 } in
    let key_up : link_key (record b { next = b.next + 1 }) ≡ sends u centre_label = (λ i. record { peer = g.peer i; label = g.label i; side = g.side i }) ∙ kb.key in
    record {
      first_at = rw ka.key at_a;
      second_at = subst (λ (k : LinkKey). find_row link_key same_link k (put_row link_key same_link (record a { next = a.next + 1 }) s.links) ≡ Some b0) (sym key_up) (put_past (sends u centre_label) (sends requester centre_label) up_a s.links ka.key (λ h. ne (ap (λ (k : LinkKey). k.peer) h)) ∙ at_b);
      first = put_past (sends requester centre_label) (sends u centre_label) up_b (put_row link_key same_link (record a { next = a.next + 1 }) s.links) key_up (λ h. ne (sym (ap (λ (k : LinkKey). k.peer) h))) ∙ put_at (sends requester centre_label) up_a s.links ka.key;
      second = put_at (sends u centre_label) up_b (put_row link_key same_link (record a { next = a.next + 1 }) s.links) key_up;
    }

pub answering_sound : (p : Party) (text : List ℕ) (requester u : List ℕ) (tests : List Test) (a b b0 : LinkRec) (drawn : Option (ℕ × Gen)) → link_with (sends requester centre_label) p ≡ Some a → link_with (sends u centre_label) p ≡ Some b0 → LinkGrows b0 b → b.ready ≡ b0.ready → u ≢ requester → IsSound None p text (answering p requester u tests a b drawn)
answering_sound p text requester u tests a b b0 None at_a at_b g same ne = refused_sound p text (verdict_of (tests ++ (false, WeakDraws) ∷ []))
answering_sound p text requester u tests a b b0 (Some d) at_a at_b g same ne =
    let both : BothUp p requester u a b b0 = both_up p requester u a b b0 at_a at_b g ne in
    let low : b0.next ≤ b.next = g.next in
    record {
      made = no_new None;
      free = no_free p;
      edits = (tt, (inl (a, both.first_at, next_up a (a.next + 1) (omega arith)), (inl (b0, both.second_at, link_on g (next_up b (b.next + 1) (omega arith))), (tt, tt))));
      waits = change_waits (answering p requester u tests a b (Some d)).edits p (tt, ((a, both.first_at, refl), ((b0, both.second_at, same), (tt, tt))));
      uses = (record { before = inl (a, at_a, omega arith); after = (record a { next = a.next + 1 }, both.first, omega arith) }, (record { before = inl (b0, at_b, low); after = (record b { next = b.next + 1 }, both.second, omega arith) }, tt));
      apart = pairs_two _ _ (λ h. ne (sym h.0));
      accepts = tt;
    }

-- an answer that is accepted was drawn, and its tests held
pub answering_held : (p : Party) (requester u : List ℕ) (tests : List Test) (a b : LinkRec) (drawn : Option (ℕ × Gen)) → all_refuse (tests ++ (true, WeakDraws) ∷ []) ≡ true → all_refuse tests ≡ true → is_accept (answering p requester u tests a b drawn).verdict ≡ true → TestsHold tests
answering_held p requester u tests a b None r q h = absurd (blocked tests WeakDraws q refl h)
answering_held p requester u tests a b (Some d) r q h = (held_after tests ((true, WeakDraws) ∷ []) (held (tests ++ (true, WeakDraws) ∷ []) r h)).0

pub rsi_apart : (p : Party) (a : Arrival) (m : Rsi) (u : List ℕ) (l b : LinkRec) (drawn : Option (ℕ × Gen)) → is_accept (answering p m.originator u (rsi_tests p a m u l b) l b drawn).verdict ≡ true → u ≢ m.originator
rsi_apart p a m u l b drawn h =
    let t : TestsHold (rsi_tests p a m u l b) = answering_held p m.originator u (rsi_tests p a m u l b) l b drawn refl refl h in
    not_eq u m.originator (and_parts (is_data_key m.service) (not (bytes_eq u m.originator)) t.1.1.0).1

pub ers_apart : (p : Party) (a : Arrival) (m : Ers) (t : Answer) (l b up : LinkRec) (drawn : Option (ℕ × Gen)) → is_accept (answering p m.originator m.ultimate (ers_tests p a m t l b) l up drawn).verdict ≡ true → m.ultimate ≢ m.originator
ers_apart p a m t l b up drawn h = let g : TestsHold (ers_tests p a m t l b) = answering_held p m.originator m.ultimate (ers_tests p a m t l b) l up drawn refl refl h in not_eq m.ultimate m.originator g.1.1.0

rsi_sound : (p : Party) (a : Arrival) (m : Rsi) (u : List ℕ) (fa fb : Option LinkRec) (drawn : Option (ℕ × Gen)) → link_with (sends m.originator centre_label) p ≡ fa → link_with (sends u centre_label) p ≡ fb → is_accept (rsi_between p a m u fa fb drawn).verdict ≡ true → IsSound None p (authenticated_text a) (rsi_between p a m u fa fb drawn)
rsi_sound p a m u None fb drawn ea eb h = refused_sound p (authenticated_text a) (verdict_of (rsi_front p m u false))
rsi_sound p a m u (Some l) None drawn ea eb h = refused_sound p (authenticated_text a) (verdict_of (rsi_front p m u false))
rsi_sound p a m u (Some l) (Some b) drawn ea eb h = answering_sound p (authenticated_text a) m.originator u (rsi_tests p a m u l b) l b b drawn ea eb (link_stays b) refl (rsi_apart p a m u l b drawn h)

rsi_row_sound : (p : Party) (a : Arrival) (m : Rsi) (o : Option (List ℕ)) (moment : ℕ) → is_accept (rsi_for p a m o moment).verdict ≡ true → IsSound None p (authenticated_text a) (rsi_for p a m o moment)
rsi_row_sound p a m None moment h = refused_sound p (authenticated_text a) (verdict_of (request_front p m.receiver m.originator false))
rsi_row_sound p a m (Some u) moment h = rsi_sound p a m u (link_with (sends m.originator centre_label) p) (link_with (sends u centre_label) p) (good_draw p.generator moment) refl refl h

ers_sound : (p : Party) (a : Arrival) (m : Ers) (o : Option Answer) (fa fb : Option LinkRec) (drawn : Option (ℕ × Gen)) → link_with (sends m.originator centre_label) p ≡ fa → link_with (sends m.ultimate centre_label) p ≡ fb → is_accept (ers_between p a m o fa fb drawn).verdict ≡ true → IsSound None p (authenticated_text a) (ers_between p a m o fa fb drawn)
ers_sound p a m None fa fb drawn ea eb h = refused_sound p (authenticated_text a) (verdict_of (ers_front p m false false))
ers_sound p a m (Some t) None fb drawn ea eb h = refused_sound p (authenticated_text a) (verdict_of (ers_front p m true false))
ers_sound p a m (Some t) (Some l) None drawn ea eb h = refused_sound p (authenticated_text a) (verdict_of (ers_front p m true false))
ers_sound p a m (Some t) (Some l) (Some b) drawn ea eb h = answering_sound p (authenticated_text a) m.originator m.ultimate (ers_tests p a m t l b) l (record b { next = max b.next m.ctr }) b drawn ea eb (next_up b (max b.next m.ctr) (omega arith)) refl (ers_apart p a m t l b (record b { next = max b.next m.ctr }) drawn h)

-- translation

pub rfs_low : (p : Party) (a : Arrival) (m : Rfs) (l b : LinkRec) → is_accept (rfs_between p a m (Some l) (Some b)).verdict ≡ true → l.next ≤ m.cta
rfs_low p a m l b h =
    let t : TestsHold (rfs_tests p a m l b) = held (rfs_tests p a m l b) refl h in
    count_low l.next m.cta t.1.1.1.1.1.0 t.1.1.1.1.1.1.0

pub rfs_fine : (p : Party) (m : Rfs) (l b : LinkRec) → link_with (takes m.originator centre_label) p ≡ Some l → link_with (sends m.ultimate centre_label) p ≡ Some b → find_row link_key same_link (link_key b) (put_row link_key same_link (record l { next = m.cta + 1 }) p.links) ≡ Some b
rfs_fine p m l b ea eb =
    let ka : LinkAt p (takes m.originator centre_label) l = link_at p (takes m.originator centre_label) l ea in
    let kb : LinkAt p (sends m.ultimate centre_label) b = link_at p (sends m.ultimate centre_label) b eb in
    subst (λ (k : LinkKey). find_row link_key same_link k (put_row link_key same_link (record l { next = m.cta + 1 }) p.links) ≡ Some b) (sym kb.key) (put_past (sends m.ultimate centre_label) (takes m.originator centre_label) (record l { next = m.cta + 1 }) p.links ka.key (λ h. (let e : Sends ≡ Takes = ap (λ (k : LinkKey). k.side) h in cc)) ∙ eb)

rfs_sound : (p : Party) (a : Arrival) (m : Rfs) (fa fb : Option LinkRec) → link_with (takes m.originator centre_label) p ≡ fa → link_with (sends m.ultimate centre_label) p ≡ fb → is_accept (rfs_between p a m fa fb).verdict ≡ true → IsSound None p (authenticated_text a) (rfs_between p a m fa fb)
rfs_sound p a m None fb ea eb h = refused_sound p (authenticated_text a) (verdict_of (rfs_front p m false))
rfs_sound p a m (Some l) None ea eb h = refused_sound p (authenticated_text a) (verdict_of (rfs_front p m false))
rfs_sound p a m (Some l) (Some b) ea eb h =
    let ka : LinkAt p (takes m.originator centre_label) l = link_at p (takes m.originator centre_label) l ea in
    let kb : LinkAt p (sends m.ultimate centre_label) b = link_at p (sends m.ultimate centre_label) b eb in
    let at_a : link_with (link_key l) p ≡ Some l = rw ka.key ea in
    let low : l.next ≤ m.cta = rfs_low p a m l b h in
    record {
      made = no_new None;
      free = no_free p;
      edits = (inl (l, at_a, next_up l (m.cta + 1) (omega (arith, low))), (inl (b, rfs_fine p m l b ea eb, next_up b (b.next + 1) (omega arith)), tt));
      waits = change_waits (rfs_between p a m (Some l) (Some b)).edits p ((l, at_a, refl), ((b, rfs_fine p m l b ea eb, refl), tt));
      uses = (record { before = inl (b, eb, omega arith); after = (record b { next = b.next + 1 }, put_at (sends m.ultimate centre_label) (record b { next = b.next + 1 }) (put_row link_key same_link (record l { next = m.cta + 1 }) p.links) kb.key, omega arith) }, tt);
      apart = pairs_one _;
      accepts = tt;
    }

pub centre_command_sound : (p : Party) (c : Command) → IsCommand c → IsSound None p [] (centre_command p c)
centre_command_sound p (command.Load peer label side pair) i = absurd i
centre_command_sound p (command.Start peer label) i = refused_sound p [] _
centre_command_sound p (command.StartKk peer label new single) i = refused_sound p [] _
centre_command_sound p (command.Ask peer ultimate) i = refused_sound p [] _
centre_command_sound p (command.Translate centre ultimate) i = refused_sound p [] _
centre_command_sound p (command.Resend peer) i = refused_sound p [] _
centre_command_sound p (command.End peer name) i = refused_sound p [] _
centre_command_sound p (command.Drop peer) i = refused_sound p [] _
centre_command_sound p command.Purge i = refused_sound p [] _

pub distribution_sound : (p : Party) (a : Arrival) (m : Message) (moment : ℕ) → is_accept (distribution_message p a m moment).verdict ≡ true → IsSound None p (authenticated_text a) (distribution_message p a m moment)
distribution_sound p a (message.Rsi m) moment h = rsi_row_sound p a m m.ultimate moment h
distribution_sound p a (message.Rfs m) moment h = refused_sound p (authenticated_text a) _
distribution_sound p a (message.Rtr m) moment h = refused_sound p (authenticated_text a) _
distribution_sound p a (message.Ksm m) moment h = refused_sound p (authenticated_text a) _
distribution_sound p a (message.Rsm m) moment h = refused_sound p (authenticated_text a) _
distribution_sound p a (message.Ers m) moment h = ers_sound p a m (answer_with (record { requester = m.originator; ultimate = m.ultimate }) p) (link_with (sends m.originator centre_label) p) (link_with (sends m.ultimate centre_label) p) (good_draw p.generator moment) refl refl h
distribution_sound p a (message.Esm m) moment h = refused_sound p (authenticated_text a) _
distribution_sound p a (message.Dsm m) moment h = refused_sound p (authenticated_text a) _

pub translation_sound : (p : Party) (a : Arrival) (m : Message) → is_accept (translation_message p a m).verdict ≡ true → IsSound None p (authenticated_text a) (translation_message p a m)
translation_sound p a (message.Rsi m) h = refused_sound p (authenticated_text a) _
translation_sound p a (message.Rfs m) h = rfs_sound p a m (link_with (takes m.originator centre_label) p) (link_with (sends m.ultimate centre_label) p) refl refl h
translation_sound p a (message.Rtr m) h = refused_sound p (authenticated_text a) _
translation_sound p a (message.Ksm m) h = refused_sound p (authenticated_text a) _
translation_sound p a (message.Rsm m) h = refused_sound p (authenticated_text a) _
translation_sound p a (message.Ers m) h = refused_sound p (authenticated_text a) _
translation_sound p a (message.Esm m) h = refused_sound p (authenticated_text a) _
translation_sound p a (message.Dsm m) h = refused_sound p (authenticated_text a) _
