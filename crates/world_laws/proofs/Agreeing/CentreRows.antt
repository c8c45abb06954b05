-- Agreement: the rows of the centres.
use Rattle.std.proofs.Common.{arith, ◌≡◌, ◌≢◌, inr, ℕ, ◌≤◌, ◌+◌, true, false, Option, Some, None, List, [], ◌∷◌, ◌++◌, refl, sym, ◌∙◌, ap, subst}
use Rattle.x_mac.specs.declared.pair.Pair.{Pair}
use Rattle.x_seal.specs.Wrapped.{unwrap_of}
use Rattle.csm_grammar.specs.declared.message.Message.TheVariants as message
use Rattle.csm_grammar.specs.declared.message.Rfs.{Rfs}
use Rattle.csm_grammar.specs.Spelling.{Says}
use Rattle.party_tables.specs.declared.link.LinkKey.{LinkKey}
use Rattle.party_tables.specs.declared.link.LinkRec.{LinkRec}
use Rattle.party_tables.specs.Tables.{put_row}
use Rattle.party_tables.specs.Keys.{sends, takes}
use Rattle.party_state.specs.State.{centre_label, link_with, apply}
use Rattle.party_tables.proofs.Tables.{one_found}
use Rattle.member.specs.Member.{Member}
use Rattle.world_laws.specs.World.{member_at}
use Rattle.world_laws.specs.Honest.{HasFact}
use Rattle.world_laws.specs.Starts.{HasOtherEnd}
use Rattle.world_laws.proofs.Links.Growth.{LinkGrows, PartyGrows, link_stays}
use Rattle.std.proofs.Common.{max}
use Rattle.world_laws.proofs.Agreeing.Waiting.{AllSent}
use Rattle.world_laws.proofs.Links.Growth.{PartyGrows}
use Rattle.world_laws.proofs.Agreeing.Lists.{Lists, after, members_after, waits_stay}
use Rattle.world_laws.proofs.Agreeing.Waiting.{news_stay, AllSent}
use Rattle.world_laws.proofs.Agreeing.KeyRecords.{unmoved}
use Rattle.world_laws.proofs.Agreeing.Moves.{Agreeing}
use Rattle.world_laws.proofs.Agreeing.Agreed.{Agreed}
use Rattle.x_gen.specs.declared.generator.Gen.{Gen}
use Rattle.x_gen.specs.Gen.{good_draw}
use Rattle.x_seal.specs.Wrapped.{unwrap_of}
use Rattle.party_tables.specs.Keys.{link_key, same_link}
use Rattle.party_state.specs.Verdicts.{Test, TestsHold as TestsHold, verdict_of, is_accept}
use Rattle.party_state.proofs.Verdicts.{held}
use Rattle.world_laws.proofs.Links.Growth.{change_grows, next_up}
use Rattle.world_laws.proofs.Links.Found.{LinkAt, link_at}
use Rattle.world_laws.proofs.Links.Putting.{put_at}
use Rattle.world_laws.proofs.Counting.Sound.{IsSound}
use Rattle.x_seal.proofs.Undoing.{unwraps, unseals}
use Rattle.world_laws.proofs.Texts.Drawn.{drawn_below}
use Rattle.world_laws.proofs.Agreeing.KeyRecords.{unmoved}
use Rattle.world_laws.proofs.Agreeing.Lists.{waits_stay}
use Rattle.world_laws.proofs.Agreeing.Waiting.{news_stay}
use Rattle.world_laws.proofs.Agreeing.Exchanges.{sent_same}
use Rattle.world_laws.proofs.Agreeing.Backs.{backed}
use Rattle.world_laws.proofs.Agreeing.Steps.{other_of, fact_says, here, there, after_is, refused_agreeing}
use Rattle.party_state.specs.Verdicts.{tests_pass}
use Rattle.csm_grammar.specs.declared.arrival.Arrival.{Arrival}
use Rattle.csm_grammar.specs.Arrivals.{authenticated_text}
use Rattle.role_base.specs.Texts.{lead_under}
use Rattle.world_laws.proofs.Agreeing.AnswerRows.{HonestAs}
use Rattle.world_laws.proofs.Links.Found.{link_at}
use Rattle.std.proofs.Common.{max}
use Rattle.x_base.specs.declared.verdict.Verdict.TheVariants.{WeakDraws}
use Rattle.party_tables.specs.declared.answer.Answer.{Answer}
use Rattle.csm_grammar.specs.declared.message.Rsi.{Rsi}
use Rattle.csm_grammar.specs.declared.message.Ers.{Ers}
use Rattle.role_base.specs.Centres.{request_front}
use Rattle.distribution_role.specs.Requests.{rsi_front, rsi_tests, rsi_between, rsi_for}
use Rattle.distribution_role.specs.Recovery.{ers_front, ers_tests, ers_between}
use Rattle.distribution_role.specs.Answering.{answering}
use Rattle.translation_role.specs.Service.{rfs_value, rfs_under, rfs_answer, rfs_front, rfs_tests, rfs_between, rfs_lead_between}
use Rattle.world_laws.proofs.Links.Growth.{link_stays}
use Rattle.x_seal.proofs.Undoing.{unwrapped_below}
use Rattle.world_laws.proofs.Sound.Centres.{BothUp, both_up, rsi_apart, ers_apart, rfs_fine}
use Rattle.world_laws.proofs.Agreeing.Facts.{RfsFact, WaitsAt, kdu_value}
use Rattle.change_code.specs.declared.space.Space.{Space}

module _ (v : Lists) (p : List ℕ) (x : Member) (space : Space) (at : member_at p v.members ≡ Some x) (i : Agreed v) where
  sent : AllSent x.party
  sent = i.sent p x at

  answering_agreeing : (o : Option LinkKey) (text : List ℕ) (requester u : List ℕ) (tests : List Test) (a b b0 : LinkRec) (moment : ℕ) (drawn : Option (ℕ × Gen)) → good_draw x.party.generator moment ≡ drawn → link_with (sends requester centre_label) x.party ≡ Some a → link_with (sends u centre_label) x.party ≡ Some b0 → LinkGrows b0 b → b.ready ≡ b0.ready → u ≢ requester → IsSound o x.party text (answering x.party requester u tests a b drawn) → Agreeing v x space text (answering x.party requester u tests a b drawn)
  answering_agreeing o text requester u tests a b b0 moment None drew at_a at_b g same ne sound = refused_agreeing v p x space at i text (verdict_of (tests ++ (false, WeakDraws) ∷ []))
  answering_agreeing o text requester u tests a b b0 moment (Some d) drew at_a at_b g same ne sound =
      let both : BothUp x.party requester u a b b0 = both_up x.party requester u a b b0 at_a at_b g ne in
      let low : b0.next ≤ b.next = g.next in
      let below = drawn_below x.party.generator moment d drew in
      let grown : PartyGrows o x.party (apply (answering x.party requester u tests a b (Some d)).edits x.party) = change_grows o (answering x.party requester u tests a b (Some d)).edits x.party sound.edits in
      record {
        back = backed v.members x.party (answering x.party requester u tests a b (Some d)).edits (tt, (inr (inr (a, both.first_at, refl, refl)), (inr (inr (b0, both.second_at, same, g.pair)), (tt, tt))));
        news = news_stay x.party (apply (answering x.party requester u tests a b (Some d)).edits x.party) refl;
        keys = unmoved refl;
        exchanges = sent_same x.party (apply (answering x.party requester u tests a b (Some d)).edits x.party) refl refl (λ k r f. f) sent;
        waits = waits_stay x.party (apply (answering x.party requester u tests a b (Some d)).edits x.party) refl;
        replies = record {
          party = after x space (answering x.party requester u tests a b (Some d));
          at = after_is v p x space at i o (answering x.party requester u tests a b (Some d)) grown;
          link = record b { next = b.next + 1 };
          found = both.second;
          ready = same ∙ i.centres p x u b0 at at_b;
          below = omega arith;
          form = (record a { next = a.next + 1 }, both.first, i.centres p x requester a at at_a, unwraps a.pair a.next d.0 below ∙ sym (unseals b.pair requester u b.next d.0 below), omega arith);
        };
        new = (refl, (b0, at_b, low));
        accepts = tt;
      }

  rsi_agreeing : (o : Option LinkKey) (a : Arrival) (m : Rsi) (u : List ℕ) (fa fb : Option LinkRec) (moment : ℕ) → link_with (sends m.originator centre_label) x.party ≡ fa → link_with (sends u centre_label) x.party ≡ fb → is_accept (rsi_between x.party a m u fa fb (good_draw x.party.generator moment)).verdict ≡ true → IsSound o x.party (authenticated_text a) (rsi_between x.party a m u fa fb (good_draw x.party.generator moment)) → Agreeing v x space (authenticated_text a) (rsi_between x.party a m u fa fb (good_draw x.party.generator moment))
  rsi_agreeing o a m u None fb moment ea eb h sound = refused_agreeing v p x space at i (authenticated_text a) (verdict_of (rsi_front x.party m u false))
  rsi_agreeing o a m u (Some l) None moment ea eb h sound = refused_agreeing v p x space at i (authenticated_text a) (verdict_of (rsi_front x.party m u false))
  rsi_agreeing o a m u (Some l) (Some b) moment ea eb h sound = answering_agreeing o (authenticated_text a) m.originator u (rsi_tests x.party a m u l b) l b b moment (good_draw x.party.generator moment) refl ea eb (link_stays b) refl (rsi_apart x.party a m u l b (good_draw x.party.generator moment) h) sound

  pub rsi_row_agreeing : (o : Option LinkKey) (a : Arrival) (m : Rsi) (u : Option (List ℕ)) (moment : ℕ) → is_accept (rsi_for x.party a m u moment).verdict ≡ true → IsSound o x.party (authenticated_text a) (rsi_for x.party a m u moment) → Agreeing v x space (authenticated_text a) (rsi_for x.party a m u moment)
  rsi_row_agreeing o a m None moment h sound = refused_agreeing v p x space at i (authenticated_text a) (verdict_of (request_front x.party m.receiver m.originator false))
  rsi_row_agreeing o a m (Some u) moment h sound = rsi_agreeing o a m u (link_with (sends m.originator centre_label) x.party) (link_with (sends u centre_label) x.party) moment refl refl h sound

  pub ers_agreeing : (o : Option LinkKey) (a : Arrival) (m : Ers) (found : Option Answer) (fa fb : Option LinkRec) (moment : ℕ) → link_with (sends m.originator centre_label) x.party ≡ fa → link_with (sends m.ultimate centre_label) x.party ≡ fb → is_accept (ers_between x.party a m found fa fb (good_draw x.party.generator moment)).verdict ≡ true → IsSound o x.party (authenticated_text a) (ers_between x.party a m found fa fb (good_draw x.party.generator moment)) → Agreeing v x space (authenticated_text a) (ers_between x.party a m found fa fb (good_draw x.party.generator moment))
  ers_agreeing o a m None fa fb moment ea eb h sound = refused_agreeing v p x space at i (authenticated_text a) (verdict_of (ers_front x.party m false false))
  ers_agreeing o a m (Some t) None fb moment ea eb h sound = refused_agreeing v p x space at i (authenticated_text a) (verdict_of (ers_front x.party m true false))
  ers_agreeing o a m (Some t) (Some l) None moment ea eb h sound = refused_agreeing v p x space at i (authenticated_text a) (verdict_of (ers_front x.party m true false))
  ers_agreeing o a m (Some t) (Some l) (Some b) moment ea eb h sound = answering_agreeing o (authenticated_text a) m.originator m.ultimate (ers_tests x.party a m t l b) l (record b { next = max b.next m.ctr }) b moment (good_draw x.party.generator moment) refl ea eb (next_up b (max b.next m.ctr) (omega arith)) refl (ers_apart x.party a m t l b (record b { next = max b.next m.ctr }) (good_draw x.party.generator moment) h) sound

  pub rfs_agreeing : (o : Option LinkKey) (a : Arrival) (m : Rfs) (fa fb : Option LinkRec) → Says (authenticated_text a) (message.Rfs m) → link_with (takes m.originator centre_label) x.party ≡ fa → link_with (sends m.ultimate centre_label) x.party ≡ fb → HonestAs v.facts a (rfs_lead_between x.party a m fa fb) → is_accept (rfs_between x.party a m fa fb).verdict ≡ true → IsSound o x.party (authenticated_text a) (rfs_between x.party a m fa fb) → Agreeing v x space (authenticated_text a) (rfs_between x.party a m fa fb)
  rfs_agreeing o a m None fb said ea eb honest h sound = refused_agreeing v p x space at i (authenticated_text a) (verdict_of (rfs_front x.party m false))
  rfs_agreeing o a m (Some l) None said ea eb honest h sound = refused_agreeing v p x space at i (authenticated_text a) (verdict_of (rfs_front x.party m false))
  rfs_agreeing o a m (Some l) (Some b) said ea eb honest h sound = record {
    back = backed v.members x.party (rfs_between x.party a m (Some l) (Some b)).edits (inr (inr (l, rw la.key ea, refl, refl)), (inr (inr (b, rfs_fine x.party m l b ea eb, refl, refl)), tt));
    news = news_stay x.party (apply (rfs_between x.party a m (Some l) (Some b)).edits x.party) refl;
    keys = unmoved refl;
    exchanges = sent_same x.party (apply (rfs_between x.party a m (Some l) (Some b)).edits x.party) refl refl (λ k r f. f) sent;
    waits = waits_stay x.party (apply (rfs_between x.party a m (Some l) (Some b)).edits x.party) refl;
    replies = record {
      party = after x space (rfs_between x.party a m (Some l) (Some b));
      at = after_is v p x space at i o (rfs_between x.party a m (Some l) (Some b)) grown;
      link = record b { next = b.next + 1 };
      found = put_at (sends m.ultimate centre_label) (record b { next = b.next + 1 }) (put_row link_key same_link (record l { next = m.cta + 1 }) x.party.links) lb.key;
      ready = i.centres p x m.ultimate b at eb;
      below = omega arith;
      form = waiting;
    };
    new = (refl, (b, eb, omega arith));
    accepts = tt;
  }
    where
      la : LinkAt x.party (takes m.originator centre_label) l
      la = link_at x.party (takes m.originator centre_label) l ea

      lb : LinkAt x.party (sends m.ultimate centre_label) b
      lb = link_at x.party (sends m.ultimate centre_label) b eb

      grown : PartyGrows o x.party (apply (rfs_between x.party a m (Some l) (Some b)).edits x.party)
      grown = change_grows o (rfs_between x.party a m (Some l) (Some b)).edits x.party sound.edits

      t : TestsHold (rfs_tests x.party a m l b)
      t = held (rfs_tests x.party a m l b) refl h

      mine_is : (m.receiver ≡ x.party.own) × (m.originator ≢ x.party.own)
      mine_is = other_of x.party m.receiver m.originator t.0

      front : tests_pass (rfs_front x.party m true) ≡ true
      front = rw (t.0, t.1.0, t.1.1.0) refl

      fact : HasFact v.facts (rfs_under x.party m) (authenticated_text a)
      fact = honest (lead_under a (rfs_under x.party m) (rfs_value m l)) (rw front refl) t.1.1.1.1.0

      says : RfsFact v.members fact.fact m
      says = fact_says v p x space at i (rfs_under x.party m) (authenticated_text a) fact (message.Rfs m) said

      value_is : says.value ≡ kdu_value (record b { next = b.next + 1 }) (rfs_answer x.party m l b)
      value_is =
          let ends : HasOtherEnd v.members m.receiver (takes m.originator centre_label) says.waits.link = i.ends m.originator says.waits.party m.receiver centre_label says.waits.link says.waits.at says.waits.found says.waits.ready in
          let y_is : ends.member ≡ x = here v p x space at i m.receiver ends.member mine_is.0 ends.at in
          let link : ends.link ≡ l = one_found ends.link l (subst (λ (z : Member). link_with (takes m.originator centre_label) z.party ≡ Some ends.link) y_is ends.found) ea in
          let pair : says.waits.link.pair ≡ l.pair = sym ends.pair ∙ ap (λ (y : LinkRec). y.pair) link in
          sym says.opened ∙ (ap (λ (q : Pair). unwrap_of q m.cta m.kd) pair ∙ sym (unseals b.pair m.originator m.ultimate b.next (rfs_value m l) (unwrapped_below l.pair m.cta m.kd)))

      waiting : WaitsAt (members_after v.members x space (rfs_between x.party a m (Some l) (Some b))) m.originator x.party.own m.cta (kdu_value (record b { next = b.next + 1 }) (rfs_answer x.party m l b))
      waiting =
          let w : WaitsAt v.members m.originator x.party.own m.cta (kdu_value (record b { next = b.next + 1 }) (rfs_answer x.party m l b)) = subst (λ (n : ℕ). WaitsAt v.members m.originator x.party.own m.cta n) value_is (subst (λ (q : List ℕ). WaitsAt v.members m.originator q m.cta says.value) mine_is.0 says.waits) in
          record { party = w.party; at = there v p x space at i o (rfs_between x.party a m (Some l) (Some b)) m.originator w.party grown mine_is.1 w.at; link = w.link; found = w.found; ready = w.ready; below = w.below; value_is = w.value_is }
