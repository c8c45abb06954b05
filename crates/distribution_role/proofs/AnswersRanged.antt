-- What a distribution centre's rows put is in range, and what they write is short.
use Rattle.std.proofs.Common.{◌≡◌, ℕ, ◌+◌, ◌<◌, ◌≤◌, ◌^◌, max, true, Option, Some, None, IfSome, Ok, List, [], ◌∷◌, ◌++◌, length, refl, lit≤}
use Rattle.std.specs.List.{AllByRecursion}
use Rattle.std.proofs.lemmas.Bool.{and_parts}
use Rattle.x_base.specs.Names.{IsIdent}
use Rattle.x_base.specs.Count.{IsCount}
use Rattle.x_base.specs.declared.verdict.Verdict.{Verdict}
use Rattle.x_base.specs.declared.verdict.Verdict.TheVariants.{WeakDraws}
use Rattle.x_mac.specs.declared.pair.Pair.{Pair}
use Rattle.x_gen.specs.declared.generator.Gen.{Gen}
use Rattle.x_gen.specs.Gen.{good_draw}
use Rattle.x_gen.specs.Laws.{DrawsOdd, OddStays}
use Rattle.x_seal.specs.Wrapped.{seal_of}
use Rattle.csm_grammar.specs.declared.arrival.Arrival.{Arrival}
use Rattle.csm_grammar.specs.declared.message.Message.{Message}
use Rattle.csm_grammar.specs.declared.message.Message.TheVariants as message
use Rattle.csm_grammar.specs.declared.message.Rsi.{Rsi}
use Rattle.csm_grammar.specs.declared.message.Ers.{Ers}
use Rattle.csm_grammar.specs.Arrivals.{IsArrived, AllArrived}
use Rattle.csm_grammar.specs.Kinds.{IsFieldOfKind}
use Rattle.csm_grammar.specs.Messages.{fields_of}
use Rattle.csm_write.specs.Shortness.{CanonShort}
use Rattle.party_tables.specs.Keys.{sends}
use Rattle.party_tables.specs.Ranges.{IsLink, longest_text}
use Rattle.party_tables.specs.declared.answer.Answer.{Answer}
use Rattle.party_tables.specs.declared.link.LinkRec.{LinkRec}
use Rattle.party_state.specs.declared.command.Input.{Input}
use Rattle.party_state.specs.declared.command.Input.TheVariants as input
use Rattle.party_state.specs.Ranges.{IsParty}
use Rattle.party_state.specs.State.{Party, centre_label, link_with, answer_with}
use Rattle.party_state.specs.Verdicts.{Test, TestsHold, all_refuse, is_accept}
use Rattle.party_state.specs.Rows.{refused}
use Rattle.role_base.specs.Conditions.{has_count}
use Rattle.role_base.specs.Deciding.{decision_of}
use Rattle.role_base.specs.Ranged.{IsInput, IsRanged}
use Rattle.role_base.specs.Standing.{LinkStands}
use Rattle.role_base.specs.Texts.{text_of}
use Rattle.role_base.proofs.Counted.{left_is_count, next_on, greater_next}
use Rattle.role_base.proofs.Found.{found_stands}
use Rattle.role_base.proofs.PartyLaws.{HeldIfAccepted, LinksFound, LinksInRange}
use Rattle.role_base.proofs.Ranged.{AreRanged, WrapsBelow, row_ranged, nothing_ranged, refused_kept, coded_short, with_next, seed_below, order_ranged}
use Rattle.distribution_role.specs.Answering.{rtr_of, answer_under, answer_reply, answering}
use Rattle.distribution_role.specs.Requests.{rsi_tests, rsi_between, rsi_for}
use Rattle.distribution_role.specs.Recovery.{at_least, ers_tests, ers_between}
use Rattle.distribution_role.specs.Rows.{distribution_message, distribution_row}
use Rattle.distribution_role.proofs.AnswersKept.{larger, rsi_kept, ers_kept}

abbrev pub SealsBelow : Type 0
SealsBelow = (kk : Pair) (from to : List ℕ) (count key : ℕ) → seal_of kk from to count key < 2 ^ 64

module _ (short : CanonShort) (wraps : WrapsBelow) (seals : SealsBelow) (odd : DrawsOdd) (held : HeldIfAccepted) (p : Party) (w : IsParty p) (moment : ℕ) where
  answer_short : (r u : List ℕ) (a b : LinkRec) (key : ℕ) → IsIdent r → IsIdent u → IsCount a.next → IsCount b.next → length (text_of (answer_reply p r u a b key)) ≤ longest_text
  answer_short r u a b key i j c d =
      coded_short short (message.Rtr (rtr_of p r u a b key)) (answer_under p r a.next) key (i, (w.own, (j, (wraps a.pair a.next key, (seals b.pair r u b.next key, (c, (d, tt))))))) (lit≤ tt)

  -- the answer behind tests that say that both counts are left
  answering_ranged : (r u : List ℕ) (ts : List Test) (a b : LinkRec) → IsIdent r → IsIdent u → IsLink a → IsLink b → all_refuse (ts ++ (true, WeakDraws) ∷ []) ≡ true → (TestsHold (ts ++ (true, WeakDraws) ∷ []) → IsCount a.next × IsCount b.next)
      → AreRanged (answering p r u ts a b (good_draw p.generator moment))
  answering_ranged r u ts a b i j x y f n = by_draw (good_draw p.generator moment) refl
    where
      by_draw : (o : Option (ℕ × Gen)) → good_draw p.generator moment ≡ o → AreRanged (answering p r u ts a b o)
      by_draw None e = nothing_ranged _
      by_draw (Some d) e = record {
        edits = λ h. (
            let c = counts h in (
              seed_below p.generator moment d e,
              (
                with_next a (a.next + 1) x (next_on a.next (a.next + 1) c.0 refl),
                (
                  with_next b (b.next + 1) y (next_on b.next (b.next + 1) c.1 refl),
                  (record { requester = i; ultimate = j; cta = c.0; value = (odd p.generator moment d e).below }, tt),
                ),
              ),
            ));
        reply = λ h. answer_short r u a b d.0 i j (counts h).0 (counts h).1;
        answer = tt;
      }
        where
          counts : is_accept (answering p r u ts a b (Some d)).verdict ≡ true → IsCount a.next × IsCount b.next
          counts h = n (held (ts ++ (true, WeakDraws) ∷ []) f h)

  rsi_ranged : LinksFound → LinksInRange → (a : Arrival) (m : Rsi) (u : Option (List ℕ)) → IsIdent m.originator → IfSome u IsIdent → IsRanged p (decision_of p (rsi_for p a m u moment))
  rsi_ranged links in_range a m None i j = row_ranged p (rsi_for p a m None moment) (refused_kept p _) (nothing_ranged _)
  rsi_ranged links in_range a m (Some u) i j = by_links (link_with (sends m.originator centre_label) p) (link_with (sends u centre_label) p) refl refl
    where
      by_links : (o q : Option LinkRec) → link_with (sends m.originator centre_label) p ≡ o → link_with (sends u centre_label) p ≡ q → IsRanged p (decision_of p (rsi_between p a m u o q (good_draw p.generator moment)))
      by_links None q f g = row_ranged p (rsi_between p a m u None q (good_draw p.generator moment)) (refused_kept p _) (nothing_ranged _)
      by_links (Some l) None f g = row_ranged p (rsi_between p a m u (Some l) None (good_draw p.generator moment)) (refused_kept p _) (nothing_ranged _)
      by_links (Some l) (Some b) f g =
          let s : LinkStands p l = found_stands links in_range p (sends m.originator centre_label) l w f in
          let t : LinkStands p b = found_stands links in_range p (sends u centre_label) b w g in
          row_ranged p (rsi_between p a m u (Some l) (Some b) (good_draw p.generator moment))
          (rsi_kept held p a m u l b (good_draw p.generator moment) (Ok (decision_of p (rsi_between p a m u (Some l) (Some b) (good_draw p.generator moment)))) s t refl).kept
          (answering_ranged m.originator u (rsi_tests p a m u l b) l b i j s.range t.range refl
          (λ h. let left : (has_count l ≡ true) × (has_count b ≡ true) = and_parts (has_count l) (has_count b) h.1.1.1.1.1.0 in (left_is_count l s.range.next left.0, left_is_count b t.range.next left.1)))

  ers_ranged : LinksFound → LinksInRange → (a : Arrival) (m : Ers) (x : Option Answer) (o q : Option LinkRec) → IsIdent m.originator → IsIdent m.ultimate → IsCount m.ctr → link_with (sends m.originator centre_label) p ≡ o → link_with (sends m.ultimate centre_label) p ≡ q
      → IsRanged p (decision_of p (ers_between p a m x o q (good_draw p.generator moment)))
  ers_ranged links in_range a m None o q i j c f g = row_ranged p (ers_between p a m None o q (good_draw p.generator moment)) (refused_kept p _) (nothing_ranged _)
  ers_ranged links in_range a m (Some x) None q i j c f g = row_ranged p (ers_between p a m (Some x) None q (good_draw p.generator moment)) (refused_kept p _) (nothing_ranged _)
  ers_ranged links in_range a m (Some x) (Some l) None i j c f g = row_ranged p (ers_between p a m (Some x) (Some l) None (good_draw p.generator moment)) (refused_kept p _) (nothing_ranged _)
  ers_ranged links in_range a m (Some x) (Some l) (Some b) i j c f g =
      let s : LinkStands p l = found_stands links in_range p (sends m.originator centre_label) l w f in
      let t : LinkStands p b = found_stands links in_range p (sends m.ultimate centre_label) b w g in
      row_ranged p (ers_between p a m (Some x) (Some l) (Some b) (good_draw p.generator moment))
      (ers_kept held p a m x l b (good_draw p.generator moment) (Ok (decision_of p (ers_between p a m (Some x) (Some l) (Some b) (good_draw p.generator moment)))) s t c refl).kept
      (answering_ranged m.originator m.ultimate (ers_tests p a m x l b) l (at_least b m.ctr) i j s.range (raised b m.ctr t.range c) refl
      (λ h. let left : (has_count l ≡ true) × (has_count b ≡ true) = and_parts (has_count l) (has_count b) h.1.1.1.1.1.1.0 in (left_is_count l s.range.next left.0, larger b.next m.ctr (left_is_count b t.range.next left.1) c)))
    where
      raised : (b : LinkRec) (n : ℕ) → IsLink b → IsCount n → IsLink (at_least b n)
      raised b n r k = with_next b (max b.next n) r (greater_next b.next n r.next k)

arrival_in_range : CanonShort → WrapsBelow → SealsBelow → DrawsOdd → HeldIfAccepted → LinksFound → LinksInRange → (p : Party) (a : Arrival) (moment : ℕ) → IsArrived a → IsParty p → IsRanged p (decision_of p (distribution_row p (input.Arrived a) moment))
arrival_in_range short wraps seals odd held links in_range p a moment arrived w = by_message a.parsed.message arrived.typed
  where
    refused_message : (v : Verdict) → IsRanged p (decision_of p (refused v))
    refused_message v = row_ranged p (refused v) (refused_kept p v) (nothing_ranged v)

    ultimate : (m : Rsi) (o : Option (List ℕ)) → AllByRecursion IsFieldOfKind (fields_of (message.Rsi (record m { ultimate = o }))) → IfSome o IsIdent
    ultimate m None h = tt
    ultimate m (Some u) h = h.1.1.1.0

    by_message : (m : Message) → AllByRecursion IsFieldOfKind (fields_of m) → IsRanged p (decision_of p (distribution_message p a m moment))
    by_message (message.Rsi m) h = rsi_ranged short wraps seals odd held p w moment links in_range a m m.ultimate h.1.0 (ultimate m m.ultimate h)
    by_message (message.Rfs m) h = refused_message _
    by_message (message.Rtr m) h = refused_message _
    by_message (message.Ksm m) h = refused_message _
    by_message (message.Rsm m) h = refused_message _
    by_message (message.Ers m) h = ers_ranged short wraps seals odd held p w moment links in_range a m (answer_with (record { requester = m.originator; ultimate = m.ultimate }) p) (link_with (sends m.originator centre_label) p) (link_with (sends m.ultimate centre_label) p) h.1.0 h.1.1.0 h.1.1.1.0 refl refl
    by_message (message.Esm m) h = refused_message _
    by_message (message.Dsm m) h = refused_message _

pub row_in_range : OddStays → CanonShort → WrapsBelow → SealsBelow → DrawsOdd → HeldIfAccepted → LinksFound → LinksInRange → AllArrived → (p : Party) (i : Input) (moment : ℕ) → IsParty p → IsInput i → IsRanged p (decision_of p (distribution_row p i moment))
row_in_range stays short wraps seals odd held links in_range arrived p (input.Ordered c) moment w k = order_ranged stays held p c k
row_in_range stays short wraps seals odd held links in_range arrived p (input.Arrived a) moment w k = arrival_in_range short wraps seals odd held links in_range p a moment (arrived a) w
