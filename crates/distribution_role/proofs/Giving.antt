-- What an accepted request gives to both banks, and what the centre keeps of it.
use Rattle.std.proofs.Common.{◌≡◌, ◌≢◌, ℕ, ◌+◌, ◌<◌, ◌^◌, max, true, false, not, Option, Some, None, List, [], ◌∷◌, ◌++◌, refl, sym, ap, subst, ◌∙◌, bytes_eq}
use Rattle.std.proofs.lemmas.Bool.{both_ways, and_parts}
use Rattle.x_base.specs.declared.verdict.Verdict.TheVariants.{Accept, WeakDraws}
use Rattle.x_mac.specs.declared.pair.Pair.{Pair}
use Rattle.x_gen.specs.declared.generator.Gen.{Gen}
use Rattle.x_gen.specs.Gen.{good_draw}
use Rattle.x_gen.specs.Laws.{DrawsOdd}
use Rattle.x_seal.specs.Wrapped.{wrap_of, unwrap_of, seal_of, unseal_of}
use Rattle.csm_grammar.specs.declared.arrival.Arrival.{Arrival}
use Rattle.csm_grammar.specs.declared.message.Message.{Message}
use Rattle.csm_grammar.specs.declared.message.Rsi.{Rsi}
use Rattle.csm_grammar.specs.declared.message.Ers.{Ers}
use Rattle.party_tables.specs.declared.answer.Answer.{Answer}
use Rattle.party_state.specs.declared.edit.Edit.TheVariants.{PutLink}
use Rattle.party_tables.specs.declared.link.LinkKey.{LinkKey}
use Rattle.party_tables.specs.declared.link.LinkRec.{LinkRec}
use Rattle.party_tables.specs.Keys.{same_link, link_key, sends}
use Rattle.party_state.specs.State.{Party, apply, apply_edit, centre_label, link_with, answer_with}
use Rattle.party_state.specs.Verdicts.{Test, TestsHold}
use Rattle.party_state.specs.Rows.{Row}
use Rattle.role_base.specs.Conditions.{is_data_key}
use Rattle.role_base.proofs.Addressed.{others}
use Rattle.role_base.proofs.PartyLaws.{HeldAtAccept, LinkLaws, AnswerLaws, put_other, put_over, answer_put}
use Rattle.distribution_role.specs.Answering.{rtr_of, answering}
use Rattle.distribution_role.specs.Requests.{rsi_tests, rsi_between, rsi_for}
use Rattle.distribution_role.specs.Recovery.{ers_front, ers_tests, ers_between}
use Rattle.distribution_role.specs.Rows.{distribution_message}
use Rattle.distribution_role.specs.Giving.{GivesKey, GivesAsked, GivesAgain}
use Rattle.distribution_role.proofs.AnswersApart.{other_bank}

-- decryption undoes encryption, and a drawn key has 64 bits
pub record Undone : Type 0 where
  pub unwrapped : (kk : Pair) (count key : ℕ) → key < 2 ^ 64 → unwrap_of kk count (wrap_of kk count key) ≡ key
  pub unsealed : (kk : Pair) (from to : List ℕ) (count key : ℕ) → key < 2 ^ 64 → unseal_of kk from to count (seal_of kk from to count key) ≡ key
  pub odd : DrawsOdd

gives : Undone → LinkLaws → AnswerLaws → (p : Party) (r u : List ℕ) (ts : List Test) (l b : LinkRec) (n moment : ℕ) (d : ℕ × Gen) → good_draw p.generator moment ≡ Some d → d.0 < 2 ^ 64 → u ≢ r → link_with (sends r centre_label) p ≡ Some l → link_with (sends u centre_label) p ≡ Some b
    → GivesKey p (answering p r u ts l (record b { next = n }) (Some d)) moment r u l b n
gives laws links answers p r u ts l b n moment d drawn below ne f g =
    let used : LinkRec = record l { next = l.next + 1 } in
    let sent : LinkRec = record b { next = n + 1 } in
    let answer : Answer = record { requester = r; ultimate = u; cta = l.next; value = d.0 } in
    let apart : same_link (sends r centre_label) (link_key sent) ≡ false = ap (λ (k : LinkKey). same_link (sends r centre_label) k) (sym (links.found (sends u centre_label) b p g)) ∙ other_bank links u r (λ e. ne (sym e)) in
    let other : same_link (sends u centre_label) (link_key used) ≡ false = ap (λ (k : LinkKey). same_link (sends u centre_label) k) (sym (links.found (sends r centre_label) l p f)) ∙ other_bank links r u ne in
    let from : link_with (sends r centre_label) (apply (PutLink used ∷ PutLink sent ∷ []) p) ≡ Some used =
    put_other links (sends r centre_label) sent (apply_edit (PutLink used) p) apart ∙ put_over links (sends r centre_label) l used p f refl in
    let to : link_with (sends u centre_label) (apply (PutLink used ∷ PutLink sent ∷ []) p) ≡ Some sent =
    put_over links (sends u centre_label) b sent (apply_edit (PutLink used) p) (put_other links (sends u centre_label) used p other ∙ g) refl in
    record {
      key = d.0;
      after = d.1;
      drawn = drawn;
      goes_on = refl;
      rtr = rtr_of p r u l (record b { next = n }) d.0;
      kd = wrap_of l.pair l.next d.0;
      reply = refl;
      receiver = refl;
      sender = refl;
      ultimate = refl;
      carried = refl;
      for_requester = laws.unwrapped l.pair l.next d.0 below;
      count = refl;
      for_ultimate = laws.unsealed b.pair r u n d.0 below;
      from_used = from;
      to_used = to;
      kept = answer_put answers answer p;
    }

-- a request

asked : Undone → HeldAtAccept → LinkLaws → AnswerLaws → (p : Party) (a : Arrival) (m : Rsi) (u : List ℕ) (moment : ℕ) (l b : LinkRec) (o : Option (ℕ × Gen)) → link_with (sends m.originator centre_label) p ≡ Some l → link_with (sends u centre_label) p ≡ Some b → good_draw p.generator moment ≡ o
    → (rsi_between p a m u (Some l) (Some b) o).verdict ≡ Accept → GivesKey p (rsi_between p a m u (Some l) (Some b) o) moment m.originator u l b b.next
asked laws held links answers p a m u moment l b None f g d e =
    let h : TestsHold (rsi_tests p a m u l b ++ (false, WeakDraws) ∷ []) = held (rsi_tests p a m u l b ++ (false, WeakDraws) ∷ []) refl e in
    absurd (both_ways false refl h.1.1.1.1.1.1.0)
asked laws held links answers p a m u moment l b (Some x) f g d e =
    let h : TestsHold (rsi_tests p a m u l b ++ (true, WeakDraws) ∷ []) = held (rsi_tests p a m u l b ++ (true, WeakDraws) ∷ []) refl e in
    gives laws links answers p m.originator u (rsi_tests p a m u l b) l b b.next moment x d (laws.odd p.generator moment x d).below (others u m.originator (and_parts (is_data_key m.service) (not (bytes_eq u m.originator)) h.1.1.0).1) f g

pub gives_asked : Undone → HeldAtAccept → LinkLaws → AnswerLaws → GivesAsked
gives_asked laws held links answers p a m u moment l b said asks f g e =
    let drawn : Option (ℕ × Gen) = good_draw p.generator moment in
    let row : distribution_message p a a.parsed.message moment ≡ rsi_between p a m u (Some l) (Some b) drawn =
    ap (λ (n : Message). distribution_message p a n moment) said
    ∙ (ap (λ (o : Option (List ℕ)). rsi_for p a m o moment) asks
    ∙ (ap (λ (o : Option LinkRec). rsi_between p a m u o (link_with (sends u centre_label) p) drawn) f ∙ ap (λ (o : Option LinkRec). rsi_between p a m u (Some l) o drawn) g)) in
    let accepted : (rsi_between p a m u (Some l) (Some b) drawn).verdict ≡ Accept = sym (ap (λ (r : Row). r.verdict) row) ∙ e in
    subst (λ (r : Row). GivesKey p r moment m.originator u l b b.next) (sym row) (asked laws held links answers p a m u moment l b drawn f g refl accepted)

-- one that comes again

again : Undone → HeldAtAccept → LinkLaws → AnswerLaws → (p : Party) (a : Arrival) (m : Ers) (moment : ℕ) (t : Answer) (l b : LinkRec) (o : Option (ℕ × Gen)) → link_with (sends m.originator centre_label) p ≡ Some l → link_with (sends m.ultimate centre_label) p ≡ Some b → good_draw p.generator moment ≡ o
    → (ers_between p a m (Some t) (Some l) (Some b) o).verdict ≡ Accept → GivesKey p (ers_between p a m (Some t) (Some l) (Some b) o) moment m.originator m.ultimate l b (max b.next m.ctr)
again laws held links answers p a m moment t l b None f g d e =
    let h : TestsHold (ers_tests p a m t l b ++ (false, WeakDraws) ∷ []) = held (ers_tests p a m t l b ++ (false, WeakDraws) ∷ []) refl e in
    absurd (both_ways false refl h.1.1.1.1.1.1.1.0)
again laws held links answers p a m moment t l b (Some x) f g d e =
    let h : TestsHold (ers_tests p a m t l b ++ (true, WeakDraws) ∷ []) = held (ers_tests p a m t l b ++ (true, WeakDraws) ∷ []) refl e in
    gives laws links answers p m.originator m.ultimate (ers_tests p a m t l b) l b (max b.next m.ctr) moment x d (laws.odd p.generator moment x d).below (others m.ultimate m.originator h.1.1.0) f g

pub gives_again : Undone → HeldAtAccept → LinkLaws → AnswerLaws → GivesAgain
gives_again laws held links answers p a m moment l b said f g e = by_answer (answer_with (record { requester = m.originator; ultimate = m.ultimate }) p) (row (answer_with (record { requester = m.originator; ultimate = m.ultimate }) p) refl)
  where
    drawn : Option (ℕ × Gen)
    drawn = good_draw p.generator moment

    row : (t : Option Answer) → answer_with (record { requester = m.originator; ultimate = m.ultimate }) p ≡ t → distribution_message p a a.parsed.message moment ≡ ers_between p a m t (Some l) (Some b) drawn
    row t i =
        ap (λ (n : Message). distribution_message p a n moment) said
        ∙ (ap (λ (x : Option Answer). ers_between p a m x (link_with (sends m.originator centre_label) p) (link_with (sends m.ultimate centre_label) p) drawn) i
        ∙ (ap (λ (o : Option LinkRec). ers_between p a m t o (link_with (sends m.ultimate centre_label) p) drawn) f ∙ ap (λ (o : Option LinkRec). ers_between p a m t (Some l) o drawn) g))

    by_answer : (t : Option Answer) → distribution_message p a a.parsed.message moment ≡ ers_between p a m t (Some l) (Some b) drawn → GivesKey p (distribution_message p a a.parsed.message moment) moment m.originator m.ultimate l b (max b.next m.ctr)
    by_answer None i =
        let refused : (ers_between p a m None (Some l) (Some b) drawn).verdict ≡ Accept = sym (ap (λ (r : Row). r.verdict) i) ∙ e in
        let h : TestsHold (ers_front p m false false) = held (ers_front p m false false) refl refused in
        absurd (both_ways false refl h.1.1.1.0)
    by_answer (Some t) i =
        let accepted : (ers_between p a m (Some t) (Some l) (Some b) drawn).verdict ≡ Accept = sym (ap (λ (r : Row). r.verdict) i) ∙ e in
        subst (λ (r : Row). GivesKey p r moment m.originator m.ultimate l b (max b.next m.ctr)) (sym i) (again laws held links answers p a m moment t l b drawn f g refl accepted)
