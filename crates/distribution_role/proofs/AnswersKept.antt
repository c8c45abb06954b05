-- The changes of a distribution centre's answers can be kept.
use Rattle.std.proofs.Common.{arith, ◌≡◌, ℕ, ◌+◌, max, true, false, Option, Some, None, Result, IfOk, List, [], ◌∷◌, ◌++◌, refl, lit≤}
use Rattle.std.proofs.lemmas.Bool.{and_parts}
use Rattle.x_base.specs.Count.{IsCount}
use Rattle.x_base.specs.declared.text.NoMemory.{NoMemory}
use Rattle.x_base.specs.declared.verdict.Verdict.TheVariants.{WeakDraws}
use Rattle.x_gen.specs.declared.generator.Gen.{Gen}
use Rattle.csm_grammar.specs.declared.arrival.Arrival.{Arrival}
use Rattle.csm_grammar.specs.declared.message.Rsi.{Rsi}
use Rattle.csm_grammar.specs.declared.message.Ers.{Ers}
use Rattle.party_tables.specs.declared.answer.Answer.{Answer}
use Rattle.party_state.specs.declared.decision.Decision.{Decision}
use Rattle.party_tables.specs.declared.link.LinkRec.{LinkRec}
use Rattle.party_tables.specs.Keys.{link_key}
use Rattle.party_tables.specs.Ranges.{IsNextCount}
use Rattle.party_state.specs.State.{Party, link_with}
use Rattle.party_state.specs.Verdicts.{Test, verdict_of, is_accept, all_refuse, TestsHold}
use Rattle.party_state.specs.Rows.{refused}
use Rattle.role_base.specs.Conditions.{has_count}
use Rattle.role_base.specs.Deciding.{change_of, decision_of, Decides}
use Rattle.role_base.specs.Standing.{LinkStands}
use Rattle.role_base.specs.Storable.{IsStorable, can_put_link, AreKeepable}
use Rattle.role_base.proofs.Counted.{left_is_count, next_on}
use Rattle.role_base.proofs.Kept.{row_kept, made_kept}
use Rattle.role_base.proofs.PartyLaws.{HeldIfAccepted}
use Rattle.distribution_role.specs.Answering.{answer_edits, answering}
use Rattle.distribution_role.specs.Requests.{rsi_tests, rsi_between}
use Rattle.distribution_role.specs.Recovery.{at_least, ers_tests, ers_between}

-- behind tests that say that both next counts can go on, under links that stand
answering_kept : HeldIfAccepted → (p : Party) (r u : List ℕ) (ts : List Test) (a b x y : LinkRec) (o : Option (ℕ × Gen)) → all_refuse (ts ++ (true, WeakDraws) ∷ []) ≡ true → (TestsHold (ts ++ (true, WeakDraws) ∷ []) → IsNextCount (a.next + 1) × IsNextCount (b.next + 1))
    → link_with (link_key a) p ≡ Some x → link_with (link_key b) p ≡ Some y → IsStorable p (change_of p (answering p r u ts a b o))
answering_kept held p r u ts a b x y None f n s t = row_kept p (refused (verdict_of (ts ++ (false, WeakDraws) ∷ []))) (λ _. record { each = tt; order = refl }) (lit≤ tt)
answering_kept held p r u ts a b x y (Some d) f n s t = row_kept p (answering p r u ts a b (Some d)) keepable (lit≤ tt)
  where
    room : (l z : LinkRec) → link_with (link_key l) p ≡ Some z → can_put_link p (link_key l) ≡ true
    room l z h = rw h refl

    keepable : is_accept (verdict_of (ts ++ (true, WeakDraws) ∷ [])) ≡ true → AreKeepable p (answer_edits r u a b d.0 d.1.v)
    keepable e =
        let k : IsNextCount (a.next + 1) × IsNextCount (b.next + 1) = n (held (ts ++ (true, WeakDraws) ∷ []) f e) in
        record { each = (tt, ((k.0, room a x s), ((k.1, room b y t), (tt, tt)))); order = rw s refl }

pub larger : (n m : ℕ) → IsCount n → IsCount m → IsCount (max n m)
larger n m c d = let low = c.low in let high = c.high in let most = d.high in record { low = omega (arith, low); high = omega (arith, high, most) }

pub rsi_kept : HeldIfAccepted → (p : Party) (a : Arrival) (m : Rsi) (u : List ℕ) (l b : LinkRec) (o : Option (ℕ × Gen)) (made : Result Decision NoMemory) → LinkStands p l → LinkStands p b → IfOk made (λ d. d ≡ decision_of p (rsi_between p a m u (Some l) (Some b) o)) → Decides p (rsi_between p a m u (Some l) (Some b) o) made
rsi_kept held p a m u l b o made s t e =
    made_kept p (rsi_between p a m u (Some l) (Some b) o) made (answering_kept held p m.originator u (rsi_tests p a m u l b) l b l b o refl
    (λ h. let left : (has_count l ≡ true) × (has_count b ≡ true) = and_parts (has_count l) (has_count b) h.1.1.1.1.1.0 in (next_on l.next _ (left_is_count l s.range.next left.0) refl, next_on b.next _ (left_is_count b t.range.next left.1) refl))
    s.found t.found) e

pub ers_kept : HeldIfAccepted → (p : Party) (a : Arrival) (m : Ers) (x : Answer) (l b : LinkRec) (o : Option (ℕ × Gen)) (made : Result Decision NoMemory) → LinkStands p l → LinkStands p b → IsCount m.ctr → IfOk made (λ d. d ≡ decision_of p (ers_between p a m (Some x) (Some l) (Some b) o)) → Decides p (ers_between p a m (Some x) (Some l) (Some b) o) made
ers_kept held p a m x l b o made s t i e =
    made_kept p (ers_between p a m (Some x) (Some l) (Some b) o) made (answering_kept held p m.originator m.ultimate (ers_tests p a m x l b) l (at_least b m.ctr) l b o refl
    (λ h. let left : (has_count l ≡ true) × (has_count b ≡ true) = and_parts (has_count l) (has_count b) h.1.1.1.1.1.1.0 in
    (next_on l.next _ (left_is_count l s.range.next left.0) refl, next_on (max b.next m.ctr) _ (larger b.next m.ctr (left_is_count b t.range.next left.1) i) refl))
    s.found t.found) e
