-- What is decided behind the tests that come before, with what is drawn.
use Rattle.std.proofs.Common.{◌≡◌, ℕ, Bool, true, false, cond, ◌&&◌, is_some, Result, Option, Some, None, IfOk, List, [], ◌∷◌, ◌++◌, refl, ap, ◌∙◌}
use Rattle.x_base.specs.declared.text.NoMemory.{NoMemory}
use Rattle.x_base.specs.declared.verdict.Verdict.{Verdict}
use Rattle.x_base.specs.declared.verdict.Verdict.TheVariants.{BadMac, CountSpent, WeakDraws}
use Rattle.x_gen.specs.declared.generator.Gen.{Gen}
use Rattle.x_gen.specs.Gen.{good_draw}
use Rattle.csm_grammar.specs.declared.arrival.Arrival.{Arrival}
use Rattle.csm_grammar.specs.declared.message.Rsi.{Rsi}
use Rattle.csm_grammar.specs.declared.message.Ers.{Ers}
use Rattle.party_tables.specs.declared.answer.Answer.{Answer}
use Rattle.party_state.specs.declared.decision.Decision.{Decision}
use Rattle.party_tables.specs.declared.link.LinkRec.{LinkRec}
use Rattle.party_tables.specs.Keys.{sends}
use Rattle.party_state.specs.State.{Party, centre_label, link_with, answer_with}
use Rattle.party_state.specs.Verdicts.{Test, verdict_of, is_accept, tests_pass}
use Rattle.role_base.specs.Conditions.{has_count}
use Rattle.role_base.specs.Texts.{lead_under}
use Rattle.role_base.specs.Deciding.{decision_of, refusal_of, accepting}
use Rattle.role_base.proofs.ByRow.{by_refused}
use Rattle.role_base.proofs.Decided.{refuses, decides_row}
use Rattle.distribution_role.specs.Answering.{answer_under, answer_edits, answer_reply, answering}
use Rattle.distribution_role.specs.Requests.{rsi_between, rsi}
use Rattle.distribution_role.specs.Recovery.{ers_front, ers_between, ers, ers_lead}

pub drawn_refused : (p : Party) (r u : List ℕ) (ts : List Test) (a b : LinkRec) (o : Option (ℕ × Gen)) (v : Verdict) → v ≡ verdict_of (ts ++ (is_some o, WeakDraws) ∷ []) → is_accept v ≡ false → refusal_of v ≡ decision_of p (answering p r u ts a b o)
drawn_refused p r u ts a b None v e f = ap refusal_of e ∙ by_refused p (verdict_of (ts ++ (false, WeakDraws) ∷ []))
drawn_refused p r u ts a b (Some d) v e f = refuses p (answering p r u ts a b (Some d)) v e f refl

pub drawn_none : (p : Party) (r u : List ℕ) (ts : List Test) (a b : LinkRec) (o : Option (ℕ × Gen)) (v : Verdict) → o ≡ None → v ≡ verdict_of (ts ++ (is_some o, WeakDraws) ∷ []) → refusal_of v ≡ decision_of p (answering p r u ts a b o)
drawn_none p r u ts a b None v i e = ap refusal_of e ∙ by_refused p (verdict_of (ts ++ (false, WeakDraws) ∷ []))
drawn_none p r u ts a b (Some d) v i e = cc

pub drawn_sent : (result : Result Decision NoMemory) (p : Party) (r u : List ℕ) (ts : List Test) (a b : LinkRec) (o : Option (ℕ × Gen)) (key : ℕ) (after : Gen) (v : Verdict) → o ≡ Some (key, after)
    → IfOk result (λ d. d ≡ accepting p (answer_edits r u a b key after.v) (Some (answer_reply p r u a b key))) → v ≡ verdict_of (ts ++ (is_some o, WeakDraws) ∷ []) → is_accept v ≡ true
    → IfOk result (λ d. d ≡ decision_of p (answering p r u ts a b o))
drawn_sent result p r u ts a b None key after v i h e t = cc
drawn_sent result p r u ts a b (Some d) key after v i h e t =
    let j : d ≡ (key, after) = cc in
    decides_row result p (answering p r u ts a b (Some d)) v (rw j h) e t

-- the tests with what is drawn

pub sent_tests : (p : Party) (r u : List ℕ) (ts : List Test) (a b : LinkRec) (o : Option (ℕ × Gen)) → (answering p r u ts a b o).verdict ≡ verdict_of (ts ++ (is_some o, WeakDraws) ∷ [])
sent_tests p r u ts a b None = refl
sent_tests p r u ts a b (Some d) = refl

pub not_answered : (p : Party) (r u : List ℕ) (ts : List Test) (a b : LinkRec) (o : Option (ℕ × Gen)) → (answering p r u ts a b o).answer ≡ None
not_answered p r u ts a b None = refl
not_answered p r u ts a b (Some d) = refl

-- tests that hold say that both counts are left

-- the tests of a request that comes again, the code being tested
abbrev pub tested : Party → Ers → Bool → LinkRec → LinkRec → List Test
tested p m v l b = ers_front p m true true ++ (v, BadMac) ∷ (has_count l && has_count b, CountSpent) ∷ []

-- what was found, in the words of the row and of the key to test the code under

pub kept_found : (o : Option Answer) → is_some o ≡ true → (x : Answer) × (o ≡ Some x)
kept_found None h = absurd (cc)
kept_found (Some x) h = (x, refl)

pub rsi_is : (p : Party) (a : Arrival) (m : Rsi) (u : List ℕ) (l b : LinkRec) (moment : ℕ) → m.ultimate ≡ Some u → link_with (sends m.originator centre_label) p ≡ Some l → link_with (sends u centre_label) p ≡ Some b
    → rsi_between p a m u (Some l) (Some b) (good_draw p.generator moment) ≡ rsi p a m moment
rsi_is p a m u l b moment k f g = rw (k, f, g) refl

pub ers_is : (p : Party) (a : Arrival) (m : Ers) (x : Answer) (l b : LinkRec) (moment : ℕ) → answer_with (record { requester = m.originator; ultimate = m.ultimate }) p ≡ Some x → link_with (sends m.originator centre_label) p ≡ Some l → link_with (sends m.ultimate centre_label) p ≡ Some b
    → ers_between p a m (Some x) (Some l) (Some b) (good_draw p.generator moment) ≡ ers p a m moment
ers_is p a m x l b moment k f g = rw (k, f, g) refl

pub ers_lead_is : (p : Party) (a : Arrival) (m : Ers) (x : Answer) (l b : LinkRec) → answer_with (record { requester = m.originator; ultimate = m.ultimate }) p ≡ Some x → link_with (sends m.originator centre_label) p ≡ Some l → link_with (sends m.ultimate centre_label) p ≡ Some b
    → ers_lead p a m ≡ cond (tests_pass (ers_front p m true true)) (Some (lead_under a (answer_under p m.originator x.cta) x.value)) None
ers_lead_is p a m x l b k f g = rw (k, f, g) refl
