-- A centre that is asked: what is decided, and that it can be kept.
use Rattle.std.proofs.Common.{arith, ◌≡◌, ℕ, ◌+◌, true, false, Result, Option, Some, None, List, [], ◌∷◌, ◌++◌, refl, ap, ◌∙◌}
use Rattle.x_base.specs.Count.{IsCount}
use Rattle.x_base.specs.declared.text.NoMemory.{NoMemory}
use Rattle.x_base.specs.declared.verdict.Verdict.{Verdict}
use Rattle.x_base.specs.declared.verdict.Verdict.TheVariants.{CountSpent, WeakDraws}
use Rattle.x_gen.specs.declared.generator.Gen.{Gen}
use Rattle.party_state.specs.declared.decision.Decision.{Decision}
use Rattle.party_tables.specs.declared.link.LinkRec.{LinkRec}
use Rattle.party_tables.specs.declared.exchange.Exchange.{Exchange}
use Rattle.party_tables.specs.declared.exchange.Kind.TheVariants as kind
use Rattle.party_state.specs.declared.edit.Edit.TheVariants.{SetGen, PutLink, PutExchange}
use Rattle.party_tables.specs.Ranges.{IsFittingExchange}
use Rattle.party_state.specs.State.{Party}
use Rattle.party_state.specs.Rows.{Plain}
use Rattle.party_state.specs.Verdicts.{verdict_of, is_accept}
use Rattle.role_base.specs.Conditions.{has_count}
use Rattle.role_base.specs.Deciding.{decision_of, refusal_of, Decides, AcceptsWith}
use Rattle.role_base.specs.Standing.{LinkStands}
use Rattle.role_base.specs.Storable.{AreKeepable}
use Rattle.role_base.specs.Texts.{text_of}
use Rattle.role_base.proofs.ByRow.{by_refused}
use Rattle.role_base.proofs.Decided.{refuses, decides_with}
use Rattle.role_base.proofs.Failing.{unspent}
use Rattle.role_base.proofs.Keeping.{link_room}
use Rattle.role_base.proofs.Spent.{spent_first}
use Rattle.bank_orders.specs.Ask.{centre_request, centre_front, asked_edits}
use Rattle.bank_orders.specs.Translate.{translate_tests, translate_reply, translate_edits, translate_drawn}

pub asked_keepable : (p : Party) (e : Exchange) → IsFittingExchange e → AreKeepable p (PutExchange e ∷ [])
asked_keepable p e fits = record { each = (fits, tt); order = refl }

pub asked_same : (p : Party) (centre u text : List ℕ) (x : Exchange) → x ≡ record { peer = centre; kind = kind.Asked u; text = text } → text ≡ text_of (Plain (centre_request p centre u)) → (PutExchange x ∷ []) ≡ asked_edits p centre u
asked_same p centre u text x i t = rw (i, t) refl

pub translate_same : (p : Party) (centre u : List ℕ) (l : LinkRec) (n key v : ℕ) (text : List ℕ) → n ≡ l.next → text ≡ text_of (translate_reply p centre u l key)
    → (SetGen v ∷ PutLink (record l { next = l.next + 1 }) ∷ PutExchange (record { peer = centre; kind = kind.Translating u key n; text = text }) ∷ []) ≡ translate_edits p centre u l key v
translate_same p centre u l n key v text i t = rw (i, t) refl

pub translated_keepable : (p : Party) (l : LinkRec) (e : Exchange) (v n : ℕ) → LinkStands p l → IsCount l.next → n ≡ l.next → IsFittingExchange e → AreKeepable p (SetGen v ∷ PutLink (record l { next = n + 1 }) ∷ PutExchange e ∷ [])
translated_keepable p l e v n s c i fits =
    let low = c.low in
    let high = c.high in
    record {
      each = (tt, ((record { low = omega (arith, low, i); high = omega (arith, high, i) }, link_room p l s), (fits, tt)));
      order = refl;
    }

-- under a link whose counts are spent nothing is sent
pub translate_spent : (p : Party) (centre u : List ℕ) (l : LinkRec) (o : Option (ℕ × Gen)) (v : Verdict) → has_count l ≡ false → v ≡ verdict_of (centre_front p centre u ++ (false, CountSpent) ∷ []) → refusal_of v ≡ decision_of p (translate_drawn p centre u l o)
translate_spent p centre u l None v h e = ap refusal_of (spent_first (centre_front p centre u) ((false, WeakDraws) ∷ []) (has_count l) v h e) ∙ by_refused p (verdict_of (centre_front p centre u ++ translate_tests l None))
translate_spent p centre u l (Some d) v h e = refuses p (translate_drawn p centre u l (Some d)) v (spent_first (centre_front p centre u) ((true, WeakDraws) ∷ []) (has_count l) v h e) (rw e (unspent (centre_front p centre u) refl)) refl

-- what is decided with what was drawn

pub translate_refused : (p : Party) (centre u : List ℕ) (l : LinkRec) (o : Option (ℕ × Gen)) (v : Verdict) → v ≡ verdict_of (centre_front p centre u ++ translate_tests l o) → is_accept v ≡ false → refusal_of v ≡ decision_of p (translate_drawn p centre u l o)
translate_refused p centre u l None v e f = ap refusal_of e ∙ by_refused p (verdict_of (centre_front p centre u ++ translate_tests l None))
translate_refused p centre u l (Some d) v e f = refuses p (translate_drawn p centre u l (Some d)) v e f refl

pub translate_undrawn : (p : Party) (centre u : List ℕ) (l : LinkRec) (o : Option (ℕ × Gen)) (v : Verdict) → o ≡ None → v ≡ verdict_of (centre_front p centre u ++ translate_tests l o) → refusal_of v ≡ decision_of p (translate_drawn p centre u l o)
translate_undrawn p centre u l None v i e = ap refusal_of e ∙ by_refused p (verdict_of (centre_front p centre u ++ translate_tests l None))
translate_undrawn p centre u l (Some d) v i e = cc

pub translate_sent : (result : Result Decision NoMemory) (p : Party) (centre u : List ℕ) (l : LinkRec) (o : Option (ℕ × Gen)) (key : ℕ × Gen) (v : Verdict) → o ≡ Some key
    → AcceptsWith p (translate_edits p centre u l key.0 key.1.v) (Some (translate_reply p centre u l key.0)) result → v ≡ verdict_of (centre_front p centre u ++ translate_tests l o) → is_accept v ≡ true
    → Decides p (translate_drawn p centre u l o) result
translate_sent result p centre u l None key v i h e t = cc
translate_sent result p centre u l (Some d) key v i h e t =
    let j : d ≡ key = cc in
    decides_with result p (translate_drawn p centre u l (Some d)) v (rw j h) e t
