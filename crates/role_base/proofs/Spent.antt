-- Under a link whose counts are spent no key is sent.
use Rattle.std.proofs.Common.{◌≡◌, ℕ, ◌+◌, Bool, true, false, Result, Option, Some, None, List, [], ◌∷◌, ◌++◌, refl, sym, ap, ◌∙◌}
use Rattle.std.specs.Prelude.{nat_le}
use Rattle.std.proofs.lemmas.Bool.{false_from_ne_true, leb-true}
use Rattle.x_base.specs.Count.{IsCount}
use Rattle.x_base.specs.declared.verdict.Verdict.{Verdict}
use Rattle.x_base.specs.declared.verdict.Verdict.TheVariants.{CountSpent}
use Rattle.x_gen.specs.declared.generator.Gen.{Gen}
use Rattle.x_gen.specs.Gen.{good_draw}
use Rattle.party_tables.specs.declared.link.LinkRec.{LinkRec}
use Rattle.party_tables.specs.Ranges.{IsNextCount}
use Rattle.party_state.specs.State.{Party}
use Rattle.party_state.specs.Verdicts.{Test, verdict_of, is_accept, all_refuse}
use Rattle.role_base.specs.Conditions.{has_count}
use Rattle.role_base.specs.Deciding.{decision_of, refusal_of, Decides, AcceptsWith}
use Rattle.role_base.specs.Texts.{text_of}
use Rattle.role_base.specs.Sending.{sending, sending_drawn, sending_tests, sent_edits, data_key_reply, next_name}
use Rattle.x_base.specs.declared.key_name.KeyName.{KeyName}
use Rattle.x_base.specs.declared.text.NoMemory.{NoMemory}
use Rattle.party_state.specs.declared.decision.Decision.{Decision}
use Rattle.party_tables.specs.declared.key.KeyRec.{KeyRec}
use Rattle.party_tables.specs.declared.key.KeyStatus.TheVariants.{Pending}
use Rattle.party_state.specs.declared.edit.Edit.TheVariants.{SetGen, PutLink, PutKey, PutExchange}
use Rattle.party_tables.specs.declared.exchange.Kind.TheVariants as kind
use Rattle.party_tables.specs.declared.exchange.Via.TheVariants as vias
use Rattle.role_base.proofs.Failing.{stopped, unspent}
use Rattle.role_base.proofs.ByRow.{by_refused}
use Rattle.role_base.proofs.Decided.{refuses, decides_with}

pub not_counted : (l : LinkRec) → IsNextCount l.next → (IsCount l.next → ⊥) → has_count l ≡ false
not_counted l n none = false_from_ne_true (nat_le l.next 99999999999999) (λ t. none (record { low = n.low; high = leb-true l.next 99999999999999 t }))

-- a count that is spent is told before the tests behind it
pub spent_first : (front us : List Test) (b : Bool) (v : Verdict) → b ≡ false → v ≡ verdict_of (front ++ (false, CountSpent) ∷ []) → v ≡ verdict_of (front ++ (b, CountSpent) ∷ us)
spent_first front us true v h e = cc
spent_first front us false v h e = e ∙ sym (stopped front us CountSpent)

pub spent : (p : Party) (front : List Test) (l : LinkRec) (moment : ℕ) (v : Verdict) → all_refuse front ≡ true → has_count l ≡ false → v ≡ verdict_of (front ++ (false, CountSpent) ∷ []) → refusal_of v ≡ decision_of p (sending p front l moment)
spent p front l moment v r h e = go (good_draw p.generator moment)
  where
    go : (o : Option (ℕ × Gen)) → refusal_of v ≡ decision_of p (sending_drawn p front l o)
    go None = ap refusal_of (spent_first front _ (has_count l) v h e) ∙ by_refused p (verdict_of (front ++ sending_tests p l None))
    go (Some d) = refuses p (sending_drawn p front l (Some d)) v (spent_first front _ (has_count l) v h e) (rw e (unspent front r)) refl

-- what is decided with what was drawn

pub drawn_refused : (p : Party) (front : List Test) (l : LinkRec) (o : Option (ℕ × Gen)) (v : Verdict) → v ≡ verdict_of (front ++ sending_tests p l o) → is_accept v ≡ false → refusal_of v ≡ decision_of p (sending_drawn p front l o)
drawn_refused p front l None v e f = ap refusal_of e ∙ by_refused p (verdict_of (front ++ sending_tests p l None))
drawn_refused p front l (Some d) v e f = refuses p (sending_drawn p front l (Some d)) v e f refl

pub drawn_none : (p : Party) (front : List Test) (l : LinkRec) (o : Option (ℕ × Gen)) (v : Verdict) → o ≡ None → v ≡ verdict_of (front ++ sending_tests p l o) → refusal_of v ≡ decision_of p (sending_drawn p front l o)
drawn_none p front l None v i e = ap refusal_of e ∙ by_refused p (verdict_of (front ++ sending_tests p l None))
drawn_none p front l (Some d) v i e = cc

pub drawn_sent : (result : Result Decision NoMemory) (p : Party) (front : List Test) (l : LinkRec) (o : Option (ℕ × Gen)) (key : ℕ) (after : Gen) (v : Verdict) → o ≡ Some (key, after)
    → AcceptsWith p (sent_edits p l key after.v) (Some (data_key_reply p l key)) result → v ≡ verdict_of (front ++ sending_tests p l o) → is_accept v ≡ true
    → Decides p (sending_drawn p front l o) result
drawn_sent result p front l None key after v i h e t = cc
drawn_sent result p front l (Some d) key after v i h e t =
    let j : d ≡ (key, after) = cc in
    decides_with result p (sending_drawn p front l (Some d)) v (rw j h) e t

pub sent_same : (p : Party) (l used : LinkRec) (key v : ℕ) (sent : KeyRec) (name : KeyName) (text : List ℕ) → used ≡ record l { next = l.next + 1 }
    → sent ≡ record { peer = l.peer; name = name; value = key; status = Pending } → name ≡ next_name p l → text ≡ text_of (data_key_reply p l key)
    → (SetGen v ∷ PutLink used ∷ PutKey sent ∷ PutExchange (record { peer = l.peer; kind = kind.KeySent name (vias.Direct l.label None); text = text }) ∷ []) ≡ sent_edits p l key v
sent_same p l used key v sent name text a b c t = rw (a, b, c, t) refl
