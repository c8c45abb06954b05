-- What is decided of a response, by what was found.
use Rattle.std.proofs.Common.{◌≡◌, true, false, Option, Some, None, Result, IfOk, List, [], ◌∷◌, ◌++◌, refl, ap, ◌∙◌}
use Rattle.x_base.specs.declared.text.NoMemory.{NoMemory}
use Rattle.x_base.specs.declared.verdict.Verdict.{Verdict}
use Rattle.x_base.specs.declared.verdict.Verdict.TheVariants.{BadMac}
use Rattle.csm_grammar.specs.declared.arrival.Arrival.{Arrival}
use Rattle.party_state.specs.declared.edit.Edit.{Edit}
use Rattle.party_state.specs.declared.edit.Edit.TheVariants.{PutKey, DropExchange}
use Rattle.party_tables.specs.declared.key.KeyRec.{KeyRec}
use Rattle.party_tables.specs.declared.key.KeyStatus.TheVariants.{Live, Ended}
use Rattle.party_state.specs.declared.decision.Decision.{Decision}
use Rattle.party_state.specs.declared.decision.Lead.{Lead}
use Rattle.party_tables.specs.Names.{full_name}
use Rattle.party_state.specs.State.{Party}
use Rattle.party_state.specs.Verdicts.{verdict_of, is_accept}
use Rattle.party_state.specs.Rows.{Reply}
use Rattle.role_base.specs.Deciding.{decision_of, refusal_of, accepting}
use Rattle.role_base.specs.Replies.{AreWritten}
use Rattle.role_base.specs.Texts.{lead_under}
use Rattle.role_base.proofs.ByRow.{by_answered, by_accept}
use Rattle.x_base.specs.declared.key_name.KeyName.{KeyName}
use Rattle.csm_grammar.specs.declared.message.Rsm.{Rsm}
use Rattle.role_base.specs.declared.exchanges.Sent.{Sent}
use Rattle.role_base.specs.declared.exchanges.Twins.{Twins}
use Rattle.role_base.specs.Conditions.{answer_front}
use Rattle.party_tables.specs.Keys.{same_name}
use Rattle.role_base.specs.Exchanges.{readied, new_link, twins_value}
use Rattle.bank_arrivals.specs.Rsm.{rsm_to, rsm_twins, answer_to}

pub rsm_refuses : (p : Party) (a : Arrival) (m : Rsm) (s : Sent) (l : Lead) (v : Verdict) → v ≡ verdict_of (answer_front p m.receiver m.originator true ++ (l.verified, BadMac) ∷ []) → l ≡ lead_under a (full_name p.own s.key) s.key.value → is_accept v ≡ false → refusal_of v ≡ decision_of p (rsm_to p a m (Some s))
rsm_refuses p a m s l v e i f = by_answered p (rsm_to p a m (Some s)) v (e ∙ ap (λ (k : Lead). verdict_of (answer_front p m.receiver m.originator true ++ (k.verified, BadMac) ∷ [])) i) f

pub rsm_accepts : (p : Party) (a : Arrival) (m : Rsm) (s : Sent) (l : Lead) (v : Verdict) (es : List Edit) (made : Result Decision NoMemory) → v ≡ verdict_of (answer_front p m.receiver m.originator true ++ (l.verified, BadMac) ∷ []) → l ≡ lead_under a (full_name p.own s.key) s.key.value → is_accept v ≡ true → es ≡ readied (new_link p m.originator s.via) ++ PutKey (record s.key { status = Live }) ∷ DropExchange m.originator ∷ [] → IfOk made (λ d. (r : Option Reply) → AreWritten None r → d ≡ accepting p es r) → IfOk made (λ d. d ≡ decision_of p (rsm_to p a m (Some s)))
rsm_accepts p a m s l v es made e i t j k = by_accept p (rsm_to p a m (Some s)) v es made (e ∙ ap (λ (k : Lead). verdict_of (answer_front p m.receiver m.originator true ++ (k.verified, BadMac) ∷ [])) i) t j refl k

pub answer_refuses : (p : Party) (a : Arrival) (m : Rsm) (name : KeyName) (k : KeyRec) (l : Lead) (v : Verdict) → v ≡ verdict_of (answer_front p m.receiver m.originator (same_name name k.name) ++ (l.verified, BadMac) ∷ []) → l ≡ lead_under a (full_name p.own k) k.value → is_accept v ≡ false → refusal_of v ≡ decision_of p (answer_to p a m name (Some k))
answer_refuses p a m name k l v e i f = by_answered p (answer_to p a m name (Some k)) v (e ∙ ap (λ (x : Lead). verdict_of (answer_front p m.receiver m.originator (same_name name k.name) ++ (x.verified, BadMac) ∷ [])) i) f

pub answer_accepts : (p : Party) (a : Arrival) (m : Rsm) (name : KeyName) (k : KeyRec) (l : Lead) (v : Verdict) (es : List Edit) (made : Result Decision NoMemory) → v ≡ verdict_of (answer_front p m.receiver m.originator (same_name name k.name) ++ (l.verified, BadMac) ∷ []) → l ≡ lead_under a (full_name p.own k) k.value → is_accept v ≡ true → es ≡ PutKey (record k { status = Ended }) ∷ DropExchange m.originator ∷ [] → IfOk made (λ d. (r : Option Reply) → AreWritten None r → d ≡ accepting p es r) → IfOk made (λ d. d ≡ decision_of p (answer_to p a m name (Some k)))
answer_accepts p a m name k l v es made e i t j h = by_accept p (answer_to p a m name (Some k)) v es made (e ∙ ap (λ (x : Lead). verdict_of (answer_front p m.receiver m.originator (same_name name k.name) ++ (x.verified, BadMac) ∷ [])) i) t j refl h

pub twins_refuses : (p : Party) (a : Arrival) (m : Rsm) (t : Twins) (l : Lead) (v : Verdict) → v ≡ verdict_of (answer_front p m.receiver m.originator true ++ (l.verified, BadMac) ∷ []) → l ≡ lead_under a (full_name p.own t.first) (twins_value t) → is_accept v ≡ false → refusal_of v ≡ decision_of p (rsm_twins p a m t)
twins_refuses p a m t l v e i f = by_answered p (rsm_twins p a m t) v (e ∙ ap (λ (x : Lead). verdict_of (answer_front p m.receiver m.originator true ++ (x.verified, BadMac) ∷ [])) i) f

pub twins_accepts : (p : Party) (a : Arrival) (m : Rsm) (t : Twins) (l : Lead) (v : Verdict) (es : List Edit) (made : Result Decision NoMemory) → v ≡ verdict_of (answer_front p m.receiver m.originator true ++ (l.verified, BadMac) ∷ []) → l ≡ lead_under a (full_name p.own t.first) (twins_value t) → is_accept v ≡ true → es ≡ PutKey (record t.first { status = Live }) ∷ PutKey (record t.second { status = Live }) ∷ DropExchange m.originator ∷ [] → IfOk made (λ d. (r : Option Reply) → AreWritten None r → d ≡ accepting p es r) → IfOk made (λ d. d ≡ decision_of p (rsm_twins p a m t))
twins_accepts p a m t l v es made e i h j k = by_accept p (rsm_twins p a m t) v es made (e ∙ ap (λ (x : Lead). verdict_of (answer_front p m.receiver m.originator true ++ (x.verified, BadMac) ∷ [])) i) h j refl k
