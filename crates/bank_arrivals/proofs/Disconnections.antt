-- What is decided of a disconnection, by the keys that it names.
use Rattle.std.proofs.Common.{◌≡◌, ◌+◌, Bool, true, false, bytes_eq, Option, Some, Result, IfOk, List, [], ◌∷◌, ◌++◌, refl, ap, subst, ◌∙◌}
use Rattle.std.specs.Prelude.{◌==◌, ◌&&◌}
use Rattle.std.proofs.lemmas.Bool.{false_from_ne_true}
use Rattle.std.proofs.lemmas.Bool.Decides.{Decides-eqb}
use Rattle.x_base.specs.Count.{IsCount}
use Rattle.x_base.specs.declared.key_name.KeyName.{KeyName}
use Rattle.x_base.specs.declared.text.NoMemory.{NoMemory}
use Rattle.x_base.specs.declared.verdict.Verdict.{Verdict}
use Rattle.x_base.specs.declared.verdict.Verdict.TheVariants.{BadMac}
use Rattle.csm_grammar.specs.declared.arrival.Arrival.{Arrival}
use Rattle.party_state.specs.declared.edit.Edit.{Edit}
use Rattle.party_state.specs.declared.decision.Decision.{Decision}
use Rattle.party_state.specs.declared.decision.Lead.{Lead}
use Rattle.party_tables.specs.Keys.{same_name}
use Rattle.party_tables.specs.Names.{full_name, name_behind}
use Rattle.party_state.specs.State.{Party}
use Rattle.party_state.specs.Verdicts.{verdict_of, is_accept}
use Rattle.party_state.specs.Rows.{Reply, Coded}
use Rattle.role_base.specs.Deciding.{decision_of, refusal_of, accepting}
use Rattle.role_base.specs.Replies.{AreWritten, IsWritten}
use Rattle.role_base.specs.declared.texts.Written.{Written}
use Rattle.role_base.specs.Texts.{lead_under}
use Rattle.role_base.proofs.ByRow.{by_answered, by_accept_with}
use Rattle.csm_grammar.specs.declared.message.Dsm.{Dsm}
use Rattle.bank_arrivals.specs.declared.disconnection.NamedKey.{NamedKey}
use Rattle.bank_arrivals.specs.Dsm.{dsm_front, disconnected, dsm_response, dsm_on}

pub dsm_refuses : (p : Party) (a : Arrival) (m : Dsm) (n : NamedKey) (l : Lead) (v : Verdict) → v ≡ verdict_of (dsm_front p m true ++ (l.verified, BadMac) ∷ []) → l ≡ lead_under a (full_name p.own n.by) n.by.value → is_accept v ≡ false → refusal_of v ≡ decision_of p (dsm_on p a m (Some n))
dsm_refuses p a m n l v e i f = by_answered p (dsm_on p a m (Some n)) v (e ∙ ap (λ (k : Lead). verdict_of (dsm_front p m true ++ (k.verified, BadMac) ∷ [])) i) f

pub dsm_accepts : (p : Party) (a : Arrival) (m : Dsm) (n : NamedKey) (l : Lead) (v : Verdict) (es : List Edit) (w : Written) (made : Result Decision NoMemory) → v ≡ verdict_of (dsm_front p m true ++ (l.verified, BadMac) ∷ []) → l ≡ lead_under a (full_name p.own n.by) n.by.value → is_accept v ≡ true → es ≡ disconnected p m.originator n.key → IsWritten w (Coded (dsm_response p n.key) (full_name p.own n.key) n.key.value) → IfOk made (λ d. (r : Option Reply) → AreWritten (Some w) r → d ≡ accepting p es r) → IfOk made (λ d. d ≡ decision_of p (dsm_on p a m (Some n)))
dsm_accepts p a m n l v es w made e i t j written k = by_accept_with p (dsm_on p a m (Some n)) v es w (Coded (dsm_response p n.key) (full_name p.own n.key) n.key.value) made (e ∙ ap (λ (k : Lead). verdict_of (dsm_front p m true ++ (k.verified, BadMac) ∷ [])) i) t j refl written k

-- a name with a count isn't the one behind the last count

last_of : (a b c d : Bool) → (a && (b && (c && d))) ≡ true → d ≡ true
last_of true true true d h = h
last_of true true false d h = cc
last_of true false c d h = cc
last_of false b c d h = cc

same_count : (a b : KeyName) → same_name a b ≡ true → a.count ≡ b.count
same_count a b t = (Decides-eqb a.count b.count).0 (last_of (bytes_eq a.issuer b.issuer) (bytes_eq a.originator b.originator) (bytes_eq a.label b.label) (a.count == b.count) t)

pub not_behind : (n sent : KeyName) → IsCount n.count → (IsCount (sent.count + 1) → ⊥) → same_name n (name_behind sent) ≡ false
not_behind n sent c last = false_from_ne_true (same_name n (name_behind sent)) (λ t. last (subst IsCount (same_count n (name_behind sent) t) c))
