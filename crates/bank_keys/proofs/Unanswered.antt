-- A refusal before the code is looked at.
use Rattle.std.proofs.Common.{◌≡◌, ◌⊎◌, inl, inr, Bool, true, false, cond, ◌&&◌, Option, Some, None, List, [], ◌∷◌, refl, subst}
use Rattle.std.proofs.lemmas.Bool.{true≢false}
use Rattle.x_base.specs.declared.verdict.Verdict.TheVariants.{NotForMe, UnknownPeer, UnknownKk, BadMac}
use Rattle.csm_grammar.specs.declared.arrival.Arrival.{Arrival}
use Rattle.csm_grammar.specs.declared.message.Ksm.{Ksm}
use Rattle.csm_grammar.specs.declared.message.KsmBody.{KsmBody}
use Rattle.party_tables.specs.declared.link.LinkRec.{LinkRec}
use Rattle.party_state.specs.declared.decision.Decision.{Decision}
use Rattle.party_state.specs.declared.decision.Lead.{Lead}
use Rattle.party_state.specs.State.{Party, knows}
use Rattle.party_state.specs.Verdicts.{Test, verdict_of, tests_pass}
use Rattle.role_base.specs.Texts.{is_verified}
use Rattle.role_base.specs.Conditions.{is_for, body_issuer}
use Rattle.role_base.specs.Errors.{coded_under}
use Rattle.role_base.specs.Deciding.{IsDecision, RefusesEarly}
use Rattle.role_base.proofs.Failing.{fails_at}
use Rattle.role_base.proofs.Given.{given_none}
use Rattle.bank_keys.specs.Ksm.{body_name, body_code, body_front, body_rest, body_error, key_row, key_found, key_lead_with}

-- a key service message that is refused before its code is looked at isn't answered
pub key_unanswered : (p : Party) (a : Arrival) (m : Ksm) (b : KsmBody) (l : LinkRec) → tests_pass (body_front p m b (Some l)) ≡ false → (key_row p a m b (Some l)).answer ≡ None
key_unanswered p a m b l f = go (is_for p m.receiver m.originator) (knows (body_issuer m.originator b) p) f
  where
    rest : List Test
    rest = (is_verified a (body_code l.pair m.originator p.own b), BadMac) ∷ body_rest p m b l

    go : (x k : Bool) → (x && (k && true)) ≡ false → coded_under (body_name p m.originator b l) (body_code l.pair m.originator p.own b) (body_error p m.originator b (cond x (cond k (verdict_of rest) UnknownPeer) NotForMe)) ≡ None
    go true true h = absurd (true≢false h)
    go true false h = refl
    go false k h = refl

-- one for which no link or no key to test the code under is there
pub key_early : (p : Party) (a : Arrival) (m : Ksm) (b : KsmBody) (o : Option LinkRec) (x : Option Lead) (front : List Test) (d : Decision) → x ≡ key_lead_with p a m b o → front ≡ body_front p m b o → (o ≡ None) ⊎ (x ≡ None) → RefusesEarly front d → IsDecision p (key_row p a m b o) d
key_early p a m b None x front d l f w e =
    let g : RefusesEarly (body_front p m b None) d = subst (λ ts. RefusesEarly ts d) f e in
    g p (key_row p a m b None) [] refl (fails_at ((is_for p m.receiver m.originator, NotForMe) ∷ (knows (body_issuer m.originator b) p, UnknownPeer) ∷ []) [] UnknownKk) refl refl
key_early p a m b (Some k) x front d l f (inl n) e = absurd (cc)
key_early p a m b (Some k) x front d l f (inr n) e =
    let g : RefusesEarly (body_front p m b (Some k)) d = subst (λ ts. RefusesEarly ts d) f e in
    let value = body_code k.pair m.originator p.own b in
    let fails : tests_pass (body_front p m b (Some k)) ≡ false = given_none _ (key_found p a m b k) x l n in
    g p (key_row p a m b (Some k)) ((is_verified a value, BadMac) ∷ body_rest p m b k) refl fails refl (key_unanswered p a m b k fails)
