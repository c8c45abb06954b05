-- What is decided of a centre's answer whose tests before the code's hold.
use Rattle.std.proofs.Common.{◌≡◌, ◌⊎◌, inl, inr, ℕ, ◌+◌, ◌≤◌, Bool, true, false, Option, Some, None, IfSome, List, [], ◌∷◌, ◌++◌, length, refl, ap, subst, ◌∙◌, arith}
use Rattle.std.specs.Prelude.{is_none}
use Rattle.x_base.specs.Count.{IsCount}
use Rattle.x_base.specs.declared.verdict.Verdict.{Verdict}
use Rattle.x_base.specs.declared.verdict.Verdict.TheVariants.{NotForMe, UnknownPeer, NoExchange, Outstanding, UnknownKk, BadMac}
use Rattle.csm_grammar.specs.declared.message.Rtr.{Rtr}
use Rattle.csm_grammar.specs.declared.arrival.Arrival.{Arrival}
use Rattle.party_tables.specs.declared.link.LinkRec.{LinkRec}
use Rattle.party_state.specs.declared.edit.Edit.TheVariants.{PutLink}
use Rattle.party_tables.specs.declared.exchange.Via.{Via}
use Rattle.party_state.specs.declared.decision.Decision.{Decision}
use Rattle.party_state.specs.declared.decision.Lead.{Lead}
use Rattle.party_tables.specs.Ranges.{longest_text}
use Rattle.party_state.specs.State.{Party, exchange_with, knows}
use Rattle.party_state.specs.Verdicts.{Test, TestsHold, verdict_of, is_accept}
use Rattle.role_base.specs.Texts.{text_of, is_verified, lead_under}
use Rattle.role_base.specs.Conditions.{is_for, count_tests, has_key_room}
use Rattle.role_base.specs.Deciding.{decision_of, refusal_of, IsDecision, RefusesEarly}
use Rattle.role_base.specs.Standing.{LinkStands}
use Rattle.role_base.specs.Storable.{IsKeepable, AreKeepable}
use Rattle.role_base.proofs.Counted.{next_on}
use Rattle.role_base.proofs.Decided.{refuses}
use Rattle.role_base.proofs.Keeping.{link_room}
use Rattle.role_base.proofs.Failing.{fails_at}
use Rattle.role_base.proofs.Given.{given_none}
use Rattle.role_base.proofs.PartyLaws.{HeldIfAccepted}
use Rattle.role_base.proofs.Storable.{key_fits}
use Rattle.bank_keys.specs.declared.waits.KeyAtCentre.{KeyAtCentre}
use Rattle.bank_keys.specs.Waiting.{is_asked_in}
use Rattle.bank_keys.specs.Rtr.{centre_key, rtr_front, rtr_rest, passed_reply, used_edits, passed_on, brought_front, brought_value, brought, brought_under, brought_lead, translated_front, translated, translated_under, translated_lead}

-- the edits can be kept
pub passed_keepable : (p : Party) (m : Rtr) (used : Option LinkRec) (value : ℕ) (via : Via) → IfSome used (λ (l : LinkRec). IsKeepable p (PutLink l)) → has_key_room p (centre_key p m) ≡ true → length (text_of (passed_reply p m value)) ≤ longest_text → AreKeepable p (used_edits used ++ passed_on p m value via)
passed_keepable p m None value via u room short = record { each = (key_fits p (centre_key p m) room, (tt, (record { kind = tt; text = short }, tt))); order = refl }
passed_keepable p m (Some l) value via u room short = record { each = (u, (key_fits p (centre_key p m) room, (tt, (record { kind = tt; text = short }, tt)))); order = refl }

pub passed_few : (p : Party) (m : Rtr) (used : Option LinkRec) (value : ℕ) (via : Via) → length (used_edits used ++ passed_on p m value via) ≤ 9
passed_few p m None value via = omega arith
passed_few p m (Some l) value via = omega arith

-- the link behind the count at which the key came
pub used_keepable : (p : Party) (l used : LinkRec) (cta : ℕ) → LinkStands p l → IsCount cta → used ≡ record l { next = cta + 1 } → IsKeepable p (PutLink used)
used_keepable p l used cta st i e = rw e (next_on cta (cta + 1) i refl, link_room p l st)

-- an accepted answer has room for its key
pub brought_room : HeldIfAccepted → (p : Party) (m : Rtr) (k : ℕ × ℕ) (l : LinkRec) (code : Bool) (v : Verdict) → v ≡ verdict_of (brought_front p m (Some l) ++ (code, BadMac) ∷ (count_tests l k.1 ++ rtr_rest p m)) → is_accept v ≡ true → has_key_room p (centre_key p m) ≡ true
brought_room held p m k l code v e t =
    let h : TestsHold (brought_front p m (Some l) ++ (code, BadMac) ∷ (count_tests l k.1 ++ rtr_rest p m)) = held (brought_front p m (Some l) ++ (code, BadMac) ∷ (count_tests l k.1 ++ rtr_rest p m)) refl (rw (← e) t) in
    h.1.1.1.1.1.1.1.1.1.0

pub translated_room : HeldIfAccepted → (p : Party) (m : Rtr) (t : KeyAtCentre) (code : Bool) (v : Verdict) → v ≡ verdict_of (translated_front p m (Some t) ++ (code, BadMac) ∷ rtr_rest p m) → is_accept v ≡ true → has_key_room p (centre_key p m) ≡ true
translated_room held p m t code v e x =
    let h : TestsHold (translated_front p m (Some t) ++ (code, BadMac) ∷ rtr_rest p m) = held (translated_front p m (Some t) ++ (code, BadMac) ∷ rtr_rest p m) refl (rw (← e) x) in
    h.1.1.1.1.1.1.0

-- one for which no link or no key to test the code under is there

pub brought_early : (p : Party) (a : Arrival) (m : Rtr) (k : ℕ × ℕ) (o : Option LinkRec) (x : Option Lead) (front : List Test) (d : Decision) → x ≡ brought_lead p a m k o → front ≡ brought_front p m o → (o ≡ None) ⊎ (x ≡ None) → RefusesEarly front d → IsDecision p (brought p a m k o) d
brought_early p a m k None x front d l f w e =
    let g : RefusesEarly (brought_front p m None) d = subst (λ ts. RefusesEarly ts d) f e in
    g p (brought p a m k None) [] refl (fails_at (rtr_front p m (is_asked_in (exchange_with m.originator p) m.ultimate)) [] UnknownKk) refl refl
brought_early p a m k (Some y) x front d l f (inl n) e = absurd (cc)
brought_early p a m k (Some y) x front d l f (inr n) e =
    let g : RefusesEarly (brought_front p m (Some y)) d = subst (λ ts. RefusesEarly ts d) f e in
    g p (brought p a m k (Some y)) ((is_verified a (brought_value y k), BadMac) ∷ (count_tests y k.1 ++ rtr_rest p m)) refl (given_none _ (lead_under a (brought_under p m k.1) (brought_value y k)) x l n) refl refl

pub translated_early : (p : Party) (a : Arrival) (m : Rtr) (o : Option KeyAtCentre) (x : Option Lead) (front : List Test) (d : Decision) → x ≡ translated_lead p a m o → front ≡ translated_front p m o → (o ≡ None) ⊎ (x ≡ None) → RefusesEarly front d → IsDecision p (translated p a m o) d
translated_early p a m None x front d l f w e =
    let g : RefusesEarly (translated_front p m None) d = subst (λ ts. RefusesEarly ts d) f e in
    g p (translated p a m None) [] refl (fails_at ((is_for p m.receiver m.originator, NotForMe) ∷ (knows m.originator p, UnknownPeer) ∷ []) ((is_none (exchange_with m.ultimate p), Outstanding) ∷ []) NoExchange) refl refl
translated_early p a m (Some t) x front d l f (inl n) e = absurd (cc)
translated_early p a m (Some t) x front d l f (inr n) e =
    let g : RefusesEarly (translated_front p m (Some t)) d = subst (λ ts. RefusesEarly ts d) f e in
    g p (translated p a m (Some t)) ((is_verified a t.value, BadMac) ∷ rtr_rest p m) refl (given_none _ (lead_under a (translated_under p m t) t.value) x l n) refl refl

-- what is decided

brought_verdict : (p : Party) (a : Arrival) (m : Rtr) (k : ℕ × ℕ) (l : LinkRec) (x : Lead) (v : Verdict) → v ≡ verdict_of (brought_front p m (Some l) ++ (x.verified, BadMac) ∷ (count_tests l k.1 ++ rtr_rest p m)) → x ≡ lead_under a (brought_under p m k.1) (brought_value l k) → v ≡ (brought p a m k (Some l)).verdict
brought_verdict p a m k l x v e i = e ∙ ap (λ (y : Lead). verdict_of (brought_front p m (Some l) ++ (y.verified, BadMac) ∷ (count_tests l k.1 ++ rtr_rest p m))) i

pub brought_refuses : (p : Party) (a : Arrival) (m : Rtr) (k : ℕ × ℕ) (l : LinkRec) (x : Lead) (v : Verdict) → v ≡ verdict_of (brought_front p m (Some l) ++ (x.verified, BadMac) ∷ (count_tests l k.1 ++ rtr_rest p m)) → x ≡ lead_under a (brought_under p m k.1) (brought_value l k) → is_accept v ≡ false → refusal_of v ≡ decision_of p (brought p a m k (Some l))
brought_refuses p a m k l x v e i f = refuses p (brought p a m k (Some l)) v (brought_verdict p a m k l x v e i) f refl

translated_verdict : (p : Party) (a : Arrival) (m : Rtr) (t : KeyAtCentre) (x : Lead) (v : Verdict) → v ≡ verdict_of (translated_front p m (Some t) ++ (x.verified, BadMac) ∷ rtr_rest p m) → x ≡ lead_under a (translated_under p m t) t.value → v ≡ (translated p a m (Some t)).verdict
translated_verdict p a m t x v e i = e ∙ ap (λ (y : Lead). verdict_of (translated_front p m (Some t) ++ (y.verified, BadMac) ∷ rtr_rest p m)) i

pub translated_refuses : (p : Party) (a : Arrival) (m : Rtr) (t : KeyAtCentre) (x : Lead) (v : Verdict) → v ≡ verdict_of (translated_front p m (Some t) ++ (x.verified, BadMac) ∷ rtr_rest p m) → x ≡ lead_under a (translated_under p m t) t.value → is_accept v ≡ false → refusal_of v ≡ decision_of p (translated p a m (Some t))
translated_refuses p a m t x v e i f = refuses p (translated p a m (Some t)) v (translated_verdict p a m t x v e i) f refl
