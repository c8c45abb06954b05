-- There is no key to test the code of a message under exactly where it is refused before its code is looked at: no form
-- of these messages is closed by an error detection code.
use Rattle.std.proofs.Common.{◌≡◌, ◌↔◌, ◌⊎◌, ℕ, Bool, true, false, cond, Option, Some, None, List, [], ◌∷◌, ◌++◌, refl, sym, subst, ◌∙◌}
use Rattle.std.specs.Prelude.{is_none}
use Rattle.x_base.specs.declared.verdict.Verdict.TheVariants.{NotForMe, UnknownPeer, NoExchange, UnknownKk, BadMac}
use Rattle.csm_grammar.specs.declared.message.Message.{Message}
use Rattle.csm_grammar.specs.declared.message.Message.TheVariants as message
use Rattle.csm_grammar.specs.declared.message.KsmBody.{KsmBody}
use Rattle.csm_grammar.specs.declared.message.KsmBody.TheVariants as body
use Rattle.csm_grammar.specs.declared.message.NewKk.{NewKk}
use Rattle.csm_grammar.specs.declared.message.NewKk.TheVariants as new_kk
use Rattle.csm_grammar.specs.declared.message.Ksm.{Ksm}
use Rattle.csm_grammar.specs.declared.message.Rtr.{Rtr}
use Rattle.csm_grammar.specs.declared.parsed.Shut.{Shut}
use Rattle.csm_grammar.specs.declared.parsed.Shut.TheVariants as shuts
use Rattle.csm_grammar.specs.declared.arrival.Arrival.{Arrival}
use Rattle.csm_grammar.specs.declared.tag.Tag.TheVariants.{Edc}
use Rattle.csm_grammar.specs.Classes.{allows}
use Rattle.csm_grammar.specs.Arrivals.{AllArrived}
use Rattle.csm_grammar.specs.Messages.{form_of, shut_field}
use Rattle.party_tables.specs.declared.link.LinkRec.{LinkRec}
use Rattle.party_state.specs.declared.decision.Lead.{Lead}
use Rattle.party_tables.specs.Keys.{takes}
use Rattle.party_state.specs.State.{Party, centre_label, link_with, exchange_with, knows}
use Rattle.role_base.specs.Texts.{is_verified, is_plain, lead_under}
use Rattle.role_base.specs.Conditions.{is_for, body_issuer, count_tests}
use Rattle.role_base.specs.Errors.{is_early}
use Rattle.role_base.proofs.Early.{early_refusal, led}
use Rattle.role_base.proofs.Unled.{none_exactly}
use Rattle.bank_keys.specs.declared.waits.KeyAtCentre.{KeyAtCentre}
use Rattle.bank_keys.specs.Waiting.{waiting_with, is_asked_in}
use Rattle.bank_keys.specs.Ksm.{body_link, body_count, body_new, body_code, body_front, body_rest, key_row, key_arrives, key_found, key_lead_with, key_lead}
use Rattle.bank_keys.specs.Rtr.{rtr_front, rtr_rest, brought_front, brought_value, brought, brought_under, brought_lead, translated_front, translated, translated_under, translated_lead, rtr_with, rtr, rtr_lead_with, rtr_lead}
use Rattle.bank_keys.proofs.NewKeys.{has_room, behind_late}

key_led : (p : Party) (a : Arrival) (m : Ksm) (b : KsmBody) (o : Option LinkRec) → is_none (key_lead_with p a m b o) ≡ is_early (key_row p a m b o).verdict
key_led p a m b None = early_refusal ((is_for p m.receiver m.originator, NotForMe) ∷ (knows (body_issuer m.originator b) p, UnknownPeer) ∷ []) UnknownKk refl refl
key_led p a m b (Some l) =
    let value : ℕ = body_code l.pair m.originator p.own b in
    led (body_front p m b (Some l)) ((is_verified a value, BadMac) ∷ body_rest p m b l) (key_found p a m b l) refl (behind_late p m.originator l (body_count b) (body_new b) (is_verified a value) (has_room p m b l))

brought_led : (p : Party) (a : Arrival) (m : Rtr) (k : ℕ × ℕ) (o : Option LinkRec) → is_none (brought_lead p a m k o) ≡ is_early (brought p a m k o).verdict
brought_led p a m k None = early_refusal (rtr_front p m (is_asked_in (exchange_with m.originator p) m.ultimate)) UnknownKk refl refl
brought_led p a m k (Some l) = led (brought_front p m (Some l)) ((is_verified a (brought_value l k), BadMac) ∷ (count_tests l k.1 ++ rtr_rest p m)) (lead_under a (brought_under p m k.1) (brought_value l k)) refl refl

translated_led : (p : Party) (a : Arrival) (m : Rtr) (o : Option KeyAtCentre) → is_none (translated_lead p a m o) ≡ is_early (translated p a m o).verdict
translated_led p a m None = go (is_for p m.receiver m.originator) (knows m.originator p)
  where
    go : (x k : Bool) → true ≡ is_early (cond x (cond k NoExchange UnknownPeer) NotForMe)
    go true true = refl
    go true false = refl
    go false k = refl
translated_led p a m (Some t) = led (translated_front p m (Some t)) ((is_verified a t.value, BadMac) ∷ rtr_rest p m) (lead_under a (translated_under p m t) t.value) refl refl

rtr_led : (p : Party) (a : Arrival) (m : Rtr) (o : Option (ℕ × ℕ)) → is_none (rtr_lead_with p a m o) ≡ is_early (rtr_with p a m o).verdict
rtr_led p a m (Some k) = brought_led p a m k (link_with (takes m.originator centre_label) p)
rtr_led p a m None = translated_led p a m (waiting_with p m.originator)

-- the code that closes them

ksm_coded : (m : Ksm) (s : Shut) → allows (form_of (message.Ksm m)) (shut_field s).tag ≡ true → is_plain s ≡ false
ksm_coded m (shuts.Mac n) h = refl
ksm_coded m (shuts.Edc n) h = sym h ∙ by_body m.body
  where
    by_new : (idk2 : Option (List ℕ)) (label : List ℕ) (kd ctp : ℕ) (k : NewKk) → allows (form_of (message.Ksm (record m { body = body.Direct idk2 (Some (label, k)) kd ctp }))) Edc ≡ false
    by_new idk2 label kd ctp (new_kk.Double l r) = refl
    by_new idk2 label kd ctp (new_kk.Single k) = refl

    by_body : (b : KsmBody) → allows (form_of (message.Ksm (record m { body = b }))) Edc ≡ false
    by_body (body.Direct idk2 None kd ctp) = refl
    by_body (body.Direct idk2 (Some n) kd ctp) = by_new idk2 n.0 kd ctp n.1
    by_body (body.Centre centre kdu ctb) = refl
    by_body (body.Twin idk2 first second ctp) = refl

rtr_coded : (m : Rtr) (s : Shut) → allows (form_of (message.Rtr m)) (shut_field s).tag ≡ true → is_plain s ≡ false
rtr_coded m (shuts.Mac n) h = refl
rtr_coded m (shuts.Edc n) h = sym h ∙ by_key m.kd
  where
    by_key : (o : Option (ℕ × ℕ)) → allows (form_of (message.Rtr (record m { kd = o }))) Edc ≡ false
    by_key None = refl
    by_key (Some k) = refl

-- none is there exactly where it is refused early

coded : (o : Option Lead) (plain early : Bool) → plain ≡ false → is_none o ≡ early → (o ≡ None) ↔ ((plain ≡ true) ⊎ (early ≡ true))
coded o plain early h e = none_exactly o plain early (rw h e)

pub ksm_none : AllArrived → (p : Party) (a : Arrival) (m : Ksm) → a.parsed.message ≡ message.Ksm m → (key_lead p a m ≡ None) ↔ ((is_plain a.parsed.shut ≡ true) ⊎ (is_early (key_arrives p a m).verdict ≡ true))
ksm_none arrived p a m e =
    let allowed : allows (form_of (message.Ksm m)) (shut_field a.parsed.shut).tag ≡ true = subst (λ (x : Message). allows (form_of x) (shut_field a.parsed.shut).tag ≡ true) e (arrived a).allowed in
    coded (key_lead p a m) (is_plain a.parsed.shut) (is_early (key_arrives p a m).verdict) (ksm_coded m a.parsed.shut allowed) (key_led p a m m.body (body_link p m.originator m.body))

pub rtr_none : AllArrived → (p : Party) (a : Arrival) (m : Rtr) → a.parsed.message ≡ message.Rtr m → (rtr_lead p a m ≡ None) ↔ ((is_plain a.parsed.shut ≡ true) ⊎ (is_early (rtr p a m).verdict ≡ true))
rtr_none arrived p a m e =
    let allowed : allows (form_of (message.Rtr m)) (shut_field a.parsed.shut).tag ≡ true = subst (λ (x : Message). allows (form_of x) (shut_field a.parsed.shut).tag ≡ true) e (arrived a).allowed in
    coded (rtr_lead p a m) (is_plain a.parsed.shut) (is_early (rtr p a m).verdict) (rtr_coded m a.parsed.shut allowed) (rtr_led p a m m.kd)
