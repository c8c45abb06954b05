-- There is no key to test the code of an arrival under exactly where the arrival is closed by an error detection
-- code, or is refused before its code is looked at.
use Rattle.std.proofs.Common.{◌≡◌, ◌↔◌, ◌⊎◌, ℕ, Bool, true, false, ◌&&◌, ◌||◌, not, Option, Some, None, List, [], ◌∷◌, ◌++◌, refl, sym, bytes_eq}
use Rattle.std.specs.Prelude.{is_none}
use Rattle.std.proofs.lemmas.Bool.{or_right}
use Rattle.x_base.specs.declared.verdict.Verdict.{Verdict}
use Rattle.x_base.specs.declared.verdict.Verdict.TheVariants.{NoExchange, UnknownKk, BadMac, CountSpent, WeakDraws}
use Rattle.x_gen.specs.declared.generator.Gen.{Gen}
use Rattle.x_gen.specs.Gen.{good_draw}
use Rattle.csm_grammar.specs.declared.message.Message.{Message}
use Rattle.csm_grammar.specs.declared.message.Message.TheVariants as message
use Rattle.csm_grammar.specs.declared.message.Ers.{Ers}
use Rattle.csm_grammar.specs.declared.parsed.Shut.{Shut}
use Rattle.csm_grammar.specs.declared.parsed.Shut.TheVariants as shuts
use Rattle.csm_grammar.specs.declared.arrival.Arrival.{Arrival}
use Rattle.csm_grammar.specs.declared.form.Form.TheVariants.{F1, F10}
use Rattle.csm_grammar.specs.Classes.{allows}
use Rattle.csm_grammar.specs.Arrivals.{AllArrived}
use Rattle.csm_grammar.specs.Messages.{form_of, shut_field}
use Rattle.party_tables.specs.declared.answer.Answer.{Answer}
use Rattle.party_tables.specs.declared.link.LinkRec.{LinkRec}
use Rattle.party_tables.specs.Keys.{sends}
use Rattle.party_state.specs.State.{Party, centre_label, link_with, answer_with}
use Rattle.party_state.specs.Verdicts.{Test}
use Rattle.role_base.specs.Texts.{is_verified, is_plain, lead_under}
use Rattle.role_base.specs.Conditions.{has_count, body_issuer}
use Rattle.role_base.specs.Errors.{is_early}
use Rattle.role_base.proofs.Early.{early_refusal, led}
use Rattle.role_base.proofs.Unled.{other_early, none_exactly}
use Rattle.role_base.specs.Centres.{request_front}
use Rattle.role_base.proofs.CentresEarly.{unserved_early}
use Rattle.distribution_role.specs.Answering.{answer_under}
use Rattle.distribution_role.specs.Recovery.{ers_front, ers_between, ers, ers_lead_between, ers_lead}
use Rattle.distribution_role.specs.Rows.{distribution_message, distribution_lead}

ers_led : (p : Party) (a : Arrival) (m : Ers) (moment : ℕ) → is_none (ers_lead p a m) ≡ is_early (ers p a m moment).verdict
ers_led p a m moment = by_parts (answer_with (record { requester = m.originator; ultimate = m.ultimate }) p) (link_with (sends m.originator centre_label) p) (link_with (sends m.ultimate centre_label) p) (good_draw p.generator moment)
  where
    front : List Test
    front = request_front p m.receiver m.originator (not (bytes_eq m.ultimate m.originator))

    by_parts : (t : Option Answer) (o q : Option LinkRec) (d : Option (ℕ × Gen)) → is_none (ers_lead_between p a m t o q) ≡ is_early (ers_between p a m t o q d).verdict
    by_parts None o q d = early_refusal (front ++ (false, NoExchange) ∷ []) UnknownKk refl refl
    by_parts (Some t) None q d = early_refusal (front ++ (true, NoExchange) ∷ []) UnknownKk refl refl
    by_parts (Some t) (Some l) None d = early_refusal (front ++ (true, NoExchange) ∷ []) UnknownKk refl refl
    by_parts (Some t) (Some l) (Some b) None = led (ers_front p m true true) ((is_verified a t.value, BadMac) ∷ (has_count l && has_count b, CountSpent) ∷ (false, WeakDraws) ∷ []) (lead_under a (answer_under p m.originator t.cta) t.value) refl refl
    by_parts (Some t) (Some l) (Some b) (Some d) = led (ers_front p m true true) ((is_verified a t.value, BadMac) ∷ (has_count l && has_count b, CountSpent) ∷ (true, WeakDraws) ∷ []) (lead_under a (answer_under p m.originator t.cta) t.value) refl refl

-- the code that closes a message, by its class

ers_coded : (s : Shut) → allows F10 (shut_field s).tag ≡ true → is_plain s ≡ false
ers_coded (shuts.Mac n) h = refl
ers_coded (shuts.Edc n) h = sym h

rsi_plain : (s : Shut) → allows F1 (shut_field s).tag ≡ true → is_plain s ≡ true
rsi_plain (shuts.Mac n) h = h
rsi_plain (shuts.Edc n) h = refl

has_none : AllArrived → (p : Party) (a : Arrival) (moment : ℕ) → is_none (distribution_lead p a a.parsed.message) ≡ (is_plain a.parsed.shut || is_early (distribution_message p a a.parsed.message moment).verdict)
has_none arrived p a moment = by_message a.parsed.message (arrived a).allowed
  where
    refused_early : (early : Bool) → true ≡ early → true ≡ (is_plain a.parsed.shut || early)
    refused_early early e = sym (or_right _ _ (sym e))

    coded : (lead : Bool) (v : Verdict) → is_plain a.parsed.shut ≡ false → lead ≡ is_early v → lead ≡ (is_plain a.parsed.shut || is_early v)
    coded lead v h e = rw h e

    by_message : (m : Message) → allows (form_of m) (shut_field a.parsed.shut).tag ≡ true → is_none (distribution_lead p a m) ≡ (is_plain a.parsed.shut || is_early (distribution_message p a m moment).verdict)
    by_message (message.Rsi m) h = rw (rsi_plain a.parsed.shut h) refl
    by_message (message.Rfs m) h = refused_early _ (other_early p m.receiver m.originator m.originator)
    by_message (message.Rtr m) h = refused_early _ (other_early p m.receiver m.originator m.originator)
    by_message (message.Ksm m) h = refused_early _ (other_early p m.receiver m.originator (body_issuer m.originator m.body))
    by_message (message.Rsm m) h = refused_early _ (unserved_early p m.receiver m.originator)
    by_message (message.Ers m) h = coded _ (ers p a m moment).verdict (ers_coded a.parsed.shut h) (ers_led p a m moment)
    by_message (message.Esm m) h = refused_early _ (unserved_early p m.receiver m.originator)
    by_message (message.Dsm m) h = refused_early _ (unserved_early p m.receiver m.originator)

pub lead_none : AllArrived → (p : Party) (a : Arrival) (moment : ℕ) → (distribution_lead p a a.parsed.message ≡ None) ↔ ((is_plain a.parsed.shut ≡ true) ⊎ (is_early (distribution_message p a a.parsed.message moment).verdict ≡ true))
lead_none arrived p a moment = none_exactly (distribution_lead p a a.parsed.message) (is_plain a.parsed.shut) (is_early (distribution_message p a a.parsed.message moment).verdict) (has_none arrived p a moment)
