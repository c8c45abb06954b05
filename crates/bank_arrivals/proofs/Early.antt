-- There is no key to test the code of an arrival under exactly where the arrival is closed by an error detection
-- code, or is refused before its code is looked at.
use Rattle.std.proofs.Common.{◌≡◌, ◌↔◌, ◌⊎◌, inl, inr, Bool, true, false, cond, ◌||◌, Option, Some, None, [], ◌∷◌, refl, sym, ap, ◌∙◌}
use Rattle.std.specs.Prelude.{is_none}
use Rattle.std.proofs.lemmas.Bool.{or_cases, or_left, or_right}
use Rattle.x_base.specs.declared.verdict.Verdict.{Verdict}
use Rattle.x_base.specs.declared.verdict.Verdict.TheVariants.{NotForMe, NoExchange, UnknownKey, BadMac}
use Rattle.x_base.specs.declared.key_name.KeyName.{KeyName}
use Rattle.csm_grammar.specs.declared.message.Message.{Message}
use Rattle.csm_grammar.specs.declared.message.Message.TheVariants as message
use Rattle.csm_grammar.specs.declared.message.Rsi.{Rsi}
use Rattle.csm_grammar.specs.declared.message.Rsm.{Rsm}
use Rattle.csm_grammar.specs.declared.message.Esm.{Esm}
use Rattle.csm_grammar.specs.declared.message.Dsm.{Dsm}
use Rattle.csm_grammar.specs.declared.parsed.Shut.{Shut}
use Rattle.csm_grammar.specs.declared.parsed.Shut.TheVariants as shuts
use Rattle.csm_grammar.specs.declared.arrival.Arrival.{Arrival}
use Rattle.csm_grammar.specs.declared.form.Form.TheVariants.{F1, F9, F12}
use Rattle.csm_grammar.specs.Classes.{allows}
use Rattle.csm_grammar.specs.Arrivals.{AllArrived}
use Rattle.csm_grammar.specs.Messages.{form_of, shut_field}
use Rattle.party_tables.specs.declared.key.KeyRec.{KeyRec}
use Rattle.party_state.specs.declared.decision.Lead.{Lead}
use Rattle.party_state.specs.State.{Party}
use Rattle.party_tables.specs.Names.{full_name}
use Rattle.party_state.specs.Verdicts.{Test}
use Rattle.role_base.specs.declared.exchanges.Sent.{Sent}
use Rattle.role_base.specs.declared.exchanges.Twins.{Twins}
use Rattle.bank_arrivals.specs.declared.asking_again.Retry.{Retry}
use Rattle.bank_arrivals.specs.declared.error_message.ErrorSubject.{ErrorSubject}
use Rattle.bank_arrivals.specs.declared.disconnection.NamedKey.{NamedKey}
use Rattle.role_base.specs.Texts.{is_verified, is_plain, lead_under}
use Rattle.role_base.specs.Conditions.{is_for}
use Rattle.role_base.specs.Exchanges.{sent_to, twins_to, twins_value, ending_with}
use Rattle.bank_arrivals.specs.Rsm.{rsm_front, rsm_to, rsm_lead_to, twins_front, rsm_by, rsm_lead_by, end_front, answer_to, answer_lead_to, rsm_with, rsm_lead_with, rsm, rsm_lead}
use Rattle.bank_arrivals.specs.Esm.{subject_with, subject_name, subject_value, esm_front, error_of, error_with, error, esm_lead_of, esm_lead}
use Rattle.bank_arrivals.specs.AskingAgain.{retry_in}
use Rattle.bank_arrivals.specs.Dsm.{named_by, dsm_front, dsm_on, dsm_lead_on, dsm, dsm_lead}
use Rattle.role_base.specs.Errors.{is_early}
use Rattle.role_base.proofs.Early.{early_refusal, led}

-- there is no key exactly then
abbrev IsLed : Arrival → Option Lead → Verdict → Type 0
IsLed a lead v = (lead ≡ None) ↔ ((is_plain a.parsed.shut ≡ true) ⊎ (is_early v ≡ true))

-- by class

rsm_led : (p : Party) (a : Arrival) (m : Rsm) → is_none (rsm_lead p a m) ≡ is_early (rsm p a m).verdict
rsm_led p a m = by_name m.idd
  where
    for_me : Test
    for_me = (is_for p m.receiver m.originator, NotForMe)

    sent : (o : Option Sent) → is_none (rsm_lead_to p a m o) ≡ is_early (rsm_to p a m o).verdict
    sent None = early_refusal (for_me ∷ []) NoExchange refl refl
    sent (Some s) = led (rsm_front p m (Some s)) ((is_verified a s.key.value, BadMac) ∷ []) (lead_under a (full_name p.own s.key) s.key.value) refl refl

    by_twins : (o : Option Twins) → is_none (rsm_lead_by p a m o) ≡ is_early (rsm_by p a m o).verdict
    by_twins None = sent (sent_to p m.originator)
    by_twins (Some t) = led (twins_front p m) ((is_verified a (twins_value t), BadMac) ∷ []) (lead_under a (full_name p.own t.first) (twins_value t)) refl refl

    ending : (name : KeyName) (o : Option KeyRec) → is_none (answer_lead_to p a m name o) ≡ is_early (answer_to p a m name o).verdict
    ending name None = early_refusal (for_me ∷ []) NoExchange refl refl
    ending name (Some k) = led (end_front p m name (Some k)) ((is_verified a k.value, BadMac) ∷ []) (lead_under a (full_name p.own k) k.value) refl refl

    by_name : (o : Option KeyName) → is_none (rsm_lead_with p a m o) ≡ is_early (rsm_with p a m o).verdict
    by_name None = by_twins (twins_to p m.originator)
    by_name (Some name) = ending name (ending_with p m.originator)

esm_led : (p : Party) (a : Arrival) (m : Esm) → is_none (esm_lead p a m) ≡ (is_plain a.parsed.shut || is_early (error p a m).verdict)
esm_led p a m = go (is_plain a.parsed.shut)
  where
    again : Option Retry
    again = retry_in p (subject_with p m.originator) m.ctr

    of : (o : Option ErrorSubject) → is_none (esm_lead_of p a m o) ≡ is_early (error_of p a m o again).verdict
    of None = early_refusal ((is_for p m.receiver m.originator, NotForMe) ∷ []) NoExchange refl refl
    of (Some s) = led (esm_front p m (Some s)) ((is_verified a (subject_value s), BadMac) ∷ []) (lead_under a (subject_name p m.originator s) (subject_value s)) refl refl

    go : (b : Bool) → is_none (cond b None (esm_lead_of p a m (subject_with p m.originator))) ≡ (b || is_early (error_with p a m b again).verdict)
    go true = refl
    go false = of (subject_with p m.originator)

dsm_led : (p : Party) (a : Arrival) (m : Dsm) → is_none (dsm_lead p a m) ≡ is_early (dsm p a m).verdict
dsm_led p a m = on (named_by p m)
  where
    on : (o : Option NamedKey) → is_none (dsm_lead_on p a m o) ≡ is_early (dsm_on p a m o).verdict
    on None = early_refusal ((is_for p m.receiver m.originator, NotForMe) ∷ []) UnknownKey refl refl
    on (Some n) = led (dsm_front p m true) ((is_verified a n.by.value, BadMac) ∷ []) (lead_under a (full_name p.own n.by) n.by.value) refl refl

-- the code that closes a message, by its class

rsm_coded : (s : Shut) → allows F9 (shut_field s).tag ≡ true → is_plain s ≡ false
rsm_coded (shuts.Mac n) h = refl
rsm_coded (shuts.Edc n) h = sym h

dsm_coded : (s : Shut) → allows F12 (shut_field s).tag ≡ true → is_plain s ≡ false
dsm_coded (shuts.Mac n) h = refl
dsm_coded (shuts.Edc n) h = sym h

rsi_plain : (s : Shut) → allows F1 (shut_field s).tag ≡ true → is_plain s ≡ true
rsi_plain (shuts.Mac n) h = h
rsi_plain (shuts.Edc n) h = refl

-- no key is there, exactly then

none_is : (o : Option Lead) → is_none o ≡ true → o ≡ None
none_is None h = refl
none_is (Some l) h = cc

missing : (a : Arrival) (lead : Option Lead) (v : Verdict) → is_none lead ≡ (is_plain a.parsed.shut || is_early v) → IsLed a lead v
missing a lead v e = (
  λ f. or_cases _ _ (sym e ∙ ap is_none f),
  λ h. none_is lead (e ∙ either h),
)
  where
    either : (is_plain a.parsed.shut ≡ true) ⊎ (is_early v ≡ true) → (is_plain a.parsed.shut || is_early v) ≡ true
    either (inl h) = or_left _ _ h
    either (inr h) = or_right _ _ h

coded : (a : Arrival) (lead : Option Lead) (v : Verdict) → is_plain a.parsed.shut ≡ false → is_none lead ≡ is_early v → IsLed a lead v
coded a lead v h e = missing a lead v (rw h e)

-- the form of a message allows the code that closes it
closed : AllArrived → (a : Arrival) (m : Message) → a.parsed.message ≡ m → allows (form_of m) (shut_field a.parsed.shut).tag ≡ true
closed arrived a m e = rw e at (arrived a).allowed

pub rsi_closed : AllArrived → (a : Arrival) (m : Rsi) → a.parsed.message ≡ message.Rsi m → is_plain a.parsed.shut ≡ true
rsi_closed arrived a m e = rsi_plain a.parsed.shut (closed arrived a (message.Rsi m) e)

pub rsm_missing : AllArrived → (p : Party) (a : Arrival) (m : Rsm) → a.parsed.message ≡ message.Rsm m → IsLed a (rsm_lead p a m) (rsm p a m).verdict
rsm_missing arrived p a m e = coded a (rsm_lead p a m) (rsm p a m).verdict (rsm_coded a.parsed.shut (closed arrived a (message.Rsm m) e)) (rsm_led p a m)

pub esm_missing : (p : Party) (a : Arrival) (m : Esm) → IsLed a (esm_lead p a m) (error p a m).verdict
esm_missing p a m = missing a (esm_lead p a m) (error p a m).verdict (esm_led p a m)

pub dsm_missing : AllArrived → (p : Party) (a : Arrival) (m : Dsm) → a.parsed.message ≡ message.Dsm m → IsLed a (dsm_lead p a m) (dsm p a m).verdict
dsm_missing arrived p a m e = coded a (dsm_lead p a m) (dsm p a m).verdict (dsm_coded a.parsed.shut (closed arrived a (message.Dsm m) e)) (dsm_led p a m)
