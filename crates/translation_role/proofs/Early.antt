-- There is no key to test the code of an arrival under exactly where the arrival is closed by an error detection
-- code, or is refused before its code is looked at.
use Rattle.std.proofs.Common.{◌≡◌, ◌↔◌, ◌⊎◌, Bool, true, false, ◌||◌, not, Option, Some, None, List, ◌∷◌, refl, sym, bytes_eq}
use Rattle.std.specs.Prelude.{is_none}
use Rattle.std.proofs.lemmas.Bool.{or_right}
use Rattle.x_base.specs.declared.verdict.Verdict.{Verdict}
use Rattle.x_base.specs.declared.verdict.Verdict.TheVariants.{UnknownKk, BadMac}
use Rattle.csm_grammar.specs.declared.message.Message.{Message}
use Rattle.csm_grammar.specs.declared.message.Message.TheVariants as message
use Rattle.csm_grammar.specs.declared.message.Rfs.{Rfs}
use Rattle.csm_grammar.specs.declared.parsed.Shut.{Shut}
use Rattle.csm_grammar.specs.declared.parsed.Shut.TheVariants as shuts
use Rattle.csm_grammar.specs.declared.arrival.Arrival.{Arrival}
use Rattle.csm_grammar.specs.declared.form.Form.TheVariants.{F2}
use Rattle.csm_grammar.specs.Classes.{allows}
use Rattle.csm_grammar.specs.Arrivals.{AllArrived}
use Rattle.csm_grammar.specs.Messages.{form_of, shut_field}
use Rattle.party_tables.specs.declared.link.LinkRec.{LinkRec}
use Rattle.party_tables.specs.Keys.{sends, takes}
use Rattle.party_state.specs.State.{Party, centre_label, link_with}
use Rattle.party_state.specs.Verdicts.{Test}
use Rattle.role_base.specs.Texts.{is_verified, is_plain, lead_under}
use Rattle.role_base.specs.Conditions.{body_issuer}
use Rattle.role_base.specs.Errors.{is_early}
use Rattle.role_base.proofs.Early.{early_refusal, led}
use Rattle.role_base.proofs.Unled.{other_early, none_exactly}
use Rattle.role_base.specs.Centres.{request_front}
use Rattle.role_base.proofs.CentresEarly.{unserved_early}
use Rattle.translation_role.specs.Service.{rfs_value, rfs_under, rfs_front, rfs_rest, rfs_between, rfs, rfs_lead_between, rfs_lead}
use Rattle.translation_role.specs.Rows.{translation_message, translation_lead}

rfs_led : (p : Party) (a : Arrival) (m : Rfs) → is_none (rfs_lead p a m) ≡ is_early (rfs p a m).verdict
rfs_led p a m = by_links (link_with (takes m.originator centre_label) p) (link_with (sends m.ultimate centre_label) p)
  where
    front : List Test
    front = request_front p m.receiver m.originator (not (bytes_eq m.ultimate m.originator))

    by_links : (o q : Option LinkRec) → is_none (rfs_lead_between p a m o q) ≡ is_early (rfs_between p a m o q).verdict
    by_links None q = early_refusal front UnknownKk refl refl
    by_links (Some l) None = early_refusal front UnknownKk refl refl
    by_links (Some l) (Some b) = led (rfs_front p m true) ((is_verified a (rfs_value m l), BadMac) ∷ rfs_rest m l b) (lead_under a (rfs_under p m) (rfs_value m l)) refl refl

-- the code that closes a request for service
rfs_coded : (s : Shut) → allows F2 (shut_field s).tag ≡ true → is_plain s ≡ false
rfs_coded (shuts.Mac n) h = refl
rfs_coded (shuts.Edc n) h = sym h

has_none : AllArrived → (p : Party) (a : Arrival) → is_none (translation_lead p a a.parsed.message) ≡ (is_plain a.parsed.shut || is_early (translation_message p a a.parsed.message).verdict)
has_none arrived p a = by_message a.parsed.message (arrived a).allowed
  where
    refused_early : (early : Bool) → true ≡ early → true ≡ (is_plain a.parsed.shut || early)
    refused_early early e = sym (or_right _ _ (sym e))

    coded : (lead : Bool) (v : Verdict) → is_plain a.parsed.shut ≡ false → lead ≡ is_early v → lead ≡ (is_plain a.parsed.shut || is_early v)
    coded lead v h e = rw h e

    by_message : (m : Message) → allows (form_of m) (shut_field a.parsed.shut).tag ≡ true → is_none (translation_lead p a m) ≡ (is_plain a.parsed.shut || is_early (translation_message p a m).verdict)
    by_message (message.Rsi m) h = refused_early _ (other_early p m.receiver m.originator m.originator)
    by_message (message.Rfs m) h = coded _ (rfs p a m).verdict (rfs_coded a.parsed.shut h) (rfs_led p a m)
    by_message (message.Rtr m) h = refused_early _ (other_early p m.receiver m.originator m.originator)
    by_message (message.Ksm m) h = refused_early _ (other_early p m.receiver m.originator (body_issuer m.originator m.body))
    by_message (message.Rsm m) h = refused_early _ (unserved_early p m.receiver m.originator)
    by_message (message.Ers m) h = refused_early _ (other_early p m.receiver m.originator m.originator)
    by_message (message.Esm m) h = refused_early _ (unserved_early p m.receiver m.originator)
    by_message (message.Dsm m) h = refused_early _ (unserved_early p m.receiver m.originator)

pub lead_none : AllArrived → (p : Party) (a : Arrival) → (translation_lead p a a.parsed.message ≡ None) ↔ ((is_plain a.parsed.shut ≡ true) ⊎ (is_early (translation_message p a a.parsed.message).verdict ≡ true))
lead_none arrived p a = none_exactly (translation_lead p a a.parsed.message) (is_plain a.parsed.shut) (is_early (translation_message p a a.parsed.message).verdict) (has_none arrived p a)
