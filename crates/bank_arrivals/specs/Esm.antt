-- An error service message arrives (ANSI X9.17): what was sent is given up, and the count goes on where it
-- is named. Where it is about a key of a distribution centre, the centre is asked again. One whose code is an
-- error detection code changes nothing.
use Rattle.std.specs.Prelude.{ℕ, Bool, false, bytes_eq, max, cond, is_some, List, [], ◌∷◌, ◌++◌, Option, Some, None, option_map}
use Rattle.x_base.specs.declared.key_name.FullName.{FullName}
use Rattle.x_base.specs.declared.verdict.Verdict.TheVariants.{BadMac, BadEdc}
use Rattle.csm_grammar.specs.declared.message.Esm.{Esm}
use Rattle.csm_grammar.specs.declared.arrival.Arrival.{Arrival}
use Rattle.party_tables.specs.declared.link.LinkRec.{LinkRec}
use Rattle.party_tables.specs.declared.key.KeyStatus.TheVariants.{Ended}
use Rattle.party_tables.specs.declared.exchange.Via.{Via}
use Rattle.party_tables.specs.declared.exchange.Via.TheVariants as vias
use Rattle.party_tables.specs.declared.exchange.Kind.{Kind}
use Rattle.party_tables.specs.declared.exchange.Kind.TheVariants as kind
use Rattle.party_tables.specs.declared.exchange.Exchange.{Exchange}
use Rattle.party_state.specs.declared.edit.Edit.{Edit}
use Rattle.party_state.specs.declared.edit.Edit.TheVariants.{PutLink, PutKey, DropExchange}
use Rattle.party_state.specs.declared.decision.Lead.{Lead}
use Rattle.party_tables.specs.Keys.{sends}
use Rattle.party_tables.specs.Names.{full_name}
use Rattle.party_state.specs.State.{Party, centre_label, link_with, exchange_with}
use Rattle.party_state.specs.Verdicts.{Test, verdict_of, tests_pass}
use Rattle.party_state.specs.Rows.{Row, Accepted, OfEsm, refused}
use Rattle.bank_arrivals.specs.declared.asking_again.Retry.{Retry}
use Rattle.bank_arrivals.specs.declared.error_message.ErrorSubject.{ErrorSubject}
use Rattle.bank_arrivals.specs.declared.error_message.ErrorSubject.TheVariants.{SentKey, SentTwins, Translated}
use Rattle.role_base.specs.Texts.{direct_name, is_verified, is_right, is_plain, lead_under}
use Rattle.role_base.specs.Conditions.{answer_front}
use Rattle.role_base.specs.Exchanges.{sent_by, twins_by, twins_value, is_waiting, new_link, dropped}
use Rattle.bank_arrivals.specs.AskingAgain.{retry_in, asked_again, again_reply}

-- what an error message from the peer speaks of: a key that was sent, or a key with a translation centre,
-- by its value and its count at the centre

abbrev pub subject_by : Party → List ℕ → Kind → Option ErrorSubject
subject_by p peer (kind.KeySent name via) = option_map SentKey (sent_by p peer (kind.KeySent name via))
subject_by p peer (kind.Translating ultimate value cta) = Some (Translated value cta)
subject_by p peer (kind.Asked ultimate) = None
subject_by p peer (kind.Ending name) = None
subject_by p peer (kind.PairSent name) = option_map SentTwins (twins_by p peer (kind.PairSent name))

abbrev pub subject_in : Party → List ℕ → Option Exchange → Option ErrorSubject
subject_in p peer None = None
subject_in p peer (Some e) = subject_by p peer e.kind

abbrev pub subject_with : Party → List ℕ → Option ErrorSubject
subject_with p peer = subject_in p peer (exchange_with peer p)

abbrev pub subject_value : ErrorSubject → ℕ
subject_value (SentKey s) = s.key.value
subject_value (SentTwins t) = twins_value t
subject_value (Translated value cta) = value

-- the full name of its key
abbrev pub subject_name : Party → List ℕ → ErrorSubject → FullName
subject_name p peer (SentKey s) = full_name p.own s.key
subject_name p peer (SentTwins t) = full_name p.own t.first
subject_name p peer (Translated value cta) = record { name = direct_name p.own centre_label cta; recipient = peer }

-- a new key-encrypting key has the label of the link under which it went
abbrev pub is_renewed : List ℕ → Option (List ℕ) → Bool
is_renewed label None = false
is_renewed label (Some new) = bytes_eq new label

-- the link under which a key went: none where the new key-encrypting key has the label of that very link, which is dropped
abbrev pub via_link : Party → List ℕ → Via → Option LinkRec
via_link p peer (vias.Direct label new) = cond (is_renewed label new) None (link_with (sends peer label) p)
via_link p peer (vias.Distribution centre cta) = None
via_link p peer (vias.Translation centre) = None

-- the link whose count the partner names
abbrev pub subject_link : Party → List ℕ → ErrorSubject → Option LinkRec
subject_link p peer (SentKey s) = via_link p peer s.via
subject_link p peer (SentTwins t) = link_with (sends peer t.first.name.label) p
subject_link p peer (Translated value cta) = link_with (sends peer centre_label) p

abbrev pub raised : Option LinkRec → Option ℕ → List Edit
raised (Some l) (Some ctr) = PutLink (record l { next = max l.next ctr }) ∷ []
raised (Some l) None = []
raised None ctr = []

abbrev pub subject_ended : Party → List ℕ → ErrorSubject → List Edit
subject_ended p peer (SentKey s) = dropped (new_link p peer s.via) ++ PutKey (record s.key { status = Ended }) ∷ []
subject_ended p peer (SentTwins t) = PutKey (record t.first { status = Ended }) ∷ PutKey (record t.second { status = Ended }) ∷ []
subject_ended p peer (Translated value cta) = []

abbrev pub subject_accepted : Party → ErrorSubject → Option Accepted
subject_accepted p (SentKey s) = Some (record { class = OfEsm; names = full_name p.own s.key ∷ [] })
subject_accepted p (SentTwins t) = Some (record { class = OfEsm; names = full_name p.own t.first ∷ full_name p.own t.second ∷ [] })
subject_accepted p (Translated value cta) = None

abbrev pub esm_front : Party → Esm → Option ErrorSubject → List Test
esm_front p m found = answer_front p m.receiver m.originator (is_some found)

abbrev pub error_row : Party → Arrival → Esm → ErrorSubject → Option Retry → Row
error_row p a m s again = record {
  verdict = verdict_of (esm_front p m (Some s) ++ (is_verified a (subject_value s), BadMac) ∷ []);
  edits = raised (subject_link p m.originator s) m.ctr ++ (subject_ended p m.originator s ++ DropExchange m.originator ∷ asked_again p m (subject_value s) again);
  reply = again_reply p m (subject_value s) again;
  uses = [];
  makes = None;
  accepts = subject_accepted p s;
  answer = None;
}

abbrev pub error_of : Party → Arrival → Esm → Option ErrorSubject → Option Retry → Row
error_of p a m None again = refused (verdict_of (esm_front p m None))
error_of p a m (Some s) again = error_row p a m s again

abbrev pub esm_lead_of : Party → Arrival → Esm → Option ErrorSubject → Option Lead
esm_lead_of p a m None = None
esm_lead_of p a m (Some s) = cond (tests_pass (esm_front p m (Some s))) (Some (lead_under a (subject_name p m.originator s) (subject_value s))) None

abbrev pub plain_tests : Party → Arrival → Esm → List Test
plain_tests p a m = answer_front p m.receiver m.originator (is_waiting p m.originator) ++ (is_right a, BadEdc) ∷ []

abbrev pub plain_esm : Party → Arrival → Esm → Row
plain_esm p a m = record {
  verdict = verdict_of (plain_tests p a m);
  edits = [];
  reply = None;
  uses = [];
  makes = None;
  accepts = None;
  answer = None;
}

abbrev pub error_with : Party → Arrival → Esm → Bool → Option Retry → Row
error_with p a m plain again = cond plain (plain_esm p a m) (error_of p a m (subject_with p m.originator) again)

abbrev pub error : Party → Arrival → Esm → Row
error p a m = error_with p a m (is_plain a.parsed.shut) (retry_in p (subject_with p m.originator) m.ctr)

abbrev pub esm_lead : Party → Arrival → Esm → Option Lead
esm_lead p a m = cond (is_plain a.parsed.shut) None (esm_lead_of p a m (subject_with p m.originator))
