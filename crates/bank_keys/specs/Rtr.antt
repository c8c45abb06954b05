-- A centre's answer arrives (ANSI X9.17, response to request): the key goes on to the ultimate recipient.
use Rattle.std.specs.Prelude.{ℕ, ◌+◌, Bool, false, cond, is_none, is_some, List, [], ◌∷◌, ◌++◌, Option, Some, None, bytes_eq}
use Rattle.x_base.specs.declared.key_name.KeyName.{KeyName}
use Rattle.x_base.specs.declared.key_name.FullName.{FullName}
use Rattle.x_base.specs.declared.verdict.Verdict.TheVariants.{NotForMe, UnknownPeer, NoExchange, Outstanding, UnknownKk, BadMac, SameKey, KeysFull}
use Rattle.x_seal.specs.Wrapped.{unwrap_of}
use Rattle.csm_grammar.specs.declared.message.Message.TheVariants as message
use Rattle.csm_grammar.specs.declared.message.KsmBody.TheVariants as body
use Rattle.csm_grammar.specs.declared.message.Rtr.{Rtr}
use Rattle.csm_grammar.specs.declared.message.Ksm.{Ksm}
use Rattle.csm_grammar.specs.declared.arrival.Arrival.{Arrival}
use Rattle.party_tables.specs.declared.link.LinkRec.{LinkRec}
use Rattle.party_tables.specs.declared.key.KeyRec.{KeyRec}
use Rattle.party_tables.specs.declared.key.RecordKey.{RecordKey}
use Rattle.party_tables.specs.declared.key.KeyStatus.TheVariants.{Pending}
use Rattle.party_tables.specs.declared.exchange.Via.{Via}
use Rattle.party_tables.specs.declared.exchange.Via.TheVariants as vias
use Rattle.party_tables.specs.declared.exchange.Kind.TheVariants as kind
use Rattle.party_state.specs.declared.edit.Edit.{Edit}
use Rattle.party_state.specs.declared.edit.Edit.TheVariants.{PutLink, PutKey, PutExchange, DropExchange}
use Rattle.party_state.specs.declared.decision.Lead.{Lead}
use Rattle.party_tables.specs.Keys.{takes}
use Rattle.party_state.specs.State.{Party, centre_label, link_with, exchange_with, knows}
use Rattle.party_state.specs.Verdicts.{Test, verdict_of, tests_pass}
use Rattle.party_state.specs.Rows.{Row, Reply, Coded, refused}
use Rattle.role_base.specs.Texts.{text_of, direct_name, no_extras, is_verified, lead_under}
use Rattle.role_base.specs.Conditions.{is_for, count_tests, has_key_room}
use Rattle.role_base.specs.Exchanges.{record_of}
use Rattle.bank_keys.specs.declared.waits.KeyAtCentre.{KeyAtCentre}
use Rattle.bank_keys.specs.Waiting.{waiting_with, is_asked_in}

-- the name of the key, by the count for the ultimate recipient
abbrev pub centre_name : Party → Rtr → KeyName
centre_name p m = record { issuer = m.originator; originator = p.own; label = centre_label; count = m.ctb }

abbrev pub centre_key : Party → Rtr → RecordKey
centre_key p m = record { peer = m.ultimate; name = centre_name p m }

abbrev pub rtr_front : Party → Rtr → Bool → List Test
rtr_front p m stands =
    (is_for p m.receiver m.originator, NotForMe) ∷ (knows m.originator p, UnknownPeer) ∷ (stands, NoExchange) ∷ (is_none (exchange_with m.ultimate p), Outstanding) ∷ []

abbrev pub rtr_rest : Party → Rtr → List Test
rtr_rest p m = (is_none (record_of p m.ultimate (centre_name p m)), SameKey) ∷ (has_key_room p (centre_key p m), KeysFull) ∷ []

abbrev pub centre_ksm : Party → Rtr → Ksm
centre_ksm p m = record { receiver = m.ultimate; originator = p.own; body = body.Centre m.originator m.kdu m.ctb; extras = no_extras }

abbrev pub passed_reply : Party → Rtr → ℕ → Reply
passed_reply p m value = Coded (message.Ksm (centre_ksm p m)) (record { name = centre_name p m; recipient = m.ultimate }) value

abbrev pub passed_record : Party → Rtr → ℕ → KeyRec
passed_record p m value = record { peer = m.ultimate; name = centre_name p m; value = value; status = Pending }

abbrev pub passed_on : Party → Rtr → ℕ → Via → List Edit
passed_on p m value via =
    PutKey (passed_record p m value)
    ∷ DropExchange m.originator
    ∷ PutExchange (record { peer = m.ultimate; kind = kind.KeySent (centre_name p m) via; text = text_of (passed_reply p m value) })
    ∷ []

-- the link that brought the key, where one did
abbrev pub used_edits : Option LinkRec → List Edit
used_edits None = []
used_edits (Some l) = PutLink l ∷ []

-- the row, whatever came with the key: the tests, the link, the key's value and the way
abbrev pub rtr_row : Party → Rtr → List Test → Option LinkRec → ℕ → Via → Row
rtr_row p m tests used value via = record {
  verdict = verdict_of tests;
  edits = used_edits used ++ passed_on p m value via;
  reply = Some (passed_reply p m value);
  uses = [];
  makes = None;
  accepts = None;
  answer = None;
}

-- with the key: from a distribution centre

abbrev pub brought_front : Party → Rtr → Option LinkRec → List Test
brought_front p m found = rtr_front p m (is_asked_in (exchange_with m.originator p) m.ultimate) ++ (is_some found, UnknownKk) ∷ []

abbrev pub brought_value : LinkRec → ℕ × ℕ → ℕ
brought_value l k = unwrap_of l.pair k.1 k.0

abbrev pub brought_tests : Party → Arrival → Rtr → ℕ × ℕ → LinkRec → List Test
brought_tests p a m k l = brought_front p m (Some l) ++ (is_verified a (brought_value l k), BadMac) ∷ (count_tests l k.1 ++ rtr_rest p m)

abbrev pub brought : Party → Arrival → Rtr → ℕ × ℕ → Option LinkRec → Row
brought p a m k None = refused (verdict_of (brought_front p m None))
brought p a m k (Some l) = rtr_row p m (brought_tests p a m k l) (Some (record l { next = k.1 + 1 })) (brought_value l k) (vias.Distribution m.originator k.1)

abbrev pub brought_under : Party → Rtr → ℕ → FullName
brought_under p m cta = record { name = direct_name m.originator centre_label cta; recipient = p.own }

abbrev pub brought_lead : Party → Arrival → Rtr → ℕ × ℕ → Option LinkRec → Option Lead
brought_lead p a m k None = None
brought_lead p a m k (Some l) = cond (tests_pass (brought_front p m (Some l))) (Some (lead_under a (brought_under p m k.1) (brought_value l k))) None

-- without it: from a translation centre

abbrev pub is_ultimate : Option KeyAtCentre → List ℕ → Bool
is_ultimate None u = false
is_ultimate (Some t) u = bytes_eq t.ultimate u

abbrev pub translated_front : Party → Rtr → Option KeyAtCentre → List Test
translated_front p m found = rtr_front p m (is_ultimate found m.ultimate)

abbrev pub translated_tests : Party → Arrival → Rtr → KeyAtCentre → List Test
translated_tests p a m t = translated_front p m (Some t) ++ (is_verified a t.value, BadMac) ∷ rtr_rest p m

abbrev pub translated : Party → Arrival → Rtr → Option KeyAtCentre → Row
translated p a m None = refused (verdict_of (translated_front p m None))
translated p a m (Some t) = rtr_row p m (translated_tests p a m t) None t.value (vias.Translation m.originator)

abbrev pub translated_under : Party → Rtr → KeyAtCentre → FullName
translated_under p m t = record { name = direct_name p.own centre_label t.cta; recipient = m.originator }

abbrev pub translated_lead : Party → Arrival → Rtr → Option KeyAtCentre → Option Lead
translated_lead p a m None = None
translated_lead p a m (Some t) = cond (tests_pass (translated_front p m (Some t))) (Some (lead_under a (translated_under p m t) t.value)) None

abbrev pub rtr_with : Party → Arrival → Rtr → Option (ℕ × ℕ) → Row
rtr_with p a m (Some k) = brought p a m k (link_with (takes m.originator centre_label) p)
rtr_with p a m None = translated p a m (waiting_with p m.originator)

abbrev pub rtr : Party → Arrival → Rtr → Row
rtr p a m = rtr_with p a m m.kd

abbrev pub rtr_lead_with : Party → Arrival → Rtr → Option (ℕ × ℕ) → Option Lead
rtr_lead_with p a m (Some k) = brought_lead p a m k (link_with (takes m.originator centre_label) p)
rtr_lead_with p a m None = translated_lead p a m (waiting_with p m.originator)

abbrev pub rtr_lead : Party → Arrival → Rtr → Option Lead
rtr_lead p a m = rtr_lead_with p a m m.kd
