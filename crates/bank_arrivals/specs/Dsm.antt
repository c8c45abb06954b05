-- A disconnect service message arrives (ANSI X9.17): the key ends, and a response that names it goes back
-- under it. A key that ended already changes nothing.
use Rattle.std.specs.Prelude.{ℕ, Bool, true, false, cond, List, [], ◌∷◌, ◌++◌, Option, Some, None}
use Rattle.x_base.specs.declared.key_name.KeyName.{KeyName}
use Rattle.x_base.specs.declared.verdict.Verdict.TheVariants.{NotForMe, UnknownKey, BadMac}
use Rattle.csm_grammar.specs.declared.message.Message.{Message}
use Rattle.csm_grammar.specs.declared.message.Message.TheVariants as message
use Rattle.csm_grammar.specs.declared.message.Dsm.{Dsm}
use Rattle.csm_grammar.specs.declared.arrival.Arrival.{Arrival}
use Rattle.party_tables.specs.declared.key.KeyRec.{KeyRec}
use Rattle.party_tables.specs.declared.key.KeyStatus.TheVariants.{Ended}
use Rattle.party_tables.specs.declared.exchange.Kind.{Kind}
use Rattle.party_tables.specs.declared.exchange.Kind.TheVariants as kind
use Rattle.party_tables.specs.declared.exchange.Exchange.{Exchange}
use Rattle.party_state.specs.declared.edit.Edit.{Edit}
use Rattle.party_state.specs.declared.edit.Edit.TheVariants.{PutKey, DropExchange}
use Rattle.party_state.specs.declared.decision.Lead.{Lead}
use Rattle.party_tables.specs.Keys.{same_name}
use Rattle.party_tables.specs.Names.{full_name, name_behind}
use Rattle.party_tables.specs.Statuses.{is_ended}
use Rattle.party_state.specs.State.{Party, exchange_with}
use Rattle.party_state.specs.Verdicts.{Test, verdict_of, tests_pass}
use Rattle.party_state.specs.Rows.{Row, Coded, OfDsm, refused}
use Rattle.bank_arrivals.specs.declared.disconnection.NamedKey.{NamedKey}
use Rattle.role_base.specs.Texts.{no_extras, is_verified, lead_under}
use Rattle.role_base.specs.Conditions.{is_for}
use Rattle.role_base.specs.Exchanges.{record_of, new_link, dropped, ended}

-- the key that ends, and the key whose code closes the message: that of IDA, or of IDD where IDA is absent
abbrev pub paired : Option KeyRec → Option KeyRec → Option NamedKey
paired (Some key) (Some by) = Some (record { key = key; by = by })
paired (Some key) None = None
paired None by = None

abbrev pub code_name : KeyName → Option KeyName → KeyName
code_name idd None = idd
code_name idd (Some ida) = ida

abbrev pub named_by : Party → Dsm → Option NamedKey
named_by p m = paired (record_of p m.originator m.idd) (record_of p m.originator (code_name m.idd m.ida))

abbrev pub dsm_front : Party → Dsm → Bool → List Test
dsm_front p m stands = (is_for p m.receiver m.originator, NotForMe) ∷ (stands, UnknownKey) ∷ []

-- an exchange that names the key goes, with a new key-encrypting key; where two keys were sent, the other ends too
abbrev pub left_by : Party → List ℕ → KeyName → Kind → List Edit × List Edit
left_by p peer name (kind.KeySent sent via) = cond (same_name name sent) (dropped (new_link p peer via), DropExchange peer ∷ []) ([], [])
left_by p peer name (kind.Ending ending) = cond (same_name name ending) ([], DropExchange peer ∷ []) ([], [])
left_by p peer name (kind.Asked ultimate) = ([], [])
left_by p peer name (kind.Translating ultimate value cta) = ([], [])
left_by p peer name (kind.PairSent sent) = cond (same_name name sent) ([], ended (record_of p peer (name_behind sent)) ++ DropExchange peer ∷ [])
    (cond (same_name name (name_behind sent)) (ended (record_of p peer sent), DropExchange peer ∷ []) ([], []))

abbrev pub left_in : Party → List ℕ → KeyName → Option Exchange → List Edit × List Edit
left_in p peer name None = ([], [])
left_in p peer name (Some e) = left_by p peer name e.kind

abbrev pub disconnected : Party → List ℕ → KeyRec → List Edit
disconnected p peer k =
    let gone : List Edit × List Edit = left_in p peer k.name (exchange_with peer p) in
    cond (is_ended k.status) [] (gone.0 ++ (PutKey (record k { status = Ended }) ∷ gone.1))

abbrev pub dsm_response : Party → KeyRec → Message
dsm_response p k = message.Rsm (record { receiver = k.peer; originator = p.own; idd = Some k.name; extras = no_extras })

abbrev pub dsm_on : Party → Arrival → Dsm → Option NamedKey → Row
dsm_on p a m None = refused (verdict_of (dsm_front p m false))
dsm_on p a m (Some n) = record {
  verdict = verdict_of (dsm_front p m true ++ (is_verified a n.by.value, BadMac) ∷ []);
  edits = disconnected p m.originator n.key;
  reply = Some (Coded (dsm_response p n.key) (full_name p.own n.key) n.key.value);
  uses = [];
  makes = None;
  accepts = Some (record { class = OfDsm; names = full_name p.own n.key ∷ [] });
  answer = None;
}

abbrev pub dsm : Party → Arrival → Dsm → Row
dsm p a m = dsm_on p a m (named_by p m)

abbrev pub dsm_lead_on : Party → Arrival → Dsm → Option NamedKey → Option Lead
dsm_lead_on p a m None = None
dsm_lead_on p a m (Some n) = cond (tests_pass (dsm_front p m true)) (Some (lead_under a (full_name p.own n.by) n.by.value)) None

abbrev pub dsm_lead : Party → Arrival → Dsm → Option Lead
dsm_lead p a m = dsm_lead_on p a m (named_by p m)
