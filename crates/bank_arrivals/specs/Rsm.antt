-- A response service message arrives (ANSI X9.17): the key that was sent is live, or both are that were sent in one
-- message; or, where it names a key, the end of that key is done.
use Rattle.std.specs.Prelude.{Bool, true, false, cond, is_some, List, [], ◌∷◌, ◌++◌, Option, Some, None}
use Rattle.x_base.specs.declared.key_name.KeyName.{KeyName}
use Rattle.x_base.specs.declared.verdict.Verdict.TheVariants.{BadMac}
use Rattle.csm_grammar.specs.declared.message.Rsm.{Rsm}
use Rattle.csm_grammar.specs.declared.arrival.Arrival.{Arrival}
use Rattle.party_tables.specs.declared.key.KeyRec.{KeyRec}
use Rattle.party_tables.specs.declared.key.KeyStatus.TheVariants.{Live, Ended}
use Rattle.party_state.specs.declared.edit.Edit.TheVariants.{PutKey, DropExchange}
use Rattle.party_state.specs.declared.decision.Lead.{Lead}
use Rattle.party_tables.specs.Keys.{same_name}
use Rattle.party_tables.specs.Names.{full_name}
use Rattle.party_state.specs.State.{Party}
use Rattle.party_state.specs.Verdicts.{Test, verdict_of, tests_pass}
use Rattle.party_state.specs.Rows.{Row, OfRsm, OfAnswer, refused}
use Rattle.role_base.specs.Texts.{is_verified, lead_under}
use Rattle.role_base.specs.Conditions.{answer_front}
use Rattle.role_base.specs.declared.exchanges.Sent.{Sent}
use Rattle.role_base.specs.declared.exchanges.Twins.{Twins}
use Rattle.role_base.specs.Exchanges.{sent_to, twins_to, twins_value, ending_with, new_link, readied}

-- the answer to a key

abbrev pub rsm_front : Party → Rsm → Option Sent → List Test
rsm_front p m found = answer_front p m.receiver m.originator (is_some found)

abbrev pub rsm_to : Party → Arrival → Rsm → Option Sent → Row
rsm_to p a m None = refused (verdict_of (rsm_front p m None))
rsm_to p a m (Some s) = record {
  verdict = verdict_of (rsm_front p m (Some s) ++ (is_verified a s.key.value, BadMac) ∷ []);
  edits = readied (new_link p m.originator s.via) ++ PutKey (record s.key { status = Live }) ∷ DropExchange m.originator ∷ [];
  reply = None;
  uses = [];
  makes = None;
  accepts = Some (record { class = OfRsm; names = full_name p.own s.key ∷ [] });
  answer = None;
}

abbrev pub rsm_lead_to : Party → Arrival → Rsm → Option Sent → Option Lead
rsm_lead_to p a m None = None
rsm_lead_to p a m (Some s) = cond (tests_pass (rsm_front p m (Some s))) (Some (lead_under a (full_name p.own s.key) s.key.value)) None

-- the answer to two keys

abbrev pub twins_front : Party → Rsm → List Test
twins_front p m = answer_front p m.receiver m.originator true

abbrev pub rsm_twins : Party → Arrival → Rsm → Twins → Row
rsm_twins p a m t = record {
  verdict = verdict_of (twins_front p m ++ (is_verified a (twins_value t), BadMac) ∷ []);
  edits = PutKey (record t.first { status = Live }) ∷ PutKey (record t.second { status = Live }) ∷ DropExchange m.originator ∷ [];
  reply = None;
  uses = [];
  makes = None;
  accepts = Some (record { class = OfRsm; names = full_name p.own t.first ∷ full_name p.own t.second ∷ [] });
  answer = None;
}

-- its code is made under the exclusive-or of the two, in the name of the first
abbrev pub twins_lead : Party → Arrival → Rsm → Twins → Option Lead
twins_lead p a m t = cond (tests_pass (twins_front p m)) (Some (lead_under a (full_name p.own t.first) (twins_value t))) None

abbrev pub rsm_by : Party → Arrival → Rsm → Option Twins → Row
rsm_by p a m None = rsm_to p a m (sent_to p m.originator)
rsm_by p a m (Some t) = rsm_twins p a m t

abbrev pub rsm_lead_by : Party → Arrival → Rsm → Option Twins → Option Lead
rsm_lead_by p a m None = rsm_lead_to p a m (sent_to p m.originator)
rsm_lead_by p a m (Some t) = twins_lead p a m t

-- the answer to the end of a key

abbrev pub is_named : KeyName → Option KeyRec → Bool
is_named name None = false
is_named name (Some k) = same_name name k.name

abbrev pub end_front : Party → Rsm → KeyName → Option KeyRec → List Test
end_front p m name found = answer_front p m.receiver m.originator (is_named name found)

abbrev pub answer_to : Party → Arrival → Rsm → KeyName → Option KeyRec → Row
answer_to p a m name None = refused (verdict_of (end_front p m name None))
answer_to p a m name (Some k) = record {
  verdict = verdict_of (end_front p m name (Some k) ++ (is_verified a k.value, BadMac) ∷ []);
  edits = PutKey (record k { status = Ended }) ∷ DropExchange m.originator ∷ [];
  reply = None;
  uses = [];
  makes = None;
  accepts = Some (record { class = OfAnswer; names = full_name p.own k ∷ [] });
  answer = None;
}

abbrev pub answer_lead_to : Party → Arrival → Rsm → KeyName → Option KeyRec → Option Lead
answer_lead_to p a m name None = None
answer_lead_to p a m name (Some k) = cond (tests_pass (end_front p m name (Some k))) (Some (lead_under a (full_name p.own k) k.value)) None

abbrev pub rsm_with : Party → Arrival → Rsm → Option KeyName → Row
rsm_with p a m None = rsm_by p a m (twins_to p m.originator)
rsm_with p a m (Some name) = answer_to p a m name (ending_with p m.originator)

abbrev pub rsm : Party → Arrival → Rsm → Row
rsm p a m = rsm_with p a m m.idd

abbrev pub rsm_lead_with : Party → Arrival → Rsm → Option KeyName → Option Lead
rsm_lead_with p a m None = rsm_lead_by p a m (twins_to p m.originator)
rsm_lead_with p a m (Some name) = answer_lead_to p a m name (ending_with p m.originator)

abbrev pub rsm_lead : Party → Arrival → Rsm → Option Lead
rsm_lead p a m = rsm_lead_with p a m m.idd
