-- Discontinuing a data key (ANSI X9.17, disconnect service message), and removing the records of ended keys.
use Rattle.std.specs.Prelude.{ℕ, Bool, true, false, is_none, List, [], ◌∷◌, Option, Some, None}
use Rattle.x_base.specs.declared.key_name.KeyName.{KeyName}
use Rattle.x_base.specs.declared.verdict.Verdict.TheVariants.{Accept, Outstanding, UnknownKey}
use Rattle.csm_grammar.specs.declared.message.Message.{Message}
use Rattle.csm_grammar.specs.declared.message.Message.TheVariants as message
use Rattle.party_tables.specs.declared.key.KeyRec.{KeyRec}
use Rattle.party_tables.specs.declared.key.KeyStatus.{KeyStatus}
use Rattle.party_tables.specs.declared.key.KeyStatus.TheVariants.{Pending, Live, Held, Closing, Ended}
use Rattle.party_tables.specs.declared.exchange.Kind.TheVariants as kind
use Rattle.party_state.specs.declared.edit.Edit.{Edit}
use Rattle.party_state.specs.declared.edit.Edit.TheVariants.{PutKey, DropEnded, PutExchange}
use Rattle.party_tables.specs.Names.{full_name}
use Rattle.party_state.specs.State.{Party, exchange_with}
use Rattle.party_state.specs.Verdicts.{Test, verdict_of}
use Rattle.party_state.specs.Rows.{Row, Reply, Coded, refused}
use Rattle.role_base.specs.Texts.{text_of}
use Rattle.role_base.specs.Exchanges.{record_of}

-- a key that is neither pending nor ended
abbrev pub can_end : KeyStatus → Bool
can_end Pending = false
can_end Live = true
can_end Held = true
can_end Closing = true
can_end Ended = false

abbrev pub end_tests : Party → List ℕ → Bool → List Test
end_tests p peer found = (is_none (exchange_with peer p), Outstanding) ∷ (found, UnknownKey) ∷ []

abbrev pub end_message : Party → KeyRec → Message
end_message p k = message.Dsm (record { receiver = k.peer; originator = p.own; idd = k.name; ida = None })

abbrev pub end_reply : Party → KeyRec → Reply
end_reply p k = Coded (end_message p k) (full_name p.own k) k.value

-- the key is being closed, and the exchange stands
abbrev pub ended_edits : Party → KeyRec → List Edit
ended_edits p k = PutKey (record k { status = Closing }) ∷ PutExchange (record { peer = k.peer; kind = kind.Ending k.name; text = text_of (end_reply p k) }) ∷ []

abbrev pub end_record : Party → List ℕ → Option KeyRec → Row
end_record p peer None = refused (verdict_of (end_tests p peer false))
end_record p peer (Some k) = record {
  verdict = verdict_of (end_tests p peer (can_end k.status));
  edits = ended_edits p k;
  reply = Some (end_reply p k);
  uses = [];
  makes = None;
  accepts = None;
  answer = None;
}

abbrev pub end : Party → List ℕ → KeyName → Row
end p peer name = end_record p peer (record_of p peer name)

abbrev pub purge : Row
purge = record { verdict = Accept; edits = DropEnded ∷ []; reply = None; uses = []; makes = None; accepts = None; answer = None }
