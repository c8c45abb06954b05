-- The records of two keys that come differ.
use Rattle.std.proofs.Common.{◌≢◌, ℕ, Option, Some, None, refl}
use Rattle.std.specs.Prelude.{option_map}
use Rattle.csm_grammar.specs.declared.message.Ksm.{Ksm}
use Rattle.csm_grammar.specs.declared.message.KsmBody.{KsmBody}
use Rattle.party_tables.specs.declared.link.LinkRec.{LinkRec}
use Rattle.party_tables.specs.declared.key.KeyRec.{KeyRec}
use Rattle.party_tables.specs.Keys.{record_key}
use Rattle.party_state.specs.State.{Party}
use Rattle.role_base.proofs.TwinKeys.{behind_other}
use Rattle.bank_keys.specs.Ksm.{body_twin, body_record, second_record, body_second}

abbrev pub OtherKey : KeyRec → Option KeyRec → Type 0
OtherKey k None = Unit {0}
OtherKey k (Some j) = record_key j ≢ record_key k

second_other : (p : Party) (m : Ksm) (b : KsmBody) (l : LinkRec) (o : Option ℕ) → OtherKey (body_record p m b l) (option_map (λ kd. second_record p m b l kd) o)
second_other p m b l None = tt
second_other p m b l (Some kd) = behind_other (record_key (body_record p m b l)) (record_key (second_record p m b l kd)) refl

pub others_apart : (p : Party) (m : Ksm) (b : KsmBody) (l : LinkRec) → OtherKey (body_record p m b l) (body_second p m b l)
others_apart p m b l = second_other p m b l (body_twin b)
