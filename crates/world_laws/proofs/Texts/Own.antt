-- A message that a party writes: its authenticated text says it.
use Rattle.std.proofs.Common.{◌≡◌, ◌≤◌, true}
use Rattle.std.specs.List.{All}
use Rattle.csm_grammar.specs.declared.message.Message.{Message}
use Rattle.csm_grammar.specs.declared.parsed.Shut.TheVariants as shut
use Rattle.csm_grammar.specs.Classes.{allows}
use Rattle.csm_grammar.specs.Values.{kind_of}
use Rattle.csm_grammar.specs.Messages.{form_of, fields_of, shut_field}
use Rattle.csm_grammar.specs.Spelling.{Says}
use Rattle.csm_read.proofs.Lawful.{read_says, one_meaning}
use Rattle.csm_read.proofs.Written.{written_read}
use Rattle.csm_write.specs.declared.closing.Closing.TheVariants as closing
use Rattle.csm_write.specs.Canon.{auth_of}
use Rattle.csm_write.specs.Writable.{IsProperText, IsTypedField, AreTyped}
use Rattle.csm_write.specs.Shortness.{free_length}
use Rattle.canon_laws.specs.Laws.{OwnMeaning}
use Rattle.canon_laws.proofs.Reading.{reads_back}
use Rattle.csm_write.proofs.Lengths.{canon_short}
use Rattle.canon_laws.proofs.Saying.{auth_says}

-- a message that a party can write under a key
pub record IsOwn (m : Message) : Type 0 where
  pub fields : All IsTypedField (fields_of m)
  pub texts : All (λ v. IsProperText (kind_of v.tag) v.value) (fields_of m)
  pub allowed : allows (form_of m) (shut_field (shut.Mac 0)).tag ≡ true
  pub free : free_length m ≤ 64

pub own_meaning : (m : Message) → IsOwn m → OwnMeaning m
own_meaning m o =
    let t : AreTyped m (closing.Mac 0) = record { fields = o.fields; closing = tt } in
    auth_says (reads_back written_read) read_says one_meaning m (closing.Mac 0) t (record { texts = o.texts; allowed = o.allowed; short = canon_short m (closing.Mac 0) t o.free })

-- its authenticated text says it, and nothing else
pub own_means : (m n : Message) → IsOwn m → Says (auth_of m) n → m ≡ n
own_means m n o s = (own_meaning m o).alone n s
