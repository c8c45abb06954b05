-- How long the canonical text of a message is (this project's profile).
use Rattle.std.specs.Prelude.{ℕ, ◌≤◌, length, sum_by}
use Rattle.csm_grammar.specs.declared.message.Message.{Message}
use Rattle.csm_grammar.specs.Values.{Value, AText, Kind, OfReason, OfText, kind_of}
use Rattle.csm_grammar.specs.Messages.{fields_of}
use Rattle.csm_grammar.specs.Spelling.{message_limit}
use Rattle.csm_write.specs.declared.closing.Closing.{Closing}
use Rattle.csm_write.specs.Canon.{canon}
use Rattle.csm_write.specs.Writable.{AreTyped}

-- the bytes of an ERF, IV, EDK or P, which may be any number
abbrev pub free_bytes : Kind → Value → ℕ
free_bytes OfReason (AText bytes) = length bytes
free_bytes OfText (AText bytes) = length bytes
free_bytes k v = 0

-- the bytes of all of them in a message
abbrev pub free_length : Message → ℕ
free_length m = sum_by (λ v. free_bytes (kind_of v.tag) v.value) (fields_of m)

-- where they are 64 at most, the text is short enough to be read back
abbrev pub CanonShort : Type 0
CanonShort = (m : Message) (c : Closing) → AreTyped m c → free_length m ≤ 64 → length (canon m c) ≤ message_limit
