-- The messages whose canonical text is read back (this project's profile).
use Rattle.std.specs.Prelude.{◌≡◌, ◌<◌, ◌≤◌, ◌^◌, true, length}
use Rattle.std.specs.List.{All}
use Rattle.x_base.specs.Names.{IsIdent, IsLabel}
use Rattle.x_base.specs.Count.{IsCount}
use Rattle.x_base.specs.KeyName.{IsKeyName}
use Rattle.csm_grammar.specs.declared.message.Message.{Message}
use Rattle.csm_grammar.specs.Classes.{allows}
use Rattle.csm_grammar.specs.Values.{Value, AText, AName, AService, ANumber, APair, Kind, OfIdent, OfService, OfName, OfLabel, OfPair, OfKey, OfCount, OfReason, OfText, OfCode, kind_of, Denotes}
use Rattle.csm_grammar.specs.Messages.{Valued, form_of, fields_of, shut_field}
use Rattle.csm_grammar.specs.Spelling.{message_limit}
use Rattle.csm_write.specs.declared.closing.Closing.{Closing}
use Rattle.csm_write.specs.declared.closing.Closing.TheVariants as closings
use Rattle.csm_write.specs.Canon.{shut_of, canon}

-- an ERF, IV, EDK or P has contents of its kind
abbrev pub IsProperText : Kind → Value → Type 0
IsProperText OfReason (AText bytes) = Denotes OfReason bytes (AText bytes)
IsProperText OfText (AText bytes) = Denotes OfText bytes (AText bytes)
IsProperText k v = Unit {0}

-- the texts are proper, the form allows the code, and the text isn't too long
pub record Writable (m : Message) (c : Closing) : Type 0 where
  pub texts : All (λ v. IsProperText (kind_of v.tag) v.value) (fields_of m)
  pub allowed : allows (form_of m) (shut_field (shut_of m c)).tag ≡ true
  pub short : length (canon m c) ≤ message_limit

-- the values that the type of a field holds
abbrev pub IsTyped : Kind → Value → Type 0
IsTyped OfIdent (AText bytes) = IsIdent bytes
IsTyped OfService (AService service) = Unit {0}
IsTyped OfName (AName name) = IsKeyName name
IsTyped OfLabel (AText bytes) = IsLabel bytes
IsTyped OfPair (APair left right) = (left < 2 ^ 64) × (right < 2 ^ 64)
IsTyped OfKey (ANumber key) = key < 2 ^ 64
IsTyped OfCount (ANumber count) = IsCount count
IsTyped OfReason (AText bytes) = Unit {0}
IsTyped OfText (AText bytes) = Unit {0}
IsTyped OfCode (ANumber code) = code < 2 ^ 32
IsTyped k v = ⊥

abbrev pub IsTypedField : Valued → Type 0
IsTypedField v = IsTyped (kind_of v.tag) v.value

-- a stated code has 32 bits
abbrev pub IsTypedClosing : Closing → Type 0
IsTypedClosing (closings.Stated shut) = IsTypedField (shut_field shut)
IsTypedClosing c = Unit {0}

-- a message and its closing as the types hold them
pub record AreTyped (m : Message) (c : Closing) : Type 0 where
  pub fields : All IsTypedField (fields_of m)
  pub closing : IsTypedClosing c
