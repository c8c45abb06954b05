-- The values that contents of each kind stand for (ANSI X9.17; the sets of bytes are this project's profile).
use Rattle.std.specs.Prelude.{ℕ, ◌<◌, ◌≤◌, ◌^◌, List, length}
use Rattle.x_base.specs.Names.{IsIdent, IsLabel}
use Rattle.x_base.specs.Count.{IsCount}
use Rattle.x_base.specs.KeyName.{IsKeyName}
use Rattle.csm_grammar.specs.Values.{Value, AText, AName, AService, ANumber, APair, Kind, OfClass, OfIdent, OfService, OfName, OfLabel, OfPair, OfKey, OfCount, OfReason, OfText, OfCode, kind_of, Denotes}
use Rattle.csm_grammar.specs.Messages.{Valued}

-- reasons of an error: bytes of their kind, 16 at most
pub record IsReason (bytes : List ℕ) : Type 0 where
  pub proper : Denotes OfReason bytes (AText bytes)
  pub short : length bytes ≤ 16

-- a key has 64 bits and a code 32; names and counts are well formed; texts have bytes of their kind
abbrev pub IsOfKind : Kind → Value → Type 0
IsOfKind OfClass (AText bytes) = Denotes OfClass bytes (AText bytes)
IsOfKind OfIdent (AText bytes) = IsIdent bytes
IsOfKind OfService (AService service) = Unit {0}
IsOfKind OfName (AName name) = IsKeyName name
IsOfKind OfLabel (AText bytes) = IsLabel bytes
IsOfKind OfPair (APair left right) = (left < 2 ^ 64) × (right < 2 ^ 64)
IsOfKind OfKey (ANumber key) = key < 2 ^ 64
IsOfKind OfCount (ANumber count) = IsCount count
IsOfKind OfReason (AText bytes) = IsReason bytes
IsOfKind OfText (AText bytes) = Denotes OfText bytes (AText bytes)
IsOfKind OfCode (ANumber code) = code < 2 ^ 32
IsOfKind k v = ⊥

-- the value of a field is of the kind of its tag
abbrev pub IsFieldOfKind : Valued → Type 0
IsFieldOfKind v = IsOfKind (kind_of v.tag) v.value
