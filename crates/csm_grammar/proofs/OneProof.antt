-- That a value is of its kind is shown in one way only.
use Rattle.std.proofs.Common.{◌≡◌, ℕ, Bool, true, List, Some}
use Rattle.std.specs.Coded.{Coded-set, coded_bool, coded_option, ×_prop, Unit-prop, le_prop}
use Rattle.x_base.specs.Count.{IsCount}
use Rattle.x_base.specs.KeyName.{IsKeyName}
use Rattle.x_base.specs.declared.key_name.KeyName.{KeyName}
use Rattle.csm_grammar.specs.Values.{Value, AText, AName, AService, ANumber, APair, Kind, OfClass, OfIdent, OfService, OfName, OfLabel, OfPair, OfKey, OfCount, OfReason, OfText, OfCode, Unsupported, value_of, Denotes}
use Rattle.csm_grammar.specs.Kinds.{IsOfKind, IsReason}
use Rattle.csm_grammar.proofs.Coding.{value}

-- a test that passes
pub test_prop : {b : Bool} → IsProp (b ≡ true)
test_prop {b} = Coded-set coded_bool b true

denotes_prop : (k : Kind) (c : List ℕ) (v : Value) → IsProp (Denotes k c v)
denotes_prop k c v = Coded-set (coded_option value) (value_of k c) (Some v)

count_prop : (n : ℕ) → IsProp (IsCount n)
count_prop n x y = λ i. record { low = le_prop x.low y.low i; high = le_prop x.high y.high i }

name_prop : (name : KeyName) → IsProp (IsKeyName name)
name_prop name x y = λ i. record {
  issuer = test_prop x.issuer y.issuer i;
  originator = test_prop x.originator y.originator i;
  label = test_prop x.label y.label i;
  count = count_prop name.count x.count y.count i;
}

reason_prop : (text : List ℕ) → IsProp (IsReason text)
reason_prop text x y = λ i. record { proper = denotes_prop OfReason text (AText text) x.proper y.proper i; short = le_prop x.short y.short i }

nothing_prop : IsProp ⊥
nothing_prop x y = absurd x

-- a value of a kind
pub kind_prop : (k : Kind) (v : Value) → IsProp (IsOfKind k v)
kind_prop OfClass (AText text) = denotes_prop OfClass text (AText text)
kind_prop OfClass (AName name) = nothing_prop
kind_prop OfClass (AService service) = nothing_prop
kind_prop OfClass (ANumber number) = nothing_prop
kind_prop OfClass (APair left right) = nothing_prop
kind_prop OfIdent (AText text) = test_prop
kind_prop OfIdent (AName name) = nothing_prop
kind_prop OfIdent (AService service) = nothing_prop
kind_prop OfIdent (ANumber number) = nothing_prop
kind_prop OfIdent (APair left right) = nothing_prop
kind_prop OfService (AText text) = nothing_prop
kind_prop OfService (AName name) = nothing_prop
kind_prop OfService (AService service) = Unit-prop
kind_prop OfService (ANumber number) = nothing_prop
kind_prop OfService (APair left right) = nothing_prop
kind_prop OfName (AText text) = nothing_prop
kind_prop OfName (AName name) = name_prop name
kind_prop OfName (AService service) = nothing_prop
kind_prop OfName (ANumber number) = nothing_prop
kind_prop OfName (APair left right) = nothing_prop
kind_prop OfLabel (AText text) = test_prop
kind_prop OfLabel (AName name) = nothing_prop
kind_prop OfLabel (AService service) = nothing_prop
kind_prop OfLabel (ANumber number) = nothing_prop
kind_prop OfLabel (APair left right) = nothing_prop
kind_prop OfPair (AText text) = nothing_prop
kind_prop OfPair (AName name) = nothing_prop
kind_prop OfPair (AService service) = nothing_prop
kind_prop OfPair (ANumber number) = nothing_prop
kind_prop OfPair (APair left right) = ×_prop le_prop le_prop
kind_prop OfKey (AText text) = nothing_prop
kind_prop OfKey (AName name) = nothing_prop
kind_prop OfKey (AService service) = nothing_prop
kind_prop OfKey (ANumber number) = le_prop
kind_prop OfKey (APair left right) = nothing_prop
kind_prop OfCount (AText text) = nothing_prop
kind_prop OfCount (AName name) = nothing_prop
kind_prop OfCount (AService service) = nothing_prop
kind_prop OfCount (ANumber number) = count_prop number
kind_prop OfCount (APair left right) = nothing_prop
kind_prop OfReason (AText text) = reason_prop text
kind_prop OfReason (AName name) = nothing_prop
kind_prop OfReason (AService service) = nothing_prop
kind_prop OfReason (ANumber number) = nothing_prop
kind_prop OfReason (APair left right) = nothing_prop
kind_prop OfText (AText text) = denotes_prop OfText text (AText text)
kind_prop OfText (AName name) = nothing_prop
kind_prop OfText (AService service) = nothing_prop
kind_prop OfText (ANumber number) = nothing_prop
kind_prop OfText (APair left right) = nothing_prop
kind_prop OfCode (AText text) = nothing_prop
kind_prop OfCode (AName name) = nothing_prop
kind_prop OfCode (AService service) = nothing_prop
kind_prop OfCode (ANumber number) = le_prop
kind_prop OfCode (APair left right) = nothing_prop
kind_prop Unsupported (AText text) = nothing_prop
kind_prop Unsupported (AName name) = nothing_prop
kind_prop Unsupported (AService service) = nothing_prop
kind_prop Unsupported (ANumber number) = nothing_prop
kind_prop Unsupported (APair left right) = nothing_prop
