-- Key names and how they are written: the contents of ANSI X9.17's tags IDD and IDA, in the form of
-- this project's profile.
use Rattle.std.specs.Prelude.{ℕ, ◌≡◌, ◌==◌, List, [], ◌∷◌}
use Rattle.std.specs.Fmt.{decimal}
use Rattle.std.specs.List.{slice_split, join_with_byte}
use Rattle.std.specs.Str.Parse.{digits_value}
use Rattle.x_base.specs.declared.key_name.KeyName.{KeyName}
use Rattle.x_base.specs.declared.key_name.NameFault.{NameFault}
use Rattle.x_base.specs.declared.key_name.NameFault.TheVariants.{BadIdent, BadLabel, BadCount}
use Rattle.x_base.specs.Count.{IsCount, SpellsCount}
use Rattle.x_base.specs.Names.{IsIdent, IsLabel}

-- each part of the name is in its form
pub record IsKeyName (name : KeyName) : Type 0 where
  pub issuer : IsIdent name.issuer
  pub originator : IsIdent name.originator
  pub label : IsLabel name.label
  pub count : IsCount name.count

-- these bytes spell this key name: issuer, originator, label and the digits of the count, with a
-- period between each two
pub record NameOf (bytes : List ℕ) (name : KeyName) : Type 0 where
  pub digits : List ℕ
  pub issuer : IsIdent name.issuer
  pub originator : IsIdent name.originator
  pub label : IsLabel name.label
  pub count : SpellsCount digits
  pub number : name.count ≡ digits_value 10 digits
  pub text : bytes ≡ join_with_byte 46 (name.issuer ∷ name.originator ∷ name.label ∷ digits ∷ [])

-- what stands between the periods
abbrev pub parts_of : List ℕ → List (List ℕ)
parts_of bytes = slice_split (λ b. b == 46) bytes

-- of four parts the first bad one is at fault; other than four are a bad identity
abbrev pub IsPartsFault : List (List ℕ) → NameFault → Type 0
IsPartsFault (issuer ∷ originator ∷ label ∷ digits ∷ []) BadIdent = ¬ (IsIdent issuer × IsIdent originator)
IsPartsFault (issuer ∷ originator ∷ label ∷ digits ∷ []) BadLabel = IsIdent issuer × IsIdent originator × ¬ (IsLabel label)
IsPartsFault (issuer ∷ originator ∷ label ∷ digits ∷ []) BadCount = IsIdent issuer × IsIdent originator × IsLabel label × ¬ (SpellsCount digits)
IsPartsFault parts fault = fault ≡ BadIdent

-- what is wrong with bytes that spell no key name
abbrev pub IsNameFault : List ℕ → NameFault → Type 0
IsNameFault bytes fault = IsPartsFault (parts_of bytes) fault

-- the written form, with the count in decimal digits without leading zeros
abbrev pub written : KeyName → List ℕ
written name = join_with_byte 46 (name.issuer ∷ name.originator ∷ name.label ∷ decimal name.count ∷ [])
