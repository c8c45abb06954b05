-- The key that a source gives (this project's profile). `left` and `rest` are what the source has before and after.
use Rattle.std.specs.Prelude.{◌≡◌, ◌⊎◌, ◌<◌, ℕ, List, [], length, take, Option, Some, IfSome, Result, Err}
use Rattle.key_parts.specs.Parts.{entered_of}
use Rattle.key_parts.specs.declared.part.Form.{Form}
use Rattle.key_parts.specs.declared.part.Part.{Part}
use Rattle.call_ends.specs.declared.status.Refusal.TheVariants.{BadDigits}
use Rattle.call_ends.specs.declared.status.Status.{Status}
use Rattle.call_ends.specs.declared.status.Status.TheVariants as status

-- how many bytes of it are taken at most
abbrev pub digits_limit : ℕ
digits_limit = 257

abbrev pub digits_taken : List ℕ → List ℕ
digits_taken all = take digits_limit all

-- the bytes of the source up to the limit; where they are fewer, the source was read to its end
pub record TakesDigits (left rest : Option (List ℕ)) (bytes : List ℕ) : Type 0 where
  pub front : IfSome left (λ all. bytes ≡ digits_taken all)
  pub end : length bytes < digits_limit → IfSome left (λ all. rest ≡ Some [])

-- the bytes give this key, or this line of them is at fault
abbrev pub AreRead : Form → Option (List ℕ) → Option (List ℕ) → Result Part ℕ → Type 0
AreRead form left rest read = (bytes : List ℕ) × TakesDigits left rest bytes × (entered_of form bytes ≡ read)

-- there is no key: the source failed, or no memory was left, or a line is at fault
abbrev pub IsNoKey : Form → Option (List ℕ) → Option (List ℕ) → Status → Type 0
IsNoKey form left rest s = ((s ≡ status.ReadFault) ⊎ (s ≡ status.NoMemory))
    ⊎ ((line : ℕ) × (s ≡ status.Refused (BadDigits line)) × AreRead form left rest (Err line))
