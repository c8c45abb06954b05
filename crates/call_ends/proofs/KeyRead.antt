-- A key is read of the bytes that a source gives.
use Rattle.std.proofs.Common.{◌≡◌, inr, ℕ, ◌<◌, List, length, Option, Result, Ok, Err, refl, sym, subst}
use Rattle.key_parts.specs.Parts.{entered_of}
use Rattle.key_parts.specs.declared.part.Form.{Form}
use Rattle.key_parts.specs.declared.part.Part.{Part}
use Rattle.call_ends.specs.Transfer.{IsAtEnd, IsFront}
use Rattle.call_ends.specs.declared.status.Refusal.TheVariants.{BadDigits}
use Rattle.call_ends.specs.declared.status.Status.TheVariants as status
use Rattle.call_ends.specs.Digits.{AreRead, IsNoKey, TakesDigits, digits_limit}

pub takes_digits : (left rest : Option (List ℕ)) (text bytes : List ℕ) → IsFront digits_limit left text → (length text < digits_limit → IsAtEnd left rest) → bytes ≡ text → TakesDigits left rest bytes
takes_digits left rest text bytes front end same = subst (TakesDigits left rest) (sym same) (record { front = front; end = end })

pub are_read : (form : Form) (left rest : Option (List ℕ)) (text bytes : List ℕ) (read : Result Part ℕ) → IsFront digits_limit left text → (length text < digits_limit → IsAtEnd left rest) → bytes ≡ text
    → read ≡ entered_of form bytes → AreRead form left rest read
are_read form left rest text bytes read front end same is = (bytes, takes_digits left rest text bytes front end same, sym is)

pub key_read : (form : Form) (left rest : Option (List ℕ)) (text bytes : List ℕ) (part : Part) → IsFront digits_limit left text → (length text < digits_limit → IsAtEnd left rest) → bytes ≡ text
    → Ok part ≡ entered_of form bytes → AreRead form left rest (Ok part)
key_read form left rest text bytes part front end same is = are_read form left rest text bytes (Ok part) front end same is

pub line_at_fault : (form : Form) (left rest : Option (List ℕ)) (text bytes : List ℕ) (line : ℕ) → IsFront digits_limit left text → (length text < digits_limit → IsAtEnd left rest) → bytes ≡ text
    → Err line ≡ entered_of form bytes → IsNoKey form left rest (status.Refused (BadDigits line))
line_at_fault form left rest text bytes line front end same is = inr (line, refl, are_read form left rest text bytes (Err line) front end same is)
