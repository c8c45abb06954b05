-- What reading a text answers (this project's profile).
use Rattle.std.specs.Prelude.{◌≡◌, ℕ, List, Result, Ok, Err, ◌⊎◌, IfOk}
use Rattle.csm_grammar.specs.declared.parsed.Parsed.{Parsed}
use Rattle.csm_grammar.specs.declared.refusal.ReadRefusal.{ReadRefusal}
use Rattle.csm_grammar.specs.declared.refusal.ReadRefusal.TheVariants as refusal
use Rattle.csm_grammar.specs.Reading.{IsRead}
use Rattle.csm_read.specs.Faults.{IsFault}

-- what is read is read so
abbrev pub Found : List ℕ → Result Parsed ReadRefusal → Type 0
Found b result = IfOk result (λ p. IsRead b p)

-- where a message stands in front, it is the answer, or want of memory
abbrev pub Only : List ℕ → Result Parsed ReadRefusal → Type 0
Only b result = (p : Parsed) → IsRead b p → (result ≡ Ok p) ⊎ (result ≡ Err refusal.NoMemory)

-- a refusal is the fault of the bytes, or want of memory
abbrev pub Faulted : List ℕ → Result Parsed ReadRefusal → Type 0
Faulted b result = (r : ReadRefusal) → result ≡ Err r → IsFault b r ⊎ (r ≡ refusal.NoMemory)

-- where the bytes have a fault, it is the answer, or want of memory
abbrev pub Faults : List ℕ → Result Parsed ReadRefusal → Type 0
Faults b result = (r : ReadRefusal) → IsFault b r → (result ≡ Err r) ⊎ (result ≡ Err refusal.NoMemory)
