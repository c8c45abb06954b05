-- What holds of each text, whatever reads it: this project's profile.
use Rattle.std.specs.Prelude.{◌≡◌, ◌≤◌, ◌⊎◌, ℕ, List, length, take}
use Rattle.std.specs.List.{All}
use Rattle.csm_batch.specs.declared.entry.Entry.{Entry}
use Rattle.csm_batch.specs.Batches.{IsBatch, IsFirstBad, IsShort}
use Rattle.csm_batch.specs.Lines.{lines_text}

-- each text is a batch or has a first bad line
abbrev pub HasReading : Type 0
HasReading = (text : List ℕ) → ((entries : List Entry) × IsBatch text entries) ⊎ ((number : ℕ) × IsFirstBad text number)

-- it is one batch at most, or has one first bad line at most, and never both
pub record OneReading : Type 0 where
  pub one_batch : (text : List ℕ) (a b : List Entry) → IsBatch text a → IsBatch text b → a ≡ b
  pub one_bad : (text : List ℕ) (a b : ℕ) → IsFirstBad text a → IsFirstBad text b → a ≡ b
  pub never_both : (text : List ℕ) (entries : List Entry) (number : ℕ) → IsBatch text entries → ¬ (IsFirstBad text number)

-- the lines of short entries are a batch of them, where they pass no limit
abbrev pub ReadsBack : Type 0
ReadsBack = (entries : List Entry) → All IsShort entries → length entries ≤ 2048 → length (lines_text entries) ≤ 1048576 → IsBatch (lines_text entries) entries

-- the first bad line of so many bytes in front is that of all bytes
abbrev pub BadInFront : Type 0
BadInFront = (text : List ℕ) (number : ℕ) → IsFirstBad (take 1048577 text) number → IsFirstBad text number
