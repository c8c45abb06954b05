-- What a ledger's image stands for: the fold of the puts of its bodies, from no entries (this project's profile).
use Rattle.std.specs.Prelude.{◌≡◌, ◌⊎◌, ℕ, true, List, []}
use Rattle.key_journal.specs.Journal.{is_blank}
use Rattle.journal_state.specs.States as journal
use Rattle.journal_state.specs.States.{Stood}
use Rattle.pay_auth.specs.declared.entry.Entry.{Entry}
use Rattle.pay_auth.specs.Bodies.{PutsBody}

-- the image stands for these entries
abbrev pub HasEntries : List ℕ → List Entry → Type 0
HasEntries image entries = journal.StandsFor PutsBody [] image entries

-- the image is blank, which is a ledger without entries, or stands for these
abbrev pub ReadsEntries : List ℕ → List Entry → Type 0
ReadsEntries image entries = ((is_blank image ≡ true) × (entries ≡ [])) ⊎ HasEntries image entries

-- the first damage of a ledger's image
abbrev pub IsLedgerDamage : List ℕ → ℕ → Type 0
IsLedgerDamage image place = journal.IsFirstDamage PutsBody [] image place

-- a ledger: its disk, the place of the closed gate and the end of its area, and its entries
abbrev pub LedgerView : Type 0 → Type 0
LedgerView D = Stood D (List Entry)
