-- How a ledger is opened (this project's profile).
use Rattle.std.specs.Prelude.{◌≡◌, ◌⊎◌, ℕ, ◌≤◌, false, List, [], Some, is_some, Result, IfOk, IfErr}
use Rattle.x_base.specs.Edge.{Rose}
use Rattle.x_disk.specs.Disk.{View, Tells, LeavesOnly, IsUntouched}
use Rattle.key_journal.specs.Journal.{is_blank}
use Rattle.key_journal.specs.Opening.{IsFree}
use Rattle.key_journal.specs.declared.cause.Cause.{Cause}
use Rattle.key_journal.specs.declared.cause.Cause.TheVariants as cause
use Rattle.key_journal.specs.declared.cause.Unmade.{Unmade}
use Rattle.journal_state.specs.Making.{IsMade}
use Rattle.journal_state.specs.Results.{loaded_disk}
use Rattle.journal_state.specs.States.{IsStanding, IsBlankOrFor}
use Rattle.pay_auth.specs.declared.entry.Entry.{Entry}
use Rattle.pay_auth.specs.Bodies.{PutsBody}
use Rattle.pay_auth.specs.Ledgers.{ReadsEntries, IsLedgerDamage, LedgerView}

-- why no ledger is opened of an image
abbrev pub IsLedgerRefusal : List ℕ → Cause → Type 0
IsLedgerRefusal image cause.Blank = ⊥
IsLedgerRefusal image cause.NotEmpty = ⊥
IsLedgerRefusal image (cause.Damaged place) = IsLedgerDamage image place
IsLedgerRefusal image cause.Fault = Unit {0}
IsLedgerRefusal image cause.NoMemory = Unit {0}

-- a ledger without entries is made on a disk whose image is blank
abbrev pub IsLedgerMade : {D : Type 0} → (D → View) → D → Result (LedgerView D) (Unmade D) → Type 0
IsLedgerMade told old result = IsMade PutsBody [] told [] old result

-- a ledger is opened, and created without entries where the image is blank
pub record IsLedgerOpened {D : Type 0} (told : D → View) (old : D) (result : Result (LedgerView D) (Unmade D)) : Type 0 where
  -- each image that a crash may leave stands for its entries
  pub stands : IfOk result (λ l. IsStanding PutsBody [] (told l.disk) l.gate l.end l.state)
  -- an image that is blank or stands is opened as its entries
  pub exact : IfOk result (λ l. (image : List ℕ) (entries : List Entry) → (told old).now ≡ Some image → ReadsEntries image entries → l.state ≡ entries)
  -- and no other is
  pub reads : IfOk result (λ l. (image : List ℕ) → (told old).now ≡ Some image → ReadsEntries image l.state)
  pub refused : IfErr result (λ u. (image : List ℕ) → (told old).now ≡ Some image → IsLedgerRefusal image u.cause)
  pub names : IfErr result (λ u. u.cause ≡ cause.Blank → ⊥)
  -- such an image gives no other cause than a fault or want of memory
  pub never_refused : IfErr result (λ u. (image : List ℕ) (entries : List Entry) → (told old).now ≡ Some image → ReadsEntries image entries → IsFree u.cause)
  -- nothing is written where the image isn't blank
  pub untouched : (image : List ℕ) → (told old).now ≡ Some image → is_blank image ≡ false → IsUntouched (told old) (told (loaded_disk result))
  -- a crash at any moment leaves a blank image, one without entries, or what it could leave before
  pub any_moment : Tells (told old) → LeavesOnly (told old) (told (loaded_disk result)) (λ c. IsBlankOrFor PutsBody [] [] c ⊎ (told old).may_leave c)
  pub fault : IfErr result (λ u. u.cause ≡ cause.Fault → Rose (told old).faults (told u.disk).faults)
  pub faults : (told old).faults ≤ (told (loaded_disk result)).faults
  pub tells : is_some (told (loaded_disk result)).now ≡ is_some (told old).now
