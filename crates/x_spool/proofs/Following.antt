-- The outcome of a call is the one that is due.
use Rattle.std.proofs.Common.{inl, inr, List, ℕ, refl}
use Rattle.x_disk.specs.Disk.{View}
use Rattle.csm_batch.specs.declared.entry.Entry.{Entry}
use Rattle.x_spool.specs.Dues.{IsDueBatch, IsSame, GivesDue}
use Rattle.x_spool.specs.Outcomes.{MakesBatch}
use Rattle.x_spool.specs.declared.outcome.SpoolOutcome.{SpoolOutcome}
use Rattle.x_spool.specs.declared.outcome.SpoolOutcome.TheVariants as outcome

module _ (name text : List ℕ) (one_due : (image book : List ℕ) (a b : SpoolOutcome) → IsDueBatch name image book text a → IsDueBatch name image book text b → IsSame a b)
    (entries : List Entry) (party_disk spool_disk party_after spool_after : View) where
  pub due : (o : SpoolOutcome) → MakesBatch name text entries party_disk spool_disk party_after spool_after o → GivesDue name text party_disk spool_disk o
  due (outcome.Done out) made = λ image book other now told_book is. inl (one_due image book (outcome.Done out) other (made.due image book now told_book tt) is)
  due outcome.OtherBatch made = λ image book other now told_book is. inl (one_due image book outcome.OtherBatch other (made.due image book now told_book tt) is)
  due (outcome.OutOfStep e) made = λ image book other now told_book is. inl (one_due image book (outcome.OutOfStep e) other (made.due image book now told_book tt) is)
  due (outcome.OtherParty asked found) made = λ image book other now told_book is. inl (one_due image book (outcome.OtherParty asked found) other (made.due image book now told_book tt) is)
  due outcome.Blank made = λ image book other now told_book is. inl (one_due image book outcome.Blank other (made.due image book now told_book tt) is)
  due (outcome.Damaged place) made = λ image book other now told_book is. inl (one_due image book (outcome.Damaged place) other (made.due image book now told_book tt) is)
  due outcome.Fault made = λ image book other now told_book is. inr (inl refl)
  due outcome.NoMemory made = λ image book other now told_book is. inr (inr refl)
