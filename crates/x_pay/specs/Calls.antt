-- A call of this crate as one of the calls over a ledger on which the law on payments stands (this project's profile).
use Rattle.std.specs.Prelude.{◌≡◌, ℕ, List, [], ◌∷◌, ◌++◌, Some}
use Rattle.x_disk.specs.Disk.{View, LeavesOnly}
use Rattle.party_state.specs.State.{Party}
use Rattle.pay_auth.specs.declared.pay.Pay.{Pay}
use Rattle.pay_auth.specs.Texts.{pay_text}
use Rattle.pay_auth.specs.Decisions.{receipt}
use Rattle.pay_auth.specs.Ledgers.{HasEntries, ReadsEntries}
use Rattle.pay_auth.specs.Runs.{Ending, Whole, CutNew, Call, Books, Steps}
use Rattle.x_pay.specs.Outcomes.{KeepsEntries}
use Rattle.x_pay.specs.Dues.{FindsBoth}
use Rattle.x_pay.specs.declared.outcome.PayOutcome.{PayOutcome}
use Rattle.x_pay.specs.declared.outcome.PayOutcome.TheVariants as outcome

-- the party's disk stands for this party of the name, and the ledger's for the entries of these books
pub record FindsBooks (name : List ℕ) (party_disk ledger_disk : View) (p : Party) (b : Books) : Type 0 where
  pub image : List ℕ
  pub book : List ℕ
  pub party_told : party_disk.now ≡ Some image
  pub ledger_told : ledger_disk.now ≡ Some book
  pub both : FindsBoth name image book p b.entries

-- it is done or refused
abbrev pub IsAnswer : PayOutcome → Type 0
IsAnswer (outcome.Done text) = Unit {0}
IsAnswer (outcome.Refused cause) = Unit {0}
IsAnswer other = ⊥

-- where it is done the books have one more payment that was paid out, and its text is the one that is handed out; otherwise they stay
abbrev pub TellsPaid : PayOutcome → Books → Books → Type 0
TellsPaid (outcome.Done text) b next = (pay : Pay) × (mac : ℕ) × (text ≡ pay_text pay mac) × (next.paid ≡ b.paid ++ pay ∷ []) × (next.taken ≡ b.taken)
TellsPaid other b next = next ≡ b

-- the same of a payment that was taken in, and its receipt
abbrev pub TellsTaken : PayOutcome → Books → Books → Type 0
TellsTaken (outcome.Done text) b next = (pay : Pay) × (text ≡ receipt pay) × (next.taken ≡ b.taken ++ pay ∷ []) × (next.paid ≡ b.paid)
TellsTaken other b next = next ≡ b

-- an image of the ledger that a crash may leave: it was there before, or stands for the entries of the books as they were, as though
-- no call had been made, or as the call leaves them that is cut off behind its keeping
pub data MayTell (call : Ending → Call) (b : Books) (before : List ℕ → Type 0) (image : List ℕ) : Type 0 where
  WasThere : before image → MayTell call b before image
  Unmade : ReadsEntries image b.entries → MayTell call b before image
  CutOff : (next : Books) → Steps (call CutNew) b next → HasEntries image next.entries → MayTell call b before image

-- the whole call leads to books for whose entries the ledger stands
pub record IsWhole (call : Ending → Call) (Tells : Books → Books → Type 0) (b : Books) (ledger_after : View) : Type 0 where
  pub next : Books
  pub steps : Steps (call Whole) b next
  pub tells : Tells b next
  pub kept : KeepsEntries ledger_after next.entries

-- where it is answered it is the whole call, and at any moment a crash makes of it one that is cut off, or none
pub record IsLedgerCall (call : Ending → Call) (Tells : PayOutcome → Books → Books → Type 0) (b : Books) (ledger_disk ledger_after : View) (o : PayOutcome) : Type 0 where
  pub whole : IsAnswer o → IsWhole call (Tells o) b ledger_after
  pub any_moment : LeavesOnly ledger_disk ledger_after (MayTell call b ledger_disk.may_leave)
