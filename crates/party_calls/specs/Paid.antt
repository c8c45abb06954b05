-- What `pay` and `accept` say (this project's profile). `left` and `rest` are what the source has before and after, `before` and
-- `after` what the sink has, `old` and `new` what the shelf tells of the disks.
use Rattle.std.specs.Prelude.{◌≡◌, ◌⊎◌, ◌<◌, ℕ, List, [], ◌∷◌, length, take, Option, Some, IfSome}
use Rattle.x_base.specs.declared.verdict.Verdict.TheVariants as verdict
use Rattle.x_disk.specs.Disk.{View}
use Rattle.x_disk.specs.Shelf.{AllStay}
use Rattle.x_pay.specs.Dues.{IsDuePayment}
use Rattle.x_pay.specs.Outcomes.{Payment, MakesPayment, IsSafePayment}
use Rattle.x_pay.specs.Payments.{accepting}
use Rattle.x_pay.specs.declared.outcome.PayOutcome.{PayOutcome}
use Rattle.x_pay.specs.declared.outcome.PayOutcome.TheVariants as outcome
use Rattle.call_ends.specs.declared.status.Refusal.TheVariants.{Decided, OtherParty, Pay}
use Rattle.call_ends.specs.declared.status.Status.{Status}
use Rattle.call_ends.specs.declared.status.Status.TheVariants as status
use Rattle.call_ends.specs.Puts.{Puts}
use Rattle.party_calls.specs.Dues.{IsOrNoMemory}

-- how many bytes of a payment are taken at most
abbrev pub payment_limit : ℕ
payment_limit = 257

-- the bytes of a source that are taken
abbrev pub payment_taken : List ℕ → List ℕ
payment_taken all = take payment_limit all

-- the status of an outcome
abbrev pub status_of_payment : PayOutcome → Status
status_of_payment (outcome.Done text) = status.Done
status_of_payment (outcome.Refused cause) = status.Refused (Pay cause)
status_of_payment (outcome.OtherParty asked found) = status.Refused (OtherParty asked found)
status_of_payment outcome.Blank = status.Refused (Decided verdict.Blank)
status_of_payment (outcome.Damaged place) = status.Damaged place
status_of_payment outcome.Fault = status.DiskFault
status_of_payment outcome.NoMemory = status.NoMemory

-- a payment with this outcome ends so: its text is written, with a line feed, where it is done, and otherwise nothing
abbrev pub EndsPayment : PayOutcome → Status → Option (List ℕ) → Option (List ℕ) → Type 0
EndsPayment (outcome.Done text) s before after = Puts (Some text) (10 ∷ []) status.Done s before after
EndsPayment o s before after = (s ≡ status_of_payment o) × (after ≡ before)

-- what became of a payment of the party of this name, with the ledger of that name
pub record IsPayment (w : Payment) (party ledger : List ℕ) (old new : List ℕ → View) (s : Status) (before after : Option (List ℕ)) : Type 0 where
  pub outcome : PayOutcome
  pub made : MakesPayment w party (old party) (old ledger) (new ledger) outcome
  pub safe : IsSafePayment w party (old party) (new party) (old ledger) (new ledger)
  pub ends : EndsPayment outcome s before after

-- the bytes of the source up to the limit; where they are fewer, the source was read to its end
pub record TakesPayment (left rest : Option (List ℕ)) (bytes : List ℕ) : Type 0 where
  pub front : IfSome left (λ all. bytes ≡ payment_taken all)
  pub end : length bytes < payment_limit → IfSome left (λ all. rest ≡ Some [])

-- no bytes were taken, and nothing was changed or written; or they were taken in as a payment
abbrev pub IsAccepted : List ℕ → List ℕ → Option (List ℕ) → Option (List ℕ) → (List ℕ → View) → (List ℕ → View) → Status → Option (List ℕ) → Option (List ℕ) → Type 0
IsAccepted party ledger left rest old new s before after = (((s ≡ status.ReadFault) ⊎ (s ≡ status.NoMemory)) × (after ≡ before) × AllStay old new)
    ⊎ ((bytes : List ℕ) × TakesPayment left rest bytes × IsPayment (accepting bytes) party ledger old new s before after)

-- the status is that of the outcome that is due by the two images, or no memory was left
abbrev pub FollowsPayment : Payment → List ℕ → View → View → Status → Type 0
FollowsPayment w party party_disk ledger_disk s = (image book : List ℕ) (o : PayOutcome) → party_disk.now ≡ Some image → ledger_disk.now ≡ Some book → IsDuePayment w party image book o
    → IsOrNoMemory s (status_of_payment o)
