-- What became of a payment of a party on a shelf (this project's profile). `party_disk` and `ledger_disk` are what the shelf tells
-- of the two disks before the call, and `ledger_after` what it tells of the ledger's afterwards.
use Rattle.std.specs.Prelude.{◌≡◌, ◌≢◌, ◌⊎◌, ℕ, true, List, Some, is_some}
use Rattle.x_disk.specs.Disk.{View, Tells, LeavesOnly, IsDurable, IsUntouched}
use Rattle.key_journal.specs.Journal.{is_blank}
use Rattle.party_state.specs.State.{Party}
use Rattle.key_store.specs.Store.{Stands}
use Rattle.key_store.specs.Store as party
use Rattle.disk_pair.specs.Pairs.{LeavesPair}
use Rattle.pay_auth.specs.declared.entry.Entry.{Entry}
use Rattle.pay_auth.specs.declared.refusal.PayRefusal.{PayRefusal}
use Rattle.pay_auth.specs.Entries.{put_entry}
use Rattle.pay_auth.specs.Ledgers.{HasEntries, ReadsEntries, IsLedgerDamage}
use Rattle.x_pay.specs.declared.outcome.PayOutcome.{PayOutcome}
use Rattle.x_pay.specs.declared.outcome.PayOutcome.TheVariants as outcome

-- what a read gives of the party's disk stands for this party, which is that of the name
pub record IsOwnParty (name : List ℕ) (party_disk : View) (p : Party) : Type 0 where
  pub reads : (image : List ℕ) → party_disk.now ≡ Some image → Stands image p
  pub own : p.own ≡ name

-- what a read gives of the ledger's disk is blank or stands for these entries
abbrev pub Reads : View → List Entry → Type 0
Reads v entries = (image : List ℕ) → v.now ≡ Some image → ReadsEntries image entries

-- each image that a crash may leave of the ledger's disk stands for these entries
pub record KeepsEntries (v : View) (entries : List Entry) : Type 0 where
  pub durable : IsDurable v
  pub stands : (image : List ℕ) → v.now ≡ Some image → HasEntries image entries

-- what a payment of a party with a ledger is about: the first test that fails, and what is kept and told where none does
pub record Payment : Type 1 where
  pub Refuses : Party → List Entry → PayRefusal → Type 0
  pub Passes : Party → List Entry → Entry → List ℕ → Type 0

-- what never comes to a test
abbrev pub nothing : Payment
nothing = record { Refuses = λ p entries cause. ⊥; Passes = λ p entries entry text. ⊥ }

-- no test fails: the entry is kept
pub record IsPaid (w : Payment) (name : List ℕ) (party_disk ledger_disk ledger_after : View) (text : List ℕ) : Type 0 where
  pub p : Party
  pub entries : List Entry
  pub entry : Entry
  pub is_own : IsOwnParty name party_disk p
  pub reads : Reads ledger_disk entries
  pub passes : w.Passes p entries entry text
  pub kept : KeepsEntries ledger_after (put_entry entry entries)

-- a test fails, and this is the first: the entries stay
pub record IsRefusedPayment (w : Payment) (name : List ℕ) (party_disk ledger_disk ledger_after : View) (cause : PayRefusal) : Type 0 where
  pub p : Party
  pub entries : List Entry
  pub is_own : IsOwnParty name party_disk p
  pub reads : Reads ledger_disk entries
  pub refuses : w.Refuses p entries cause
  pub stay : KeepsEntries ledger_after entries

-- the party isn't that of the name
pub record IsOther (name : List ℕ) (party_disk ledger_disk ledger_after : View) (asked found : List ℕ) : Type 0 where
  pub p : Party
  pub reads : (image : List ℕ) → party_disk.now ≡ Some image → Stands image p
  pub called : asked ≡ name
  pub own : found ≡ p.own
  pub differs : found ≢ name
  pub untouched : IsUntouched ledger_disk ledger_after

-- no party stands on the party's disk
pub record IsNobody (party_disk ledger_disk ledger_after : View) : Type 0 where
  pub blank : (image : List ℕ) → party_disk.now ≡ Some image → is_blank image ≡ true
  pub untouched : IsUntouched ledger_disk ledger_after

-- the party's image is damaged
pub record IsPartyDamaged (party_disk ledger_disk ledger_after : View) (place : ℕ) : Type 0 where
  pub first : (image : List ℕ) → party_disk.now ≡ Some image → party.IsFirstDamage image place
  pub untouched : IsUntouched ledger_disk ledger_after

-- the ledger's image is damaged
pub record IsLedgerDamaged (name : List ℕ) (party_disk ledger_disk ledger_after : View) (place : ℕ) : Type 0 where
  pub p : Party
  pub is_own : IsOwnParty name party_disk p
  pub first : (image : List ℕ) → ledger_disk.now ≡ Some image → IsLedgerDamage image place
  pub untouched : Tells ledger_disk → IsUntouched ledger_disk ledger_after

-- what became of the payment
abbrev pub MakesPayment : Payment → List ℕ → View → View → View → PayOutcome → Type 0
MakesPayment w name party_disk ledger_disk ledger_after (outcome.Done text) = IsPaid w name party_disk ledger_disk ledger_after text
MakesPayment w name party_disk ledger_disk ledger_after (outcome.Refused cause) = IsRefusedPayment w name party_disk ledger_disk ledger_after cause
MakesPayment w name party_disk ledger_disk ledger_after (outcome.OtherParty asked found) = IsOther name party_disk ledger_disk ledger_after asked found
MakesPayment w name party_disk ledger_disk ledger_after outcome.Blank = IsNobody party_disk ledger_disk ledger_after
MakesPayment w name party_disk ledger_disk ledger_after (outcome.Damaged place) = IsPartyDamaged party_disk ledger_disk ledger_after place ⊎ IsLedgerDamaged name party_disk ledger_disk ledger_after place
MakesPayment w name party_disk ledger_disk ledger_after outcome.Fault = Unit {0}
MakesPayment w name party_disk ledger_disk ledger_after outcome.NoMemory = Unit {0}

-- an image of the ledger that a crash may leave: it stands for the old entries or the new ones, or was there before
pub data MayLeave (w : Payment) (p : Party) (entries : List Entry) (before : List ℕ → Type 0) (image : List ℕ) : Type 0 where
  Before : before image → MayLeave w p entries before image
  Old : ReadsEntries image entries → MayLeave w p entries before image
  New : (entry : Entry) (text : List ℕ) → w.Passes p entries entry text → HasEntries image (put_entry entry entries) → MayLeave w p entries before image

-- what holds of every outcome
pub record IsSafePayment (w : Payment) (name : List ℕ) (party_disk party_after ledger_disk ledger_after : View) : Type 0 where
  -- nothing is written to the party's disk
  pub party : IsUntouched party_disk party_after
  -- a crash at any moment leaves the ledger with the old entries or the new ones
  pub ledger : (p : Party) (entries : List Entry) (image book : List ℕ) → party_disk.now ≡ Some image → Stands image p → p.own ≡ name → ledger_disk.now ≡ Some book → ReadsEntries book entries
      → LeavesOnly ledger_disk ledger_after (MayLeave w p entries ledger_disk.may_leave)
  -- nothing is written to it where the party's image stands for no party of the name
  pub nobody : (image : List ℕ) → party_disk.now ≡ Some image → ((p : Party) → Stands image p → p.own ≡ name → ⊥) → IsUntouched ledger_disk ledger_after
  -- nor where its own image is neither blank nor stands for entries
  pub damaged : (book : List ℕ) → ledger_disk.now ≡ Some book → ((entries : List Entry) → ReadsEntries book entries → ⊥) → IsUntouched ledger_disk ledger_after
  pub tells : is_some ledger_after.now ≡ is_some ledger_disk.now

-- it is neither a fault nor want of memory
abbrev pub IsNoFailure : PayOutcome → Type 0
IsNoFailure outcome.Fault = ⊥
IsNoFailure outcome.NoMemory = ⊥
IsNoFailure other = Unit {0}

-- what is left of the shelf, where a failure is no answer
abbrev pub LeavesShelf : List ℕ → List ℕ → PayOutcome → Type 0 → Type 0 → (List ℕ → View) → (List ℕ → View) → ℕ → ℕ → Type 0
LeavesShelf name ledger o party_back ledger_back old new before after = LeavesPair name ledger (IsNoFailure o) (o ≡ outcome.Fault) party_back ledger_back old new before after
