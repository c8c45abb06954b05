-- The outcome that is due of a payment, by the images of the party's disk and the ledger's (this project's profile).
use Rattle.std.specs.Prelude.{◌≡◌, ◌≢◌, ◌⊎◌, ℕ, true, List, Some}
use Rattle.x_disk.specs.Disk.{View}
use Rattle.key_journal.specs.Journal.{is_blank}
use Rattle.party_state.specs.State.{Party}
use Rattle.key_store.specs.Store.{Stands, IsFirstDamage}
use Rattle.pay_auth.specs.declared.entry.Entry.{Entry}
use Rattle.pay_auth.specs.declared.refusal.PayRefusal.{PayRefusal}
use Rattle.pay_auth.specs.Ledgers.{ReadsEntries, IsLedgerDamage}
use Rattle.x_pay.specs.Outcomes.{Payment}
use Rattle.x_pay.specs.declared.outcome.PayOutcome.{PayOutcome}
use Rattle.x_pay.specs.declared.outcome.PayOutcome.TheVariants as outcome

-- the image stands for this party, which is that of the name
pub record FindsParty (name image : List ℕ) (p : Party) : Type 0 where
  pub stands : Stands image p
  pub own : p.own ≡ name

-- and the ledger's image is blank or stands for these entries
pub record FindsBoth (name image book : List ℕ) (p : Party) (entries : List Entry) : Type 0 where
  pub party : FindsParty name image p
  pub reads : ReadsEntries book entries

-- no test fails
pub record IsDuePaid (w : Payment) (name image book text : List ℕ) : Type 0 where
  pub p : Party
  pub entries : List Entry
  pub entry : Entry
  pub found : FindsBoth name image book p entries
  pub passes : w.Passes p entries entry text

-- this is the first that fails
pub record IsDueRefused (w : Payment) (name image book : List ℕ) (cause : PayRefusal) : Type 0 where
  pub p : Party
  pub entries : List Entry
  pub found : FindsBoth name image book p entries
  pub refuses : w.Refuses p entries cause

-- the image stands for a party of another identity than the name
pub record IsDueOther (name image asked found : List ℕ) : Type 0 where
  pub p : Party
  pub stands : Stands image p
  pub called : asked ≡ name
  pub own : found ≡ p.own
  pub differs : found ≢ name

-- the party of the name stands, and the ledger's image is damaged
pub record IsDueDamaged (name image book : List ℕ) (place : ℕ) : Type 0 where
  pub p : Party
  pub party : FindsParty name image p
  pub first : IsLedgerDamage book place

-- the outcome that is due
abbrev pub IsDuePayment : Payment → List ℕ → List ℕ → List ℕ → PayOutcome → Type 0
IsDuePayment w name image book (outcome.Done text) = IsDuePaid w name image book text
IsDuePayment w name image book (outcome.Refused cause) = IsDueRefused w name image book cause
IsDuePayment w name image book (outcome.OtherParty asked found) = IsDueOther name image asked found
IsDuePayment w name image book outcome.Blank = is_blank image ≡ true
IsDuePayment w name image book (outcome.Damaged place) = IsFirstDamage image place ⊎ IsDueDamaged name image book place
IsDuePayment w name image book outcome.Fault = ⊥
IsDuePayment w name image book outcome.NoMemory = ⊥

-- the outcome is the one that is due by the images, or a fault or want of memory came in its place
abbrev pub GivesDue : Payment → List ℕ → View → View → PayOutcome → Type 0
GivesDue w name party_disk ledger_disk o = (image book : List ℕ) (other : PayOutcome) → party_disk.now ≡ Some image → ledger_disk.now ≡ Some book → IsDuePayment w name image book other
    → (o ≡ other) ⊎ ((o ≡ outcome.Fault) ⊎ (o ≡ outcome.NoMemory))
