-- The outcome that is due of a batch, by the images of the party's disk and the spool's (this project's profile).
use Rattle.std.specs.Prelude.{◌≡◌, ◌≢◌, ◌⊎◌, ℕ, true, List, length, Some}
use Rattle.x_disk.specs.Disk.{View}
use Rattle.key_journal.specs.Journal.{is_blank}
use Rattle.party_state.specs.State.{Party}
use Rattle.key_store.specs.Store.{Stands, IsFirstDamage}
use Rattle.member.specs.Member.{Member}
use Rattle.node_core.specs.Turns.{IsImageOf}
use Rattle.spool_store.specs.Beginning.{HoldsBatch, HoldsOther}
use Rattle.spool_store.specs.Contents.{Progress, HoldsPlans, IsSpoolDamage}
use Rattle.csm_spool.specs.Drives.{IsOut}
use Rattle.x_spool.specs.declared.outcome.SpoolOutcome.{SpoolOutcome}
use Rattle.x_spool.specs.declared.outcome.SpoolOutcome.TheVariants as outcome

-- the image stands for this member, whose party is that of the name
pub record FindsMember (name image : List ℕ) (x : Member) : Type 0 where
  pub stands : IsImageOf x image
  pub own : x.party.own ≡ name

-- the image stands for a party of another identity than the name
pub record IsDueOther (name image asked found : List ℕ) : Type 0 where
  pub p : Party
  pub stands : Stands image p
  pub called : asked ≡ name
  pub own : found ≡ p.own
  pub differs : found ≢ name

-- the image is blank, or holds the batch of these bytes
abbrev pub ReadsBatch : List ℕ → List ℕ → Type 0
ReadsBatch book text = (is_blank book ≡ true) ⊎ HoldsBatch book text

-- the party of the name stands, the spool holds the batch, the last plan isn't settled, and the party would do otherwise with its
-- entry
pub record IsDueOut (name image book text : List ℕ) (entry : ℕ) : Type 0 where
  pub member : Member
  pub found : FindsMember name image member
  pub progress : Progress
  pub holds : HoldsPlans book progress
  pub same : progress.text ≡ text
  pub out : IsOut member progress
  pub number : entry ≡ length progress.plans

-- the party of the name stands, the spool is blank or holds the batch, and that isn't so
pub record IsDueDone (name image book text : List ℕ) : Type 0 where
  pub member : Member
  pub found : FindsMember name image member
  pub reads : ReadsBatch book text
  pub never_out : (entry : ℕ) → IsDueOut name image book text entry → ⊥

-- the party of the name stands, and the spool holds another batch
pub record IsDueOtherBatch (name image book text : List ℕ) : Type 0 where
  pub member : Member
  pub found : FindsMember name image member
  pub other : HoldsOther book text

-- the party of the name stands, and the spool's image is damaged
pub record IsDueDamaged (name image book : List ℕ) (place : ℕ) : Type 0 where
  pub member : Member
  pub found : FindsMember name image member
  pub first : IsSpoolDamage book place

-- the outcome that is due
abbrev pub IsDueBatch : List ℕ → List ℕ → List ℕ → List ℕ → SpoolOutcome → Type 0
IsDueBatch name image book text (outcome.Done out) = IsDueDone name image book text
IsDueBatch name image book text outcome.OtherBatch = IsDueOtherBatch name image book text
IsDueBatch name image book text (outcome.OutOfStep entry) = IsDueOut name image book text entry
IsDueBatch name image book text (outcome.OtherParty asked found) = IsDueOther name image asked found
IsDueBatch name image book text outcome.Blank = is_blank image ≡ true
IsDueBatch name image book text (outcome.Damaged place) = IsFirstDamage image place ⊎ IsDueDamaged name image book place
IsDueBatch name image book text outcome.Fault = ⊥
IsDueBatch name image book text outcome.NoMemory = ⊥

-- the same outcome, whatever is handed out
abbrev pub IsSame : SpoolOutcome → SpoolOutcome → Type 0
IsSame (outcome.Done out) (outcome.Done other) = Unit {0}
IsSame a b = a ≡ b

-- the outcome is the one that is due by the images, or a fault or want of memory came in its place
abbrev pub GivesDue : List ℕ → List ℕ → View → View → SpoolOutcome → Type 0
GivesDue name text party_disk spool_disk o = (image book : List ℕ) (other : SpoolOutcome) → party_disk.now ≡ Some image → spool_disk.now ≡ Some book → IsDueBatch name image book text other
    → IsSame o other ⊎ ((o ≡ outcome.Fault) ⊎ (o ≡ outcome.NoMemory))
