-- What becomes of creating a party on two disks (this project's profile). `first` and `second` are what the shelf tells of the
-- two disks before, `first_after` and `second_after` what it tells afterwards.
use Rattle.std.specs.Prelude.{◌≡◌, ◌⊎◌, ℕ, true, false, List, None}
use Rattle.x_base.specs.declared.verdict.Verdict.TheVariants.{NotEmpty}
use Rattle.x_disk.specs.Disk.{View, Tells, LeavesOnly, IsUntouched}
use Rattle.key_journal.specs.Journal.{is_blank}
use Rattle.party_state.specs.State.{Party}
use Rattle.change_code.specs.Cost.{space_of_whole}
use Rattle.change_code.specs.declared.format.Format.TheVariants.{Two}
use Rattle.key_store.specs.Store.{IsBlankOrFirst}
use Rattle.mirror_store.specs.Opening.{AreRead}
use Rattle.x_party.specs.Images.{DiskStandsFor, OrBefore, StillTells}
use Rattle.x_party.specs.declared.outcome.Outcome.{Outcome}
use Rattle.x_party.specs.declared.outcome.Outcome.TheVariants as outcome

-- the outcome that is due by the two images: done where both are blank, and otherwise refused
abbrev pub IsDueOfTwo : List ℕ → List ℕ → Outcome → Type 0
IsDueOfTwo i j (outcome.Done reply) = (reply ≡ None) × (is_blank i ≡ true) × (is_blank j ≡ true)
IsDueOfTwo i j (outcome.Refused verdict reply) = (verdict ≡ NotEmpty) × (reply ≡ None) × ((is_blank i ≡ false) ⊎ (is_blank j ≡ false))
IsDueOfTwo i j o = ⊥

-- each image that a crash may leave stands for the party in format 2, with the room that one frame of it leaves
abbrev pub DiskStandsAnew : View → Party → Type 0
DiskStandsAnew v party = DiskStandsFor v party (space_of_whole Two party)

-- where a party is created, both disks stand for it
abbrev pub StandsWhereDone : Outcome → View → View → Party → Type 0
StandsWhereDone (outcome.Done reply) first_after second_after party = DiskStandsAnew first_after party × DiskStandsAnew second_after party
StandsWhereDone o first_after second_after party = Unit {0}

-- the outcome is the one that is due, a fault or want of memory
abbrev pub IsDueOrFailed : List ℕ → List ℕ → Outcome → Type 0
IsDueOrFailed i j outcome.Fault = Unit {0}
IsDueOrFailed i j outcome.NoMemory = Unit {0}
IsDueOrFailed i j o = IsDueOfTwo i j o

-- what became of creating this party
pub record CreatesPair (party : Party) (first second first_after second_after : View) (o : Outcome) : Type 0 where
  pub is_due : (i j : List ℕ) → AreRead first second i j → IsDueOrFailed i j o
  pub stand : StandsWhereDone o first_after second_after party

-- the outcome is the one that is due, or a fault or want of memory came in its place
abbrev pub GivesDueCreation : View → View → Outcome → Type 0
GivesDueCreation first second o = (i j : List ℕ) (other : Outcome) → AreRead first second i j → IsDueOfTwo i j other → (o ≡ other) ⊎ ((o ≡ outcome.Fault) ⊎ (o ≡ outcome.NoMemory))

-- what holds of every outcome
pub record IsSafeCreation (party : Party) (first second first_after second_after : View) : Type 0 where
  -- where either image isn't blank nothing is written
  pub first_stays : (i j : List ℕ) → AreRead first second i j → (is_blank i ≡ false) ⊎ (is_blank j ≡ false) → IsUntouched first first_after
  pub second_stays : (i j : List ℕ) → AreRead first second i j → (is_blank i ≡ false) ⊎ (is_blank j ≡ false) → IsUntouched second second_after
  -- a crash at any moment leaves a blank image, one that stands for the party, or what it could leave before
  pub on_first : Tells first → LeavesOnly first first_after (OrBefore first (IsBlankOrFirst party))
  pub on_second : Tells second → LeavesOnly second second_after (OrBefore second (IsBlankOrFirst party))
  -- nothing is written on the second, or each image of the first that a crash may leave stands for the party
  pub order : IsUntouched second second_after ⊎ DiskStandsAnew first_after party
  pub first_tells : StillTells first first_after
  pub second_tells : StillTells second second_after
