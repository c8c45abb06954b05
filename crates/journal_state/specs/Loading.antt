-- How far a journal was read, and what is loaded (this project's profile).
use Rattle.std.specs.Prelude.{◌≡◌, ◌⊎◌, ℕ, ◌+◌, ◌≤◌, true, false, List, Some, Result, IfOk, IfErr}
use Rattle.x_base.specs.Edge.{Rose}
use Rattle.x_disk.specs.Disk.{View, IsStill, IsUntouched}
use Rattle.key_journal.specs.Layout.{area_size}
use Rattle.key_journal.specs.Journal.{Begins, is_blank, start}
use Rattle.key_journal.specs.Opening.{IsFree}
use Rattle.key_journal.specs.States.{Reading}
use Rattle.key_journal.specs.declared.cause.Cause.{Cause}
use Rattle.key_journal.specs.declared.cause.Cause.TheVariants as cause
use Rattle.key_journal.specs.declared.cause.Unmade.{Unmade}
use Rattle.journal_state.specs.Results.{loaded_disk}
use Rattle.journal_state.specs.States.{Lead, StandsFor, IsDamagedFrame, IsFirstDamage, Stood, IsStanding}

-- the frames up to this gate were read, and make this state
pub record IsReadTo {S : Type 0} (step : List ℕ → S → S → Type 0) (first : S) (image : List ℕ) (gate end : ℕ) (state : S) : Type 0 where
  pub bodies : List (List ℕ)
  pub begins : Begins image bodies gate
  pub lead : Lead step first bodies state
  pub last : end ≡ start image + area_size

-- the same of what a read gives
abbrev pub ReadTo : {S : Type 0} → (List ℕ → S → S → Type 0) → S → View → ℕ → ℕ → S → Type 0
ReadTo step first v gate end state = (image : List ℕ) → v.now ≡ Some image → IsReadTo step first image gate end state

-- why reading stops at a gate
abbrev pub Stops : {S : Type 0} → (List ℕ → S → S → Type 0) → S → View → ℕ → Cause → Type 0
Stops step first v gate reason = (image : List ℕ) → v.now ≡ Some image → IsFree reason ⊎ ((reason ≡ cause.Damaged gate) × IsDamagedFrame step first image gate)

-- the same at some gate
abbrev pub StopsSomewhere : {S : Type 0} → (List ℕ → S → S → Type 0) → S → View → Cause → Type 0
StopsSomewhere step first v reason = (image : List ℕ) → v.now ≡ Some image → IsFree reason ⊎ ((place : ℕ) × (reason ≡ cause.Damaged place) × IsDamagedFrame step first image place)

-- the image stands for this state, and for no other
abbrev pub StandsOnly : {S : Type 0} → (List ℕ → S → S → Type 0) → S → View → S → Type 0
StandsOnly {S} step first v state = (image : List ℕ) → v.now ≡ Some image → StandsFor step first image state × ((other : S) → StandsFor step first image other → state ≡ other)

-- an image that stands gives no such reason
abbrev pub NeverRefused : {S : Type 0} → (List ℕ → S → S → Type 0) → S → View → Cause → Type 0
NeverRefused {S} step first v reason = (image : List ℕ) (state : S) → v.now ≡ Some image → StandsFor step first image state → IsFree reason

-- reading leaves the journal as it is, and a cause has its reason
pub record LeavesJournal {D T : Type 0} (told : D → View) (old new : Reading D) (result : Result T Cause) : Type 0 where
  pub still : IsStill (told old.disk) (told new.disk)
  pub faults : (told old.disk).faults ≤ (told new.disk).faults
  pub fault : IfErr result (λ reason. reason ≡ cause.Fault → Rose (told old.disk).faults (told new.disk).faults)
  -- no cause is that the disk isn't empty
  pub names : IfErr result (λ reason. reason ≡ cause.NotEmpty → ⊥)

-- why no state is loaded from an image
abbrev pub IsRefusal : {S : Type 0} → (List ℕ → S → S → Type 0) → S → List ℕ → Cause → Type 0
IsRefusal step first image cause.Blank = is_blank image ≡ true
IsRefusal step first image cause.NotEmpty = ⊥
IsRefusal step first image (cause.Damaged place) = IsFirstDamage step first image place
IsRefusal step first image cause.Fault = Unit {0}
IsRefusal step first image cause.NoMemory = Unit {0}

-- the state is loaded for which the image stands, or none; nothing is written
pub record IsLoaded {D S : Type 0} (step : List ℕ → S → S → Type 0) (first : S) (told : D → View) (old : D) (result : Result (Stood D S) (Unmade D)) : Type 0 where
  pub stands : IfOk result (λ s. IsStanding step first (told s.disk) s.gate s.end s.state)
  -- an image that stands is loaded as its state
  pub exact : IfOk result (λ s. (image : List ℕ) (state : S) → (told old).now ≡ Some image → StandsFor step first image state → s.state ≡ state)
  -- such an image isn't blank
  pub not_blank : IfOk result (λ s. (image : List ℕ) → (told old).now ≡ Some image → is_blank image ≡ false)
  -- what is told of another image
  pub refused : IfErr result (λ u. (image : List ℕ) → (told old).now ≡ Some image → IsRefusal step first image u.cause)
  pub names : IfErr result (λ u. u.cause ≡ cause.NotEmpty → ⊥)
  -- an image that stands gives no such cause
  pub never_refused : IfErr result (λ u. (image : List ℕ) (state : S) → (told old).now ≡ Some image → StandsFor step first image state → IsFree u.cause)
  pub untouched : IsUntouched (told old) (told (loaded_disk result))
  pub fault : IfErr result (λ u. u.cause ≡ cause.Fault → Rose (told old).faults (told u.disk).faults)
  pub faults : (told old).faults ≤ (told (loaded_disk result)).faults
