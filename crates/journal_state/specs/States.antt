-- The state for which a journal stands, made by its bodies one after the other (this project's profile). `step` says what a
-- body makes of a state, and `start` is the state before the first body.
use Rattle.std.specs.Prelude.{◌≡◌, ◌⊎◌, ℕ, ◌+◌, true, false, List, [], ◌∷◌, Option, Some, Result, Ok, Err}
use Rattle.key_journal.specs.Layout.{area_size}
use Rattle.x_disk.specs.Disk.{View, IsDurable}
use Rattle.key_journal.specs.Journal.{HoldsBodies, Begins, is_blank, has_magic, start}
use Rattle.key_journal.specs.Opening.{found_at}
use Rattle.key_journal.specs.States.{HasRoom, Site}
use Rattle.key_journal.specs.declared.cause.Cause.{Cause}
use Rattle.key_journal.specs.declared.cause.Cause.TheVariants as cause

-- the bodies lead from one state to another, step by step
abbrev pub Lead : {S : Type 0} → (List ℕ → S → S → Type 0) → S → List (List ℕ) → S → Type 0
Lead step old [] new = new ≡ old
Lead {S} step old (body ∷ bodies) new = (mid : S) × step body old mid × Lead step mid bodies new

-- the image stands for this state
pub record StandsFor {S : Type 0} (step : List ℕ → S → S → Type 0) (first : S) (image : List ℕ) (state : S) : Type 0 where
  pub bodies : List (List ℕ)
  pub holds : HoldsBodies image bodies
  pub lead : Lead step first bodies state

-- what lies at a gate of the selected area
abbrev pub found : List ℕ → ℕ → Result (Option (List ℕ)) Cause
found image gate = found_at image gate (start image + area_size)

-- the frames before this gate make a state, and its own frame is damaged by its length or extent, or leads nowhere from there
pub record IsDamagedFrame {S : Type 0} (step : List ℕ → S → S → Type 0) (first : S) (image : List ℕ) (gate : ℕ) : Type 0 where
  pub bodies : List (List ℕ)
  pub state : S
  pub begins : Begins image bodies gate
  pub lead : Lead step first bodies state
  pub damage : (found image gate ≡ Err (cause.Damaged gate)) ⊎ ((body : List ℕ) × (found image gate ≡ Ok (Some body)) × ((next : S) → step body state next → ⊥))

-- the first damage of an image that isn't blank: its magic, or a frame behind sound ones
pub record IsFirstDamage {S : Type 0} (step : List ℕ → S → S → Type 0) (first : S) (image : List ℕ) (place : ℕ) : Type 0 where
  pub not_blank : is_blank image ≡ false
  pub damage : ((has_magic image ≡ false) × (place ≡ 2)) ⊎ ((has_magic image ≡ true) × IsDamagedFrame step first image place)

-- the image is none of what an image can be: blank, one that stands for a state, or one with a first damage
pub record IsNothing {S : Type 0} (step : List ℕ → S → S → Type 0) (first : S) (image : List ℕ) : Type 0 where
  pub not_blank : is_blank image ≡ false
  pub no_state : (state : S) → StandsFor step first image state → ⊥
  pub undamaged : (place : ℕ) → IsFirstDamage step first image place → ⊥

-- a journal with its state: the disk, the place of the closed gate and the end of its area, and the state
pub record Stood (D S : Type 0) : Type 0 where
  pub disk : D
  pub gate : ℕ
  pub end : ℕ
  pub state : S

-- a journal at rest, with the state for which it stands
abbrev pub stood : {D S : Type 0} → Site D → S → Stood D S
stood ready state = record { disk = ready.disk; gate = ready.gate; end = ready.end; state = state }

-- each image that a crash may leave now stands for the state
pub record IsStanding {S : Type 0} (step : List ℕ → S → S → Type 0) (first : S) (v : View) (gate end : ℕ) (state : S) : Type 0 where
  pub durable : IsDurable v
  pub stands : (image : List ℕ) → v.now ≡ Some image → StandsFor step first image state
  pub room : HasRoom v gate end

-- the state before, or the one after
abbrev pub StandsForOldOrNext : {S : Type 0} → (List ℕ → S → S → Type 0) → S → S → S → List ℕ → Type 0
StandsForOldOrNext step first old next image = StandsFor step first image old ⊎ StandsFor step first image next

-- no journal yet, or one of this state
abbrev pub IsBlankOrFor : {S : Type 0} → (List ℕ → S → S → Type 0) → S → S → List ℕ → Type 0
IsBlankOrFor step first state image = (is_blank image ≡ true) ⊎ StandsFor step first image state
