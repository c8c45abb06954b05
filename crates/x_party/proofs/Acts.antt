-- What an open party did: with an input, where it was written whole, and where its file was wiped.
use Rattle.std.specs.Prelude.{◌≡◌, ℕ, ◌≤◌, List, Option}
use Rattle.x_base.specs.Edge.{Rose}
use Rattle.x_disk.specs.Disk.{View, Tells, LeavesOnly, IsUntouched}
use Rattle.party_state.specs.declared.decision.Decision.{Decision}
use Rattle.party_state.specs.State.{Party}
use Rattle.change_code.specs.declared.format.Format.{Format}
use Rattle.change_code.specs.declared.space.Space.{Space}
use Rattle.key_store.specs.Store.{StandsWith, StandsForOldOrNew}
use Rattle.x_party.specs.Images.{StillTells}
use Rattle.x_party.specs.Outcomes.{IsToKeep, IsAccepted, IsRefusedTurn, IsOther, FitsIn, IsOldOrRewritten, IsRewritten, IsNotRewritten, IsWipedParty}
use Rattle.x_party.specs.declared.outcome.Outcome.{Outcome}
use Rattle.x_party.specs.declared.outcome.Outcome.TheVariants as outcome

-- what the party did with an input, where it is that of the name
abbrev pub Acts : List ℕ → View → View → Space → Party → Decision → Outcome → Type 0
Acts name now then space p d (outcome.Done reply) = (p.own ≡ name) × IsAccepted now then d p space reply
Acts name now then space p d (outcome.Refused verdict reply) = (p.own ≡ name) × IsRefusedTurn now then d p space verdict reply
Acts name now then space p d (outcome.OtherParty asked found) = IsOther now then name p space asked found
Acts name now then space p d (outcome.Damaged place) = ⊥
Acts name now then space p d outcome.Fault = Rose now.faults then.faults
Acts name now then space p d outcome.NoMemory = Unit {0}

-- an open party acted: what it did, what a crash leaves at any moment, and when anything is written
pub record IsAct (now then : View) (did : Type 0) (leaves : List ℕ → Type 0) (writes : Type 0) : Type 0 where
  pub acts : did
  pub any_moment : Tells now → LeavesOnly now then leaves
  pub still : (writes → ⊥) → IsUntouched now then
  pub tells : StillTells now then
  pub faults : now.faults ≤ then.faults

abbrev pub HasActed : List ℕ → View → View → Space → Party → Decision → Outcome → Type 0
HasActed name now then space p d o = IsAct now then (Acts name now then space p d o) (StandsForOldOrNew p space d.change) (IsToKeep name p d space)

-- what became of writing the party whole in this format, if in any
abbrev pub Rewrites : Option Format → View → View → Space → Party → Outcome → Type 0
Rewrites format now then space p (outcome.Done reply) = IsRewritten now then format p space reply
Rewrites format now then space p (outcome.Refused verdict reply) = IsNotRewritten now then format p space verdict reply
Rewrites format now then space p (outcome.OtherParty asked found) = ⊥
Rewrites format now then space p (outcome.Damaged place) = ⊥
Rewrites format now then space p outcome.Fault = Rose now.faults then.faults
Rewrites format now then space p outcome.NoMemory = Unit {0}

abbrev pub HasRewritten : Option Format → View → View → Space → Party → Outcome → Type 0
HasRewritten format now then space p o = IsAct now then (Rewrites format now then space p o) (IsOldOrRewritten format p space) (FitsIn format p)

-- what wiping the party's file did
abbrev pub WipesFile : View → View → Space → Party → Outcome → Type 0
WipesFile now then space p (outcome.Done reply) = IsWipedParty now then p space reply
WipesFile now then space p (outcome.Refused verdict reply) = ⊥
WipesFile now then space p (outcome.OtherParty asked found) = ⊥
WipesFile now then space p (outcome.Damaged place) = ⊥
WipesFile now then space p outcome.Fault = Rose now.faults then.faults
WipesFile now then space p outcome.NoMemory = Unit {0}

abbrev pub HasWiped : View → View → Space → Party → Outcome → Type 0
HasWiped now then space p o = IsAct now then (WipesFile now then space p o) (λ c. StandsWith c p space) (Unit {0})
