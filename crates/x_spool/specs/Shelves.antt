-- What is left of a shelf on which a batch was taken (this project's profile).
use Rattle.std.specs.Prelude.{◌≡◌, ℕ, List}
use Rattle.x_disk.specs.Disk.{View}
use Rattle.disk_pair.specs.Pairs.{LeavesPair}
use Rattle.x_spool.specs.Outcomes.{IsNoFailure}
use Rattle.x_spool.specs.declared.outcome.SpoolOutcome.{SpoolOutcome}
use Rattle.x_spool.specs.declared.outcome.SpoolOutcome.TheVariants as outcome

-- what is left of the shelf, where a failure is no answer
abbrev pub LeavesShelf : List ℕ → List ℕ → SpoolOutcome → Type 0 → Type 0 → (List ℕ → View) → (List ℕ → View) → ℕ → ℕ → Type 0
LeavesShelf name spool o party_back spool_back old new before after = LeavesPair name spool (IsNoFailure o) (o ≡ outcome.Fault) party_back spool_back old new before after
