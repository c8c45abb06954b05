-- What the bodies of a spool's journal make: a batch, and the plans of its first entries (this project's profile).
use Rattle.std.specs.Prelude.{◌≡◌, ◌≤◌, ℕ, List, [], ◌∷◌, ◌++◌, length, Option, Some, None}
use Rattle.std.specs.List.{All}
use Rattle.csm_batch.specs.declared.entry.Entry.{Entry}
use Rattle.csm_batch.specs.Batches.{IsBatch, IsSized}
use Rattle.journal_state.specs.States as journal
use Rattle.spool_store.specs.declared.entry_plan.EntryPlan.{EntryPlan}
use Rattle.spool_store.specs.Plans.{IsEntryPlan, plan_body}

-- a batch, and the plans of its first entries
pub record Progress : Type 0 where
  pub text : List ℕ
  pub entries : List Entry
  pub plans : List EntryPlan

-- a batch without plans
abbrev pub no_plans : List ℕ → List Entry → Progress
no_plans text entries = record { text = text; entries = entries; plans = [] }

-- one plan more
abbrev pub with_plan : Progress → EntryPlan → Progress
with_plan p plan = record { text = p.text; entries = p.entries; plans = p.plans ++ plan ∷ [] }

-- the first body: S, and the batch
pub record BeginsBatch (body : List ℕ) (new : Progress) : Type 0 where
  pub is : body ≡ 83 ∷ new.text
  pub batch : IsBatch new.text new.entries
  pub none : new.plans ≡ []

-- each later body is a plan; there are no more plans than entries
pub record AddsPlan (body : List ℕ) (old new : Progress) : Type 0 where
  pub plan : EntryPlan
  pub is_plan : IsEntryPlan plan
  pub is : body ≡ plan_body plan
  pub after : new ≡ with_plan old plan
  pub within : length new.plans ≤ length new.entries

-- what a body makes of what the ones before it made
abbrev pub Goes : List ℕ → Option Progress → Option Progress → Type 0
Goes body old None = ⊥
Goes body None (Some new) = BeginsBatch body new
Goes body (Some old) (Some new) = AddsPlan body old new

-- the image holds the batch, and these plans
abbrev pub HoldsPlans : List ℕ → Progress → Type 0
HoldsPlans image p = journal.StandsFor Goes None image (Some p)

-- the first damage of a spool's image
abbrev pub IsSpoolDamage : List ℕ → ℕ → Type 0
IsSpoolDamage image place = journal.IsFirstDamage Goes None image place

-- every progress
pub record IsProgress (p : Progress) : Type 0 where
  pub batch : IsBatch p.text p.entries
  pub sized : IsSized p.text p.entries
  pub each : All IsEntryPlan p.plans
  pub few : length p.plans ≤ length p.entries
