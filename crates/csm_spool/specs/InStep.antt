-- A party's image and a spool's are in step: this project's profile.
use Rattle.std.specs.Prelude.{◌≡◌, ◌⊎◌, true, List, [], ◌∷◌, ◌++◌, ℕ}
use Rattle.x_disk.specs.Disk.{View}
use Rattle.key_journal.specs.Journal.{is_blank}
use Rattle.member.specs.Member.{Member}
use Rattle.node_core.specs.Turns.{IsImageOf}
use Rattle.csm_batch.specs.declared.entry.Entry.{Entry}
use Rattle.spool_store.specs.declared.entry_plan.EntryPlan.{EntryPlan}
use Rattle.spool_store.specs.Contents.{HoldsPlans}
use Rattle.csm_spool.specs.Courses.{EntriesLead}

-- the entries lead to this member but for the last of the plans
pub record LeadsBefore (x : Member) (entries : List Entry) (plans : List EntryPlan) (there : Member) : Type 0 where
  pub front : List EntryPlan
  pub last : EntryPlan
  pub split : plans ≡ front ++ last ∷ []
  pub course : EntriesLead x entries front there

-- the member is behind the plans, or before the last of them
pub record IsAt (x : Member) (entries : List Entry) (plans : List EntryPlan) (y : Member) : Type 0 where
  pub here : Member
  pub course : EntriesLead x entries plans here
  pub at : (y ≡ here) ⊎ LeadsBefore x entries plans y

-- the spool holds the plans of the first entries; the party stands behind them, or before the last of them
pub record IsUnderWay (party spool text : List ℕ) (x : Member) (entries : List Entry) : Type 0 where
  pub plans : List EntryPlan
  pub holds : HoldsPlans spool (record { text = text; entries = entries; plans = plans })
  pub member : Member
  pub is_at : IsAt x entries plans member
  pub stands : IsImageOf member party

-- no spool yet, and the party as it was; or under way
abbrev pub InStep : List ℕ → List ℕ → List ℕ → Member → List Entry → Type 0
InStep party spool text x entries = ((is_blank spool ≡ true) × IsImageOf x party) ⊎ IsUnderWay party spool text x entries

-- each pair of images that a crash may leave now is in step
abbrev pub PairsInStep : View → View → List ℕ → Member → List Entry → Type 0
PairsInStep party spool text x entries = (i j : List ℕ) → party.may_leave i → spool.may_leave j → InStep i j text x entries
