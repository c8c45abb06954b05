-- What holds of each batch, and of the images of a party and a spool (this project's profile).
use Rattle.std.specs.Prelude.{◌≡◌, ◌⊎◌, ℕ, true, List, length}
use Rattle.key_journal.specs.Journal.{is_blank}
use Rattle.member.specs.Member.{Member}
use Rattle.node_core.specs.Turns.{IsImageOf}
use Rattle.csm_batch.specs.declared.entry.Entry.{Entry}
use Rattle.spool_store.specs.declared.entry_plan.EntryPlan.{EntryPlan}
use Rattle.spool_store.specs.Contents.{Progress, HoldsPlans, no_plans, with_plan}
use Rattle.csm_spool.specs.Courses.{EntryLeads, EntriesLead}
use Rattle.csm_spool.specs.InStep.{InStep, IsAt}
use Rattle.spool_store.specs.Committing.{HoldsEither}
use Rattle.csm_spool.specs.Drives.{IsSettled, IsOut}
use Rattle.csm_spool.specs.Stepping.{IsNext}
use Rattle.csm_spool.specs.Catching.{CatchesUp}

-- a party comes by the same plans to the same end
abbrev pub OneCourse : Type 0
OneCourse = (x : Member) (entries : List Entry) (plans : List EntryPlan) (y z : Member) → EntriesLead x entries plans y → EntriesLead x entries plans z → y ≡ z

-- from one member on, the entries have at most one list of plans of each length, and so one outbox
abbrev pub OnePlans : Type 0
OnePlans = (x : Member) (entries : List Entry) (plans others : List EntryPlan) (y z : Member) → length plans ≡ length others → EntriesLead x entries plans y → EntriesLead x entries others z → plans ≡ others

-- a spool is made where the party stands at the start
abbrev pub LawBegins : Type 0
LawBegins = (party spool text : List ℕ) (x : Member) (entries : List Entry) → IsImageOf x party → (is_blank spool ≡ true) ⊎ HoldsPlans spool (no_plans text entries) → InStep party spool text x entries

-- the next plan is kept, or may be
abbrev pub LawCommit : Type 0
LawCommit = (party spool : List ℕ) (x here there : Member) (p : Progress) (plan : EntryPlan) → EntriesLead x p.entries p.plans here → IsNext p here plan there
    → IsImageOf here party → HoldsEither p plan spool → InStep party spool p.text x p.entries

-- the last plan is carried out, or may be
abbrev pub LawTake : Type 0
LawTake = (party spool : List ℕ) (x here there : Member) (p : Progress) (plan : EntryPlan) → EntriesLead x p.entries p.plans here → IsNext p here plan there
    → IsImageOf here party ⊎ IsImageOf there party → HoldsPlans spool (with_plan p plan) → InStep party spool p.text x p.entries

-- a plan is settled behind it, and before it only where it changes nothing
pub record IsSettledOnlyBehind (there here : Member) (plan : EntryPlan) : Type 0 where
  pub behind : IsSettled here.party plan
  pub before : IsSettled there.party plan → there ≡ here

abbrev pub LawSettledOnlyBehind : Type 0
LawSettledOnlyBehind = (there here : Member) (e : Entry) (plan : EntryPlan) → EntryLeads there e plan here → IsSettledOnlyBehind there here plan

-- a member that is behind the plans or before the last of them is behind them where the last one is settled or was taken up
abbrev pub LawCaughtUp : Type 0
LawCaughtUp = (x y there : Member) (p : Progress) → IsAt x p.entries p.plans y → CatchesUp y there p → EntriesLead x p.entries p.plans there

-- and it is never out of step
abbrev pub LawNeverOut : Type 0
LawNeverOut = (x y : Member) (p : Progress) → IsAt x p.entries p.plans y → IsOut y p → ⊥
