-- A spool: a journal that stands for a batch and the plans of its first entries (this project's profile).
use Rattle.std.specs.Prelude.{ℕ, ◌+◌, ◌==◌, List, [], ◌∷◌, ◌++◌, codes, if◌then◌else◌, Option, Some, None}
use Rattle.std.specs.Fmt.{decimal}
use Rattle.x_disk.specs.Disk.{View}
use Rattle.journal_state.specs.States as journal
use Rattle.journal_state.specs.States.{Stood}
use Rattle.spool_store.specs.declared.entry_plan.EntryPlan.{EntryPlan}
use Rattle.spool_store.specs.Contents.{Progress, Goes, IsProgress, no_plans}

-- a spool: its disk, the place of the closed gate and the end of its area, and how far its batch is
pub record Spooled (E : Type 0) : Type 0 where
  pub disk : E
  pub gate : ℕ
  pub end : ℕ
  pub progress : Progress

-- how far it is; before the first body, nothing
abbrev pub progress_in : Option Progress → Progress
progress_in None = no_plans [] []
progress_in (Some p) = p

abbrev pub spooled : {E : Type 0} → Stood E (Option Progress) → Spooled E
spooled s = record { disk = s.disk; gate = s.gate; end = s.end; progress = progress_in s.state }

-- a spool as a journal with its state
abbrev pub stood_of : {E : Type 0} → Spooled E → Stood E (Option Progress)
stood_of s = record { disk = s.disk; gate = s.gate; end = s.end; state = Some s.progress }

-- every spool: each image that a crash may leave now holds the batch and the plans
pub record IsSpool (v : View) (gate end : ℕ) (p : Progress) : Type 0 where
  pub standing : journal.IsStanding Goes None v gate end (Some p)
  pub progress : IsProgress p

-- the reply, on a line of its own
abbrev pub reply_line : List ℕ → List ℕ
reply_line [] = []
reply_line (b ∷ bytes) = b ∷ bytes ++ 10 ∷ []

-- the line of an entry: that it is done, or refused with a number
abbrev pub verdict_line : ℕ → ℕ → List ℕ
verdict_line e n = codes "E" ++ (decimal e ++ (if n == 0 then codes " DONE\n" else codes " REFUSED " ++ (decimal n ++ 10 ∷ [])))

-- the lines of plans, from this entry on
abbrev pub outbox_from : ℕ → List EntryPlan → List ℕ
outbox_from e [] = []
outbox_from e (p ∷ plans) = verdict_line e p.number ++ (reply_line p.reply ++ outbox_from (e + 1) plans)

-- the outbox of the plans of a batch's first entries
abbrev pub outbox_of : List EntryPlan → List ℕ
outbox_of plans = outbox_from 1 plans
