-- How a party on a shelf goes on by a batch, whoever commanded it before (this project's profile).
use Rattle.std.specs.Prelude.{◌≡◌, ◌⊎◌, ℕ, List, ◌++◌, length, Some}
use Rattle.x_disk.specs.Disk.{View, Tells}
use Rattle.member.specs.Member.{Member}
use Rattle.node_core.specs.Turns.{IsImageOf}
use Rattle.csm_batch.specs.declared.entry.Entry.{Entry}
use Rattle.spool_store.specs.declared.entry_plan.EntryPlan.{EntryPlan}
use Rattle.spool_store.specs.Beginning.{ReadsPlans, IsBlankOrBegun}
use Rattle.spool_store.specs.Spools.{outbox_of}
use Rattle.csm_spool.specs.Going.{GoesOn, HasGoneOn, HoldsKept}
use Rattle.x_spool.specs.Dues.{FindsMember}
use Rattle.x_spool.specs.Outcomes.{KeepsMember, KeepsPlans, progress_of}
use Rattle.x_spool.specs.declared.outcome.SpoolOutcome.{SpoolOutcome}
use Rattle.x_spool.specs.declared.outcome.SpoolOutcome.TheVariants as outcome

-- the plans that the spool's image holds, if its disk tells: none where it is blank
abbrev pub HeldThese : List ℕ → List Entry → View → List EntryPlan → Type 0
HeldThese text entries spool_disk stood = (book : List ℕ) → spool_disk.now ≡ Some book → ReadsPlans book (progress_of text entries stood)

-- a member has gone on from them by others: these are all of them
pub record WentOn (text : List ℕ) (entries : List Entry) (spool_disk : View) (x : Member) (plans : List EntryPlan) (y : Member) : Type 0 where
  pub stood : List EntryPlan
  pub held : HeldThese text entries spool_disk stood
  pub more : List EntryPlan
  pub split : plans ≡ stood ++ more
  pub goes : GoesOn x (progress_of text entries stood) more y

-- each entry has its plan, which each image that a crash may leave of the spool's disk holds, the outbox of them is handed out, and each
-- image that a crash may leave of the party's disk stands for the member that went on by all of them
pub record HasGoneWhole (text : List ℕ) (entries : List Entry) (spool_disk party_after spool_after : View) (x : Member) (out : List ℕ) : Type 0 where
  pub plans : List EntryPlan
  pub whole : length plans ≡ length entries
  pub spool : KeepsPlans spool_after (progress_of text entries plans)
  pub outbox : out ≡ outbox_of plans
  pub member : Member
  pub keeps : KeepsMember party_after member
  pub went : WentOn text entries spool_disk x plans member

-- so it is where the batch is done
abbrev pub AnswersWhole : List ℕ → List Entry → View → View → View → Member → SpoolOutcome → Type 0
AnswersWhole text entries spool_disk party_after spool_after x (outcome.Done out) = HasGoneWhole text entries spool_disk party_after spool_after x out
AnswersWhole text entries spool_disk party_after spool_after x other = Unit {0}

-- no entry was planned: each image that a crash may leave of a spool's disk that tells could be left before, or is blank, or holds the
-- batch without plans
abbrev pub IsUnplanned : List ℕ → List Entry → View → View → Type 0
IsUnplanned text entries spool_disk spool_after = Tells spool_disk → (book : List ℕ) → spool_after.may_leave book → spool_disk.may_leave book ⊎ IsBlankOrBegun text entries book

-- the image stands for the member as it was, or as it went on from the plans that the spool's image holds; and each image that a crash
-- may leave of a spool's disk that tells holds the plans by which it went on
pub record IsLeftOnward (text : List ℕ) (entries : List Entry) (spool_disk spool_after : View) (x : Member) (image : List ℕ) : Type 0 where
  pub stood : List EntryPlan
  pub held : HeldThese text entries spool_disk stood
  pub more : List EntryPlan
  pub member : Member
  pub way : HasGoneOn x (progress_of text entries stood) more member
  pub stands : IsImageOf member image
  pub kept : Tells spool_disk → (book : List ℕ) → spool_after.may_leave book → HoldsKept (progress_of text entries stood) more book

-- from the member of the name for which the party's image stands: whatever comes, each image that a crash may leave of its disk could be
-- left before, and no entry was planned; or it is such a one
pub record GoesOnward (name text : List ℕ) (entries : List Entry) (party_disk spool_disk party_after spool_after : View) (o : SpoolOutcome) : Type 0 where
  pub answers : (image : List ℕ) (x : Member) → party_disk.now ≡ Some image → FindsMember name image x → AnswersWhole text entries spool_disk party_after spool_after x o
  pub left : (image : List ℕ) (x : Member) → party_disk.now ≡ Some image → FindsMember name image x → (c : List ℕ) → party_after.may_leave c
      → (party_disk.may_leave c × IsUnplanned text entries spool_disk spool_after) ⊎ IsLeftOnward text entries spool_disk spool_after x c
