-- The last plan is taken up again where it isn't carried out (this project's profile).
use Rattle.std.specs.Prelude.{◌≡◌, ◌⊎◌, ℕ, List}
use Rattle.x_disk.specs.Disk.{View, Tells}
use Rattle.key_journal.specs.States.{Failed, FaultsRose}
use Rattle.key_store.specs.Store.{Stored}
use Rattle.member.specs.Member.{Member}
use Rattle.node_core.specs.Turns.{member_of, IsImageOf}
use Rattle.csm_batch.specs.declared.entry.Entry.{Entry}
use Rattle.spool_store.specs.declared.entry_plan.EntryPlan.{EntryPlan}
use Rattle.csm_spool.specs.declared.catching.Caught.{Caught}
use Rattle.csm_spool.specs.declared.catching.Caught.TheVariants.{Behind, OutOfStep, NodeBroken, NoMemory}
use Rattle.spool_store.specs.Contents.{Progress}
use Rattle.csm_spool.specs.Courses.{EntryLeads}
use Rattle.csm_spool.specs.Drives.{IsSettled, IsLast, IsOut, KeepsBoth}
use Rattle.spool_store.specs.Spools.{Spooled}

-- the last plan is settled, or there is none: nothing is done
pub record WasSettled (x : Member) (p : Progress) : Type 0 where
  pub settled : (plan : EntryPlan) (e : Entry) → IsLast p plan e → IsSettled x.party plan

-- the last plan isn't settled, and its entry leads with it from here to there
pub record TakesUp (here there : Member) (p : Progress) : Type 0 where
  pub plan : EntryPlan
  pub entry : Entry
  pub last : IsLast p plan entry
  pub unsettled : IsSettled here.party plan → ⊥
  pub leads : EntryLeads here entry plan there

-- the plan was carried out before, or is now
abbrev pub CatchesUp : Member → Member → Progress → Type 0
CatchesUp here there p = ((there ≡ here) × WasSettled here p) ⊎ TakesUp here there p

-- the party's disk failed while the last plan was carried out
pub record IsCaughtCut {D : Type 0} (told : D → View) (node : Stored D) (p : Progress) (b : Failed D) : Type 0 where
  pub there : Member
  pub takes : TakesUp (member_of node) there p
  pub cause : FaultsRose (told node.disk) (told b.disk) b.cause
  pub leaves : Tells (told node.disk) → (c : List ℕ) → (told b.disk).may_leave c → IsImageOf (member_of node) c ⊎ IsImageOf there c

abbrev pub IsCaught : {D E : Type 0} → (D → View) → Stored D → Spooled E → Caught D E → Type 0
IsCaught told node old (Behind after new) = CatchesUp (member_of node) (member_of after) old.progress × (new ≡ old)
IsCaught told node old (OutOfStep after new) = IsOut (member_of node) old.progress × (after ≡ node) × (new ≡ old)
IsCaught told node old (NodeBroken b new) = IsCaughtCut told node old.progress b × (new ≡ old)
IsCaught told node old (NoMemory after new) = (after ≡ node) × (new ≡ old)

abbrev pub caught_party : {D E : Type 0} → Caught D E → D
caught_party (Behind node spool) = node.disk
caught_party (OutOfStep node spool) = node.disk
caught_party (NodeBroken broken spool) = broken.disk
caught_party (NoMemory node spool) = node.disk

abbrev pub caught_spool : {D E : Type 0} → Caught D E → E
caught_spool (Behind node spool) = spool.disk
caught_spool (OutOfStep node spool) = spool.disk
caught_spool (NodeBroken broken spool) = spool.disk
caught_spool (NoMemory node spool) = spool.disk

pub record IsCatching {D E : Type 0} (told_party : D → View) (told_spool : E → View) (node : Stored D) (old : Spooled E) (result : Caught D E) : Type 0 where
  pub answer : IsCaught told_party node old result
  pub keeps : KeepsBoth (told_party node.disk) (told_spool old.disk) (told_party (caught_party result)) (told_spool (caught_spool result))
  -- where the last plan was settled, or there is none, both disks are as they were
  pub rests : WasSettled (member_of node) old.progress → (caught_party result ≡ node.disk) × (caught_spool result ≡ old.disk)
