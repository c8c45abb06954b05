-- How an entry of a batch goes: its plan is kept, and then the party carries it out (this project's profile).
use Rattle.std.specs.Prelude.{◌≡◌, ◌⊎◌, ◌≤◌, ℕ, List, length, slice_get, Some, is_some, Result, Ok, Err, IfOk, IfErr}
use Rattle.x_disk.specs.Disk.{View, Tells}
use Rattle.key_journal.specs.States.{Failed, FaultsRose}
use Rattle.key_store.specs.Store.{Stored}
use Rattle.member.specs.Member.{Member, after}
use Rattle.node_core.specs.Planned.{PlannedNode}
use Rattle.node_core.specs.Turns.{member_of, IsImageOf}
use Rattle.csm_batch.specs.declared.entry.Entry.{Entry}
use Rattle.spool_store.specs.declared.entry_plan.EntryPlan.{EntryPlan}
use Rattle.csm_spool.specs.declared.stepping.Stepped.{Stepped}
use Rattle.csm_spool.specs.declared.stepping.Stepped.TheVariants.{On, NodeBroken, SpoolBroken, NoMemory}
use Rattle.spool_store.specs.Contents.{Progress, with_plan}
use Rattle.csm_spool.specs.Courses.{EntryLeads}
use Rattle.spool_store.specs.Committing.{HoldsEither}
use Rattle.csm_spool.specs.Drives.{KeepsBoth}
use Rattle.spool_store.specs.Spools.{Spooled}

-- the next entry, with this plan, leads from a member to another
pub record IsNext (p : Progress) (here : Member) (plan : EntryPlan) (there : Member) : Type 0 where
  pub entry : Entry
  pub at : slice_get p.entries (length p.plans) ≡ Some entry
  pub leads : EntryLeads here entry plan there

-- its plan stands, and the party is behind it
pub record IsOn {D E : Type 0} (node : Stored D) (old : Spooled E) (after : Stored D) (new : Spooled E) : Type 0 where
  pub plan : EntryPlan
  pub next : IsNext old.progress (member_of node) plan (member_of after)
  pub goes : new.progress ≡ with_plan old.progress plan

-- its plan stands, and the party's disk failed: a crash leaves the party as it was, or behind the plan
pub record IsNodeCut {D E : Type 0} (told : D → View) (node : Stored D) (old : Spooled E) (broken : Failed D) (new : Spooled E) : Type 0 where
  pub plan : EntryPlan
  pub there : Member
  pub next : IsNext old.progress (member_of node) plan there
  pub goes : new.progress ≡ with_plan old.progress plan
  pub cause : FaultsRose (told node.disk) (told broken.disk) broken.cause
  pub leaves : Tells (told node.disk) → (c : List ℕ) → (told broken.disk).may_leave c → IsImageOf (member_of node) c ⊎ IsImageOf there c

-- the party is as it was, and the spool's disk failed: a crash leaves the plans with this one or without
pub record IsSpoolCut {D E : Type 0} (told : E → View) (node : Stored D) (old : Spooled E) (after : Stored D) (broken : Failed E) : Type 0 where
  pub plan : EntryPlan
  pub there : Member
  pub next : IsNext old.progress (member_of node) plan there
  pub same : after ≡ node
  pub cause : FaultsRose (told old.disk) (told broken.disk) broken.cause
  pub leaves : Tells (told old.disk) → (c : List ℕ) → (told broken.disk).may_leave c → HoldsEither old.progress plan c

abbrev pub IsStepped : {D E : Type 0} → (D → View) → (E → View) → Stored D → Spooled E → Stepped D E → Type 0
IsStepped told_party told_spool node old (On after new) = IsOn node old after new
IsStepped told_party told_spool node old (NodeBroken broken new) = IsNodeCut told_party node old broken new
IsStepped told_party told_spool node old (SpoolBroken after broken) = IsSpoolCut told_spool node old after broken
IsStepped told_party told_spool node old (NoMemory after new) = (after ≡ node) × (new ≡ old)

-- what was planned is carried out, or the disk failed: a crash leaves the party as it was, or behind it
pub record IsCarryCut {D : Type 0} (told : D → View) (planned : PlannedNode D) (broken : Failed D) : Type 0 where
  pub cause : FaultsRose (told planned.node.disk) (told broken.disk) broken.cause
  pub leaves : Tells (told planned.node.disk) → (c : List ℕ) → (told broken.disk).may_leave c → IsImageOf (member_of planned.node) c ⊎ IsImageOf (after (member_of planned.node) planned.plan.edits) c

abbrev pub carried_disk : {D : Type 0} → Result (Stored D) (Failed D) → D
carried_disk (Ok node) = node.disk
carried_disk (Err broken) = broken.disk

pub record IsCarried {D : Type 0} (told : D → View) (planned : PlannedNode D) (result : Result (Stored D) (Failed D)) : Type 0 where
  pub behind : IfOk result (λ node. member_of node ≡ after (member_of planned.node) planned.plan.edits)
  pub cut : IfErr result (IsCarryCut told planned)
  pub faults : (told planned.node.disk).faults ≤ (told (carried_disk result)).faults
  pub tells : is_some (told (carried_disk result)).now ≡ is_some (told planned.node.disk).now

-- the disks of an answer

abbrev pub stepped_party : {D E : Type 0} → Stepped D E → D
stepped_party (On node spool) = node.disk
stepped_party (NodeBroken broken spool) = broken.disk
stepped_party (SpoolBroken node broken) = node.disk
stepped_party (NoMemory node spool) = node.disk

abbrev pub stepped_spool : {D E : Type 0} → Stepped D E → E
stepped_spool (On node spool) = spool.disk
stepped_spool (NodeBroken broken spool) = spool.disk
stepped_spool (SpoolBroken node broken) = broken.disk
stepped_spool (NoMemory node spool) = spool.disk

pub record IsStep {D E : Type 0} (told_party : D → View) (told_spool : E → View) (node : Stored D) (old : Spooled E) (result : Stepped D E) : Type 0 where
  pub answer : IsStepped told_party told_spool node old result
  pub keeps : KeepsBoth (told_party node.disk) (told_spool old.disk) (told_party (stepped_party result)) (told_spool (stepped_spool result))
