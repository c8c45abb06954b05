-- How a batch is driven: where it is in step it stays so, whatever comes (this project's profile).
use Rattle.std.specs.Prelude.{◌≡◌, ◌≢◌, ◌⊎◌, ℕ, ◌+◌, ◌≤◌, List, ◌++◌, length, slice_get, Some, is_some, Err}
use Rattle.x_disk.specs.Disk.{View, Tells}
use Rattle.key_journal.specs.States.{FaultsRose}
use Rattle.key_store.specs.Store.{Stored}
use Rattle.csm_grammar.specs.declared.arrival.Arrival.{Arrival}
use Rattle.csm_feed.specs.declared.unheard.Unheard.{Unheard}
use Rattle.csm_feed.specs.Heard.{Heard}
use Rattle.party_state.specs.State.{Party}
use Rattle.party_state.specs.declared.edit.Edit.{Edit}
use Rattle.role_base.specs.Apart.{AreDone}
use Rattle.change_code.specs.declared.format.Format.TheVariants.{Two}
use Rattle.change_code.specs.Code.{IsCode}
use Rattle.member.specs.Member.{Member}
use Rattle.node_core.specs.Turns.{member_of}
use Rattle.csm_batch.specs.declared.entry.Entry.{Entry}
use Rattle.spool_store.specs.declared.entry_plan.EntryPlan.{EntryPlan}
use Rattle.csm_spool.specs.declared.outcome.Driven.{Driven}
use Rattle.csm_spool.specs.declared.outcome.Driven.TheVariants.{Done, OutOfStep, NodeBroken, SpoolBroken, NoMemory}
use Rattle.csm_spool.specs.Planning.{entry_plan}
use Rattle.spool_store.specs.Contents.{Progress}
use Rattle.csm_spool.specs.Courses.{IsHeard, EntriesLead, plan_for}
use Rattle.csm_spool.specs.InStep.{PairsInStep}
use Rattle.spool_store.specs.Spools.{Spooled}

-- each edit of a plan's change is done in the party; a plan without a change is settled
abbrev pub IsSettled : Party → EntryPlan → Type 0
IsSettled party plan = (edits : List Edit) → IsCode Two plan.change edits → AreDone party edits

-- the last plan, and its entry
pub record IsLast (p : Progress) (plan : EntryPlan) (e : Entry) : Type 0 where
  pub number : ℕ
  pub count : length p.plans ≡ number + 1
  pub plan_is : slice_get p.plans number ≡ Some plan
  pub entry_is : slice_get p.entries number ≡ Some e

-- no message is heard of the entry, or the party would do otherwise with it than the plan says
abbrev pub DoesOtherwise : Member → Entry → EntryPlan → Type 0
DoesOtherwise x e plan = ((u : Unheard) × Heard e.bytes (Err u)) ⊎ ((a : Arrival) × IsHeard e.bytes a × (entry_plan (plan_for x a e) ≢ plan))

-- the last plan isn't settled, and the party would do otherwise with its entry
pub record IsOut (x : Member) (p : Progress) : Type 0 where
  pub plan : EntryPlan
  pub entry : Entry
  pub last : IsLast p plan entry
  pub unsettled : IsSettled x.party plan → ⊥
  pub otherwise : DoesOtherwise x entry plan

-- each entry has its plan, and the last one is settled
pub record IsFinished (x : Member) (p : Progress) : Type 0 where
  pub settled : (plan : EntryPlan) (e : Entry) → IsLast p plan e → IsSettled x.party plan
  pub whole : length p.entries ≤ length p.plans

abbrev pub party_disk : {D E : Type 0} → Driven D E → D
party_disk (Done node spool) = node.disk
party_disk (OutOfStep node spool entry) = node.disk
party_disk (NodeBroken broken spool) = broken.disk
party_disk (SpoolBroken node broken) = node.disk
party_disk (NoMemory node spool) = node.disk

abbrev pub spool_disk : {D E : Type 0} → Driven D E → E
spool_disk (Done node spool) = spool.disk
spool_disk (OutOfStep node spool entry) = spool.disk
spool_disk (NodeBroken broken spool) = spool.disk
spool_disk (SpoolBroken node broken) = broken.disk
spool_disk (NoMemory node spool) = spool.disk

-- what holds of both disks: their faults never fall, and each tells as it did
pub record KeepsBoth (party spool party_after spool_after : View) : Type 0 where
  pub party_faults : party.faults ≤ party_after.faults
  pub spool_faults : spool.faults ≤ spool_after.faults
  pub party_tells : is_some party_after.now ≡ is_some party.now
  pub spool_tells : is_some spool_after.now ≡ is_some spool.now

-- each entry of the batch has its plan
pub record IsWhole (old new : Progress) : Type 0 where
  pub text : new.text ≡ old.text
  pub entries : new.entries ≡ old.entries
  pub plans : length new.plans ≡ length new.entries
  -- the plans that stood before stay, in front
  pub front : (more : List EntryPlan) × (new.plans ≡ old.plans ++ more)

-- what may be answered; want of memory to any
abbrev pub IsAnswer : {D E : Type 0} → (D → View) → (E → View) → Stored D → Spooled E → Driven D E → Type 0
IsAnswer told_party told_spool node old (Done after new) = IsWhole old.progress new.progress × (IsOut (member_of node) old.progress → ⊥)
IsAnswer told_party told_spool node old (OutOfStep after new entry) = (after ≡ node) × (new ≡ old) × (entry ≡ length old.progress.plans) × IsOut (member_of node) old.progress
IsAnswer told_party told_spool node old (NodeBroken b new) = FaultsRose (told_party node.disk) (told_party b.disk) b.cause × (IsOut (member_of node) old.progress → ⊥)
IsAnswer told_party told_spool node old (SpoolBroken after b) = FaultsRose (told_spool old.disk) (told_spool b.disk) b.cause × (IsOut (member_of node) old.progress → ⊥)
IsAnswer told_party told_spool node old (NoMemory after new) = Unit {0}

-- at the end the party is behind the plans of all entries; a batch that is in step is never out of step
abbrev pub Ends : {D E : Type 0} → Member → Spooled E → Driven D E → Type 0
Ends x old (Done after new) = EntriesLead x old.progress.entries new.progress.plans (member_of after)
Ends x old (OutOfStep after new entry) = ⊥
Ends x old (NodeBroken b new) = Unit {0}
Ends x old (SpoolBroken after b) = Unit {0}
Ends x old (NoMemory after new) = Unit {0}

-- what became of a batch; where each pair of images that a crash may leave was in step, over disks that tell, each is
pub record IsDrive {D E : Type 0} (told_party : D → View) (told_spool : E → View) (node : Stored D) (old : Spooled E) (result : Driven D E) : Type 0 where
  pub answer : IsAnswer told_party told_spool node old result
  pub ends : (x : Member) → Tells (told_party node.disk) → Tells (told_spool old.disk)
      → PairsInStep (told_party node.disk) (told_spool old.disk) old.progress.text x old.progress.entries → Ends x old result
  pub in_step : (x : Member) → Tells (told_party node.disk) → Tells (told_spool old.disk)
      → PairsInStep (told_party node.disk) (told_spool old.disk) old.progress.text x old.progress.entries
      → PairsInStep (told_party (party_disk result)) (told_spool (spool_disk result)) old.progress.text x old.progress.entries
  pub keeps : KeepsBoth (told_party node.disk) (told_spool old.disk) (told_party (party_disk result)) (told_spool (spool_disk result))
  -- where it was out of step both disks are as they were, whatever came
  pub rests : IsOut (member_of node) old.progress → (party_disk result ≡ node.disk) × (spool_disk result ≡ old.disk)
  -- so they are where it was finished
  pub finished : IsFinished (member_of node) old.progress → (party_disk result ≡ node.disk) × (spool_disk result ≡ old.disk)

-- from a party that is behind the plans that stand

abbrev pub IsRunAnswer : {D E : Type 0} → (D → View) → (E → View) → Stored D → Spooled E → Driven D E → Type 0
IsRunAnswer told_party told_spool node old (Done after new) = IsWhole old.progress new.progress
IsRunAnswer told_party told_spool node old (OutOfStep after new entry) = ⊥
IsRunAnswer told_party told_spool node old (NodeBroken b new) = FaultsRose (told_party node.disk) (told_party b.disk) b.cause
IsRunAnswer told_party told_spool node old (SpoolBroken after b) = FaultsRose (told_spool old.disk) (told_spool b.disk) b.cause
IsRunAnswer told_party told_spool node old (NoMemory after new) = Unit {0}

pub record IsRun {D E : Type 0} (told_party : D → View) (told_spool : E → View) (node : Stored D) (old : Spooled E) (result : Driven D E) : Type 0 where
  pub answer : IsRunAnswer told_party told_spool node old result
  pub ends : (x : Member) → EntriesLead x old.progress.entries old.progress.plans (member_of node) → Ends x old result
  pub in_step : (x : Member) → EntriesLead x old.progress.entries old.progress.plans (member_of node) → Tells (told_party node.disk) → Tells (told_spool old.disk)
      → PairsInStep (told_party (party_disk result)) (told_spool (spool_disk result)) old.progress.text x old.progress.entries
  pub keeps : KeepsBoth (told_party node.disk) (told_spool old.disk) (told_party (party_disk result)) (told_spool (spool_disk result))
  -- with a plan for each entry both disks are as they were
  pub rests : length old.progress.entries ≤ length old.progress.plans → (party_disk result ≡ node.disk) × (spool_disk result ≡ old.disk)
