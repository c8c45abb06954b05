-- How a batch goes on from where its party stands, whoever commanded that before (this project's profile).
use Rattle.std.specs.Prelude.{◌≡◌, ◌≢◌, ◌⊎◌, ℕ, List, [], ◌∷◌, ◌++◌, length, drop}
use Rattle.x_disk.specs.Disk.{View, Tells}
use Rattle.key_store.specs.Store.{Stored}
use Rattle.member.specs.Member.{Member}
use Rattle.node_core.specs.Turns.{member_of, IsImageOf}
use Rattle.csm_batch.specs.declared.entry.Entry.{Entry}
use Rattle.spool_store.specs.declared.entry_plan.EntryPlan.{EntryPlan}
use Rattle.spool_store.specs.Contents.{Progress, HoldsPlans}
use Rattle.spool_store.specs.Spools.{Spooled}
use Rattle.csm_spool.specs.declared.outcome.Driven.{Driven}
use Rattle.csm_spool.specs.declared.outcome.Driven.TheVariants.{Done, OutOfStep, NodeBroken, SpoolBroken, NoMemory}
use Rattle.csm_spool.specs.Courses.{EntriesLead}
use Rattle.csm_spool.specs.Drives.{party_disk, spool_disk}
use Rattle.csm_spool.specs.Catching.{CatchesUp}

-- the entries behind the plans that stand
abbrev pub open_entries : Progress → List Entry
open_entries p = drop (length p.plans) p.entries

-- the last plan that stands is settled, or taken up from here, and then the entries behind lead on by these plans
pub record GoesOn (x : Member) (p : Progress) (more : List EntryPlan) (y : Member) : Type 0 where
  pub there : Member
  pub caught_up : CatchesUp x there p
  pub course : EntriesLead there (open_entries p) more y

-- the member is as it was, or has gone on so
abbrev pub HasGoneOn : Member → Progress → List EntryPlan → Member → Type 0
HasGoneOn x p more y = ((y ≡ x) × (more ≡ [])) ⊎ GoesOn x p more y

-- plans that are kept where a party went on by all of these: all, or all but the last one, which changes nothing, or one more, which
-- changes something
abbrev pub AreKept : List EntryPlan → List EntryPlan → Type 0
AreKept all plans = (plans ≡ all) ⊎ (((last : EntryPlan) × (last.change ≡ []) × (all ≡ plans ++ last ∷ [])) ⊎ ((last : EntryPlan) × (last.change ≢ []) × (plans ≡ all ++ last ∷ [])))

-- the image holds the batch, the plans that stood, and such ones behind them
pub record HoldsKept (p : Progress) (more : List EntryPlan) (book : List ℕ) : Type 0 where
  pub plans : List EntryPlan
  pub are : AreKept more plans
  pub holds : HoldsPlans book (record { text = p.text; entries = p.entries; plans = p.plans ++ plans })

-- the plans that stood stay in front, and all others lead there in this way
pub record HasGoneThrough (leads : List EntryPlan → Member → Type 0) (old new : Progress) (y : Member) : Type 0 where
  pub more : List EntryPlan
  pub split : new.plans ≡ old.plans ++ more
  pub goes : leads more y

-- so it is where the batch is done
abbrev pub GoesThrough : {D E : Type 0} → (List EntryPlan → Member → Type 0) → Progress → Driven D E → Type 0
GoesThrough leads old (Done after new) = HasGoneThrough leads old new.progress (member_of after)
GoesThrough leads old (OutOfStep after new entry) = Unit {0}
GoesThrough leads old (NodeBroken b new) = Unit {0}
GoesThrough leads old (SpoolBroken after b) = Unit {0}
GoesThrough leads old (NoMemory after new) = Unit {0}

-- the image stands for a member to whom plans lead in this way; and each image that a crash may leave of a spool's disk that tells holds
-- these plans
pub record IsLeftGoing (leads : List EntryPlan → Member → Type 0) (p : Progress) (spool spool_after : View) (image : List ℕ) : Type 0 where
  pub more : List EntryPlan
  pub member : Member
  pub way : leads more member
  pub stands : IsImageOf member image
  pub kept : Tells spool → (book : List ℕ) → spool_after.may_leave book → HoldsKept p more book

-- what became of a batch: where it is done plans lead through in the one way; and whatever came, each image that a crash may leave of a
-- party's disk that tells is one to which plans lead in the other
pub record GoesBy {D E : Type 0} (told_party : D → View) (told_spool : E → View) (through_by left_by : List EntryPlan → Member → Type 0) (node : Stored D) (old : Spooled E) (result : Driven D E) : Type 0 where
  pub through : GoesThrough through_by old.progress result
  pub left : Tells (told_party node.disk) → (c : List ℕ) → (told_party (party_disk result)).may_leave c
      → IsLeftGoing left_by old.progress (told_spool old.disk) (told_spool (spool_disk result)) c

-- the party goes on from where it stands
abbrev pub GoesAnyhow : {D E : Type 0} → (D → View) → (E → View) → Stored D → Spooled E → Driven D E → Type 0
GoesAnyhow told_party told_spool node old result = GoesBy told_party told_spool (GoesOn (member_of node) old.progress) (HasGoneOn (member_of node) old.progress) node old result

-- a party that is behind the plans that stood goes on by the entries behind them
abbrev pub RunsAnyhow : {D E : Type 0} → (D → View) → (E → View) → Stored D → Spooled E → Driven D E → Type 0
RunsAnyhow told_party told_spool node old result =
    GoesBy told_party told_spool (EntriesLead (member_of node) (open_entries old.progress)) (EntriesLead (member_of node) (open_entries old.progress)) node old result
