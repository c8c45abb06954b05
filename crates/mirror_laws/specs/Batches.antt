-- Which events a batch at a party is (this project's profile).
use Rattle.std.specs.Prelude.{◌≡◌, ◌≢◌, ◌⊎◌, ℕ, Option, Some, List, [], ◌∷◌, ◌++◌, length, map, option_to_list, unwrap_or, Err}
use Rattle.x_disk.specs.Disk.{View, Tells, IsUntouched}
use Rattle.csm_grammar.specs.declared.arrival.Arrival.{Arrival}
use Rattle.csm_feed.specs.declared.unheard.Unheard.{Unheard}
use Rattle.csm_feed.specs.Heard.{Heard}
use Rattle.member.specs.Member.{Member}
use Rattle.csm_batch.specs.declared.entry.Entry.{Entry}
use Rattle.spool_store.specs.declared.entry_plan.EntryPlan.{EntryPlan}
use Rattle.spool_store.specs.Spools.{outbox_of}
use Rattle.csm_spool.specs.Courses.{IsHeard, EntriesLead}
use Rattle.csm_spool.specs.Planning.{plan_of_unheard}
use Rattle.csm_spool.specs.Going.{HoldsKept}
use Rattle.x_spool.specs.Outcomes.{KeepsPlans, progress_of}
use Rattle.x_spool.specs.Onward.{HeldThese, IsUnplanned}
use Rattle.x_spool.specs.declared.outcome.SpoolOutcome.{SpoolOutcome}
use Rattle.x_spool.specs.declared.outcome.SpoolOutcome.TheVariants as spooling
use Rattle.world_laws.specs.Events.{Hears, Event, Whole}
use Rattle.call_laws.specs.Deeds.{event_of}
use Rattle.mirror_laws.specs.Runs.{PairEvent, Happens}

-- no message is heard of the entry, as its plan says: no event, and nothing is written
pub record IsNoArrival (e : Entry) (plan : EntryPlan) (events : List Event) (texts : List (List ℕ)) : Type 0 where
  pub unheard : Unheard
  pub heard : Heard e.bytes (Err unheard)
  pub planned : plan ≡ plan_of_unheard unheard
  pub none : events ≡ []
  pub silent : texts ≡ []

-- one is, and arrives at the party of this name at the entry's moment; what is written is the reply of its plan
pub record IsArrivalOf (name : List ℕ) (e : Entry) (plan : EntryPlan) (events : List Event) (texts : List (List ℕ)) : Type 0 where
  pub arrival : Arrival
  pub heard : IsHeard e.bytes arrival
  pub is : events ≡ event_of name (Hears e.bytes (Some arrival)) e.moment Whole ∷ []
  pub reply : Option (List ℕ)
  pub planned : plan.reply ≡ unwrap_or reply []
  pub written : texts ≡ option_to_list reply

-- the events of an entry that is carried out by this plan, and the texts that are written then
abbrev pub IsOfEntry : List ℕ → Entry → EntryPlan → List Event → List (List ℕ) → Type 0
IsOfEntry name e plan events texts = IsNoArrival e plan events texts ⊎ IsArrivalOf name e plan events texts

-- they are those of the first entry, and then those of the others
pub record IsEntryFollowed (first_is rest : List Event → List (List ℕ) → Type 0) (events : List Event) (texts : List (List ℕ)) : Type 0 where
  pub first : List Event
  pub others : List Event
  pub whole : events ≡ first ++ others
  pub first_texts : List (List ℕ)
  pub other_texts : List (List ℕ)
  pub all : texts ≡ first_texts ++ other_texts
  pub is : first_is first first_texts
  pub follow : rest others other_texts

-- the events of entries, each of which is carried out by its plan, in their order
abbrev pub AreOfEntries : List ℕ → List Entry → List EntryPlan → List Event → List (List ℕ) → Type 0
AreOfEntries name [] [] events texts = (events ≡ []) × (texts ≡ [])
AreOfEntries name (e ∷ es) (p ∷ ps) events texts = IsEntryFollowed (IsOfEntry name e p) (AreOfEntries name es ps) events texts
AreOfEntries name [] (p ∷ ps) events texts = ⊥
AreOfEntries name (e ∷ es) [] events texts = ⊥

-- a stretch of the entries is carried out, behind as many as these plans and before these entries
pub record IsStretch (name : List ℕ) (entries : List Entry) (stood plans : List EntryPlan) (behind : List Entry) (es : List PairEvent) (texts : List (List ℕ)) : Type 0 where
  pub front : List Entry
  pub done : List Entry
  pub place : length front ≡ length stood
  pub split : entries ≡ front ++ (done ++ behind)
  -- they lead some member on, each by its plan; that it is the network's isn't said
  pub from : Member
  pub to : Member
  pub course : EntriesLead from done plans to
  pub events : List Event
  pub are : AreOfEntries name done plans events texts
  pub whole : es ≡ map Happens events

-- it begins with the last one of the plans that stood, which changes something
pub record IsFromLast (name : List ℕ) (entries : List Entry) (stood more : List EntryPlan) (behind : List Entry) (es : List PairEvent) (texts : List (List ℕ)) : Type 0 where
  pub front : List EntryPlan
  pub last : EntryPlan
  pub split : stood ≡ front ++ last ∷ []
  pub changes : last.change ≢ []
  pub stretch : IsStretch name entries front (last ∷ more) behind es texts

-- the stretch is that of these further plans, or begins with the last one that stood
abbrev pub IsOnward : List ℕ → List Entry → List EntryPlan → List EntryPlan → List Entry → List PairEvent → List (List ℕ) → Type 0
IsOnward name entries stood more behind es texts = IsStretch name entries stood more behind es texts ⊎ IsFromLast name entries stood more behind es texts

-- a batch that is done goes on from the plans that the spool's image holds to its end; each image that a crash may leave of the spool's
-- disk holds all plans, and their outbox is handed out
pub record IsWholeBatch (name text : List ℕ) (entries : List Entry) (spool spool_after : View) (out : List ℕ) (es : List PairEvent) (texts : List (List ℕ)) : Type 0 where
  pub stood : List EntryPlan
  pub held : HeldThese text entries spool stood
  pub more : List EntryPlan
  pub course : IsOnward name entries stood more [] es texts
  pub kept : KeepsPlans spool_after (progress_of text entries (stood ++ more))
  pub outbox : out ≡ outbox_of (stood ++ more)

-- one that failed goes on from them, by some of the other entries or by none; and each image that a crash may leave of a spool's disk
-- that tells holds the plans of these entries
pub record IsBegunBatch (name text : List ℕ) (entries : List Entry) (spool spool_after : View) (es : List PairEvent) (texts : List (List ℕ)) : Type 0 where
  pub stood : List EntryPlan
  pub held : HeldThese text entries spool stood
  pub more : List EntryPlan
  pub behind : List Entry
  pub course : ((es ≡ []) × (texts ≡ []) × (more ≡ [])) ⊎ IsOnward name entries stood more behind es texts
  pub kept : Tells spool → (book : List ℕ) → spool_after.may_leave book → HoldsKept (progress_of text entries stood) more book

-- or it failed before an entry was planned
abbrev pub IsPartBatch : List ℕ → List ℕ → List Entry → View → View → List PairEvent → List (List ℕ) → Type 0
IsPartBatch name text entries spool spool_after es texts = ((es ≡ []) × (texts ≡ []) × IsUnplanned text entries spool spool_after) ⊎ IsBegunBatch name text entries spool spool_after es texts

-- of a batch that is refused there is no event, and its spool isn't written. `spool` and `spool_after` are what is told of the spool's disk before and after
abbrev pub IsBatchOf : List ℕ → List ℕ → List Entry → View → View → SpoolOutcome → List PairEvent → List (List ℕ) → Type 0
IsBatchOf name text entries spool spool_after (spooling.Done out) es texts = IsWholeBatch name text entries spool spool_after out es texts
IsBatchOf name text entries spool spool_after spooling.Fault es texts = IsPartBatch name text entries spool spool_after es texts
IsBatchOf name text entries spool spool_after spooling.NoMemory es texts = IsPartBatch name text entries spool spool_after es texts
IsBatchOf name text entries spool spool_after other es texts = (es ≡ []) × (texts ≡ []) × (Tells spool → IsUntouched spool spool_after)
