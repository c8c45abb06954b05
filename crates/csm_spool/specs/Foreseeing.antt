-- What a party will do with an entry, before anything of it is kept (this project's profile).
use Rattle.std.specs.Prelude.{◌≡◌, Err}
use Rattle.csm_grammar.specs.declared.arrival.Arrival.{Arrival}
use Rattle.csm_feed.specs.declared.unheard.Unheard.{Unheard}
use Rattle.csm_feed.specs.Heard.{Heard}
use Rattle.party_state.specs.Ranges.{IsParty}
use Rattle.key_store.specs.Store.{Stored}
use Rattle.node_core.specs.Planned.{PlannedNode}
use Rattle.node_core.specs.Turns.{member_of}
use Rattle.csm_batch.specs.declared.entry.Entry.{Entry}
use Rattle.spool_store.specs.declared.entry_plan.EntryPlan.{EntryPlan}
use Rattle.csm_spool.specs.declared.foreseeing.Foreseen.{Foreseen}
use Rattle.csm_spool.specs.declared.foreseeing.Foreseen.TheVariants.{Message, Refused, NoMemory}
use Rattle.csm_spool.specs.Planning.{entry_plan, plan_of_unheard}
use Rattle.spool_store.specs.Plans.{IsEntryPlan}
use Rattle.csm_spool.specs.Courses.{IsHeard, plan_for}

-- a message is heard, and this is what the party will do with it
pub record ForeseesMessage {D : Type 0} (node : Stored D) (e : Entry) (planned : PlannedNode D) (plan : EntryPlan) : Type 0 where
  pub party : IsParty node.party
  pub arrival : Arrival
  pub heard : IsHeard e.bytes arrival
  pub same : planned.node ≡ node
  pub will : planned.plan ≡ plan_for (member_of node) arrival e
  pub plan_is : plan ≡ entry_plan planned.plan
  pub kept : IsEntryPlan plan

-- no message is heard
pub record ForeseesRefusal {D : Type 0} (node : Stored D) (e : Entry) (after : Stored D) (plan : EntryPlan) : Type 0 where
  pub unheard : Unheard
  pub heard : Heard e.bytes (Err unheard)
  pub same : after ≡ node
  pub plan_is : plan ≡ plan_of_unheard unheard
  pub kept : IsEntryPlan plan

abbrev pub Foresees : {D : Type 0} → Stored D → Entry → Foreseen D → Type 0
Foresees node e (Message planned plan) = ForeseesMessage node e planned plan
Foresees node e (Refused after plan) = ForeseesRefusal node e after plan
Foresees node e (NoMemory after) = after ≡ node
