-- What a batch makes of a party, entry by entry: this project's profile.
use Rattle.std.specs.Prelude.{◌≡◌, ◌⊎◌, ℕ, List, [], ◌∷◌, take, Ok, Err}
use Rattle.csm_grammar.specs.declared.arrival.Arrival.{Arrival}
use Rattle.csm_feed.specs.declared.unheard.Unheard.{Unheard}
use Rattle.csm_feed.specs.Heard.{Heard, after_leading}
use Rattle.party_state.specs.declared.command.Input.TheVariants.{Arrived}
use Rattle.party_state.specs.Ranges.{IsParty}
use Rattle.member.specs.Member.{Member, Plan, plan_at, after}
use Rattle.csm_batch.specs.declared.entry.Entry.{Entry}
use Rattle.spool_store.specs.declared.entry_plan.EntryPlan.{EntryPlan}
use Rattle.csm_spool.specs.Planning.{entry_plan, plan_of_unheard}

-- the message that is heard of the bytes
pub record IsHeard (bytes : List ℕ) (a : Arrival) : Type 0 where
  pub heard : Heard bytes (Ok a.parsed)
  pub text : a.text ≡ take a.parsed.len (after_leading bytes)

-- what a member does with a message that arrives as an entry says
abbrev pub plan_for : Member → Arrival → Entry → Plan
plan_for x a e = plan_at x (Arrived a) e.moment

-- the entry is refused as no message, and all stays
pub record IsRefusal (x : Member) (e : Entry) (p : EntryPlan) (y : Member) : Type 0 where
  pub unheard : Unheard
  pub heard : Heard e.bytes (Err unheard)
  pub plan : p ≡ plan_of_unheard unheard
  pub stays : y ≡ x

-- a message is heard, and what the party will do with it is done; each part of the party is in its range
pub record IsArrival (x : Member) (e : Entry) (p : EntryPlan) (y : Member) : Type 0 where
  pub party : IsParty x.party
  pub arrival : Arrival
  pub heard : IsHeard e.bytes arrival
  pub plan : p ≡ entry_plan (plan_for x arrival e)
  pub after : y ≡ after x (plan_for x arrival e).edits

-- an entry, with its plan, leads from here to there
abbrev pub EntryLeads : Member → Entry → EntryPlan → Member → Type 0
EntryLeads x e p y = IsRefusal x e p y ⊎ IsArrival x e p y

-- the first entries, with these plans, lead from here to there
abbrev pub EntriesLead : Member → List Entry → List EntryPlan → Member → Type 0
EntriesLead x entries [] y = y ≡ x
EntriesLead x [] (p ∷ plans) y = ⊥
EntriesLead x (e ∷ entries) (p ∷ plans) y = (mid : Member) × EntryLeads x e p mid × EntriesLead mid entries plans y
