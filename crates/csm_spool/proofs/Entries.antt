-- An entry whose plan is kept, and then carried out.
use Rattle.std.proofs.Common.{◌≡◌, inl, inr, ℕ, ◌+◌, ◌<◌, ◌≤◌, length, slice_get, Some, is_some, true, Ok, Err, refl, sym, ◌∙◌, ap, subst, arith}
use Rattle.std.proofs.lemmas.List.Elements.{All-nil}
use Rattle.std.proofs.lemmas.Option.{slice_get_within}
use Rattle.x_disk.specs.Disk.{View}
use Rattle.csm_grammar.specs.declared.arrival.Arrival.{Arrival}
use Rattle.key_journal.specs.States.{Failed}
use Rattle.key_store.specs.Store.{Stored}
use Rattle.party_state.specs.State.{Party}
use Rattle.party_state.specs.declared.command.Input.TheVariants as input
use Rattle.party_state.specs.Ranges.{IsParty, HasNoBegin, IsNoBegin}
use Rattle.member.specs.Member.{Member, Plan, after}
use Rattle.node_core.specs.Planned.{PlannedNode}
use Rattle.node_core.specs.Turns.{member_of}
use Rattle.csm_batch.specs.declared.entry.Entry.{Entry}
use Rattle.spool_store.specs.declared.entry_plan.EntryPlan.{EntryPlan}
use Rattle.spool_store.specs.declared.committing.Committed.TheVariants as committed
use Rattle.csm_spool.specs.declared.stepping.Stepped.TheVariants as stepped
use Rattle.csm_spool.specs.declared.catching.Caught.TheVariants as caught
use Rattle.csm_spool.specs.Planning.{entry_plan}
use Rattle.spool_store.specs.Contents.{Progress}
use Rattle.spool_store.specs.Plans.{is_number, IsChange, plan_body, longest_plan}
use Rattle.csm_spool.specs.Courses.{IsHeard, EntryLeads, plan_for}
use Rattle.csm_spool.specs.Foreseeing.{ForeseesMessage, ForeseesRefusal}
use Rattle.csm_spool.specs.Drives.{KeepsBoth, IsSettled, IsLast, IsOut}
use Rattle.spool_store.specs.Spools.{Spooled}
use Rattle.spool_store.specs.Committing.{IsCommitting}
use Rattle.csm_spool.specs.Stepping.{IsNext, IsStep, IsCarried}
use Rattle.csm_spool.specs.Catching.{TakesUp, IsCatching}
use Rattle.csm_spool.proofs.PlanEdits.{Ranged, plan_edits}
use Rattle.csm_spool.proofs.LastPlans.{same_some}

pub goes_on : Ranged → (x : Member) (a : Arrival) (e : Entry) → IsParty x.party → HasNoBegin (plan_for x a e).edits
goes_on ranged x a e party = plan_edits HasNoBegin x a e (All-nil IsNoBegin) (ranged x.party (input.Arrived a) e.moment party tt).kept.goes_on

-- an entry that has no plan yet
pub within : (p : Progress) (e : Entry) → slice_get p.entries (length p.plans) ≡ Some e → length p.plans < length p.entries
within p e at = slice_get_within p.entries (length p.plans) e at

pub next_at : (p q : Progress) (k : ℕ) (e : Entry) → q ≡ p → k ≡ length q.plans → slice_get q.entries k ≡ Some e → slice_get p.entries (length p.plans) ≡ Some e
next_at p q k e same count at = subst (λ (r : Progress). slice_get r.entries (length r.plans) ≡ Some e) same (subst (λ (n : ℕ). slice_get q.entries n ≡ Some e) count at)

-- what is foreseen of an entry leads on

pub message_leads : {D : Type 0} (node : Stored D) (e : Entry) (planned : PlannedNode D) (plan : EntryPlan) → ForeseesMessage node e planned plan → EntryLeads (member_of planned.node) e plan (after (member_of planned.node) planned.plan.edits)
message_leads {D = D} node e planned plan f =
    let will : planned.plan ≡ plan_for (member_of planned.node) f.arrival e = f.will ∙ ap (λ (n : Stored D). plan_for (member_of n) f.arrival e) (sym f.same) in
    inr (record {
      party = subst (λ (n : Stored D). IsParty n.party) (sym f.same) f.party;
      arrival = f.arrival;
      heard = f.heard;
      plan = f.plan_is ∙ ap entry_plan will;
      after = ap (λ (q : Plan). after (member_of planned.node) q.edits) will;
    })

pub refusal_leads : {D : Type 0} (node : Stored D) (e : Entry) (behind : Stored D) (plan : EntryPlan) → ForeseesRefusal node e behind plan → EntryLeads (member_of behind) e plan (member_of behind)
refusal_leads node e behind plan f = inl (record { unheard = f.unheard; heard = f.heard; plan = f.plan_is; stays = refl })

-- a disk that wasn't touched
rests : (v : View) (s1 s2 : View) → s1.faults ≤ s2.faults → is_some s2.now ≡ is_some s1.now → KeepsBoth v s1 v s2
rests v s1 s2 faults tells = record { party_faults = omega arith; spool_faults = faults; party_tells = refl; spool_tells = tells }

module _ {D E : Type 0} (told : D → View) (told_spool : E → View) (old : Spooled E) (plan : EntryPlan) where
  module _ (node : Stored D) (there : Member) (next : IsNext old.progress (member_of node) plan there) where
    pub spool_broken : (b : Failed E) → IsCommitting told_spool old plan (committed.Broken b) → IsStep told told_spool node old (stepped.SpoolBroken node b)
    spool_broken b c = record {
      answer = record { plan = plan; there = there; next = next; same = refl; cause = c.answer.cause; leaves = c.answer.leaves };
      keeps = rests (told node.disk) (told_spool old.disk) (told_spool b.disk) c.faults c.tells;
    }

    pub no_memory : (s : Spooled E) → IsCommitting told_spool old plan (committed.NoMemory s) → IsStep told told_spool node old (stepped.NoMemory node s)
    no_memory s c = record { answer = (refl, c.answer); keeps = rests (told node.disk) (told_spool old.disk) (told_spool s.disk) c.faults c.tells }

  pub refused : (node : Stored D) → IsNext old.progress (member_of node) plan (member_of node) → (s : Spooled E) → IsCommitting told_spool old plan (committed.Done s) → IsStep told told_spool node old (stepped.On node s)
  refused node next s c = record { answer = record { plan = plan; next = next; goes = c.answer }; keeps = rests (told node.disk) (told_spool old.disk) (told_spool s.disk) c.faults c.tells }

  module _ (planned : PlannedNode D) (next : IsNext old.progress (member_of planned.node) plan (after (member_of planned.node) planned.plan.edits)) (s : Spooled E) (c : IsCommitting told_spool old plan (committed.Done s)) where
    pub accepted : (node : Stored D) → IsCarried told planned (Ok node) → IsStep told told_spool planned.node old (stepped.On node s)
    accepted node k = record {
      answer = record { plan = plan; next = subst (IsNext old.progress (member_of planned.node) plan) (sym k.behind) next; goes = c.answer };
      keeps = record { party_faults = k.faults; spool_faults = c.faults; party_tells = k.tells; spool_tells = c.tells };
    }

    pub node_broken : (b : Failed D) → IsCarried told planned (Err b) → IsStep told told_spool planned.node old (stepped.NodeBroken b s)
    node_broken b k = record {
      answer = record { plan = plan; there = after (member_of planned.node) planned.plan.edits; next = next; goes = c.answer; cause = k.cut.cause; leaves = k.cut.leaves };
      keeps = record { party_faults = k.faults; spool_faults = c.faults; party_tells = k.tells; spool_tells = c.tells };
    }

-- the last plan
module _ {D E : Type 0} (told : D → View) (told_spool : E → View) (spool : Spooled E) where
  pub taken : (planned : PlannedNode D) → TakesUp (member_of planned.node) (after (member_of planned.node) planned.plan.edits) spool.progress → (node : Stored D) → IsCarried told planned (Ok node) → IsCatching told told_spool planned.node spool (caught.Behind node spool)
  taken planned t node k = record {
    answer = (inr (subst (λ (m : Member). TakesUp (member_of planned.node) m spool.progress) (sym k.behind) t), refl);
    keeps = record { party_faults = k.faults; spool_faults = omega arith; party_tells = k.tells; spool_tells = refl };
    rests = λ was. absurd (t.unsettled (was.settled t.plan t.entry t.last));
  }

  pub taken_broken : (planned : PlannedNode D) → TakesUp (member_of planned.node) (after (member_of planned.node) planned.plan.edits) spool.progress → (b : Failed D) → IsCarried told planned (Err b) → IsCatching told told_spool planned.node spool (caught.NodeBroken b spool)
  taken_broken planned t b k = record {
    answer = (record { there = after (member_of planned.node) planned.plan.edits; takes = t; cause = k.cut.cause; leaves = k.cut.leaves }, refl);
    keeps = record { party_faults = k.faults; spool_faults = omega arith; party_tells = k.tells; spool_tells = refl };
    rests = λ was. absurd (t.unsettled (was.settled t.plan t.entry t.last));
  }

  still : (node after : Stored D) → after ≡ node → KeepsBoth (told node.disk) (told_spool spool.disk) (told after.disk) (told_spool spool.disk)
  still node after same = subst (λ (n : Stored D). KeepsBoth (told node.disk) (told_spool spool.disk) (told n.disk) (told_spool spool.disk)) (sym same) (record { party_faults = omega arith; spool_faults = omega arith; party_tells = refl; spool_tells = refl })

  pub out : (node after : Stored D) → after ≡ node → IsOut (member_of node) spool.progress → IsCatching told told_spool node spool (caught.OutOfStep after spool)
  out node after same o = record { answer = (o, same, refl); keeps = still node after same; rests = λ was. (ap (λ (n : Stored D). n.disk) same, refl) }

  pub wanting : (node after : Stored D) → after ≡ node → IsCatching told told_spool node spool (caught.NoMemory after spool)
  wanting node after same = record { answer = (same, refl); keeps = still node after same; rests = λ was. (ap (λ (n : Stored D). n.disk) same, refl) }

  pub settled : (node : Stored D) → ((plan : EntryPlan) (e : Entry) → IsLast spool.progress plan e → IsSettled node.party plan) → IsCatching told told_spool node spool (caught.Behind node spool)
  settled node was = record { answer = (inl (refl, record { settled = was }), refl); keeps = still node node refl; rests = λ was. (refl, refl) }

  pub unstepped : (node after : Stored D) → after ≡ node → IsStep told told_spool node spool (stepped.NoMemory after spool)
  unstepped node after same = record { answer = (same, refl); keeps = still node after same }

-- the last plan isn't settled
module _ {D : Type 0} (node : Stored D) (p : Progress) (number : ℕ) (kept : EntryPlan) (e : Entry) (count : length p.plans ≡ number + 1) (plan_is : slice_get p.plans number ≡ Some kept) (entry_is : slice_get p.entries number ≡ Some e)
    (unsettled : IsSettled node.party kept → ⊥) where
  is_last : IsLast p kept e
  is_last = record { number = number; count = count; plan_is = plan_is; entry_is = entry_is }

  pub out_refused : (behind : Stored D) (plan : EntryPlan) → ForeseesRefusal node e behind plan → IsOut (member_of node) p
  out_refused behind plan f = record { plan = kept; entry = e; last = is_last; unsettled = unsettled; otherwise = inl (f.unheard, f.heard) }

  pub out_message : (planned : PlannedNode D) (plan : EntryPlan) → ForeseesMessage node e planned plan → (plan ≡ kept → ⊥) → IsOut (member_of node) p
  out_message planned plan f differs = record {
    plan = kept;
    entry = e;
    last = is_last;
    unsettled = unsettled;
    otherwise = inr (f.arrival, f.heard, λ same. differs (f.plan_is ∙ (ap entry_plan f.will ∙ same)));
  }

  pub takes : (planned : PlannedNode D) (plan : EntryPlan) → ForeseesMessage node e planned plan → plan ≡ kept → TakesUp (member_of planned.node) (after (member_of planned.node) planned.plan.edits) p
  takes planned plan f same = record {
    plan = kept;
    entry = e;
    last = is_last;
    unsettled = subst (λ (n : Stored D). IsSettled n.party kept → ⊥) (sym f.same) unsettled;
    leads = subst (λ (q : EntryPlan). EntryLeads (member_of planned.node) e q (after (member_of planned.node) planned.plan.edits)) same (message_leads node e planned plan f);
  }

-- what a party will do with a message that is heard
pub foreseen : Ranged → {D : Type 0} (node : Stored D) (e : Entry) (a : Arrival) (planned : PlannedNode D) (plan : EntryPlan) → IsParty node.party → IsHeard e.bytes a → planned ≡ record { node = node; plan = plan_for (member_of node) a e }
    → plan ≡ entry_plan planned.plan → is_number plan.number ≡ true → (HasNoBegin planned.plan.edits → IsChange plan.change) → length (plan_body plan) ≤ longest_plan → ForeseesMessage node e planned plan
foreseen ranged {D} node e a planned plan party heard is plan_is number change short = record {
  party = party;
  arrival = a;
  heard = heard;
  same = ap (λ (q : PlannedNode D). q.node) is;
  will = ap (λ (q : PlannedNode D). q.plan) is;
  plan_is = plan_is;
  kept = record {
    number = number;
    change = change (subst (λ (q : PlannedNode D). HasNoBegin q.plan.edits) (sym is) (goes_on ranged (member_of node) a e party));
    short = short;
  };
}

-- the last plan is this one
module _ (party : Party) (p : Progress) (number : ℕ) (kept : EntryPlan) (count : length p.plans ≡ number + 1) (plan_is : slice_get p.plans number ≡ Some kept) where
  pub was_settled : IsSettled party kept → (plan : EntryPlan) (e : Entry) → IsLast p plan e → IsSettled party plan
  was_settled settled plan e last =
      let same : last.number ≡ number = omega (arith, last.count, count) in
      let at : slice_get p.plans number ≡ Some plan = subst (λ (n : ℕ). slice_get p.plans n ≡ Some plan) same last.plan_is in
      subst (IsSettled party) (same_some (slice_get p.plans number) kept plan plan_is at) settled

  pub not_settled : (IsSettled party kept → ⊥) → (plan : EntryPlan) → slice_get p.plans number ≡ Some plan → IsSettled party plan → ⊥
  not_settled unsettled plan at settled = unsettled (subst (IsSettled party) (same_some (slice_get p.plans number) plan kept at plan_is) settled)
