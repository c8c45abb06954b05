-- Whether the last plan was carried out can be told from the party.
use Rattle.std.proofs.Common.{◌≡◌, inl, inr, ℕ, ◌-◌, ◌≤◌, arith, Bool, true, false, cond, List, [], ◌∷◌, length, refl, sym, ap, subst, ◌∙◌}
use Rattle.std.proofs.lemmas.List.Elements.{All-nil}
use Rattle.csm_grammar.specs.declared.arrival.Arrival.{Arrival}
use Rattle.party_state.specs.declared.command.Input.{Input}
use Rattle.party_state.specs.declared.command.Input.TheVariants as input
use Rattle.party_state.specs.declared.edit.Edit.{Edit}
use Rattle.party_tables.specs.Keys.{link_key, same_link}
use Rattle.party_tables.specs.Tables.{Distinct}
use Rattle.party_state.specs.Ranges.{IsParty, InRange, AreInRange}
use Rattle.party_state.specs.State.{Party, apply}
use Rattle.role_base.specs.Apart.{AreDone, NoneDone}
use Rattle.role_base.specs.Ranged.{IsInput, IsRanged}
use Rattle.member.specs.Deciding.{decision}
use Rattle.member.specs.Leads.{lead_in}
use Rattle.change_code.specs.declared.format.Format.{Format}
use Rattle.change_code.specs.declared.format.Format.TheVariants.{Two}
use Rattle.change_code.specs.Code.{IsCode, code_of_change, most_edits}
use Rattle.change_code.specs.Cost.{fits}
use Rattle.member.specs.Member.{Member, Plan, after, as_decided, as_full}
use Rattle.csm_batch.specs.declared.entry.Entry.{Entry}
use Rattle.spool_store.specs.declared.entry_plan.EntryPlan.{EntryPlan}
use Rattle.csm_spool.specs.Planning.{code_or_nothing}
use Rattle.csm_spool.specs.Courses.{IsRefusal, IsArrival, EntryLeads, plan_for}
use Rattle.csm_spool.specs.Laws.{IsSettledOnlyBehind, LawSettledOnlyBehind}

abbrev pub Undone : Type 0
Undone = (p : Party) (i : Input) (moment : ℕ) → NoneDone p (decision p i moment).change

abbrev pub Done : Type 0
Done = (p q : Party) (i : Input) (moment : ℕ) → Distinct link_key same_link p.links → AreDone (apply (decision p i moment).change q) (decision p i moment).change

abbrev pub Ranged : Type 0
Ranged = (p : Party) (i : Input) (moment : ℕ) → IsParty p → IsInput i → IsRanged p (decision p i moment)

abbrev pub OneChange : Type 0
OneChange = (format other : Format) (bytes : List ℕ) (first second : List Edit) → IsCode format bytes first → IsCode other bytes second → (format ≡ other) × (first ≡ second)

-- nothing is the code of no change
pub no_code : (edits : List Edit) → IsCode Two [] edits → ⊥
no_code edits is = cc is.is

-- what a member will do changes as decided, or nothing
pub plan_edits : (P : List Edit → Type 0) (x : Member) (a : Arrival) (e : Entry) → P [] → P (decision x.party (input.Arrived a) e.moment).change → P (plan_for x a e).edits
plan_edits P x a e none all = go (fits x.space (decision x.party (input.Arrived a) e.moment).change)
  where
    go : (b : Bool) → P (cond b (as_decided (lead_in x.party (input.Arrived a)) (decision x.party (input.Arrived a) e.moment)) (as_full (lead_in x.party (input.Arrived a)))).edits
    go true = all
    go false = none

-- the edits of the plan's change are those that the member keeps
same_edits : OneChange → (es edits : List Edit) → (length es ≤ most_edits) → AreInRange es → IsCode Two (code_or_nothing es) edits → es ≡ edits
same_edits one [] edits few range is = absurd (no_code edits is)
same_edits one (e ∷ es) edits few range is = (one Two Two (code_of_change Two (e ∷ es)) (e ∷ es) edits (record { few = few; in_range = range; is = refl }) is).1

none_left : (n : ℕ) → n - 0 ≡ n
none_left n = omega arith

pub after_none : (x : Member) → after x [] ≡ x
after_none x = ap (λ (r : ℕ). let y : Member = record { party = x.party; space = record { format = x.space.format; room = r } } in y) (none_left x.space.room)

-- only no edits have nothing for their code
no_edits : (es : List Edit) → code_or_nothing es ≡ [] → es ≡ []
no_edits [] none = refl
no_edits (e ∷ es) none = absurd (cc none)

-- a plan without a change leaves the member as it is
pub unchanged : (here there : Member) (e : Entry) (p : EntryPlan) → EntryLeads here e p there → p.change ≡ [] → there ≡ here
unchanged here there e p (inl r) none = r.stays
unchanged here there e p (inr r) none =
    let nothing : (plan_for here r.arrival e).edits ≡ [] = no_edits (plan_for here r.arrival e).edits (sym (ap (λ (q : EntryPlan). q.change) r.plan) ∙ none) in
    r.after ∙ (ap (after here) nothing ∙ after_none here)

module _ (undone : Undone) (done : Done) (ranged : Ranged) (one : OneChange) (there here : Member) (e : Entry) (p : EntryPlan) where
  of_refusal : IsRefusal there e p here → IsSettledOnlyBehind there here p
  of_refusal r = record {
    behind = λ edits is. absurd (no_code edits (subst (λ (q : EntryPlan). IsCode Two q.change edits) r.plan is));
    before = λ settled. sym r.stays;
  }

  module _ (r : IsArrival there e p here) where
    abbrev will : Plan
    will = plan_for there r.arrival e

    abbrev decided : List Edit
    decided = (decision there.party (input.Arrived r.arrival) e.moment).change

    in_range : IsRanged there.party (decision there.party (input.Arrived r.arrival) e.moment)
    in_range = ranged there.party (input.Arrived r.arrival) e.moment r.party tt

    kept : (length will.edits ≤ most_edits) × AreInRange will.edits
    kept = plan_edits (λ es. (length es ≤ most_edits) × AreInRange es) there r.arrival e (omega arith, All-nil InRange) (omega (arith, in_range.kept.few), in_range.in_range)

    coded : (edits : List Edit) → IsCode Two p.change edits → will.edits ≡ edits
    coded edits is = same_edits one will.edits edits kept.0 kept.1 (subst (λ (q : EntryPlan). IsCode Two q.change edits) r.plan is)

    all_done : AreDone here.party will.edits
    all_done =
        let each : AreDone (apply will.edits there.party) will.edits = plan_edits (λ es. AreDone (apply es there.party) es) there r.arrival e tt (done there.party there.party (input.Arrived r.arrival) e.moment r.party.links_once) in
        subst (λ (q : Party). AreDone q will.edits) (sym (ap (λ (x : Member). x.party) r.after)) each

    none_before : NoneDone there.party will.edits
    none_before = plan_edits (λ es. NoneDone there.party es) there r.arrival e tt (undone there.party (input.Arrived r.arrival) e.moment)

    -- edits of which none is done and all are, are none
    stays : (es : List Edit) → will.edits ≡ es → NoneDone there.party es → ((edits : List Edit) → IsCode Two (code_or_nothing es) edits → AreDone there.party edits) → there ≡ here
    stays [] is none settled = sym (r.after ∙ (ap (after there) is ∙ after_none there))
    stays (f ∷ es) is none settled =
        let code : IsCode Two (code_of_change Two (f ∷ es)) (f ∷ es) = record { few = subst (λ (l : List Edit). length l ≤ most_edits) is kept.0; in_range = subst AreInRange is kept.1; is = refl } in
        absurd (none.0 (settled (f ∷ es) code).0)

    of_arrival : IsSettledOnlyBehind there here p
    of_arrival = record {
      behind = λ edits is. subst (AreDone here.party) (coded edits is) all_done;
      before = λ settled. stays will.edits refl none_before (λ edits is. settled edits (subst (λ (q : EntryPlan). IsCode Two q.change edits) (sym r.plan) is));
    }

  leads_tell : EntryLeads there e p here → IsSettledOnlyBehind there here p
  leads_tell (inl r) = of_refusal r
  leads_tell (inr r) = of_arrival r

pub tells : Undone → Done → Ranged → OneChange → LawSettledOnlyBehind
tells undone done ranged one there here e p leads = leads_tell undone done ranged one there here e p leads
