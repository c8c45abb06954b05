-- A party that is behind the last plan, or before it.
use Rattle.std.proofs.Common.{◌≡◌, ◌⊎◌, inl, inr, ℕ, suc, ◌+◌, List, [], ◌∷◌, ◌++◌, length, slice_get, Option, Some, refl, sym, ap, subst, ◌∙◌, arith, length-append}
use Rattle.csm_grammar.specs.declared.arrival.Arrival.{Arrival}
use Rattle.change_code.specs.declared.format.Format.TheVariants.{Two}
use Rattle.change_code.specs.Code.{IsCode}
use Rattle.member.specs.Member.{Member}
use Rattle.csm_batch.specs.declared.entry.Entry.{Entry}
use Rattle.spool_store.specs.declared.entry_plan.EntryPlan.{EntryPlan}
use Rattle.csm_spool.specs.Planning.{entry_plan}
use Rattle.spool_store.specs.Contents.{Progress}
use Rattle.csm_spool.specs.Courses.{plan_for, EntryLeads, EntriesLead}
use Rattle.csm_spool.specs.InStep.{LeadsBefore, IsAt}
use Rattle.csm_spool.specs.Drives.{IsSettled, IsLast, IsOut, DoesOtherwise}
use Rattle.csm_spool.specs.Catching.{CatchesUp, WasSettled}
use Rattle.csm_spool.specs.Laws.{LawSettledOnlyBehind, LawCaughtUp, LawNeverOut}
use Rattle.csm_spool.proofs.Steps.{HeardOnce, never_both, same_arrival, one_lead, one_course, last_of, last_step}
use Rattle.csm_spool.proofs.PlanEdits.{no_code}

pub same_some : {X : Type 0} (o : Option X) (a b : X) → o ≡ Some a → o ≡ Some b → a ≡ b
same_some o a b one other = let both : Some a ≡ Some b = sym one ∙ other in cc both

at_last : (front : List EntryPlan) (last : EntryPlan) → slice_get (front ++ last ∷ []) (length front) ≡ Some last
at_last [] last = refl
at_last (p ∷ front) last = at_last front last

long_last : (front : List EntryPlan) (last : EntryPlan) → length (front ++ last ∷ []) ≡ length front + 1
long_last front last = omega (arith, length-append front (last ∷ []))

-- a course with a last plan, by that plan and its entry
pub record IsSplit (x here : Member) (p : Progress) (plan : EntryPlan) (e : Entry) : Type 0 where
  pub front : List EntryPlan
  pub plans : p.plans ≡ front ++ plan ∷ []
  pub before : Member
  pub course : EntriesLead x p.entries front before
  pub leads : EntryLeads before e plan here

split_at : (x here : Member) (p : Progress) (plan : EntryPlan) (e : Entry) → EntriesLead x p.entries p.plans here → IsLast p plan e → IsSplit x here p plan e
split_at x here p plan e course last =
    let count : length p.plans ≡ suc last.number = omega (arith, last.count) in
    let cut = last_of p.plans last.number plan count last.plan_is in
    let step = last_step x p.entries cut.0 plan here (subst (λ (l : List EntryPlan). EntriesLead x p.entries l here) cut.1 course) in
    let at : slice_get p.entries last.number ≡ Some step.entry = subst (λ (n : ℕ). slice_get p.entries n ≡ Some step.entry) cut.2 step.at in
    let same : step.entry ≡ e = same_some (slice_get p.entries last.number) step.entry e at last.entry_is in
    record { front = cut.0; plans = cut.1; before = step.before; course = step.course; leads = subst (λ (f : Entry). EntryLeads step.before f plan here) same step.leads }

-- the two splits of a list by a last plan are one
same_front : (front other : List EntryPlan) (last plan : EntryPlan) → front ++ last ∷ [] ≡ other ++ plan ∷ [] → (front ≡ other) × (last ≡ plan)
same_front [] [] last plan is = (refl, cc is)
same_front [] (q ∷ []) last plan is = absurd (cc is)
same_front [] (q ∷ r ∷ other) last plan is = absurd (cc is)
same_front (p ∷ []) [] last plan is = absurd (cc is)
same_front (p ∷ r ∷ front) [] last plan is = absurd (cc is)
same_front (p ∷ front) (q ∷ other) last plan is =
    let first : p ≡ q = cc is in
    let rest : front ++ last ∷ [] ≡ other ++ plan ∷ [] = cc is in
    let same = same_front front other last plan rest in
    (ap (λ (h : EntryPlan). h ∷ front) first ∙ ap (λ (l : List EntryPlan). q ∷ l) same.0, same.1)

module _ (tells : LawSettledOnlyBehind) (once : HeardOnce) (x y : Member) (p : Progress) (is_at : IsAt x p.entries p.plans y) where
  -- where the last plan isn't settled, the member is before it
  is_before : (plan : EntryPlan) (e : Entry) (last : IsLast p plan e) → (IsSettled y.party plan → ⊥) → (s : IsSplit x is_at.here p plan e) × (y ≡ s.before)
  is_before plan e last unsettled = let s = split_at x is_at.here p plan e is_at.course last in (s, go s is_at.at)
    where
      go : (s : IsSplit x is_at.here p plan e) → (y ≡ is_at.here) ⊎ LeadsBefore x p.entries p.plans y → y ≡ s.before
      go s (inl same) = absurd (unsettled (subst (λ (m : Member). IsSettled m.party plan) (sym same) (tells s.before is_at.here e plan s.leads).behind))
      go s (inr l) =
          let same = same_front l.front s.front l.last plan (sym l.split ∙ s.plans) in
          one_course once x p.entries s.front y s.before (subst (λ (f : List EntryPlan). EntriesLead x p.entries f y) same.0 l.course) s.course

  settled_behind : WasSettled y p → EntriesLead x p.entries p.plans y
  settled_behind was = go is_at.at
    where
      of_before : (l : LeadsBefore x p.entries p.plans y) → EntriesLead x p.entries p.plans y
      of_before l =
          let step = last_step x p.entries l.front l.last is_at.here (subst (λ (ps : List EntryPlan). EntriesLead x p.entries ps is_at.here) l.split is_at.course) in
          let same : y ≡ step.before = one_course once x p.entries l.front y step.before l.course step.course in
          let is_last : IsLast p l.last step.entry = record {
            number = length l.front;
            count = ap length l.split ∙ long_last l.front l.last;
            plan_is = subst (λ (ps : List EntryPlan). slice_get ps (length l.front) ≡ Some l.last) (sym l.split) (at_last l.front l.last);
            entry_is = step.at;
          } in
          let settled : IsSettled step.before.party l.last = subst (λ (m : Member). IsSettled m.party l.last) same (was.settled l.last step.entry is_last) in
          let there : step.before ≡ is_at.here = (tells step.before is_at.here step.entry l.last step.leads).before settled in
          subst (λ (m : Member). EntriesLead x p.entries p.plans m) (sym (same ∙ there)) is_at.course

      go : (y ≡ is_at.here) ⊎ LeadsBefore x p.entries p.plans y → EntriesLead x p.entries p.plans y
      go (inl same) = subst (λ (m : Member). EntriesLead x p.entries p.plans m) (sym same) is_at.course
      go (inr l) = of_before l

  pub caught : (there : Member) → CatchesUp y there p → EntriesLead x p.entries p.plans there
  caught there (inl (same, was)) = subst (λ (m : Member). EntriesLead x p.entries p.plans m) (sym same) (settled_behind was)
  caught there (inr t) =
      let b = is_before t.plan t.entry t.last t.unsettled in
      let there_is : there ≡ is_at.here = one_lead once b.0.before t.entry t.plan t.plan there is_at.here (subst (λ (m : Member). EntryLeads m t.entry t.plan there) b.1 t.leads) b.0.leads in
      subst (λ (m : Member). EntriesLead x p.entries p.plans m) (sym there_is) is_at.course

  pub in_step : IsOut y p → ⊥
  in_step o = let b = is_before o.plan o.entry o.last o.unsettled in go b.0 b.1 b.0.leads o.otherwise
    where
      go : (s : IsSplit x is_at.here p o.plan o.entry) → y ≡ s.before → EntryLeads s.before o.entry o.plan is_at.here → DoesOtherwise y o.entry o.plan → ⊥
      go s same (inl r) otherwise = o.unsettled (λ edits is. absurd (no_code edits (subst (λ (q : EntryPlan). IsCode Two q.change edits) r.plan is)))
      go s same (inr r) (inl (u, heard)) = never_both once o.entry.bytes r.arrival u r.heard heard
      go s same (inr r) (inr (a, heard, differs)) =
          let one : a ≡ r.arrival = same_arrival once o.entry.bytes a r.arrival heard r.heard in
          differs (ap (λ (m : Arrival). entry_plan (plan_for y m o.entry)) one ∙ (ap (λ (m : Member). entry_plan (plan_for m r.arrival o.entry)) same ∙ sym r.plan))

pub caught_up : LawSettledOnlyBehind → HeardOnce → LawCaughtUp
caught_up tells once x y there p is_at catches = caught tells once x y p is_at there catches

pub never_out : LawSettledOnlyBehind → HeardOnce → LawNeverOut
never_out tells once x y p is_at o = in_step tells once x y p is_at o
