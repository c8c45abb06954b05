-- A batch is driven: the last plan is taken up, and the rest of the batch follows.
use Rattle.std.proofs.Common.{◌≡◌, ◌⊎◌, inl, inr, ℕ, ◌+◌, List, length, slice_get, Some, sym, ap, subst, ◌∙◌, arith}
use Rattle.x_disk.specs.Disk.{View, Tells, IsSound}
use Rattle.csm_grammar.specs.declared.arrival.Arrival.{Arrival}
use Rattle.key_journal.specs.States.{Failed}
use Rattle.key_store.specs.Store.{Stored, IsStore}
use Rattle.change_code.specs.declared.format.Format.TheVariants.{Two}
use Rattle.change_code.specs.Code.{IsCode}
use Rattle.member.specs.Member.{Member}
use Rattle.node_core.specs.Turns.{member_of, IsImageOf}
use Rattle.csm_batch.specs.declared.entry.Entry.{Entry}
use Rattle.spool_store.specs.declared.entry_plan.EntryPlan.{EntryPlan}
use Rattle.csm_spool.specs.declared.outcome.Driven.{Driven}
use Rattle.csm_spool.specs.declared.outcome.Driven.TheVariants as drive
use Rattle.csm_spool.specs.declared.catching.Caught.TheVariants as caught
use Rattle.csm_spool.specs.Planning.{entry_plan}
use Rattle.spool_store.specs.Contents.{Progress, HoldsPlans}
use Rattle.csm_spool.specs.Courses.{EntryLeads, EntriesLead, plan_for}
use Rattle.csm_spool.specs.InStep.{InStep, IsAt, PairsInStep}
use Rattle.csm_spool.specs.Drives.{KeepsBoth, IsOut, DoesOtherwise, IsRun, IsDrive, IsAnswer, IsRunAnswer, party_disk, spool_disk}
use Rattle.spool_store.specs.Spools.{Spooled, IsSpool}
use Rattle.csm_spool.specs.Catching.{CatchesUp, TakesUp, IsCatching, WasSettled}
use Rattle.csm_spool.specs.Laws.{LawCaughtUp, LawNeverOut}
use Rattle.csm_spool.proofs.Steps.{HeardOnce, never_both, same_arrival, at_rest}
use Rattle.csm_spool.proofs.PlanEdits.{no_code}
use Rattle.csm_spool.proofs.LastPlans.{same_some}
use Rattle.csm_spool.proofs.Images.{OneParty, OneFormat, OneProgress, NotBlank, starts_at, spool_images}
use Rattle.csm_spool.proofs.Runs.{keeps_on, cause_on}

-- where the last plan is taken up, or was settled, the party would not do otherwise
module _ (once : HeardOnce) (here : Member) (p : Progress) where
  same_last : (n m : ℕ) → length p.plans ≡ n + 1 → length p.plans ≡ m + 1 → n ≡ m
  same_last n m a b = omega (arith, a, b)

  taken_not_out : (there : Member) → TakesUp here there p → IsOut here p → ⊥
  taken_not_out there t o =
      let number : o.last.number ≡ t.last.number = same_last o.last.number t.last.number o.last.count t.last.count in
      let plan : o.plan ≡ t.plan = same_some (slice_get p.plans t.last.number) o.plan t.plan (subst (λ (n : ℕ). slice_get p.plans n ≡ Some o.plan) number o.last.plan_is) t.last.plan_is in
      let entry : o.entry ≡ t.entry = same_some (slice_get p.entries t.last.number) o.entry t.entry (subst (λ (n : ℕ). slice_get p.entries n ≡ Some o.entry) number o.last.entry_is) t.last.entry_is in
      go (subst (λ (q : EntryPlan). DoesOtherwise here t.entry q) plan (subst (λ (e : Entry). DoesOtherwise here e o.plan) entry o.otherwise)) t.leads
    where
      go : DoesOtherwise here t.entry t.plan → EntryLeads here t.entry t.plan there → ⊥
      go otherwise (inl r) = t.unsettled (λ edits is. absurd (no_code edits (subst (λ (q : EntryPlan). IsCode Two q.change edits) r.plan is)))
      go (inl (u, heard)) (inr r) = never_both once t.entry.bytes r.arrival u r.heard heard
      go (inr (a, heard, differs)) (inr r) = differs (ap (λ (m : Arrival). entry_plan (plan_for here m t.entry)) (same_arrival once t.entry.bytes a r.arrival heard r.heard) ∙ sym r.plan)

  pub not_out : (there : Member) → CatchesUp here there p → IsOut here p → ⊥
  not_out there (inl (same, was)) o = o.unsettled (was.settled o.plan o.entry o.last)
  not_out there (inr t) o = taken_not_out there t o

module _ (once : HeardOnce) (caught_up : LawCaughtUp) (never_out : LawNeverOut) (one_party : OneParty) (one_format : OneFormat) (one_progress : OneProgress) (not_blank : NotBlank)
    {D E : Type 0} (told : D → View) (told_spool : E → View) (node : Stored D) (old : Spooled E)
    (store : IsStore (told node.disk) node.gate node.end node.format node.party) (kept : IsSpool (told_spool old.disk) old.gate old.end old.progress)
    (party_sound : IsSound (told node.disk)) (spool_sound : IsSound (told_spool old.disk)) where
  abbrev Start : Member → Type 0
  Start x = PairsInStep (told node.disk) (told_spool old.disk) old.progress.text x old.progress.entries

  at_start : (x : Member) → Tells (told node.disk) → Tells (told_spool old.disk) → Start x → IsAt x old.progress.entries old.progress.plans (member_of node)
  at_start x = starts_at one_party one_format one_progress not_blank told told_spool node old store kept party_sound spool_sound x

  module _ (after : Stored D) (catches : CatchesUp (member_of node) (member_of after) old.progress) (keeps : KeepsBoth (told node.disk) (told_spool old.disk) (told after.disk) (told_spool old.disk)) where
    answered : (result : Driven D E) → IsRunAnswer told told_spool after old result → IsAnswer told told_spool node old result
    answered (drive.Done n s) a = (a, not_out once (member_of node) old.progress (member_of after) catches)
    answered (drive.OutOfStep n s e) a = absurd a
    answered (drive.NodeBroken b s) a = (cause_on (told node.disk) (told after.disk) (told b.disk) b.cause keeps.party_faults a, not_out once (member_of node) old.progress (member_of after) catches)
    answered (drive.SpoolBroken n b) a = (a, not_out once (member_of node) old.progress (member_of after) catches)
    answered (drive.NoMemory n s) a = tt

    course : (x : Member) → Tells (told node.disk) → Tells (told_spool old.disk) → Start x → EntriesLead x old.progress.entries old.progress.plans (member_of after)
    course x a b pairs = caught_up x (member_of node) (member_of after) old.progress (at_start x a b pairs) catches

    run_from : (WasSettled (member_of node) old.progress → after.disk ≡ node.disk) → (result : Driven D E) → IsRun told told_spool after old result → IsDrive told told_spool node old result
    run_from rested result run = record {
      answer = answered result run.answer;
      ends = λ x a b pairs. run.ends x (course x a b pairs);
      in_step = λ x a b pairs. run.in_step x (course x a b pairs) (keeps.party_tells ∙ a) (keeps.spool_tells ∙ b);
      keeps = keeps_on (told node.disk) (told_spool old.disk) (told after.disk) (told_spool old.disk) (told (party_disk result)) (told_spool (spool_disk result)) keeps run.keeps;
      rests = λ is. absurd (not_out once (member_of node) old.progress (member_of after) catches is);
      finished = λ is. let same = run.rests is.whole in (same.0 ∙ rested (record { settled = is.settled }), same.1);
    }

  pub behind : (after : Stored D) (new : Spooled E) → IsCatching told told_spool node old (caught.Behind after new) → (result : Driven D E) → IsRun told told_spool after new result → IsDrive told told_spool node old result
  behind after new c result run =
      run_from after c.answer.0 (subst (λ (s : Spooled E). KeepsBoth (told node.disk) (told_spool old.disk) (told after.disk) (told_spool s.disk)) c.answer.1 c.keeps) (λ was. (c.rests was).0) result
      (subst (λ (s : Spooled E). IsRun told told_spool after s result) c.answer.1 run)

  -- nothing changed
  still : (after : Stored D) (new : Spooled E) → after ≡ node → new ≡ old → (x : Member) → Start x → PairsInStep (told after.disk) (told_spool new.disk) old.progress.text x old.progress.entries
  still after new same also x pairs =
      subst (λ (n : Stored D). PairsInStep (told n.disk) (told_spool new.disk) old.progress.text x old.progress.entries) (sym same)
      (subst (λ (s : Spooled E). PairsInStep (told node.disk) (told_spool s.disk) old.progress.text x old.progress.entries) (sym also) pairs)

  pub out : (after : Stored D) (new : Spooled E) (entry : ℕ) → entry ≡ length new.progress.plans → IsCatching told told_spool node old (caught.OutOfStep after new) → IsDrive told told_spool node old (drive.OutOfStep after new entry)
  out after new entry count c = record {
    answer = (c.answer.1, c.answer.2, count ∙ ap (λ (s : Spooled E). length s.progress.plans) c.answer.2, c.answer.0);
    ends = λ x a b pairs. never_out x (member_of node) old.progress (at_start x a b pairs) c.answer.0;
    in_step = λ x a b pairs. still after new c.answer.1 c.answer.2 x pairs;
    keeps = c.keeps;
    rests = λ is. (ap (λ (n : Stored D). n.disk) c.answer.1, ap (λ (s : Spooled E). s.disk) c.answer.2);
    finished = λ is. (ap (λ (n : Stored D). n.disk) c.answer.1, ap (λ (s : Spooled E). s.disk) c.answer.2);
  }

  pub halted : (after : Stored D) (new : Spooled E) → IsCatching told told_spool node old (caught.NoMemory after new) → IsDrive told told_spool node old (drive.NoMemory after new)
  halted after new c = record {
    answer = tt;
    ends = λ x a b pairs. tt;
    in_step = λ x a b pairs. still after new c.answer.0 c.answer.1 x pairs;
    keeps = c.keeps;
    rests = λ is. (ap (λ (n : Stored D). n.disk) c.answer.0, ap (λ (s : Spooled E). s.disk) c.answer.1);
    finished = λ is. (ap (λ (n : Stored D). n.disk) c.answer.0, ap (λ (s : Spooled E). s.disk) c.answer.1);
  }

  pub broken : (b : Failed D) (new : Spooled E) → IsCatching told told_spool node old (caught.NodeBroken b new) → IsDrive told told_spool node old (drive.NodeBroken b new)
  broken b new c =
      let cut = c.answer.0 in
      record {
        answer = (cut.cause, taken_not_out once (member_of node) old.progress cut.there cut.takes);
        ends = λ x p s pairs. tt;
        in_step = λ x p s pairs i j at_party at_spool.
            let is_at = at_start x p s pairs in
            let holds : HoldsPlans j old.progress = spool_images (told_spool old.disk) old.gate old.end old.progress kept s j (subst (λ (t : Spooled E). (told_spool t.disk).may_leave j) c.answer.1 at_spool) in
            go i j x is_at holds (cut.leaves p i at_party);
        keeps = c.keeps;
        rests = λ is. absurd (taken_not_out once (member_of node) old.progress cut.there cut.takes is);
        finished = λ is. absurd (cut.takes.unsettled (is.settled cut.takes.plan cut.takes.entry cut.takes.last));
      }
    where
      go : (i j : List ℕ) (x : Member) → IsAt x old.progress.entries old.progress.plans (member_of node) → HoldsPlans j old.progress → IsImageOf (member_of node) i ⊎ IsImageOf c.answer.0.there i → InStep i j old.progress.text x old.progress.entries
      go i j x is_at holds (inl before) = inr (record { plans = old.progress.plans; holds = holds; member = member_of node; is_at = is_at; stands = before })
      go i j x is_at holds (inr there) = at_rest i j x c.answer.0.there old.progress (caught_up x (member_of node) c.answer.0.there old.progress is_at (inr c.answer.0.takes)) there holds
