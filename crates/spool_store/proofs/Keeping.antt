-- A plan is kept: what a crash leaves, and what stands then.
use Rattle.std.proofs.Common.{◌≡◌, inl, inr, ℕ, ◌<◌, List, [], ◌∷◌, length, Option, Some, None, Ok, Err, refl, sym, ◌∙◌, ap, subst, arith, length-append}
use Rattle.x_disk.specs.Disk.{View, IsSound, LeavesOnly}
use Rattle.key_journal.specs.Journal.{frame_of}
use Rattle.key_journal.specs.States.{Failed}
use Rattle.journal_state.specs.States as journal
use Rattle.journal_state.specs.States.{Stood}
use Rattle.journal_state.specs.Keeping.{IsFrameOf, IsKept}
use Rattle.spool_store.specs.declared.entry_plan.EntryPlan.{EntryPlan}
use Rattle.spool_store.specs.declared.committing.Committed.TheVariants as committed
use Rattle.spool_store.specs.Plans.{plan_body, IsEntryPlan}
use Rattle.spool_store.specs.Contents.{Progress, Goes, HoldsPlans, with_plan}
use Rattle.spool_store.specs.ContentLaws.{body_long}
use Rattle.spool_store.specs.Committing.{HoldsEither, IsCommitting}
use Rattle.spool_store.specs.Spools.{progress_in, spooled}

-- what a run of calls leaves, it may leave at its end
left_now : (old new : View) (P : List ℕ → Type 0) → IsSound new → LeavesOnly old new P → (c : List ℕ) → new.may_leave c → P c
left_now old new P sound run c left = run.each c (sound.counts_now old.moment c run.later left)

pub frame_of_plan : (p : Progress) (plan : EntryPlan) (frame : List ℕ) → IsEntryPlan plan → length p.plans < length p.entries → frame ≡ frame_of (plan_body plan) → IsFrameOf Goes frame (Some p) (Some (with_plan p plan))
frame_of_plan p plan frame is next text = record {
  body = plan_body plan;
  is_body = record { some = omega (arith, body_long plan); small = omega (arith, is.short) };
  is = text;
  leads = record { plan = plan; is_plan = is; is = refl; after = refl; within = omega (arith, next, length-append p.plans (plan ∷ [])) };
}

module _ {E : Type 0} (told : E → View) (old : Stood E (Option Progress)) (p : Progress) (state : old.state ≡ Some p) (plan : EntryPlan) (size : ℕ) (next : Option Progress) (next_is : next ≡ Some (with_plan p plan)) where
  progress : (spooled old).progress ≡ p
  progress = ap progress_in state

  either : (c : List ℕ) → journal.StandsForOldOrNext Goes None old.state next c → HoldsEither (spooled old).progress plan c
  either c (inl before) = inl (subst (HoldsPlans c) (sym progress) (subst (journal.StandsFor Goes None c) state before))
  either c (inr behind) = inr (subst (λ (q : Progress). HoldsPlans c (with_plan q plan)) (sym progress) (subst (journal.StandsFor Goes None c) next_is behind))

  pub cut : (b : Failed E) → IsSound (told b.disk) → IsKept Goes None told old size next (Err b) → IsCommitting told (spooled old) plan (committed.Broken b)
  cut b sound k = record {
    answer = record {
      cause = k.replaced.cause;
      leaves = λ tells c left. either c (left_now (told old.disk) (told b.disk) (journal.StandsForOldOrNext Goes None old.state next) sound (k.replaced.any_moment tells) c left);
    };
    faults = k.replaced.faults;
    tells = k.replaced.tells;
  }

  pub done : (s : Stood E (Option Progress)) → IsKept Goes None told old size next (Ok s) → IsCommitting told (spooled old) plan (committed.Done (spooled s))
  done s k = record {
    answer = ap progress_in (k.replaced.state ∙ next_is) ∙ ap (λ (q : Progress). with_plan q plan) (sym progress);
    faults = k.replaced.faults;
    tells = k.replaced.tells;
  }

pub some_progress : (o : Option Progress) (p : Progress) → o ≡ Some p → o ≡ Some (progress_in o)
some_progress o p is = is ∙ ap (λ (q : Progress). let x : Option Progress = Some q in x) (sym (ap progress_in is))
