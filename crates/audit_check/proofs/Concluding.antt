-- From the end of an audit to its answer.
use Rattle.std.proofs.Common.{◌≡◌, ◌+◌, inl, inr, ℕ, Bool, false, List, [], ◌∷◌, length, count_by, Err, refl, ◌∙◌, subst, arith}
use Rattle.scenario.specs.declared.line.Line.{Line}
use Rattle.world_laws.specs.Starts.{IsStart}
use Rattle.course.specs.Course.{Course, LinesLead}
use Rattle.course.specs.Ends.{is_event}
use Rattle.course.specs.Starts.{start_course, start_world}
use Rattle.course.specs.Tallies.{IsTallied}
use Rattle.course.specs.declared.tally.Tally.{Tally}
use Rattle.audit_check.specs.Answers.{IsRun, IsAudited, IsFault, IsAnswer, start_audit, transcript_of}
use Rattle.audit_check.specs.Audits.{Audit, AuditLeads, Fails}
use Rattle.audit_check.specs.Ends.{IsBehind, answer_of}
use Rattle.audit_check.specs.Laws.{RunsLawful}
use Rattle.audit_check.specs.declared.failure.Failure.{Failure}
use Rattle.audit_check.specs.declared.failure.Failure.TheVariants as failure
use Rattle.scenario.specs.declared.audit_fault.AuditFault.{AuditFault}
use Rattle.scenario.specs.declared.audit_fault.AuditFault.TheVariants as fault
use Rattle.audit_check.specs.declared.result.AuditResult.{AuditResult}
use Rattle.audit_check.specs.declared.result.AuditResult.TheVariants as answer
use Rattle.audit_check.proofs.Courses.{run_leads}

-- no event differs
never_differs : (lines : List Line) (a : Audit) (n : ℕ) → Fails lines a (fault.Differs n) → ⊥
never_differs [] a n fails = fails
never_differs (l ∷ lines) a n (inl wrong) = wrong.0
never_differs (l ∷ lines) a n (inr on) = never_differs lines on.0 n on.2

module _ (lines : List Line) (letters transcript : List ℕ) where
  failed : (f : AuditFault) → Fails lines (start_audit lines letters) f → IsFault lines letters transcript f
  failed (fault.Forged n) fails = fails
  failed (fault.Impossible n) fails = fails
  failed (fault.Letters n) fails = inl fails
  failed (fault.Differs n) fails = absurd (never_differs lines (start_audit lines letters) n fails)

  pub failed_so : (why : Failure) → ((f : AuditFault) → why ≡ failure.Wrong f → Fails lines (start_audit lines letters) f) → IsAnswer lines letters transcript (answer_of (Err why))
  failed_so (failure.Wrong f) fails = failed f (fails f refl)
  failed_so failure.NoMemory fails = tt

  module _ (lawful : RunsLawful) (begins : IsStart (start_world lines))
      (texts : (tell : Bool) (before after : ℕ) (lines : List Line) (e : Course) → LinesLead tell before after lines (start_course lines) e → e.now.counts.texts ≡ length e.world.texts)
      (numbers : (tell : Bool) (before after : ℕ) (lines : List Line) (e : Course) → LinesLead tell before after lines (start_course lines) e → e.now.number ≡ 1 + count_by is_event lines)
      (list : (tell : Bool) (before after : ℕ) (lines : List Line) (e : Course) → LinesLead tell before after lines (start_course lines) e → length e.happened ≡ count_by is_event lines)
      (outcomes : (tell : Bool) (before after : ℕ) (lines : List Line) (e : Course) → LinesLead tell before after lines (start_course lines) e → e.now.counts.done + e.now.counts.refused + e.now.counts.stopped + e.now.counts.none + 1 ≡ e.now.number) where
    run_of : (a : Audit) → AuditLeads lines (start_audit lines letters) a → a.letters ≡ [] → IsRun lines letters a.course
    run_of a leads none = subst (AuditLeads lines (start_audit lines letters)) (λ i. record { course = a.course; letters = none i }) leads

    audited : (end : Course) (tally : Tally) → IsRun lines letters end → transcript ≡ transcript_of end → IsTallied end.now end.world.members tally → IsAudited lines letters transcript tally
    audited end tally run same t =
        let leads : LinesLead false 0 0 lines (start_course lines) end = run_leads 0 0 lines letters end run in
        let number : end.now.number ≡ 1 + count_by is_event lines = numbers false 0 0 lines end leads in
        let listed : length end.happened ≡ count_by is_event lines = list false 0 0 lines end leads in
        let sum : end.now.counts.done + end.now.counts.refused + end.now.counts.stopped + end.now.counts.none + 1 ≡ end.now.number = outcomes false 0 0 lines end leads in
        record {
          end = end;
          run = run;
          same = same;
          tallied = t;
          events_are = omega (arith, number, t.events);
          listed = omega (arith, listed, number, t.events);
          outcomes_are = omega (arith, sum, t.events, t.done, t.refused, t.stopped, t.none);
          texts_are = t.texts ∙ texts false 0 0 lines end leads;
          lawful = lawful lines letters end begins run;
        }

    pub concluded : (a : Audit) (r : AuditResult) → AuditLeads lines (start_audit lines letters) a → IsBehind transcript a r → IsAnswer lines letters transcript r
    concluded a (answer.Yes tally) leads is = audited a.course tally (run_of a leads is.0) is.1 is.2
    concluded a (answer.No (fault.Letters n)) leads is = inr (record { end = a; leads = leads; some = is.0; number_is = is.1 })
    concluded a (answer.No (fault.Differs line)) leads is = record { end = a.course; run = run_of a leads is.0; differs = is.1; line_is = is.2 }
    concluded a (answer.No (fault.Forged n)) leads is = absurd is
    concluded a (answer.No (fault.Impossible n)) leads is = absurd is
    concluded a answer.NoMemory leads is = tt
