-- One answer at most may come.
use Rattle.std.proofs.Common.{◌≡◌, ◌⊎◌, inl, inr, ℕ, List, [], refl, sym, ◌∙◌, ap, subst, arith}
use mathlib.Core.Logic.{◌≢◌}
use Rattle.csm_feed.specs.Heard.{OneHeard}
use Rattle.scenario.specs.declared.line.Line.{Line}
use Rattle.member.specs.Member.{Member}
use Rattle.world_laws.specs.Hearing.{HeardOnce}
use Rattle.course.specs.Tallies.{IsTallied}
use Rattle.course.specs.declared.progress.Progress.{Progress}
use Rattle.course.specs.declared.tally.Tally.{Tally}
use Rattle.audit_check.specs.Answers.{IsAnswer, start_audit}
use Rattle.audit_check.specs.Audits.{Audit, AuditLeads, Fails}
use Rattle.audit_check.specs.Ends.{IsBehind}
use Rattle.audit_check.specs.Laws.{OneAnswer}
use Rattle.scenario.specs.declared.audit_fault.AuditFault.{AuditFault}
use Rattle.audit_check.specs.declared.result.AuditResult.{AuditResult}
use Rattle.scenario.specs.declared.audit_fault.AuditFault.TheVariants as fault
use Rattle.audit_check.specs.declared.result.AuditResult.TheVariants as answer
use Rattle.audit_check.proofs.Unique.{leads_once, leads_or_fails, fails_once}

tally_once : (now : Progress) (members : List Member) (t u : Tally) → IsTallied now members t → IsTallied now members u → t ≡ u
tally_once now members t u one two =
    let events : t.events ≡ u.events = omega (arith, one.events, two.events) in
    λ i. record {
      events = events i;
      done = (one.done ∙ sym two.done) i;
      refused = (one.refused ∙ sym two.refused) i;
      stopped = (one.stopped ∙ sym two.stopped) i;
      none = (one.none ∙ sym two.none) i;
      texts = (one.texts ∙ sym two.texts) i;
      live = (one.live ∙ sym two.live) i;
      held = (one.held ∙ sym two.held) i;
      closing = (one.closing ∙ sym two.closing) i;
      ended = (one.ended ∙ sym two.ended) i;
    }

behind_once : (transcript : List ℕ) (end : Audit) (a b : AuditResult) → a ≢ answer.NoMemory → b ≢ answer.NoMemory → IsBehind transcript end a → IsBehind transcript end b → a ≡ b
behind_once transcript end (answer.Yes t) (answer.Yes u) some other one two = ap answer.Yes (tally_once end.course.now end.course.world.members t u one.2 two.2)
behind_once transcript end (answer.Yes t) (answer.No (fault.Letters n)) some other one two = absurd (two.0 one.0)
behind_once transcript end (answer.Yes t) (answer.No (fault.Differs line)) some other one two = absurd (two.1 one.1)
behind_once transcript end (answer.Yes t) (answer.No (fault.Forged n)) some other one two = absurd two
behind_once transcript end (answer.Yes t) (answer.No (fault.Impossible n)) some other one two = absurd two
behind_once transcript end (answer.Yes t) answer.NoMemory some other one two = absurd (other refl)
behind_once transcript end (answer.No (fault.Letters n)) (answer.Yes u) some other one two = absurd (one.0 two.0)
behind_once transcript end (answer.No (fault.Letters n)) (answer.No (fault.Letters m)) some other one two = ap (λ (k : ℕ). answer.No (fault.Letters k)) (one.1 ∙ sym two.1)
behind_once transcript end (answer.No (fault.Letters n)) (answer.No (fault.Differs line)) some other one two = absurd (one.0 two.0)
behind_once transcript end (answer.No (fault.Letters n)) (answer.No (fault.Forged m)) some other one two = absurd two
behind_once transcript end (answer.No (fault.Letters n)) (answer.No (fault.Impossible m)) some other one two = absurd two
behind_once transcript end (answer.No (fault.Letters n)) answer.NoMemory some other one two = absurd (other refl)
behind_once transcript end (answer.No (fault.Differs line)) (answer.Yes u) some other one two = absurd (one.1 two.1)
behind_once transcript end (answer.No (fault.Differs line)) (answer.No (fault.Letters n)) some other one two = absurd (two.0 one.0)
behind_once transcript end (answer.No (fault.Differs line)) (answer.No (fault.Differs next)) some other one two = ap (λ (k : ℕ). answer.No (fault.Differs k)) (one.2 ∙ sym two.2)
behind_once transcript end (answer.No (fault.Differs line)) (answer.No (fault.Forged m)) some other one two = absurd two
behind_once transcript end (answer.No (fault.Differs line)) (answer.No (fault.Impossible m)) some other one two = absurd two
behind_once transcript end (answer.No (fault.Differs line)) answer.NoMemory some other one two = absurd (other refl)
behind_once transcript end (answer.No (fault.Forged n)) b some other one two = absurd one
behind_once transcript end (answer.No (fault.Impossible n)) b some other one two = absurd one
behind_once transcript end answer.NoMemory b some other one two = absurd (some refl)

record Reaches (lines : List Line) (letters transcript : List ℕ) (a : AuditResult) : Type 0 where
  end : Audit
  leads : AuditLeads lines (start_audit lines letters) end
  behind : IsBehind transcript end a

record Stops (lines : List Line) (letters : List ℕ) (a : AuditResult) : Type 0 where
  wrong : AuditFault
  fails : Fails lines (start_audit lines letters) wrong
  is : a ≡ answer.No wrong

reaches_or_stops : (lines : List Line) (letters transcript : List ℕ) (a : AuditResult) → IsAnswer lines letters transcript a → a ≢ answer.NoMemory → Reaches lines letters transcript a ⊎ Stops lines letters a
reaches_or_stops lines letters transcript (answer.Yes tally) is some = inl (record { end = record { course = is.end; letters = [] }; leads = is.run; behind = (refl, is.same, is.tallied) })
reaches_or_stops lines letters transcript (answer.No (fault.Forged n)) is some = inr (record { wrong = fault.Forged n; fails = is; is = refl })
reaches_or_stops lines letters transcript (answer.No (fault.Impossible n)) is some = inr (record { wrong = fault.Impossible n; fails = is; is = refl })
reaches_or_stops lines letters transcript (answer.No (fault.Letters n)) (inl fails) some = inr (record { wrong = fault.Letters n; fails = fails; is = refl })
reaches_or_stops lines letters transcript (answer.No (fault.Letters n)) (inr left) some = inl (record { end = left.end; leads = left.leads; behind = (left.some, left.number_is) })
reaches_or_stops lines letters transcript (answer.No (fault.Differs line)) is some = inl (record { end = record { course = is.end; letters = [] }; leads = is.run; behind = (refl, is.differs, is.line_is) })
reaches_or_stops lines letters transcript answer.NoMemory is some = absurd (some refl)

module _ (hearing : (bytes : List ℕ) → HeardOnce bytes) (one_heard : (bytes : List ℕ) → OneHeard bytes) where
  pub one_answer : OneAnswer
  one_answer lines letters transcript a b first second some other = go (reaches_or_stops lines letters transcript a first some) (reaches_or_stops lines letters transcript b second other)
    where
      start : Audit
      start = start_audit lines letters

      go : Reaches lines letters transcript a ⊎ Stops lines letters a → Reaches lines letters transcript b ⊎ Stops lines letters b → a ≡ b
      go (inl one) (inl two) = behind_once transcript two.end a b some other (subst (λ (e : Audit). IsBehind transcript e a) (leads_once hearing one_heard lines start one.end two.end one.leads two.leads) one.behind) two.behind
      go (inl one) (inr two) = absurd (leads_or_fails hearing one_heard lines start one.end two.wrong one.leads two.fails)
      go (inr one) (inl two) = absurd (leads_or_fails hearing one_heard lines start two.end one.wrong two.leads one.fails)
      go (inr one) (inr two) = one.is ∙ (ap answer.No (fails_once hearing one_heard lines start one.wrong two.wrong one.fails two.fails) ∙ sym two.is)
