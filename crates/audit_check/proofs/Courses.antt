-- The audits to which lines lead are those of the courses to which they lead, with the letters of their stopped events.
use Rattle.std.proofs.Common.{◌≡◌, inl, inr, ℕ, Bool, true, false, true≢false, cond, List, [], ◌∷◌, ◌++◌, Option, Some, None, refl, sym, ◌∙◌, ap, subst}
use Rattle.std.specs.List.{All, cons_option}
use Rattle.std.proofs.lemmas.List.{append-nil, append_assoc, append_cancel_left}
use Rattle.std.proofs.lemmas.List.Elements.{All-nil, All-cons, filter_map-append}
use Rattle.party_state.specs.declared.command.Input.{Input}
use Rattle.party_state.specs.Verdicts.{is_accept}
use Rattle.x_base.specs.Verdict.{number_of}
use Rattle.scenario.specs.declared.line.Line.{Line}
use Rattle.scenario.specs.declared.line.Line.TheVariants as line
use Rattle.member.specs.Member.{Member, plan_at}
use Rattle.world_laws.specs.World.{member_at}
use Rattle.world_laws.specs.Events.{Completion, CutOld, CutNew, Event}
use Rattle.course.specs.Course as course
use Rattle.course.specs.Course.{Course, Happened, LinesLead}
use Rattle.course.specs.LineEvents.{LineEvent, Nothing, At}
use Rattle.course.specs.Outcomes as outcomes
use Rattle.course.specs.Outcomes.{input_in, IsOutcome}
use Rattle.course.specs.Starts.{start_course}
use Rattle.course.specs.Stops.{KeepsChange, IsFixed}
use Rattle.course.specs.declared.progress.EventOutcome.{EventOutcome}
use Rattle.course.specs.declared.progress.EventOutcome.TheVariants as outcome
use Rattle.course.specs.declared.progress.Progress.{Progress}
use Rattle.course.specs.declared.progress.Stop.{Stop}
use Rattle.audit_check.specs.Answers.{IsRun, start_audit}
use Rattle.audit_check.specs.Audits.{Audit, IsCut, IsCompleted, IsLetter, IsDoneBy, IsDone, IsEvent, IsNext, AuditLeads, letter_old, letter_new}
use Rattle.audit_check.specs.Laws.{OneRun, OneCourse, letter_taken, letters_taken, all_letters}

-- ---- from an audit to its course

-- where the disks tell nothing a stop fixes only that the new state is one that was kept
fixed : (keep : Type 0) (stop : Stop) (before after : ℕ) (next : Bool) → (next ≡ true → keep) → IsFixed false keep stop before after next
fixed keep stop before after next kept = record {
  kept = kept;
  early = λ tells. absurd (true≢false (sym tells));
  stable = λ tells. absurd (true≢false (sym tells));
  pending = λ tells. absurd (true≢false (sym tells));
  whole = λ tells. absurd (true≢false (sym tells));
}

module _ (before after : ℕ) where
  cut_so : (letter : ℕ) (stop : Stop) (x : Member) (i : Option Input) (moment : ℕ) (c : Completion) → IsCut letter x i moment c → outcomes.IsCompleted false before after (Some stop) x moment i c
  cut_so letter stop x i moment c (inl old) = (false, old.1, fixed (KeepsChange x i moment) stop before after false (λ new. absurd (true≢false (sym new))))
  cut_so letter stop x i moment c (inr new) = (true, new.2, fixed (KeepsChange x i moment) stop before after true (λ is. new.1))

  completed_so : (stop : Option Stop) (letters left : List ℕ) (x : Member) (i : Option Input) (moment : ℕ) (c : Completion) → IsCompleted stop letters x i moment c left → outcomes.IsCompleted false before after stop x moment i c
  completed_so None letters left x i moment c is = is.0
  completed_so (Some stop) letters left x i moment c is = cut_so is.0 stop x i moment c is.2

  done_so : (a : Audit) (h : LineEvent) (e : Event) (o : EventOutcome) (left : List ℕ) → IsDone a h e o left → course.IsDone false before after a.course h e o
  done_so a Nothing e o left done = (done.event, done.outcome)
  done_so a (At own action) e o left done = go (member_at own a.course.world.members) done
    where
      go : (m : Option Member) → IsDoneBy a own m action e o left → course.IsDoneBy false before after a.course own m action e o
      go None d = (d.event, d.outcome)
      go (Some x) d = record {
        completion = d.completion;
        number = d.number;
        honest = d.honest;
        numbered = d.numbered;
        completes = completed_so a.course.now.stop a.letters left x (input_in action) a.course.now.moment d.completion d.completes;
        becomes = d.becomes;
        is = d.is;
      }

  event_so : (l : Line) (a b : Audit) → IsEvent l a b → course.IsEvent false before after l a.course b.course
  event_so l a b e = record {
    line_event = e.line_event;
    makes_event = e.makes_event;
    formed = e.formed;
    event = e.event;
    outcome = e.outcome;
    done = done_so a e.line_event e.event e.outcome e.left e.done;
    leads = ap (λ (x : Audit). x.course) e.leads;
  }

  quiet_so : (a b : Audit) (q r : Progress) → b ≡ record { course = record a.course { now = q }; letters = a.letters } → q ≡ r → b.course ≡ record a.course { now = r }
  quiet_so a b q r leads same = ap (λ (x : Audit). x.course) leads ∙ ap (λ (p : Progress). record a.course { now = p }) same

  next_so : (l : Line) (a b : Audit) → IsNext l a b → course.IsNext false before after l a.course b.course
  next_so (line.Party name role pair v) a b (inl q) = quiet_so a b q.now a.course.now q.leads q.changes
  next_so (line.Link origin recipient label pair) a b (inl q) = quiet_so a b q.now a.course.now q.leads q.changes
  next_so (line.Time moment) a b (inl q) = quiet_so a b q.now (record a.course.now { moment = moment }) q.leads q.changes
  next_so (line.Stop n choice) a b (inl q) = quiet_so a b q.now (record a.course.now { stop = Some (record { n = n; choice = choice }) }) q.leads q.changes
  next_so (line.Party name role pair v) a b (inr e) = absurd e.makes_event
  next_so (line.Link origin recipient label pair) a b (inr e) = absurd e.makes_event
  next_so (line.Time moment) a b (inr e) = absurd e.makes_event
  next_so (line.Stop n choice) a b (inr e) = absurd e.makes_event
  next_so l a b (inl q) = absurd q.none
  next_so l a b (inr e) = event_so l a b e

  pub leads_so : (lines : List Line) (a b : Audit) → AuditLeads lines a b → LinesLead false before after lines a.course b.course
  leads_so [] a b is = ap (λ (x : Audit). x.course) is
  leads_so (l ∷ lines) a b leads = (leads.0.course, next_so l a leads.0 leads.1, leads_so lines leads.0 b leads.2)

-- ---- which letters are taken

-- an event with this outcome and this completion takes the letters in front of these
abbrev Takes : EventOutcome → Completion → List ℕ → List ℕ → Type 0
Takes o completion left letters = cons_option (letter_taken o completion) [] ++ left ≡ letters

cut_takes : (letter : ℕ) (left : List ℕ) (x : Member) (i : Option Input) (moment : ℕ) (c : Completion) → IsCut letter x i moment c → Takes outcome.Stopped c left (letter ∷ left)
cut_takes letter left x i moment c (inl old) = ap (λ (k : Completion). cons_option (letter_taken outcome.Stopped k) [] ++ left) old.1 ∙ ap (λ (n : ℕ). n ∷ left) (sym old.0)
cut_takes letter left x i moment c (inr new) = ap (λ (k : Completion). cons_option (letter_taken outcome.Stopped k) [] ++ left) new.2 ∙ ap (λ (n : ℕ). n ∷ left) (sym new.0)

whole_takes : (x : Member) (i : Option Input) (moment number : ℕ) (o : EventOutcome) (c : Completion) (left : List ℕ) → IsOutcome None x moment i number o → Takes o c left left
whole_takes x (Some i) moment number o c left becomes = subst (λ (p : EventOutcome). Takes p c left left) (sym becomes) (go (is_accept (plan_at x i moment).verdict))
  where
    go : (b : Bool) → Takes (cond b outcome.Done (outcome.Refused (number_of (plan_at x i moment).verdict))) c left left
    go true = refl
    go false = refl
whole_takes x None moment number o c left becomes = subst (λ (p : EventOutcome). Takes p c left left) (sym becomes) refl

completed_takes : (stop : Option Stop) (letters left : List ℕ) (x : Member) (i : Option Input) (moment number : ℕ) (o : EventOutcome) (c : Completion) → IsCompleted stop letters x i moment c left → IsOutcome stop x moment i number o → Takes o c left letters
completed_takes None letters left x i moment number o c is becomes = whole_takes x i moment number o c left becomes ∙ is.1
completed_takes (Some stop) letters left x i moment number o c is becomes =
    subst (λ (p : EventOutcome). Takes p c left letters) (sym becomes) (cut_takes is.0 left x i moment c is.2 ∙ sym is.1)

done_takes : (a : Audit) (h : LineEvent) (e : Event) (o : EventOutcome) (left : List ℕ) → IsDone a h e o left → Takes o e.completion left a.letters
done_takes a Nothing e o left done = subst (λ (p : EventOutcome). Takes p e.completion left a.letters) (sym done.outcome) done.letters
done_takes a (At own action) e o left done = go (member_at own a.course.world.members) done
  where
    go : (m : Option Member) → IsDoneBy a own m action e o left → Takes o e.completion left a.letters
    go None d = subst (λ (p : EventOutcome). Takes p e.completion left a.letters) (sym d.outcome) d.letters
    go (Some x) d = subst (λ (f : Event). Takes o f.completion left a.letters) (sym d.is) (completed_takes a.course.now.stop a.letters left x (input_in action) a.course.now.moment d.number o d.completion d.completes d.becomes)

-- no letter comes or goes
event_keeps : (l : Line) (a b : Audit) → IsEvent l a b → all_letters b ≡ all_letters a
event_keeps l a b e =
    let h : Happened = record { event = e.event; outcome = e.outcome } in
    let one : List ℕ = cons_option (letter_taken e.outcome e.event.completion) [] in
    let more : letters_taken (a.course.happened ++ h ∷ []) ≡ letters_taken a.course.happened ++ one = filter_map-append (λ (k : Happened). letter_taken k.outcome k.event.completion) a.course.happened (h ∷ []) in
    ap all_letters e.leads ∙ (ap (λ (ls : List ℕ). ls ++ e.left) more ∙ (append_assoc (letters_taken a.course.happened) one e.left
    ∙ ap (λ (ls : List ℕ). letters_taken a.course.happened ++ ls) (done_takes a e.line_event e.event e.outcome e.left e.done)))

next_keeps : (l : Line) (a b : Audit) → IsNext l a b → all_letters b ≡ all_letters a
next_keeps l a b (inl q) = ap all_letters q.leads
next_keeps l a b (inr e) = event_keeps l a b e

leads_keep : (lines : List Line) (a b : Audit) → AuditLeads lines a b → all_letters b ≡ all_letters a
leads_keep [] a b is = ap all_letters is
leads_keep (l ∷ lines) a b leads = leads_keep lines leads.0 b leads.2 ∙ next_keeps l a leads.0 leads.1

-- ---- from a course to an audit

abbrev audit_of : Course → List ℕ → Audit
audit_of c letters = record { course = c; letters = letters }

module _ (tell : Bool) (before after : ℕ) where
  taken_at : (stop : Option Stop) (left : List ℕ) (x : Member) (i : Option Input) (moment : ℕ) (c : Completion) → outcomes.IsCompleted tell before after stop x moment i c → (letters : List ℕ) × IsCompleted stop letters x i moment c left
  taken_at None left x i moment c is = (left, (is, refl))
  taken_at (Some stop) left x i moment c (false, is, stops) = (letter_old ∷ left, (letter_old, refl, inl (refl, is)))
  taken_at (Some stop) left x i moment c (true, is, stops) = (letter_new ∷ left, (letter_new, refl, inr (refl, stops.kept refl, is)))

  done_with : (c : Course) (h : LineEvent) (e : Event) (o : EventOutcome) (left : List ℕ) → course.IsDone tell before after c h e o → (letters : List ℕ) × IsDone (audit_of c letters) h e o left
  done_with c Nothing e o left done = (left, record { event = done.0; outcome = done.1; letters = refl })
  done_with c (At own action) e o left done = go (member_at own c.world.members) done
    where
      go : (m : Option Member) → course.IsDoneBy tell before after c own m action e o → (letters : List ℕ) × IsDoneBy (audit_of c letters) own m action e o left
      go None d = (left, record { event = d.0; outcome = d.1; letters = refl })
      go (Some x) d =
          let t = taken_at c.now.stop left x (input_in action) c.now.moment d.completion d.completes in
          (t.0, record { completion = d.completion; number = d.number; honest = d.honest; numbered = d.numbered; completes = t.1; becomes = d.becomes; is = d.is })

  abbrev Comes : Line → Course → Course → List ℕ → Type 0
  Comes l c d left = (letters : List ℕ) × IsNext l (audit_of c letters) (audit_of d left)

  event_with : (l : Line) (c d : Course) (left : List ℕ) → course.IsEvent tell before after l c d → Comes l c d left
  event_with l c d left e =
      let t = done_with c e.line_event e.event e.outcome left e.done in (
        t.0,
        inr (record {
          line_event = e.line_event;
          makes_event = e.makes_event;
          formed = e.formed;
          event = e.event;
          outcome = e.outcome;
          left = left;
          done = t.1;
          leads = ap (λ (x : Course). audit_of x left) e.leads;
        }),
      )

  next_with : (l : Line) (c d : Course) (left : List ℕ) → course.IsNext tell before after l c d → Comes l c d left
  next_with (line.Party name role pair v) c d left is = (left, inl (record { none = tt; now = c.now; changes = refl; leads = ap (λ (x : Course). audit_of x left) is }))
  next_with (line.Link origin recipient label pair) c d left is = (left, inl (record { none = tt; now = c.now; changes = refl; leads = ap (λ (x : Course). audit_of x left) is }))
  next_with (line.Time moment) c d left is = (left, inl (record { none = tt; now = record c.now { moment = moment }; changes = refl; leads = ap (λ (x : Course). audit_of x left) is }))
  next_with (line.Stop n choice) c d left is = (left, inl (record { none = tt; now = record c.now { stop = Some (record { n = n; choice = choice }) }; changes = refl; leads = ap (λ (x : Course). audit_of x left) is }))
  next_with l c d left is = event_with l c d left is

  leads_with : (lines : List Line) (c d : Course) (left : List ℕ) → LinesLead tell before after lines c d → (letters : List ℕ) × AuditLeads lines (audit_of c letters) (audit_of d left)
  leads_with [] c d left is = (left, ap (λ (x : Course). audit_of x left) is)
  leads_with (l ∷ lines) c d left leads =
      let rest = leads_with lines leads.0 d left leads.2 in
      let one = next_with l c leads.0 rest.0 leads.1 in
      (one.0, (audit_of leads.0 rest.0, one.1, rest.1))

  -- the letters are those that were taken
  led : (lines : List Line) (a b : Audit) → LinesLead tell before after lines a.course b.course → all_letters a ≡ all_letters b → AuditLeads lines a b
  led lines a b leads same =
      let t = leads_with lines a.course b.course b.letters leads in
      let letters : t.0 ≡ a.letters = append_cancel_left (letters_taken a.course.happened) t.0 a.letters (sym (leads_keep lines (audit_of a.course t.0) b t.1) ∙ sym same) in
      subst (λ (ls : List ℕ). AuditLeads lines (audit_of a.course ls) b) letters t.1

-- ---- both

pub one_course : OneCourse
one_course = (led, λ before after lines a end leads. (leads_so before after lines a end leads, sym (leads_keep lines a end leads)))

letter_more : (o : EventOutcome) (c : Completion) (rest : List ℕ) → All IsLetter rest → All IsLetter (cons_option (letter_taken o c) rest)
letter_more outcome.Stopped CutOld rest all = All-cons IsLetter letter_old rest (inl refl) all
letter_more outcome.Stopped CutNew rest all = All-cons IsLetter letter_new rest (inr refl) all
letter_more o c rest all = all

are_letters : (happened : List Happened) → All IsLetter (letters_taken happened)
are_letters [] = All-nil IsLetter
are_letters (h ∷ happened) = letter_more h.outcome h.event.completion (letters_taken happened) (are_letters happened)

-- each run is a course
pub run_leads : (before after : ℕ) (lines : List Line) (letters : List ℕ) (end : Course) → IsRun lines letters end → LinesLead false before after lines (start_course lines) end
run_leads before after lines letters end run = leads_so before after lines (start_audit lines letters) (audit_of end []) run

pub one_run : OneRun
one_run = (
  λ tell before after lines end leads. (
    are_letters end.happened,
    led tell before after lines (start_audit lines (letters_taken end.happened)) (audit_of end []) leads (sym (append-nil (letters_taken end.happened))),
  ),
  λ before after lines letters end run. (
    run_leads before after lines letters end run,
    sym (leads_keep lines (start_audit lines letters) (audit_of end []) run) ∙ append-nil (letters_taken end.happened),
  ),
)
