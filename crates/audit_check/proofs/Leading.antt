-- Lines lead from audit to audit.
use Rattle.std.proofs.Common.{◌≡◌, inl, inr, ℕ, ◌+◌, ◌<◌, Bool, true, false, is_some, List, [], ◌∷◌, ◌++◌, length, take, drop, get_or, Option, Some, None, slice_get, refl, sym, ◌∙◌, ap, ap₂, subst, arith, take-append-drop}
use Rattle.std.specs.Prelude.{option_map}
use Rattle.std.proofs.lemmas.List.{drop_more}
use Rattle.scenario.specs.declared.line.Line.{Line}
use Rattle.world_laws.specs.Steps.{step}
use Rattle.course.specs.Course.{after_event}
use Rattle.course.specs.LineEvents.{IsNoEvent}
use Rattle.course.specs.Lines.{IsQuietNext}
use Rattle.course.specs.Meanings.{IsLineAct}
use Rattle.course.specs.Outcomes.{after_outcome, counted, IsWithin}
use Rattle.course.specs.Transcript.{outcome_line, text_line, event_lines, written_between}
use Rattle.course.specs.declared.act.LineAct.{LineAct}
use Rattle.course.specs.declared.progress.OutcomeCounts.{OutcomeCounts}
use Rattle.course.specs.declared.progress.EventOutcome.{EventOutcome}
use Rattle.course.specs.declared.progress.EventOutcome.TheVariants as outcome
use Rattle.course.specs.declared.progress.Progress.{Progress}
use Rattle.audit_check.specs.Audits.{Audit, IsNext, AuditLeads, IsWrong, Fails}
use Rattle.scenario.specs.AuditFaults.{fault_place}
use Rattle.audit_check.specs.States.{HoldsMembers, Shows, Acts, ActsWrongly, LeadsOn, IsWrongIn, LeadAll, AreWrong}
use Rattle.audit_check.specs.Compared.{compared}
use Rattle.scenario.specs.declared.audit_fault.AuditFault.{AuditFault}
use Rattle.audit_check.specs.declared.state.AuditState.{AuditState}

-- the numbers stay small
counts_within : (o : EventOutcome) (p : Progress) (n : ℕ) → IsWithin p n → IsWithin (after_outcome p o false) (n + 1)
counts_within outcome.Done p n w = record { least = omega (arith, w.least); number = omega (arith, w.number); done = omega (arith, w.done); refused = omega (arith, w.refused); stopped = omega (arith, w.stopped); none = omega (arith, w.none); texts = omega (arith, w.texts) }
counts_within (outcome.Refused number) p n w = record { least = omega (arith, w.least); number = omega (arith, w.number); done = omega (arith, w.done); refused = omega (arith, w.refused); stopped = omega (arith, w.stopped); none = omega (arith, w.none); texts = omega (arith, w.texts) }
counts_within outcome.Stopped p n w = record { least = omega (arith, w.least); number = omega (arith, w.number); done = omega (arith, w.done); refused = omega (arith, w.refused); stopped = omega (arith, w.stopped); none = omega (arith, w.none); texts = omega (arith, w.texts) }
counts_within outcome.Nothing p n w = record { least = omega (arith, w.least); number = omega (arith, w.number); done = omega (arith, w.done); refused = omega (arith, w.refused); stopped = omega (arith, w.stopped); none = omega (arith, w.none); texts = omega (arith, w.texts) }

same_texts : (o : EventOutcome) (c : OutcomeCounts) → (counted o c).texts ≡ c.texts
same_texts outcome.Done c = refl
same_texts (outcome.Refused number) c = refl
same_texts outcome.Stopped c = refl
same_texts outcome.Nothing c = refl

text_within : (o : EventOutcome) (wrote : Bool) (p : Progress) (n : ℕ) → IsWithin p n → IsWithin (after_outcome p o wrote) (n + 1)
text_within o false p n w = counts_within o p n w
text_within o true p n w =
    let c = counts_within o p n w in
    let texts = same_texts o p.counts in
    record { least = c.least; number = c.number; done = c.done; refused = c.refused; stopped = c.stopped; none = c.none; texts = omega (arith, w.texts, texts) }

pub event_within : (o : EventOutcome) (wrote : Bool) (p q : Progress) → q ≡ after_outcome p o wrote → (n : ℕ) → IsWithin p n → IsWithin q (n + 1)
event_within o wrote p q is n w = subst (λ (r : Progress). IsWithin r (n + 1)) (sym is) (text_within o wrote p n w)

-- ---- a line

-- an event, with its lines
pub leads_event : (l : Line) (a : LineAct) (o : EventOutcome) (old mid new : AuditState) (k : ℕ) (text : Option (List ℕ)) (buffer : List ℕ) → IsLineAct l old.texts a → Acts a old mid o → mid.now ≡ old.now → mid.comparison ≡ old.comparison
    → k ≡ length old.texts → text ≡ slice_get mid.texts k → buffer ≡ outcome_line mid.now.number o ++ text_line (k + 1) text
    → new.parties ≡ mid.parties → new.texts ≡ mid.texts → new.facts ≡ mid.facts → new.letters ≡ mid.letters → new.now ≡ after_outcome mid.now o (is_some text)
    → ((made given : List ℕ) → mid.comparison ≡ compared made given → new.comparison ≡ compared (made ++ buffer) given) → LeadsOn l old new
leads_event l a o old mid new k text buffer meant acts now_stays compared_stays k_is text_is buffer_is parties texts facts letters now adds = λ given audit at.
    let c = audit.course in
    let h : IsLineAct l c.world.texts a = subst (λ (ts : List (List ℕ)). IsLineAct l ts a) at.shows.texts meant in
    let m = acts audit h.0 (sym at.now) at.shows h.3 in
    let later = step c.now.number c.world m.event in
    let mid_now : mid.now ≡ c.now = now_stays ∙ at.now in
    let count : k ≡ length c.world.texts = k_is ∙ ap length at.shows.texts in
    let wrote : text ≡ written_between c.world.texts later.texts = text_is ∙ ap₂ (λ (ts : List (List ℕ)) (n : ℕ). slice_get ts n) m.shows.texts count in
    let lines : buffer ≡ event_lines c.now.number o c.world.texts later.texts = buffer_is ∙ ap₂ (λ (x y : List ℕ). x ++ y) (ap (λ (p : Progress). outcome_line p.number o) mid_now) (ap₂ (λ (n : ℕ) (t : Option (List ℕ)). text_line (n + 1) t) count wrote) in (
      record { course = after_event c m.event o; letters = m.left },
      inr (record { line_event = h.0; makes_event = h.1; formed = h.2; event = m.event; outcome = o; left = m.left; done = m.done; leads = refl }),
      record {
        shows = record {
          holds_each = subst (λ p. HoldsMembers p later.members) (sym parties) m.shows.holds_each;
          texts = texts ∙ m.shows.texts;
          facts = facts ∙ m.shows.facts;
          letters_are = letters ∙ m.shows.letters_are;
        };
        now = now ∙ ap₂ (λ (p : Progress) (t : Option (List ℕ)). after_outcome p o (is_some t)) mid_now wrote;
        compares = adds c.transcript given (compared_stays ∙ at.compares) ∙ ap (λ (more : List ℕ). compared (c.transcript ++ more) given) lines;
      },
    )

-- a line that is no event
pub leads_quiet : (l : Line) (old new : AuditState) → IsNoEvent l → IsQuietNext l old.now new.now → new ≡ record old { now = new.now } → LeadsOn l old new
leads_quiet l old new none quiet is = λ given audit at. (
  record { course = record audit.course { now = new.now }; letters = audit.letters },
  inl (record { none = none; now = new.now; changes = subst (λ (p : Progress). IsQuietNext l p new.now) at.now quiet; leads = refl }),
  record {
    shows = subst (λ (s : AuditState). Shows s audit.course.world audit.letters) (sym is) (record { holds_each = at.shows.holds_each; texts = at.shows.texts; facts = at.shows.facts; letters_are = at.shows.letters_are });
    now = refl;
    compares = ap (λ (s : AuditState). s.comparison) is ∙ at.compares;
  },
)

-- a fault
pub wrong_event : (l : Line) (a : LineAct) (old : AuditState) (f : AuditFault) → IsLineAct l old.texts a → ActsWrongly a old f → IsWrongIn l old f
wrong_event l a old f meant wrong = λ given audit at.
    let h : IsLineAct l audit.course.world.texts a = subst (λ (ts : List (List ℕ)). IsLineAct l ts a) at.shows.texts meant in
    wrong audit h.0 l (sym at.now) at.shows h.3 h.1 h.2

-- ---- all lines

leads_more : (lines : List Line) (l : Line) (a mid e : Audit) → AuditLeads lines a mid → IsNext l mid e → AuditLeads (lines ++ l ∷ []) a e
leads_more [] l a mid e is next = (e, subst (λ (m : Audit). IsNext l m e) is next, refl)
leads_more (k ∷ lines) l a mid e leads next = (leads.0, leads.1, leads_more lines l leads.0 mid e leads.2 next)

pub lead_on : (lines : List Line) (l : Line) (old mid new : AuditState) → LeadAll lines old mid → LeadsOn l mid new → LeadAll (lines ++ l ∷ []) old new
lead_on lines l old mid new all line = λ given a at.
    let one = all given a at in
    let two = line given one.0 one.2 in
    (two.0, leads_more lines l a one.0 two.0 one.1 two.1, two.2)

fails_at : (front : List Line) (l : Line) (back : List Line) (a mid : Audit) (f : AuditFault) → AuditLeads front a mid → IsWrong l mid f × (fault_place f ≡ mid.course.now.number) → Fails (front ++ l ∷ back) a f
fails_at [] l back a mid f is wrong = inl (subst (λ (m : Audit). IsWrong l m f × (fault_place f ≡ m.course.now.number)) is wrong)
fails_at (k ∷ front) l back a mid f leads wrong = inr (leads.0, leads.1, fails_at front l back leads.0 mid f leads.2 wrong)

pub wrong_in : (lines : List Line) (i : ℕ) (l : Line) → i < length lines → l ≡ get_or lines i l → (old mid : AuditState) (f : AuditFault) → LeadAll (take i lines) old mid → IsWrongIn l mid f → AreWrong lines old f
wrong_in lines i l lt read old mid f all wrong = λ given a at.
    let one = all given a at in
    let split : lines ≡ take i lines ++ l ∷ drop (i + 1) lines = sym (take-append-drop i lines) ∙ ap (λ (ls : List Line). take i lines ++ ls) (drop_more lines i l lt ∙ ap (λ (x : Line). x ∷ drop (i + 1) lines) (sym read)) in
    subst (λ (ls : List Line). Fails ls a f) (sym split) (fails_at (take i lines) l (drop (i + 1) lines) a one.0 f one.1 (wrong given one.0 one.2))

-- whether there is one doesn't change by a map
pub some_map : {A B : Type 0} (f : A → B) (o : Option A) → is_some o ≡ is_some (option_map f o)
some_map f (Some x) = refl
some_map f None = refl
