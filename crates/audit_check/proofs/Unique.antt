-- The lines of a scenario lead from an audit in one way, or have one fault.
use Rattle.std.proofs.Common.{◌≡◌, inl, inr, ℕ, List, [], ◌∷◌, Option, Some, None, Err, sym, ◌∙◌, ap, subst, arith}
use Rattle.csm_grammar.specs.declared.arrival.Arrival.{Arrival}
use Rattle.csm_feed.specs.Heard.{OneHeard}
use Rattle.csm_feed.specs.Numbers.{unheard_number}
use Rattle.party_state.specs.declared.command.Input.{Input}
use Rattle.scenario.specs.declared.line.Line.{Line}
use Rattle.scenario.specs.declared.line.Line.TheVariants as line
use Rattle.member.specs.Member.{Member}
use Rattle.world_laws.specs.World.{member_at}
use Rattle.world_laws.specs.Events.{Action, Orders, Hears, Compacts, Migrates, Completion, Event}
use Rattle.world_laws.specs.Hearing.{IsHeard, HeardOnce}
use Rattle.course.specs.Course.{Course, IsForged, IsForgedAt, IsForgedBy, after_event, event_at}
use Rattle.course.specs.LineEvents.{LineEvent, Nothing, At, MakesEvent, Arrives, Returns, IsNoEvent, IsNumbered, input_bytes, at_receiver}
use Rattle.course.specs.Lines.{IsQuietNext}
use Rattle.course.specs.Outcomes.{input_in, IsOutcome}
use Rattle.course.specs.declared.progress.EventOutcome.{EventOutcome}
use Rattle.course.specs.declared.progress.Progress.{Progress}
use Rattle.course.specs.declared.progress.EventOutcome.TheVariants.{Refused}
use Rattle.course.specs.declared.progress.Stop.{Stop}
use Rattle.audit_check.specs.Audits.{Audit, IsCut, IsCompleted, IsDoneAt, IsNothing, IsDoneBy, IsDone, IsEvent, IsQuiet, IsNext, AuditLeads, IsStopped, IsWrong, Fails, letter_old, letter_new}
use Rattle.scenario.specs.AuditFaults.{fault_place}
use Rattle.scenario.specs.declared.audit_fault.AuditFault.{AuditFault}
use Rattle.scenario.specs.declared.audit_fault.AuditFault.TheVariants as fault

-- ---- lines

no_line_event : (l : Line) (texts : List (List ℕ)) (h : LineEvent) → IsNoEvent l → MakesEvent l texts h → ⊥
no_line_event (line.Party name role pair v) texts h none makes_event = makes_event
no_line_event (line.Link origin recipient label pair) texts h none makes_event = makes_event
no_line_event (line.Time moment) texts h none makes_event = makes_event
no_line_event (line.Stop n choice) texts h none makes_event = makes_event
no_line_event (line.Start party peer label) texts h none makes_event = none
no_line_event (line.StartKk party peer label new single) texts h none makes_event = none
no_line_event (line.Ask party peer ultimate) texts h none makes_event = none
no_line_event (line.Translate party centre ultimate) texts h none makes_event = none
no_line_event (line.Resend party peer) texts h none makes_event = none
no_line_event (line.End party peer name) texts h none makes_event = none
no_line_event (line.Drop party peer) texts h none makes_event = none
no_line_event (line.Purge party) texts h none makes_event = none
no_line_event (line.Pass k party) texts h none makes_event = none
no_line_event (line.Recent j) texts h none makes_event = none
no_line_event (line.Bytes party bytes) texts h none makes_event = none

quiet_once : (l : Line) (p q r : Progress) → IsNoEvent l → IsQuietNext l p q → IsQuietNext l p r → q ≡ r
quiet_once (line.Time moment) p q r none one two = one ∙ sym two
quiet_once (line.Stop n choice) p q r none one two = one ∙ sym two
quiet_once (line.Party name role pair v) p q r none one two = one ∙ sym two
quiet_once (line.Link origin recipient label pair) p q r none one two = one ∙ sym two
quiet_once l p q r none one two = absurd none

-- ---- what is cut

letters_apart : (letter : ℕ) → letter ≡ letter_old → letter ≡ letter_new → ⊥
letters_apart letter old new = omega (arith, old, new)

cut_once : (a b : ℕ) (x : Member) (i : Option Input) (moment : ℕ) (c d : Completion) → a ≡ b → IsCut a x i moment c → IsCut b x i moment d → c ≡ d
cut_once a b x i moment c d same (inl p) (inl q) = p.1 ∙ sym q.1
cut_once a b x i moment c d same (inl p) (inr q) = absurd (letters_apart b (sym same ∙ p.0) q.0)
cut_once a b x i moment c d same (inr p) (inl q) = absurd (letters_apart b q.0 (sym same ∙ p.0))
cut_once a b x i moment c d same (inr p) (inr q) = p.2 ∙ sym q.2

completed_once : (stop : Option Stop) (letters : List ℕ) (x : Member) (i : Option Input) (moment : ℕ) (c d : Completion) (left rest : List ℕ) → IsCompleted stop letters x i moment c left → IsCompleted stop letters x i moment d rest → (c ≡ d) × (left ≡ rest)
completed_once None letters x i moment c d left rest one two = (one.0 ∙ sym two.0, one.1 ∙ sym two.1)
completed_once (Some stop) letters x i moment c d left rest one two =
    let both : one.0 ∷ left ≡ two.0 ∷ rest = sym one.1 ∙ two.1 in
    let letter : one.0 ≡ two.0 = cc both in
    (cut_once one.0 two.0 x i moment c d letter one.2 two.2, cc both)

module _ (hearing : (bytes : List ℕ) → HeardOnce bytes) (one_heard : (bytes : List ℕ) → OneHeard bytes) where
  same_heard : (bytes : List ℕ) (a b : Option Arrival) → IsHeard bytes a → IsHeard bytes b → a ≡ b
  same_heard bytes a b one two = (hearing bytes).alone a one ∙ sym ((hearing bytes).alone b two)

  arrives_once : (party : List ℕ) (o : Option (List ℕ)) (h k : LineEvent) → Arrives party o h → Arrives party o k → h ≡ k
  arrives_once party None h k one two = one ∙ sym two
  arrives_once party (Some text) h k one two =
      one.2 ∙ (ap (λ (a : Option Arrival). At party (Hears (input_bytes text) a)) (same_heard (input_bytes text) one.0 two.0 one.1 two.1) ∙ sym two.2)

  returns_once : (o : Option (List ℕ)) (h k : LineEvent) → Returns o h → Returns o k → h ≡ k
  returns_once None h k one two = one ∙ sym two
  returns_once (Some text) h k one two =
      one.2 ∙ (ap (at_receiver (input_bytes text)) (same_heard (input_bytes text) one.0 two.0 one.1 two.1) ∙ sym two.2)

  makes_event_once : (l : Line) (texts : List (List ℕ)) (h k : LineEvent) → MakesEvent l texts h → MakesEvent l texts k → h ≡ k
  makes_event_once (line.Party name role pair v) texts h k one two = absurd one
  makes_event_once (line.Link origin recipient label pair) texts h k one two = absurd one
  makes_event_once (line.Time moment) texts h k one two = absurd one
  makes_event_once (line.Stop n choice) texts h k one two = absurd one
  makes_event_once (line.Pass number party) texts h k one two = arrives_once party _ h k one two
  makes_event_once (line.Recent j) texts h k one two = returns_once _ h k one two
  makes_event_once (line.Bytes party bytes) texts h k one two = arrives_once party (Some bytes) h k one two
  makes_event_once (line.Start party peer label) texts h k one two = one ∙ sym two
  makes_event_once (line.StartKk party peer label new single) texts h k one two = one ∙ sym two
  makes_event_once (line.Ask party peer ultimate) texts h k one two = one ∙ sym two
  makes_event_once (line.Translate party centre ultimate) texts h k one two = one ∙ sym two
  makes_event_once (line.Resend party peer) texts h k one two = one ∙ sym two
  makes_event_once (line.End party peer name) texts h k one two = one ∙ sym two
  makes_event_once (line.Drop party peer) texts h k one two = one ∙ sym two
  makes_event_once (line.Purge party) texts h k one two = one ∙ sym two

  -- ---- an event

  outcome_once : (stop : Option Stop) (x : Member) (moment : ℕ) (action : Action) (m n : ℕ) (o p : EventOutcome) → IsNumbered action m → IsNumbered action n
      → IsOutcome stop x moment (input_in action) m o → IsOutcome stop x moment (input_in action) n p → o ≡ p
  outcome_once (Some stop) x moment action m n o p first second one two = one ∙ sym two
  outcome_once None x moment (Orders c) m n o p first second one two = one ∙ sym two
  outcome_once None x moment (Hears bytes (Some a)) m n o p first second one two = one ∙ sym two
  outcome_once None x moment (Hears bytes None) m n o p first second one two =
      let same : Err first.0 ≡ Err second.0 = (one_heard bytes).alone (Err first.0) first.1 ∙ sym ((one_heard bytes).alone (Err second.0) second.1) in
      let why : first.0 ≡ second.0 = cc same in
      one ∙ (ap Refused (first.2 ∙ (ap unheard_number why ∙ sym second.2)) ∙ sym two)
  outcome_once None x moment Compacts m n o p first second one two = absurd first
  outcome_once None x moment Migrates m n o p first second one two = absurd first

  record Same (e f : Event) (o p : EventOutcome) (left rest : List ℕ) : Type 0 where
    event : e ≡ f
    outcome : o ≡ p
    letters : left ≡ rest

  nothing_once : (a : Audit) (e f : Event) (o p : EventOutcome) (left rest : List ℕ) → IsNothing a e o left → IsNothing a f p rest → Same e f o p left rest
  nothing_once a e f o p left rest one two = record { event = one.event ∙ sym two.event; outcome = one.outcome ∙ sym two.outcome; letters = one.letters ∙ sym two.letters }

  done_by_once : (a : Audit) (own : List ℕ) (m : Option Member) (action : Action) (e f : Event) (o p : EventOutcome) (left rest : List ℕ) → IsDoneBy a own m action e o left → IsDoneBy a own m action f p rest → Same e f o p left rest
  done_by_once a own None action e f o p left rest one two = nothing_once a e f o p left rest one two
  done_by_once a own (Some x) action e f o p left rest one two =
      let c = completed_once a.course.now.stop a.letters x (input_in action) a.course.now.moment one.completion two.completion left rest one.completes two.completes in
      record {
        event = one.is ∙ (ap (event_at own a.course.now.moment action) c.0 ∙ sym two.is);
        outcome = outcome_once a.course.now.stop x a.course.now.moment action one.number two.number o p one.numbered two.numbered one.becomes two.becomes;
        letters = c.1;
      }

  done_once : (a : Audit) (h : LineEvent) (e f : Event) (o p : EventOutcome) (left rest : List ℕ) → IsDone a h e o left → IsDone a h f p rest → Same e f o p left rest
  done_once a Nothing e f o p left rest one two = nothing_once a e f o p left rest one two
  done_once a (At own action) e f o p left rest one two = done_by_once a own (member_at own a.course.world.members) action e f o p left rest one two

  event_once : (l : Line) (a b c : Audit) → IsEvent l a b → IsEvent l a c → b ≡ c
  event_once l a b c one two =
      let line_event : one.line_event ≡ two.line_event = makes_event_once l a.course.world.texts one.line_event two.line_event one.makes_event two.makes_event in
      let s = done_once a two.line_event one.event two.event one.outcome two.outcome one.left two.left (subst (λ (h : LineEvent). IsDone a h one.event one.outcome one.left) line_event one.done) two.done in
      one.leads ∙ ((λ i. record { course = after_event a.course (s.event i) (s.outcome i); letters = s.letters i }) ∙ sym two.leads)

  next_once : (l : Line) (a b c : Audit) → IsNext l a b → IsNext l a c → b ≡ c
  next_once l a b c (inl one) (inl two) =
      one.leads ∙ (ap (λ (q : Progress). record { course = record a.course { now = q }; letters = a.letters }) (quiet_once l a.course.now one.now two.now one.none one.changes two.changes) ∙ sym two.leads)
  next_once l a b c (inl one) (inr two) = absurd (no_line_event l a.course.world.texts two.line_event one.none two.makes_event)
  next_once l a b c (inr one) (inl two) = absurd (no_line_event l a.course.world.texts one.line_event two.none one.makes_event)
  next_once l a b c (inr one) (inr two) = event_once l a b c one two

  -- ---- a fault

  unforged_by : (a : Audit) (own : List ℕ) (m : Option Member) (action : Action) (e : Event) (o : EventOutcome) (left : List ℕ) → IsDoneBy a own m action e o left → IsForgedBy a.course m action → ⊥
  unforged_by a own None action e o left done forged = forged
  unforged_by a own (Some x) action e o left done forged = forged done.honest

  unforged : (a : Audit) (h : LineEvent) (e : Event) (o : EventOutcome) (left : List ℕ) → IsDone a h e o left → IsForgedAt a.course h → ⊥
  unforged a Nothing e o left done forged = forged
  unforged a (At own action) e o left done forged = unforged_by a own (member_at own a.course.world.members) action e o left done forged

  -- what an event at a member is, where a stop waits
  stopped_at : (l : Line) (a b : Audit) (s : IsStopped l a.course) (e : IsEvent l a b) → IsDoneAt a s.own s.member s.action e.event e.outcome e.left
  stopped_at l a b s e =
      let same : e.line_event ≡ At s.own s.action = makes_event_once l a.course.world.texts e.line_event (At s.own s.action) e.makes_event s.makes_event in
      subst (λ (m : Option Member). IsDoneBy a s.own m s.action e.event e.outcome e.left) s.at (subst (λ (h : LineEvent). IsDone a h e.event e.outcome e.left) same e.done)

  takes_letter : (l : Line) (a b : Audit) (s : IsStopped l a.course) (e : IsEvent l a b) → (letter : ℕ) × (a.letters ≡ letter ∷ e.left) × IsCut letter s.member (input_in s.action) a.course.now.moment (stopped_at l a b s e).completion
  takes_letter l a b s e =
      let d = stopped_at l a b s e in
      subst (λ (w : Option Stop). IsCompleted w a.letters s.member (input_in s.action) a.course.now.moment d.completion e.left) s.waits d.completes

  wrong_event : (l : Line) (a b : Audit) (f : AuditFault) → IsWrong l a f → IsEvent l a b → ⊥
  wrong_event l a b (fault.Forged n) wrong e =
      let same : e.line_event ≡ wrong.line_event = makes_event_once l a.course.world.texts e.line_event wrong.line_event e.makes_event wrong.makes_event in
      unforged a wrong.line_event e.event e.outcome e.left (subst (λ (h : LineEvent). IsDone a h e.event e.outcome e.left) same e.done) wrong.forged
  wrong_event l a b (fault.Impossible n) wrong e =
      let t = takes_letter l a b wrong.stopped e in
      let both : t.0 ∷ e.left ≡ letter_new ∷ wrong.left = sym t.1 ∙ wrong.letter in
      let new : t.0 ≡ letter_new = cc both in
      go new t.2
    where
      go : {letter : ℕ} {c : Completion} → letter ≡ letter_new → IsCut letter wrong.stopped.member (input_in wrong.stopped.action) a.course.now.moment c → ⊥
      go {letter} new (inl old) = letters_apart letter old.0 new
      go {letter} new (inr keeps) = wrong.unchanged keeps.1
  wrong_event l a b (fault.Letters n) wrong e =
      let t = takes_letter l a b wrong.stopped e in
      let lie : t.0 ∷ e.left ≡ [] = sym t.1 ∙ wrong.none in
      cc lie
  wrong_event l a b (fault.Differs n) wrong e = wrong

  wrong_quiet : (l : Line) (a b : Audit) (f : AuditFault) → IsWrong l a f → IsQuiet l a b → ⊥
  wrong_quiet l a b (fault.Forged n) wrong q = no_line_event l a.course.world.texts wrong.line_event q.none wrong.makes_event
  wrong_quiet l a b (fault.Impossible n) wrong q = no_line_event l a.course.world.texts (At wrong.stopped.own wrong.stopped.action) q.none wrong.stopped.makes_event
  wrong_quiet l a b (fault.Letters n) wrong q = no_line_event l a.course.world.texts (At wrong.stopped.own wrong.stopped.action) q.none wrong.stopped.makes_event
  wrong_quiet l a b (fault.Differs n) wrong q = wrong

  wrong_next : (l : Line) (a b : Audit) (f : AuditFault) → IsWrong l a f → IsNext l a b → ⊥
  wrong_next l a b f wrong (inl quiet) = wrong_quiet l a b f wrong quiet
  wrong_next l a b f wrong (inr event) = wrong_event l a b f wrong event

  -- a stopped event is honest
  stopped_honest : (l : Line) (c : Course) → IsStopped l c → IsForged l c → ⊥
  stopped_honest l c s f =
      let same : f.line_event ≡ At s.own s.action = makes_event_once l c.world.texts f.line_event (At s.own s.action) f.makes_event s.makes_event in
      let forged : IsForgedBy c (Some s.member) s.action = subst (λ (m : Option Member). IsForgedBy c m s.action) s.at (subst (IsForgedAt c) same f.forged) in
      forged s.honest

  wrong_once : (l : Line) (a : Audit) (f g : AuditFault) → IsWrong l a f → IsWrong l a g → fault_place f ≡ fault_place g → f ≡ g
  wrong_once l a (fault.Forged m) (fault.Forged n) one two same = ap fault.Forged same
  wrong_once l a (fault.Forged m) (fault.Impossible n) one two same = absurd (stopped_honest l a.course two.stopped one)
  wrong_once l a (fault.Forged m) (fault.Letters n) one two same = absurd (stopped_honest l a.course two.stopped one)
  wrong_once l a (fault.Forged m) (fault.Differs n) one two same = absurd two
  wrong_once l a (fault.Impossible m) (fault.Forged n) one two same = absurd (stopped_honest l a.course one.stopped two)
  wrong_once l a (fault.Impossible m) (fault.Impossible n) one two same = ap fault.Impossible same
  wrong_once l a (fault.Impossible m) (fault.Letters n) one two same = absurd (let lie : letter_new ∷ one.left ≡ [] = sym one.letter ∙ two.none in cc lie)
  wrong_once l a (fault.Impossible m) (fault.Differs n) one two same = absurd two
  wrong_once l a (fault.Letters m) (fault.Forged n) one two same = absurd (stopped_honest l a.course one.stopped two)
  wrong_once l a (fault.Letters m) (fault.Impossible n) one two same = absurd (let lie : letter_new ∷ two.left ≡ [] = sym two.letter ∙ one.none in cc lie)
  wrong_once l a (fault.Letters m) (fault.Letters n) one two same = ap fault.Letters same
  wrong_once l a (fault.Letters m) (fault.Differs n) one two same = absurd two
  wrong_once l a (fault.Differs m) g one two same = absurd one

  -- ---- all lines

  pub leads_once : (lines : List Line) (a b c : Audit) → AuditLeads lines a b → AuditLeads lines a c → b ≡ c
  leads_once [] a b c one two = one ∙ sym two
  leads_once (l ∷ lines) a b c one two =
      leads_once lines two.0 b c (subst (λ (m : Audit). AuditLeads lines m b) (next_once l a one.0 two.0 one.1 two.1) one.2) two.2

  pub leads_or_fails : (lines : List Line) (a b : Audit) (f : AuditFault) → AuditLeads lines a b → Fails lines a f → ⊥
  leads_or_fails [] a b f leads fails = fails
  leads_or_fails (l ∷ lines) a b f leads (inl wrong) = wrong_next l a leads.0 f wrong.0 leads.1
  leads_or_fails (l ∷ lines) a b f leads (inr on) =
      leads_or_fails lines on.0 b f (subst (λ (m : Audit). AuditLeads lines m b) (next_once l a leads.0 on.0 leads.1 on.1) leads.2) on.2

  pub fails_once : (lines : List Line) (a : Audit) (f g : AuditFault) → Fails lines a f → Fails lines a g → f ≡ g
  fails_once [] a f g one two = absurd one
  fails_once (l ∷ lines) a f g (inl one) (inl two) = wrong_once l a f g one.0 two.0 (one.1 ∙ sym two.1)
  fails_once (l ∷ lines) a f g (inl one) (inr two) = absurd (wrong_next l a two.0 f one.0 two.1)
  fails_once (l ∷ lines) a f g (inr one) (inl two) = absurd (wrong_next l a one.0 g two.0 one.1)
  fails_once (l ∷ lines) a f g (inr one) (inr two) =
      fails_once lines two.0 f g (subst (λ (m : Audit). Fails lines m f) (next_once l a one.0 two.0 one.1 two.1) one.2) two.2
