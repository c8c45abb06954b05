-- An event at a party in memory is an event of the network, or has a fault.
use Rattle.std.proofs.Common.{◌≡◌, ℕ, List, [], Option, Some, None, refl, sym, ◌∙◌, ap, subst}
use Rattle.party_state.specs.declared.command.Input.{Input}
use Rattle.party_state.specs.declared.command.Input.TheVariants as input
use Rattle.party_state.specs.State.{Party}
use Rattle.scenario.specs.declared.line.Line.{Line}
use Rattle.member.specs.Member.{Member}
use Rattle.world_laws.specs.World.{World, Fact, member_at}
use Rattle.world_laws.specs.Events.{Action, Orders, Hears, Compacts, Migrates, Completion}
use Rattle.world_laws.specs.Steps.{step, step_at, world_after_action}
use Rattle.world_laws.specs.Honest.{HonestAction}
use Rattle.course.specs.Course.{IsForgedBy, no_event, event_at}
use Rattle.course.specs.Forging.{HonestInput}
use Rattle.course.specs.LineEvents.{LineEvent, At, MakesEvent, IsFormed, IsNumbered}
use Rattle.course.specs.Outcomes.{world_after_given, input_in, IsOutcome}
use Rattle.course.specs.Stops.{KeepsChange}
use Rattle.course.specs.declared.act.LineAct.TheVariants as act
use Rattle.course.specs.declared.progress.EventOutcome.{EventOutcome}
use Rattle.course.specs.declared.progress.EventOutcome.TheVariants as outcome
use Rattle.course.specs.declared.progress.Progress.{Progress}
use Rattle.audit_check.specs.Audits.{Audit, IsCompleted, IsNothing, IsDone, IsDoneBy, IsStopped, IsWrong}
use Rattle.audit_check.specs.Events.{IsHonestStop, IsWrongInput, PlaysAt, IsWrongAt}
use Rattle.scenario.specs.AuditFaults.{fault_place}
use Rattle.audit_check.specs.States.{HoldsMembers, IsPlaced, Shows, IsActed, Acts, ActsWrongly}
use Rattle.scenario.specs.declared.audit_fault.AuditFault.{AuditFault}
use Rattle.scenario.specs.declared.audit_fault.AuditFault.TheVariants as fault
use Rattle.audit_check.specs.declared.state.AuditState.{AuditState}

-- ---- from an action to the input that it gives

told_action : (n : ℕ) (w : World) (x : Member) (moment number : ℕ) (completion : Completion) (action : Action) → IsNumbered action number → world_after_action n w x moment completion action ≡ world_after_given n w x (input_in action) moment completion
told_action n w x moment number completion (Orders c) numbered = refl
told_action n w x moment number completion (Hears bytes (Some a)) numbered = refl
told_action n w x moment number completion (Hears bytes None) numbered = refl
told_action n w x moment number completion Compacts numbered = absurd numbered
told_action n w x moment number completion Migrates numbered = absurd numbered

honest_action : (facts : List Fact) (p : Party) (number : ℕ) (action : Action) → IsNumbered action number → HonestInput facts p (input_in action) → HonestAction facts p action
honest_action facts p number (Orders c) numbered honest = tt
honest_action facts p number (Hears bytes (Some a)) numbered honest = honest
honest_action facts p number (Hears bytes None) numbered honest = tt
honest_action facts p number Compacts numbered honest = absurd numbered
honest_action facts p number Migrates numbered honest = absurd numbered

honest_input : (facts : List Fact) (p : Party) (number : ℕ) (action : Action) → IsNumbered action number → HonestAction facts p action → HonestInput facts p (input_in action)
honest_input facts p number (Orders c) numbered honest = tt
honest_input facts p number (Hears bytes (Some a)) numbered honest = honest
honest_input facts p number (Hears bytes None) numbered honest = tt
honest_input facts p number Compacts numbered honest = absurd numbered
honest_input facts p number Migrates numbered honest = absurd numbered

-- an event that changes nothing
nothing_done : (n : ℕ) (w : World) (moment : ℕ) → step n w (no_event moment) ≡ w
nothing_done n w moment = go (member_at [] w.members)
  where
    go : (o : Option Member) → step_at n w (no_event moment) o ≡ w
    go None = refl
    go (Some x) = refl

-- ---- an event

abbrev pub PlacedIn : List ℕ → AuditState → ℕ → Type 0
PlacedIn own s place = (members : List Member) → HoldsMembers s.parties members → IsPlaced own members place

module _ (old new : AuditState) (o : EventOutcome) where
  -- at the party of a place
  acted_at : (own : List ℕ) (place number : ℕ) (action : Action) → IsNumbered action number → PlacedIn own old place → PlaysAt old new place (input_in action) number o
      → (a : Audit) → a.course.now ≡ old.now → Shows old a.course.world a.letters → IsActed a (At own action) new o
  acted_at own place number action numbered placed plays a is shows =
      let c = a.course in
      let p = plays c.world c.now.number own a.letters (placed c.world.members shows.holds_each) shows in
      let moment : old.now.moment ≡ c.now.moment = sym (ap (λ (q : Progress). q.moment) is) in
      let event = event_at own c.now.moment action p.completion in
      let world_is : step c.now.number c.world event ≡ world_after_given c.now.number c.world p.member (input_in action) old.now.moment p.completion =
      ap (λ (m : Option Member). step_at c.now.number c.world event m) p.at
      ∙ (told_action c.now.number c.world p.member c.now.moment number p.completion action numbered
      ∙ ap (λ (m : ℕ). world_after_given c.now.number c.world p.member (input_in action) m p.completion) (sym moment)) in
      record {
        event = event;
        left = p.left;
        done = subst (λ (m : Option Member). IsDoneBy a own m action event o p.left) (sym p.at) (record {
          completion = p.completion;
          number = number;
          honest = honest_action c.world.facts p.member.party number action numbered p.honest;
          numbered = numbered;
          completes = subst (λ (q : Progress). IsCompleted q.stop a.letters p.member (input_in action) q.moment p.completion p.left) (sym is) p.completes;
          becomes = subst (λ (q : Progress). IsOutcome q.stop p.member q.moment (input_in action) number o) (sym is) p.becomes;
          is = refl;
        });
        shows = subst (λ (w : World). Shows new w p.left) (sym world_is) p.shows;
      }

  pub acts_given : (own : List ℕ) (place : ℕ) (t : Input) → PlacedIn own old place → PlaysAt old new place (Some t) 0 o → Acts (act.Give own t) old new o
  acts_given own place (input.Ordered command) placed plays = λ a h is shows means.
      subst (λ (k : LineEvent). IsActed a k new o) (sym means) (acted_at own place 0 (Orders command) tt placed plays a is shows)
  acts_given own place (input.Arrived arrival) placed plays = λ a h is shows means.
      subst (λ (k : LineEvent). IsActed a k new o) (sym means.1) (acted_at own place 0 (Hears means.0 (Some arrival)) tt placed plays a is shows)

  pub acts_unheard : (own : List ℕ) (place number : ℕ) → PlacedIn own old place → PlaysAt old new place None number o → Acts (act.Refuse own number) old new o
  acts_unheard own place number placed plays = λ a h is shows means.
      subst (λ (k : LineEvent). IsActed a k new o) (sym means.4) (acted_at own place number (Hears means.0 None) (means.1, means.2, means.3) placed plays a is shows)

-- nothing happens
module _ (old : AuditState) where
  none_acted : (a : Audit) (h : LineEvent) → Shows old a.course.world a.letters → IsDone a h (no_event a.course.now.moment) outcome.Nothing a.letters → IsActed a h old outcome.Nothing
  none_acted a h shows done = record {
    event = no_event a.course.now.moment;
    left = a.letters;
    done = done;
    shows = subst (λ (w : World). Shows old w a.letters) (sym (nothing_done a.course.now.number a.course.world a.course.now.moment)) shows;
  }

  nothing_at : (a : Audit) → IsNothing a (no_event a.course.now.moment) outcome.Nothing a.letters
  nothing_at a = record { event = refl; outcome = refl; letters = refl }

  pub acts_nothing : Acts act.Nothing old old outcome.Nothing
  acts_nothing = λ a h is shows means. none_acted a h shows (subst (λ (k : LineEvent). IsDone a k (no_event a.course.now.moment) outcome.Nothing a.letters) (sym means) (nothing_at a))

  abbrev pub Absent : List ℕ → Type 0
  Absent own = (members : List Member) → HoldsMembers old.parties members → member_at own members ≡ None

  nobody_at : (own : List ℕ) (action : Action) → Absent own → (a : Audit) → Shows old a.course.world a.letters → IsActed a (At own action) old outcome.Nothing
  nobody_at own action absent a shows =
      none_acted a (At own action) shows (subst (λ (m : Option Member). IsDoneBy a own m action (no_event a.course.now.moment) outcome.Nothing a.letters) (sym (absent a.course.world.members shows.holds_each)) (nothing_at a))

  pub acts_nobody : (own : List ℕ) (t : Input) → Absent own → Acts (act.Give own t) old old outcome.Nothing
  acts_nobody own (input.Ordered command) absent = λ a h is shows means.
      subst (λ (k : LineEvent). IsActed a k old outcome.Nothing) (sym means) (nobody_at own (Orders command) absent a shows)
  acts_nobody own (input.Arrived arrival) absent = λ a h is shows means.
      subst (λ (k : LineEvent). IsActed a k old outcome.Nothing) (sym means.1) (nobody_at own (Hears means.0 (Some arrival)) absent a shows)

  pub acts_unheard_nobody : (own : List ℕ) (number : ℕ) → Absent own → Acts (act.Refuse own number) old old outcome.Nothing
  acts_unheard_nobody own number absent = λ a h is shows means.
      subst (λ (k : LineEvent). IsActed a k old outcome.Nothing) (sym means.4) (nobody_at own (Hears means.0 None) absent a shows)

-- ---- a fault

module _ (old : AuditState) where
  abbrev stopped_at : (own : List ℕ) (number : ℕ) (action : Action) (l : Line) (a : Audit) (x : Member) → IsNumbered action number → a.course.now ≡ old.now → member_at own a.course.world.members ≡ Some x
      → IsHonestStop old.now a.course.world.facts x (input_in action) → MakesEvent l a.course.world.texts (At own action) → IsFormed (At own action) → IsStopped l a.course
  stopped_at own number action l a x numbered is at s makes_event formed = record {
    own = own;
    action = action;
    makes_event = makes_event;
    formed = formed;
    member = x;
    at = at;
    honest = honest_action a.course.world.facts x.party number action numbered s.honest;
    stop = s.stop;
    waits = ap (λ (q : Progress). q.stop) is ∙ s.waits;
  }

  wrong_at : (own : List ℕ) (place number : ℕ) (action : Action) (f : AuditFault) → IsNumbered action number → PlacedIn own old place → IsWrongAt old place (input_in action) f
      → (a : Audit) (l : Line) → a.course.now ≡ old.now → Shows old a.course.world a.letters → MakesEvent l a.course.world.texts (At own action) → IsFormed (At own action) → IsWrong l a f × (fault_place f ≡ a.course.now.number)
  wrong_at own place number action f numbered placed wrong a l is shows makes_event formed =
      let w = wrong a.course.world own a.letters (placed a.course.world.members shows.holds_each) shows in
      go f w.0 w.1 w.2
    where
      here : {n : ℕ} → n ≡ old.now.number → n ≡ a.course.now.number
      here n_is = n_is ∙ sym (ap (λ (q : Progress). q.number) is)

      go : (f : AuditFault) (x : Member) → member_at own a.course.world.members ≡ Some x → IsWrongInput old.now a.course.world.facts a.letters x (input_in action) f → IsWrong l a f × (fault_place f ≡ a.course.now.number)
      go (fault.Forged n) x at wrong = (
        record {
          line_event = At own action;
          makes_event = makes_event;
          formed = formed;
          forged = subst (λ (m : Option Member). IsForgedBy a.course m action) (sym at) (λ honest. wrong.0 (honest_input a.course.world.facts x.party number action numbered honest));
        },
        here wrong.1,
      )
      go (fault.Impossible n) x at wrong = (
        record {
          stopped = stopped_at own number action l a x numbered is at wrong.0 makes_event formed;
          left = wrong.1.0;
          letter = wrong.1.1;
          unchanged = λ keeps. wrong.2 (subst (λ (q : Progress). KeepsChange x (input_in action) q.moment) is keeps);
        },
        here wrong.3,
      )
      go (fault.Letters n) x at wrong = (
        record {
          stopped = stopped_at own number action l a x numbered is at wrong.0 makes_event formed;
          none = wrong.1;
        },
        here wrong.2,
      )
      go (fault.Differs n) x at wrong = absurd wrong

  pub wrong_given : (own : List ℕ) (place : ℕ) (t : Input) (f : AuditFault) → PlacedIn own old place → IsWrongAt old place (Some t) f → ActsWrongly (act.Give own t) old f
  wrong_given own place (input.Ordered command) f placed wrong = λ a h l is shows means makes_event formed.
      wrong_at own place 0 (Orders command) f tt placed wrong a l is shows (subst (MakesEvent l a.course.world.texts) means makes_event) (subst IsFormed means formed)
  wrong_given own place (input.Arrived arrival) f placed wrong = λ a h l is shows means makes_event formed.
      wrong_at own place 0 (Hears means.0 (Some arrival)) f tt placed wrong a l is shows (subst (MakesEvent l a.course.world.texts) means.1 makes_event) (subst IsFormed means.1 formed)

  pub wrong_unheard : (own : List ℕ) (place number : ℕ) (f : AuditFault) → PlacedIn own old place → IsWrongAt old place None f → ActsWrongly (act.Refuse own number) old f
  wrong_unheard own place number f placed wrong = λ a h l is shows means makes_event formed.
      wrong_at own place number (Hears means.0 None) f (means.1, means.2, means.3) placed wrong a l is shows (subst (MakesEvent l a.course.world.texts) means.4 makes_event) (subst IsFormed means.4 formed)
