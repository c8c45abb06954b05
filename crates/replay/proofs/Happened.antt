-- An event over the open disks is an event of the network.
use Rattle.std.proofs.Common.{◌≡◌, inl, inr, ℕ, ◌≤◌, Bool, List, [], Option, Some, None, refl, sym, ◌∙◌, ap, subst, arith}
use Rattle.x_base.specs.Edge.{Rose}
use Rattle.x_base.specs.declared.verdict.Verdict.{Verdict}
use Rattle.x_disk.specs.Disk.{View}
use Rattle.party_state.specs.declared.command.Input.{Input}
use Rattle.party_state.specs.declared.command.Input.TheVariants as input
use Rattle.party_state.specs.State.{Party}
use Rattle.member.specs.Member.{Member}
use Rattle.world_laws.specs.World.{World, Fact, member_at}
use Rattle.world_laws.specs.Events.{Action, Orders, Hears, Compacts, Migrates, Completion, Whole}
use Rattle.world_laws.specs.Steps.{step, step_at, world_after_action}
use Rattle.world_laws.specs.Honest.{HonestAction, HonestAt}
use Rattle.course.specs.Stops.{KeepsChange, IsFixed}
use Rattle.replay.specs.PlayState.{Shows, IsStep, IsCutStep}
use Rattle.course.specs.Outcomes.{world_after_given, completion_of, input_in, outcome_of, IsCompleted, IsOutcome}
use Rattle.open_parties.specs.OpenParties.{NoneOf, IsPlace}
use Rattle.course.specs.LineEvents.{LineEvent, At, IsNumbered}
use Rattle.course.specs.Course.{Course, no_event, event_at, IsDoneBy, IsDone, IsForgedBy, IsForgedAt}
use Rattle.course.specs.Forging.{HonestInput}
use Rattle.replay.specs.Acting.{PlaysAt, ForgesAt, IsActed, Acts, Forges}
use Rattle.course.specs.declared.act.LineAct.TheVariants as act
use Rattle.course.specs.declared.progress.EventOutcome.{EventOutcome}
use Rattle.course.specs.declared.progress.EventOutcome.TheVariants as outcome
use Rattle.course.specs.declared.progress.Progress.{Progress}
use Rattle.replay.specs.declared.play_state.PlayState.{PlayState}
use Rattle.course.specs.declared.progress.Stop.{Stop}
use Rattle.replay.proofs.Members.{none_found}

pub rose_wider : (a b low high : ℕ) → a ≤ low → high ≤ b → Rose low high → Rose a b
rose_wider a b low high first last (inl less) = inl (omega (arith, first, last, less))
rose_wider a b low high first last (inr most) = inr (omega (arith, last, most))

fixed_wider : (tell : Bool) (keep : Type 0) (stop : Stop) (a b low high : ℕ) (next : Bool) → a ≤ low → high ≤ b → IsFixed tell keep stop low high next → IsFixed tell keep stop a b next
fixed_wider tell keep stop a b low high next first last fixed = record {
  kept = fixed.kept;
  early = fixed.early;
  stable = fixed.stable;
  pending = λ t is four one quiet. fixed.pending t is four one (λ rose. quiet (rose_wider a b low high first last rose));
  whole = fixed.whole;
}

module _ {D : Type 0} (told : D → View) where
  -- a stopped event, where a stop waits
  pub plays_stopped : (low high : ℕ) (old new : PlayState D) (place : ℕ) (i : Option Input) (number : ℕ) (now : Progress) (stop : Stop) (next : Bool) → now.stop ≡ Some stop
      → ((tell : Bool) (w : World) (own : List ℕ) → IsPlace old.parties own place → Shows tell told w old → (x : Member) × (member_at own w.members ≡ Some x) × HonestInput w.facts x.party i)
      → IsCutStep told old new place i now.moment stop low high next → PlaysAt told low high old new place i number now outcome.Stopped
  plays_stopped low high old new place i number now stop next waits honest cut = λ tell before after first last w n own is_place shows.
      let h = honest tell w own is_place shows in
      let k = cut tell w n own is_place shows in
      let one : Some h.0 ≡ Some k.0 = sym h.1 ∙ k.1 in
      let same : h.0 ≡ k.0 = cc one in
      record {
        member = k.0;
        at = k.1;
        honest = subst (λ (x : Member). HonestInput w.facts x.party i) same h.2;
        completion = completion_of next;
        completes = subst (λ (s : Option Stop). IsCompleted tell before after s k.0 now.moment i (completion_of next)) (sym waits) (next, refl, fixed_wider tell (KeepsChange k.0 i now.moment) stop before after low high next first last k.3);
        becomes = subst (λ (s : Option Stop). IsOutcome s k.0 now.moment i number outcome.Stopped) (sym waits) refl;
        shows = k.2;
      }

  -- a whole one, where none does
  pub plays_whole : (low high : ℕ) (old new : PlayState D) (place : ℕ) (i : Input) (number : ℕ) (now : Progress) (verdict : Verdict) (o : EventOutcome) → now.stop ≡ None → o ≡ outcome_of verdict
      → ((tell : Bool) (w : World) (own : List ℕ) → IsPlace old.parties own place → Shows tell told w old → (x : Member) × (member_at own w.members ≡ Some x) × HonestInput w.facts x.party (Some i))
      → IsStep told old new place i now.moment verdict → PlaysAt told low high old new place (Some i) number now o
  plays_whole low high old new place i number now verdict o waits is honest step = λ tell before after first last w n own is_place shows.
      let h = honest tell w own is_place shows in
      let k = step tell w n own is_place shows in
      let one : Some h.0 ≡ Some k.0 = sym h.1 ∙ k.1 in
      let same : h.0 ≡ k.0 = cc one in
      record {
        member = k.0;
        at = k.1;
        honest = subst (λ (x : Member). HonestInput w.facts x.party (Some i)) same h.2;
        completion = Whole;
        completes = subst (λ (s : Option Stop). IsCompleted tell before after s k.0 now.moment (Some i) Whole) (sym waits) refl;
        becomes = subst (λ (s : Option Stop). IsOutcome s k.0 now.moment (Some i) number o) (sym waits) (is ∙ ap outcome_of k.3);
        shows = k.2;
      }

  -- bytes of which nothing is heard, where no stop waits
  pub plays_unheard : (low high : ℕ) (old : PlayState D) (place number : ℕ) (now : Progress) → now.stop ≡ None
      → ((tell : Bool) (w : World) (own : List ℕ) → IsPlace old.parties own place → Shows tell told w old → (x : Member) × (member_at own w.members ≡ Some x))
      → PlaysAt told low high old old place None number now (outcome.Refused number)
  plays_unheard low high old place number now waits there = λ tell before after first last w n own is_place shows.
      let h = there tell w own is_place shows in
      record {
        member = h.0;
        at = h.1;
        honest = tt;
        completion = Whole;
        completes = subst (λ (s : Option Stop). IsCompleted tell before after s h.0 now.moment None Whole) (sym waits) refl;
        becomes = subst (λ (s : Option Stop). IsOutcome s h.0 now.moment None number (outcome.Refused number)) (sym waits) refl;
        shows = shows;
      }

-- from an action to the input that it gives

pub told_action : (n : ℕ) (w : World) (x : Member) (moment number : ℕ) (completion : Completion) (action : Action) → IsNumbered action number → world_after_action n w x moment completion action ≡ world_after_given n w x (input_in action) moment completion
told_action n w x moment number completion (Orders c) numbered = refl
told_action n w x moment number completion (Hears bytes (Some a)) numbered = refl
told_action n w x moment number completion (Hears bytes None) numbered = refl
told_action n w x moment number completion Compacts numbered = absurd numbered
told_action n w x moment number completion Migrates numbered = absurd numbered

pub honest_action : (facts : List Fact) (p : Party) (number : ℕ) (action : Action) → IsNumbered action number → HonestInput facts p (input_in action) → HonestAction facts p action
honest_action facts p number (Orders c) numbered honest = tt
honest_action facts p number (Hears bytes (Some a)) numbered honest = honest
honest_action facts p number (Hears bytes None) numbered honest = tt
honest_action facts p number Compacts numbered honest = absurd numbered
honest_action facts p number Migrates numbered honest = absurd numbered

-- an event that changes nothing
pub nothing_done : (n : ℕ) (w : World) (moment : ℕ) → step n w (no_event moment) ≡ w
nothing_done n w moment = go (member_at [] w.members)
  where
    go : (o : Option Member) → step_at n w (no_event moment) o ≡ w
    go None = refl
    go (Some x) = refl

-- and is honest
pub quiet_honest : (c : Course) → HonestAt c.world.facts (member_at [] c.world.members) (no_event c.now.moment).action
quiet_honest c = go (member_at [] c.world.members)
  where
    go : (o : Option Member) → HonestAt c.world.facts o (no_event c.now.moment).action
    go None = tt
    go (Some x) = tt

module _ {D : Type 0} (told : D → View) (low high : ℕ) (old new : PlayState D) (now : Progress) (o : EventOutcome) where
  -- at the party of a place
  acted_at : (party : List ℕ) (place number : ℕ) (action : Action) → IsNumbered action number → IsPlace old.parties party place → PlaysAt told low high old new place (input_in action) number now o
      → (tell : Bool) (before after : ℕ) → before ≤ low → high ≤ after → (c : Course) → c.now ≡ now → Shows tell told c.world old → IsActed tell told before after c new (At party action) o
  acted_at party place number action numbered is_place plays tell before after first last c is shows =
      let p = plays tell before after first last c.world c.now.number party is_place shows in
      let moment : now.moment ≡ c.now.moment = sym (ap (λ (q : Progress). q.moment) is) in
      let event = event_at party c.now.moment action p.completion in
      let world_is : step c.now.number c.world event ≡ world_after_given c.now.number c.world p.member (input_in action) now.moment p.completion =
      ap (λ (m : Option Member). step_at c.now.number c.world event m) p.at
      ∙ (told_action c.now.number c.world p.member c.now.moment number p.completion action numbered
      ∙ ap (λ (m : ℕ). world_after_given c.now.number c.world p.member (input_in action) m p.completion) (sym moment)) in
      record {
        event = event;
        done = subst (λ (m : Option Member). IsDoneBy tell before after c party m action event o) (sym p.at) (record {
          completion = p.completion;
          number = number;
          honest = honest_action c.world.facts p.member.party number action numbered p.honest;
          numbered = numbered;
          completes = subst (λ (q : Progress). IsCompleted tell before after q.stop p.member q.moment (input_in action) p.completion) (sym is) p.completes;
          becomes = subst (λ (q : Progress). IsOutcome q.stop p.member q.moment (input_in action) number o) (sym is) p.becomes;
          is = refl;
        });
        shows = subst (λ (w : World). Shows tell told w new) (sym world_is) p.shows;
      }

  pub acts_given : (party : List ℕ) (place : ℕ) (t : Input) → IsPlace old.parties party place → PlaysAt told low high old new place (Some t) 0 now o → Acts told low high (act.Give party t) old new now o
  acts_given party place (input.Ordered command) is_place plays = λ tell before after first last c h is shows means.
      subst (λ (k : LineEvent). IsActed tell told before after c new k o) (sym means) (acted_at party place 0 (Orders command) tt is_place plays tell before after first last c is shows)
  acts_given party place (input.Arrived a) is_place plays = λ tell before after first last c h is shows means.
      subst (λ (k : LineEvent). IsActed tell told before after c new k o) (sym means.1) (acted_at party place 0 (Hears means.0 (Some a)) tt is_place plays tell before after first last c is shows)

  pub acts_unheard : (party : List ℕ) (place number : ℕ) → IsPlace old.parties party place → PlaysAt told low high old new place None number now o → Acts told low high (act.Refuse party number) old new now o
  acts_unheard party place number is_place plays = λ tell before after first last c h is shows means.
      subst (λ (k : LineEvent). IsActed tell told before after c new k o) (sym means.4) (acted_at party place number (Hears means.0 None) (means.1, means.2, means.3) is_place plays tell before after first last c is shows)

-- nothing happens
module _ {D : Type 0} (told : D → View) (low high : ℕ) (old : PlayState D) (now : Progress) where
  none_acted : (tell : Bool) (before after : ℕ) (c : Course) (h : LineEvent) → Shows tell told c.world old → IsDone tell before after c h (no_event c.now.moment) outcome.Nothing → IsActed tell told before after c old h outcome.Nothing
  none_acted tell before after c h shows done = record {
    event = no_event c.now.moment;
    done = done;
    shows = subst (λ (w : World). Shows tell told w old) (sym (nothing_done c.now.number c.world c.now.moment)) shows;
  }

  pub acts_nothing : Acts told low high act.Nothing old old now outcome.Nothing
  acts_nothing = λ tell before after first last c h is shows means. none_acted tell before after c h shows (subst (λ (k : LineEvent). IsDone tell before after c k (no_event c.now.moment) outcome.Nothing) (sym means) (refl, refl))

  nobody_at : (party : List ℕ) (action : Action) → NoneOf old.parties party → (tell : Bool) (before after : ℕ) (c : Course) → Shows tell told c.world old → IsActed tell told before after c old (At party action) outcome.Nothing
  nobody_at party action none tell before after c shows =
      let absent : member_at party c.world.members ≡ None = ap (λ (ms : List Member). member_at party ms) (sym shows.members_are) ∙ none_found tell told party old.parties shows.all_open none in
      none_acted tell before after c (At party action) shows (subst (λ (m : Option Member). IsDoneBy tell before after c party m action (no_event c.now.moment) outcome.Nothing) (sym absent) (refl, refl))

  pub acts_nobody : (party : List ℕ) (t : Input) → NoneOf old.parties party → Acts told low high (act.Give party t) old old now outcome.Nothing
  acts_nobody party (input.Ordered command) none = λ tell before after first last c h is shows means.
      subst (λ (k : LineEvent). IsActed tell told before after c old k outcome.Nothing) (sym means) (nobody_at party (Orders command) none tell before after c shows)
  acts_nobody party (input.Arrived a) none = λ tell before after first last c h is shows means.
      subst (λ (k : LineEvent). IsActed tell told before after c old k outcome.Nothing) (sym means.1) (nobody_at party (Hears means.0 (Some a)) none tell before after c shows)

  pub acts_unheard_nobody : (party : List ℕ) (number : ℕ) → NoneOf old.parties party → Acts told low high (act.Refuse party number) old old now outcome.Nothing
  acts_unheard_nobody party number none = λ tell before after first last c h is shows means.
      subst (λ (k : LineEvent). IsActed tell told before after c old k outcome.Nothing) (sym means.4) (nobody_at party (Hears means.0 None) none tell before after c shows)

-- what nobody made who holds the key
module _ {D : Type 0} (told : D → View) (old : PlayState D) where
  forged_at : (party : List ℕ) (place : ℕ) (i : Input) (action : Action) → ((facts : List Fact) (p : Party) → HonestAction facts p action → HonestInput facts p (Some i)) → IsPlace old.parties party place → ForgesAt told old place i
      → (tell : Bool) (c : Course) → Shows tell told c.world old → IsForgedAt c (At party action)
  forged_at party place i action honest is_place forges tell c shows =
      let f = forges tell c.world party is_place shows in
      subst (λ (m : Option Member). IsForgedBy c m action) (sym f.1) (λ h. f.2 (honest c.world.facts f.0.party h))

  pub forges_given : (party : List ℕ) (place : ℕ) (t : Input) → IsPlace old.parties party place → ForgesAt told old place t → Forges told (act.Give party t) old
  forges_given party place (input.Ordered command) is_place forges = λ tell c h shows means.
      subst (λ (k : LineEvent). IsForgedAt c k) (sym means) (forged_at party place (input.Ordered command) (Orders command) (λ facts p h. tt) is_place forges tell c shows)
  forges_given party place (input.Arrived a) is_place forges = λ tell c h shows means.
      subst (λ (k : LineEvent). IsForgedAt c k) (sym means.1) (forged_at party place (input.Arrived a) (Hears means.0 (Some a)) (λ facts p h. h) is_place forges tell c shows)
