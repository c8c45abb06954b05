-- An event that breaks off, or whose lines aren't all written, is one of the network.
use Rattle.std.proofs.Common.{arith, ◌≡◌, ◌≤◌, inl, inr, ℕ, ◌+◌, Bool, true, List, [], ◌++◌, length, take, Option, Some, None, slice_get, refl, sym, ◌∙◌, ap, ap₂, subst}
use Rattle.std.proofs.lemmas.List.{append-nil}
use Rattle.x_base.specs.Edge.{AppendsTo, WrotePrefix}
use Rattle.x_disk.specs.Disk.{View, IsSound}
use Rattle.party_state.specs.declared.command.Input.{Input}
use Rattle.member.specs.Member.{Member}
use Rattle.world_laws.specs.World.{World, member_at}
use Rattle.world_laws.specs.Events.{Action, Orders, Hears, Event}
use Rattle.world_laws.specs.Honest.{HonestAt}
use Rattle.world_laws.specs.Steps.{step, step_at}
use Rattle.course.specs.Forging.{HonestInput}
use Rattle.replay.specs.Acting.{Acts}
use Rattle.replay.specs.Breaking.{StandForAll, IsBreak, IsBrokenAt}
use Rattle.course.specs.Parts.{IsEventOf}
use Rattle.course.specs.Acts.{Means}
use Rattle.replay.specs.Course.{IsAt}
use Rattle.replay.specs.Crash.{Crosses}
use Rattle.replay.specs.Breaks.{IsBrokenAct, BreaksOff, BreaksHonest, BreaksAct}
use Rattle.course.specs.Course.{Course, no_event, event_at, IsDoneBy, IsDone}
use Rattle.open_parties.specs.Failing.{IsFailing}
use Rattle.course.specs.LineEvents.{LineEvent, Nothing, At, IsNumbered}
use Rattle.course.specs.Outcomes.{input_in, world_after_given}
use Rattle.replay.specs.PlayState.{Shows}
use Rattle.open_parties.specs.OpenParties.{IsPlace}
use Rattle.course.specs.Transcript.{outcome_line, text_line, event_lines, written_between}
use Rattle.course.specs.declared.act.LineAct.{LineAct}
use Rattle.course.specs.declared.act.LineAct.TheVariants as act
use Rattle.party_state.specs.declared.command.Input.TheVariants as input
use Rattle.open_parties.specs.declared.failure.Ending.{Ending}
use Rattle.open_parties.specs.declared.failure.Ending.TheVariants as ending
use Rattle.open_parties.specs.declared.failure.Failure.{Failure}
use Rattle.open_parties.specs.declared.failure.Failure.TheVariants as failure
use Rattle.course.specs.declared.progress.EventOutcome.{EventOutcome}
use Rattle.course.specs.declared.progress.Progress.{Progress}
use Rattle.replay.specs.declared.play_state.PlayState.{PlayState}
use Rattle.open_parties.specs.declared.open_party.OpenParty.{OpenParty}
use Rattle.replay.proofs.Breakage.{shown_stand}
use Rattle.replay.proofs.Shutting.{all_open, leaves_shut}
use Rattle.replay.proofs.Happened.{nothing_done, told_action, honest_action, quiet_honest}
use Rattle.replay.proofs.Leading.{appends_more}

module _ {D : Type 0} (told : D → View) (entry : List ℕ → View) (old new : PlayState D) where
  -- an honest event broke off
  pub breaks_honest : (place : ℕ) (i : Option Input) (moment : ℕ) (why : Failure)
      → ((tell : Bool) (w : World) (own : List ℕ) → IsPlace old.parties own place → Shows tell told w old → (x : Member) × (member_at own w.members ≡ Some x) × HonestInput w.facts x.party i)
      → BreaksOff told entry old new place i moment why → BreaksHonest told entry old new place i moment why
  breaks_honest place i moment why honest breaks = λ w n own is_place shows.
      let h = honest true w own is_place shows in
      let b = breaks w n own is_place shows in
      let one : Some h.0 ≡ Some b.1.member = sym h.1 ∙ b.1.at in
      let same : h.0 ≡ b.1.member = cc one in
      (b.0, b.1, subst (λ (x : Member). HonestInput w.facts x.party i) same h.2)

  module _ (now : Progress) (why : Failure) where
    broken_act : (party : List ℕ) (place number : ℕ) (action : Action) → IsNumbered action number → IsPlace old.parties party place → BreaksHonest told entry old new place (input_in action) now.moment why
        → (c : Course) → c.now ≡ now → Shows true told c.world old → IsFailing why × IsBrokenAct told entry c new.parties (At party action)
    broken_act party place number action numbered is_place breaks c is shows =
        let b = breaks c.world c.now.number party is_place shows in
        let moment : now.moment ≡ c.now.moment = sym (ap (λ (q : Progress). q.moment) is) in
        let event = event_at party c.now.moment action b.1.completion in
        let world_is : step c.now.number c.world event ≡ world_after_given c.now.number c.world b.1.member (input_in action) now.moment b.1.completion =
        ap (λ (m : Option Member). step_at c.now.number c.world event m) b.1.at
        ∙ (told_action c.now.number c.world b.1.member c.now.moment number b.1.completion action numbered
        ∙ ap (λ (m : ℕ). world_after_given c.now.number c.world b.1.member (input_in action) m b.1.completion) (sym moment)) in (
          b.0,
          record {
            event = event;
            is = inr refl;
            honest = subst (λ (m : Option Member). HonestAt c.world.facts m action) (sym b.1.at) (honest_action c.world.facts b.1.member.party number action numbered b.2);
            stands = subst (λ (u : World). StandForAll told entry new.parties u.members) (sym world_is) b.1.stands;
          },
        )

    pub given_act : (party : List ℕ) (place : ℕ) (t : Input) → IsPlace old.parties party place → BreaksHonest told entry old new place (Some t) now.moment why → BreaksAct told entry (act.Give party t) old new now why
    given_act party place (input.Ordered command) is_place breaks = λ c h is shows means.
        subst (λ (k : LineEvent). IsFailing why × IsBrokenAct told entry c new.parties k) (sym means) (broken_act party place 0 (Orders command) tt is_place breaks c is shows)
    given_act party place (input.Arrived a) is_place breaks = λ c h is shows means.
        subst (λ (k : LineEvent). IsFailing why × IsBrokenAct told entry c new.parties k) (sym means.1) (broken_act party place 0 (Hears means.0 (Some a)) tt is_place breaks c is shows)

    pub refused_act : (party : List ℕ) (place number : ℕ) → IsPlace old.parties party place → BreaksHonest told entry old new place None now.moment why → BreaksAct told entry (act.Refuse party number) old new now why
    refused_act party place number is_place breaks = λ c h is shows means.
        subst (λ (k : LineEvent). IsFailing why × IsBrokenAct told entry c new.parties k) (sym means.4) (broken_act party place number (Hears means.0 None) (means.1, means.2, means.3) is_place breaks c is shows)

  -- no event has begun, for want of memory
  pub unplanned : (a : LineAct) (now : Progress) → new.parties ≡ old.parties → BreaksAct told entry a old new now failure.NoMemory
  unplanned a now same = λ c h is shows means. (
    tt,
    record {
      event = no_event c.now.moment;
      is = inl refl;
      honest = quiet_honest c;
      stands = subst (λ (w : World). StandForAll told entry new.parties w.members) (sym (nothing_done c.now.number c.world c.now.moment)) (subst (λ (open_parties : List (OpenParty D)). StandForAll told entry open_parties c.world.members) (sym same) (shown_stand told entry c.world old shows));
    },
  )

break_of : (why : Failure) → IsFailing why → IsBreak (ending.Failed why)
break_of failure.Fault fails = tt
break_of failure.NoMemory fails = tt
break_of (failure.Damaged place) fails = absurd fails

-- an event that is done is of what happens, or is none, and is honest
record IsFair (c : Course) (h : LineEvent) (e : Event) : Type 0 where
  pub is : IsEventOf c.now.moment h e
  pub honest : HonestAt c.world.facts (member_at e.party c.world.members) e.action

none_fair : (c : Course) (h : LineEvent) (e : Event) → e ≡ no_event c.now.moment → IsFair c h e
none_fair c h e is = record {
  is = inl is;
  honest = subst (λ (d : Event). HonestAt c.world.facts (member_at d.party c.world.members) d.action) (sym is) (quiet_honest c);
}

fair_by : (before after : ℕ) (c : Course) (h : LineEvent) (e : Event) (o : EventOutcome) → IsDone true before after c h e o → IsFair c h e
fair_by before after c Nothing e o done = none_fair c Nothing e done.0
fair_by before after c (At own action) e o done = go (member_at own c.world.members) refl done
  where
    go : (m : Option Member) → member_at own c.world.members ≡ m → IsDoneBy true before after c own m action e o → IsFair c (At own action) e
    go None is d = none_fair c (At own action) e d.0
    go (Some x) is d = subst (IsFair c (At own action)) (sym d.is) (record {
      is = inr refl;
      honest = subst (λ (m : Option Member). HonestAt c.world.facts m action) (sym is) d.honest;
    })

-- of a text a part was written
record IsPart (written next : Option (List ℕ)) (text : List ℕ) : Type 0 where
  pub part : List ℕ
  pub count : ℕ
  pub of_text : part ≡ take count text
  pub out : AppendsTo written next part

part_by : (written next : Option (List ℕ)) (text : List ℕ) → WrotePrefix written next text → IsPart written next text
part_by None next text wrote = record { part = take 0 text; count = 0; of_text = refl; out = tt }
part_by (Some xs) next text wrote = record { part = take wrote.0 text; count = wrote.0; of_text = refl; out = wrote.2 }

pub wrote_none : (written : Option (List ℕ)) (text : List ℕ) → WrotePrefix written written text
wrote_none None text = tt
wrote_none (Some xs) text = (0, omega arith, ap Some (sym (append-nil xs)))

-- an event broke off, from whichever course the old state and sink show; `entry` is the shelf's afterwards
abbrev pub BreaksEvent : {D : Type 0} → (D → View) → (List ℕ → View) → ℕ → ℕ → LineAct → PlayState D → PlayState D → Progress → Option (List ℕ) → Option (List ℕ) → Ending → Type 0
BreaksEvent told entry low high a old new p written next why = (before after : ℕ) → before ≤ low → high ≤ after → (start : Option (List ℕ)) (c : Course) (h : LineEvent) → IsAt true told start c old p written → Means a h
    → IsBreak why × IsBrokenAt told entry before after start c h new next why

module _ {D : Type 0} (told : D → View) (sound : (disk : D) → IsSound (told disk)) (begin entry : List ℕ → View) (shelved : (name : List ℕ) → IsSound (entry name)) (low high : ℕ) (old new : PlayState D) (p : Progress) (written next : Option (List ℕ)) where
  -- an event broke off, and nothing of its lines was written
  pub event_breaks : (a : LineAct) (why : Failure) → Crosses told begin entry a old new p → BreaksAct told entry a old new p why → BreaksEvent told entry low high a old new p written written (ending.Failed why)
  event_breaks a why crosses breaks = λ before after first last start c h at means.
      let b = breaks c h at.now_is at.shows means in (
        break_of why b.0,
        record {
          event = b.1.event;
          is = b.1.is;
          honest = b.1.honest;
          stands = b.1.stands;
          part = [];
          part_is = inl refl;
          done = λ write. absurd (cc write);
          opened = λ write. absurd (cc write);
          leaves = leaves_shut told begin entry a old new p sound shelved crosses c h at.now_is at.shows means;
          out = subst (AppendsTo start written) (sym (append-nil c.transcript)) at.out;
        },
      )

  -- an event was done, and a part of its lines was written
  pub lines_break : (a : LineAct) (o : EventOutcome) (k : ℕ) (text : Option (List ℕ)) (why : Ending) → Crosses told begin entry a old new p → Acts told low high a old new p o → k ≡ length old.texts → text ≡ slice_get new.texts k → IsBreak why
      → WrotePrefix written next (outcome_line p.number o ++ text_line (k + 1) text) → BreaksEvent told entry low high a old new p written next why
  lines_break a o k text why crosses acts k_is text_is is_break wrote = λ before after first last start c h at means.
      let m = acts true before after first last c h at.now_is at.shows means in
      let count : k ≡ length c.world.texts = k_is ∙ ap length at.shows.texts_are in
      let behind : text ≡ written_between c.world.texts (step c.now.number c.world m.event).texts = text_is ∙ ap₂ (λ (l : List (List ℕ)) (n : ℕ). slice_get l n) m.shows.texts_are count in
      let lines : outcome_line p.number o ++ text_line (k + 1) text ≡ event_lines c.now.number o c.world.texts (step c.now.number c.world m.event).texts =
      ap₂ (λ (l r : List ℕ). l ++ r) (ap (λ (x : Progress). outcome_line x.number o) (sym at.now_is)) (ap₂ (λ (n : ℕ) (t : Option (List ℕ)). text_line (n + 1) t) count behind) in
      let w : IsPart written next (event_lines c.now.number o c.world.texts (step c.now.number c.world m.event).texts) = part_by written next (event_lines c.now.number o c.world.texts (step c.now.number c.world m.event).texts) (subst (WrotePrefix written next) lines wrote) in
      let fair : IsFair c h m.event = fair_by before after c h m.event o m.done in (
        is_break,
        record {
          event = m.event;
          is = fair.is;
          honest = fair.honest;
          stands = shown_stand told entry (step c.now.number c.world m.event) new m.shows;
          part = w.part;
          part_is = inr (o, w.count, m.done, w.of_text);
          done = λ write. (o, w.count, m.done, w.of_text);
          opened = λ write. all_open true told new.parties m.shows.all_open;
          leaves = leaves_shut told begin entry a old new p sound shelved crosses c h at.now_is at.shows means;
          out = appends_more start written next c.transcript w.part at.out w.out;
        },
      )

  -- an event broke off, and wasn't forged
  pub act_breaks : (a : LineAct) (why : Ending) → Crosses told begin entry a old new p → ((n : ℕ) → why ≡ ending.Forged n → ⊥) → (why ≡ ending.Write → ⊥) → ((f : Failure) → why ≡ ending.Failed f → BreaksAct told entry a old new p f) → BreaksEvent told entry low high a old new p written written why
  act_breaks a (ending.Forged n) crosses unforged written_whole breaks = absurd (unforged n refl)
  act_breaks a ending.Write crosses unforged written_whole breaks = absurd (written_whole refl)
  act_breaks a (ending.Failed f) crosses unforged written_whole breaks = event_breaks a f crosses (breaks f refl)
