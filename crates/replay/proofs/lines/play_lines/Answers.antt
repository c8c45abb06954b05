use Rattle.std.proofs.Common.{◌≡◌, ◌++◌, [], ◌∷◌, take, Ok, Err, IfSome, IfNone, option_map, sym, refl, ap, ◌∙◌, subst, arith, take-append-drop, drop}
use Rattle.std.proofs.lemmas.List.{take_all, take_more}
use Rattle.std.proofs.lemmas.Result.{err_from_is_err_and}
use Rattle.course.specs.LineEvents.{IsNoEvent}
use Rattle.course.specs.Meanings.{IsLineAct}
use Rattle.course.specs.Outcomes.{after_outcome, IsWithin}
use Rattle.course.specs.declared.progress.Progress.{Progress}
use Rattle.x_disk.specs.Shelf.{alike_refl}
use Rattle.course.specs.Starts.{start_progress}
use Rattle.replay.specs.Breaking.{IsBreak}
use Rattle.open_parties.specs.Closing.{AllSlots}
use Rattle.replay.specs.Crash.{CrossesLines}
use Rattle.replay.specs.Lines.{Plays}
use Rattle.open_parties.specs.OpenParties.{owners}
use Rattle.open_parties.specs.declared.failure.Ending.TheVariants as ending
use Rattle.open_parties.specs.declared.failure.Failure.TheVariants as failure
use Rattle.replay.proofs.BreakingOff.{BreaksLine, breaks_ahead, breaks_event, breaks_in}
use Rattle.replay.proofs.Leading.{event_within, forges_event, forges_in, plays_event, plays_on, plays_quiet, quiet_within, some_map}
use Rattle.replay.proofs.LineByLine.{crosses_in, crosses_line, crosses_more, crosses_none, crosses_on}
use Rattle.open_parties.proofs.Owning.{slots_stay}
use Rattle.open_parties.proofs.PuttingBack.{rose_on}
use Rattle.open_parties.proofs.Results.{one_err}
use Rattle.open_parties.proofs.Surrounding.{around_err, around_late, around_ok, around_on}
use Rattle.replay.proofs.Unfinished.{act_breaks, lines_break}
use Rattle.replay.proofs.lines.play_lines.Goals as goal

pub play_act-outcome-requires-clause-slots : goal.play_act-outcome-requires-clause-slots
play_act-outcome-requires-clause-slots g c =
    subst (λ owns. AllSlots (g.H.Shelf.has_slot c.playing.shelf) owns) (sym c.playing.invariant.around.owners_stay)
    (slots_stay (g.H.Shelf.has_slot c.args.shelf.now) (g.H.Shelf.has_slot c.playing.shelf) (owners c.args.play_state.now.parties) c.playing.invariant.around.slots c.requires.slots)

-- no memory for what a line makes happen

pub returns-in_err-act-clause-broken : goal.returns-in_err-act-clause-broken
returns-in_err-act-clause-broken g c = λ why is other.
    let told = g.H.Disk.Disk.told in
    let entry = g.H.Shelf.entry c.playing.shelf in
    let faults = g.H.Shelf.faults in
    let now = faults c.playing.shelf in
    let written = g.K.Sink.written in
    let line = c.line-item.result in
    let p = err_from_is_err_and c.from_residual.result c.from_residual.ensures.1 in
    let same : ending.Failed failure.NoMemory ≡ why = sym p.2 ∙ one_err c.from_residual.result p.0 why p.1 is in
    breaks_in told entry (faults c.args.shelf.now) now now c.playing.invariant.around.later (omega arith)
    c.args.lines.now c.playing.line-index line c.playing-test.true c.line-item.is c.args.play_state.now c.playing.play_state c.playing.play_state start_progress c.playing.now
    (written c.args.sink.now) (written c.playing.sink) (written c.playing.sink) why c.playing.invariant.played
    (subst (λ w. BreaksLine told entry now now line c.playing.play_state c.playing.play_state c.playing.now (written c.playing.sink) (written c.playing.sink) w) same
    (breaks_ahead told entry now now line c.playing.play_state c.in_err-act.ensures.makes_event c.playing.now (written c.playing.sink) (ending.Failed failure.NoMemory) tt (λ write. cc write)))

-- a line that is no event

pub playing-preserved-in_default : goal.playing-preserved-in_default
playing-preserved-in_default g c =
    let told = g.H.Disk.Disk.told in
    let faults = g.H.Shelf.faults in
    let now = faults c.playing.shelf in
    let written = g.K.Sink.written in
    let line = c.line-item.result in
    let none : IsNoEvent line = subst (λ o. IfNone o (IsNoEvent line)) c.in_default.is c.in_ok-act.ensures.none in
    record {
      played = subst (λ ls. Plays told (faults c.args.shelf.now) now ls c.args.play_state.now c.playing.play_state start_progress c.advance_quiet.new.now (written c.args.sink.now) (written c.playing.sink))
          (sym (take_more c.args.lines.now c.playing.line-index line c.playing-test.true ∙ ap (λ x. take c.playing.line-index c.args.lines.now ++ x ∷ []) (sym c.line-item.is)))
          (plays_on told (faults c.args.shelf.now) now now c.playing.invariant.around.later (omega arith) (take c.playing.line-index c.args.lines.now) line
          c.args.play_state.now c.playing.play_state c.playing.play_state start_progress c.playing.now c.advance_quiet.new.now (written c.args.sink.now) (written c.playing.sink) (written c.playing.sink)
          c.playing.invariant.played (plays_quiet told now now c.playing.play_state c.playing.now c.advance_quiet.new.now (written c.playing.sink) line none c.advance_quiet.ensures));
      around = c.playing.invariant.around;
      within = quiet_within line none c.playing.now c.advance_quiet.new.now c.advance_quiet.ensures c.playing.line-index c.playing.invariant.within;
      climbs = c.playing.invariant.climbs;
      crash = subst (λ ls. CrossesLines told (g.H.Shelf.entry c.args.shelf.now) (g.H.Shelf.entry c.playing.shelf) (faults c.args.shelf.now) now ls c.args.play_state.now c.playing.play_state start_progress (written c.args.sink.now))
          (sym (take_more c.args.lines.now c.playing.line-index line c.playing-test.true ∙ ap (λ x. take c.playing.line-index c.args.lines.now ++ x ∷ []) (sym c.line-item.is)))
          (crosses_more told g.met.H.Disk.Disk.sound (g.H.Shelf.entry c.args.shelf.now) (g.H.Shelf.entry c.playing.shelf) (faults c.args.shelf.now) now (take c.playing.line-index c.args.lines.now) (line ∷ []) c.args.play_state.now c.playing.play_state start_progress
          (written c.args.sink.now) c.playing.invariant.crash);
    }

-- an event that ended early

pub returns-in_err-outcome-clause-forged : goal.returns-in_err-outcome-clause-forged
returns-in_err-outcome-clause-forged g c = λ n is.
    let told = g.H.Disk.Disk.told in
    let faults = g.H.Shelf.faults in
    let written = g.K.Sink.written in
    let line = c.line-item.result in
    let p = err_from_is_err_and c.from_residual-in_err-outcome.result c.from_residual-in_err-outcome.ensures.1 in
    let same : c.in_err-outcome.field-0.0 ≡ ending.Forged n = sym p.2 ∙ one_err c.from_residual-in_err-outcome.result p.0 (ending.Forged n) p.1 is in
    let meant : IsLineAct line c.playing.play_state.texts c.in-Some.act = subst (λ o. IfSome o (λ x. IsLineAct line c.playing.play_state.texts x)) c.in-Some.is c.in_ok-act.ensures.meant in
    let f = c.in_err-outcome.ensures.forged n (ap Err same) in
    forges_in told (faults c.args.shelf.now) (faults c.playing.shelf) (faults c.play_act-outcome.new.shelf) c.play_act-outcome.ensures.around.later
    c.args.lines.now c.playing.line-index line c.playing-test.true c.line-item.is c.args.play_state.now c.playing.play_state c.play_act-outcome.new.play_state start_progress c.playing.now
    (written c.args.sink.now) (written c.playing.sink) (written c.playing.sink) n c.playing.invariant.played f.0 f.1 refl (forges_event told c.playing.play_state line c.in-Some.act meant f.2)

pub returns-in_err-outcome-clause-broken : goal.returns-in_err-outcome-clause-broken
returns-in_err-outcome-clause-broken g c = λ why is unforged.
    let told = g.H.Disk.Disk.told in
    let entry = g.H.Shelf.entry c.play_act-outcome.new.shelf in
    let faults = g.H.Shelf.faults in
    let between = faults c.playing.shelf in
    let high = faults c.play_act-outcome.new.shelf in
    let written = g.K.Sink.written in
    let line = c.line-item.result in
    let p = err_from_is_err_and c.from_residual-in_err-outcome.result c.from_residual-in_err-outcome.ensures.1 in
    let one : c.in_err-outcome.field-0.0 ≡ why = sym p.2 ∙ one_err c.from_residual-in_err-outcome.result p.0 why p.1 is in
    let meant : IsLineAct line c.playing.play_state.texts c.in-Some.act = subst (λ o. IfSome o (λ x. IsLineAct line c.playing.play_state.texts x)) c.in-Some.is c.in_ok-act.ensures.meant in
    breaks_in told entry (faults c.args.shelf.now) between high c.playing.invariant.around.later c.play_act-outcome.ensures.around.later
    c.args.lines.now c.playing.line-index line c.playing-test.true c.line-item.is c.args.play_state.now c.playing.play_state c.play_act-outcome.new.play_state start_progress c.playing.now
    (written c.args.sink.now) (written c.playing.sink) (written c.playing.sink) why c.playing.invariant.played
    (breaks_event told entry between high line c.in-Some.act c.playing.play_state c.play_act-outcome.new.play_state c.playing.now (written c.playing.sink) (written c.playing.sink) why meant
    (act_breaks told g.met.H.Disk.Disk.sound (g.H.Shelf.entry c.playing.shelf) entry (g.met.H.Shelf.sound c.play_act-outcome.new.shelf) between high c.playing.play_state c.play_act-outcome.new.play_state c.playing.now (written c.playing.sink) (written c.playing.sink) c.in-Some.act why c.play_act-outcome.ensures.crash unforged
    (λ same. c.in_err-outcome.ensures.write (ap Err (one ∙ same))) (λ f same. c.in_err-outcome.ensures.broken f (ap Err (one ∙ same)))))

pub returns-in_err-outcome-clause-around : goal.returns-in_err-outcome-clause-around
returns-in_err-outcome-clause-around g c =
    let told = g.H.Disk.Disk.told in
    let entry = g.H.Shelf.entry in
    let slot = g.H.Shelf.has_slot in
    let faults = g.H.Shelf.faults in
    let p = err_from_is_err_and c.from_residual-in_err-outcome.result c.from_residual-in_err-outcome.ensures.1 in
    rw (p.1, p.2) (around_err told c.args.play_state.now.parties c.play_act-outcome.new.play_state.parties (entry c.args.shelf.now) (entry c.play_act-outcome.new.shelf) (slot c.args.shelf.now) (slot c.play_act-outcome.new.shelf)
    (faults c.args.shelf.now) (faults c.play_act-outcome.new.shelf) c.in_err-outcome.field-0.0
    (around_on told c.args.play_state.now.parties c.playing.play_state.parties c.play_act-outcome.new.play_state.parties (entry c.args.shelf.now) (entry c.playing.shelf) (entry c.play_act-outcome.new.shelf) (slot c.args.shelf.now) (slot c.playing.shelf) (slot c.play_act-outcome.new.shelf)
    (faults c.args.shelf.now) (faults c.playing.shelf) (faults c.play_act-outcome.new.shelf) tt (Err c.in_err-outcome.field-0.0) c.playing.invariant.around c.in_err-outcome.ensures.around))

-- an event whose lines aren't all written

pub returns-in_err-write_event-clause-broken : goal.returns-in_err-write_event-clause-broken
returns-in_err-write_event-clause-broken g c = λ why is unforged.
    let told = g.H.Disk.Disk.told in
    let entry = g.H.Shelf.entry c.play_act-outcome.new.shelf in
    let faults = g.H.Shelf.faults in
    let between = faults c.playing.shelf in
    let high = faults c.play_act-outcome.new.shelf in
    let written = g.K.Sink.written in
    let line = c.line-item.result in
    let p = err_from_is_err_and c.from_residual-in_err-write_event.result c.from_residual-in_err-write_event.ensures.1 in
    let same : c.in_err-write_event.field-0.0 ≡ why = sym p.2 ∙ one_err c.from_residual-in_err-write_event.result p.0 why p.1 is in
    let meant : IsLineAct line c.playing.play_state.texts c.in-Some.act = subst (λ o. IfSome o (λ x. IsLineAct line c.playing.play_state.texts x)) c.in-Some.is c.in_ok-act.ensures.meant in
    breaks_in told entry (faults c.args.shelf.now) between high c.playing.invariant.around.later c.play_act-outcome.ensures.around.later
    c.args.lines.now c.playing.line-index line c.playing-test.true c.line-item.is c.args.play_state.now c.playing.play_state c.play_act-outcome.new.play_state start_progress c.playing.now
    (written c.args.sink.now) (written c.playing.sink) (written c.write_event.new.sink) why c.playing.invariant.played
    (breaks_event told entry between high line c.in-Some.act c.playing.play_state c.play_act-outcome.new.play_state c.playing.now (written c.playing.sink) (written c.write_event.new.sink) why meant
    (lines_break told g.met.H.Disk.Disk.sound (g.H.Shelf.entry c.playing.shelf) entry (g.met.H.Shelf.sound c.play_act-outcome.new.shelf) between high c.playing.play_state c.play_act-outcome.new.play_state c.playing.now (written c.playing.sink) (written c.write_event.new.sink)
    c.in-Some.act c.in_ok-outcome.outcome c.text_count-texts.result (option_map (λ t. t.now) c.text_behind-text.result) why c.play_act-outcome.ensures.crash c.in_ok-outcome.ensures.acted c.text_count-texts.ensures.count c.text_behind-text.ensures
    (subst IsBreak same c.in_err-write_event.ensures.breaks) c.in_err-write_event.ensures.part))

pub returns-in_err-write_event-clause-around : goal.returns-in_err-write_event-clause-around
returns-in_err-write_event-clause-around g c =
    let told = g.H.Disk.Disk.told in
    let entry = g.H.Shelf.entry in
    let slot = g.H.Shelf.has_slot in
    let faults = g.H.Shelf.faults in
    let p = err_from_is_err_and c.from_residual-in_err-write_event.result c.from_residual-in_err-write_event.ensures.1 in
    rw (p.1, p.2) (around_late told c.args.play_state.now.parties c.play_act-outcome.new.play_state.parties (entry c.args.shelf.now) (entry c.play_act-outcome.new.shelf) (slot c.args.shelf.now) (slot c.play_act-outcome.new.shelf)
    (faults c.args.shelf.now) (faults c.play_act-outcome.new.shelf) c.in_ok-outcome.outcome c.in_err-write_event.field-0.0 (λ same. c.in_err-write_event.ensures.memory (ap Err same))
    (around_on told c.args.play_state.now.parties c.playing.play_state.parties c.play_act-outcome.new.play_state.parties (entry c.args.shelf.now) (entry c.playing.shelf) (entry c.play_act-outcome.new.shelf) (slot c.args.shelf.now) (slot c.playing.shelf) (slot c.play_act-outcome.new.shelf)
    (faults c.args.shelf.now) (faults c.playing.shelf) (faults c.play_act-outcome.new.shelf) tt (Ok c.in_ok-outcome.outcome) c.playing.invariant.around c.in_ok-outcome.ensures.around))

pub returns-in_err-write_event-clause-sink : goal.returns-in_err-write_event-clause-sink
returns-in_err-write_event-clause-sink g c =
    let faults = g.K.Sink.faults in
    let p = err_from_is_err_and c.from_residual-in_err-write_event.result c.from_residual-in_err-write_event.ensures.1 in
    rw (p.1, p.2) (record {
      climbs = omega (arith, c.playing.invariant.climbs, c.write_event.ensures.sink.climbs);
      write = λ is. (let same : c.in_err-write_event.field-0.0 ≡ ending.Write = cc is in rose_on (faults c.args.sink.now) (faults c.playing.sink) (faults c.write_event.new.sink) c.playing.invariant.climbs (c.in_err-write_event.ensures.sink.write (ap Err same)));
    })

-- an event, with its lines

pub playing-preserved : goal.playing-preserved
playing-preserved g c =
    let told = g.H.Disk.Disk.told in
    let entry = g.H.Shelf.entry in
    let slot = g.H.Shelf.has_slot in
    let faults = g.H.Shelf.faults in
    let written = g.K.Sink.written in
    let line = c.line-item.result in
    let meant : IsLineAct line c.playing.play_state.texts c.in-Some.act = subst (λ o. IfSome o (λ x. IsLineAct line c.playing.play_state.texts x)) c.in-Some.is c.in_ok-act.ensures.meant in
    record {
      played = subst (λ ls. Plays told (faults c.args.shelf.now) (faults c.play_act-outcome.new.shelf) ls c.args.play_state.now c.play_act-outcome.new.play_state start_progress c.advance.new.self (written c.args.sink.now) (written c.write_event.new.sink))
          (sym (take_more c.args.lines.now c.playing.line-index line c.playing-test.true ∙ ap (λ x. take c.playing.line-index c.args.lines.now ++ x ∷ []) (sym c.line-item.is)))
          (plays_on told (faults c.args.shelf.now) (faults c.playing.shelf) (faults c.play_act-outcome.new.shelf) c.playing.invariant.around.later c.play_act-outcome.ensures.around.later (take c.playing.line-index c.args.lines.now) line
          c.args.play_state.now c.playing.play_state c.play_act-outcome.new.play_state start_progress c.playing.now c.advance.new.self (written c.args.sink.now) (written c.playing.sink) (written c.write_event.new.sink) c.playing.invariant.played
          (plays_event told (faults c.playing.shelf) (faults c.play_act-outcome.new.shelf) c.playing.play_state c.play_act-outcome.new.play_state c.playing.now c.advance.new.self (written c.playing.sink) (written c.write_event.new.sink)
          line c.in-Some.act c.in_ok-outcome.outcome c.text_count-texts.result (option_map (λ t. t.now) c.text_behind-text.result) meant c.in_ok-outcome.ensures.acted c.text_count-texts.ensures.count c.text_behind-text.ensures
          (c.advance.ensures ∙ ap (after_outcome c.playing.now c.in_ok-outcome.outcome) (c.is_some.ensures ∙ some_map (λ t. t.now) c.text_behind-text.result)) c.in_ok-write_event.ensures.written));
      around = around_ok told c.args.play_state.now.parties c.play_act-outcome.new.play_state.parties (entry c.args.shelf.now) (entry c.play_act-outcome.new.shelf) (slot c.args.shelf.now) (slot c.play_act-outcome.new.shelf) (faults c.args.shelf.now) (faults c.play_act-outcome.new.shelf) c.in_ok-outcome.outcome tt
          (around_on told c.args.play_state.now.parties c.playing.play_state.parties c.play_act-outcome.new.play_state.parties (entry c.args.shelf.now) (entry c.playing.shelf) (entry c.play_act-outcome.new.shelf) (slot c.args.shelf.now) (slot c.playing.shelf) (slot c.play_act-outcome.new.shelf)
          (faults c.args.shelf.now) (faults c.playing.shelf) (faults c.play_act-outcome.new.shelf) tt (Ok c.in_ok-outcome.outcome) c.playing.invariant.around c.in_ok-outcome.ensures.around);
      within = event_within c.in_ok-outcome.outcome c.is_some.result c.playing.now c.advance.new.self c.advance.ensures c.playing.line-index c.playing.invariant.within;
      climbs = omega (arith, c.playing.invariant.climbs, c.write_event.ensures.sink.climbs);
      crash = subst (λ ls. CrossesLines told (entry c.args.shelf.now) (entry c.play_act-outcome.new.shelf) (faults c.args.shelf.now) (faults c.play_act-outcome.new.shelf) ls c.args.play_state.now c.play_act-outcome.new.play_state start_progress (written c.args.sink.now))
          (sym (take_more c.args.lines.now c.playing.line-index line c.playing-test.true ∙ ap (λ x. take c.playing.line-index c.args.lines.now ++ x ∷ []) (sym c.line-item.is)))
          (crosses_on told g.met.H.Disk.Disk.sound (entry c.args.shelf.now) (entry c.playing.shelf) (entry c.play_act-outcome.new.shelf) (faults c.args.shelf.now) (faults c.playing.shelf) (faults c.play_act-outcome.new.shelf) c.playing.invariant.around.later c.play_act-outcome.ensures.around.later
          (take c.playing.line-index c.args.lines.now) line [] c.args.play_state.now c.playing.play_state c.play_act-outcome.new.play_state start_progress c.playing.now (written c.args.sink.now) (written c.playing.sink) (g.met.H.Shelf.sound c.playing.shelf) c.playing.invariant.played c.playing.invariant.crash
          (crosses_line told (entry c.playing.shelf) (entry c.play_act-outcome.new.shelf) line c.in-Some.act c.playing.play_state c.play_act-outcome.new.play_state c.playing.now (written c.playing.sink) g.met.H.Disk.Disk.sound (g.met.H.Shelf.sound c.playing.shelf) meant c.play_act-outcome.ensures.crash));
    }

pub returns-clause-played : goal.returns-clause-played
returns-clause-played g c =
    let faults = g.H.Shelf.faults in
    let written = g.K.Sink.written in
    subst (λ ls. Plays g.H.Disk.Disk.told (faults c.args.shelf.now) (faults c.playing.shelf) ls c.args.play_state.now c.playing.play_state start_progress c.playing.now (written c.args.sink.now) (written c.playing.sink))
    (take_all c.playing.line-index c.args.lines.now (omega arith)) c.playing.invariant.played

-- what a crash leaves

pub playing-init : goal.playing-init
playing-init g c = record {
  played = subst (λ (q : Progress). Plays g.H.Disk.Disk.told (g.H.Shelf.faults c.args.shelf.now) (g.H.Shelf.faults c.args.shelf.now) [] c.args.play_state.now c.args.play_state.now start_progress q (g.K.Sink.written c.args.sink.now) (g.K.Sink.written c.args.sink.now)) (sym c.start-now.ensures)
      (λ tell before after first last start k at. (k, refl, at));
  around = record {
    owners_stay = refl;
    others = λ own none. alike_refl (g.H.Shelf.entry c.args.shelf.now own);
    slots = λ name has. has;
    later = omega arith;
    opened = c.requires.all_open;
    fault = λ is. absurd (cc is);
  };
  within = subst (λ (q : Progress). IsWithin q 0) (sym c.start-now.ensures) (record { least = omega arith; number = omega arith; done = omega arith; refused = omega arith; stopped = omega arith; none = omega arith; texts = omega arith });
  climbs = omega arith;
  crash = crosses_none g.H.Disk.Disk.told g.met.H.Disk.Disk.sound (g.H.Shelf.entry c.args.shelf.now) (g.H.Shelf.faults c.args.shelf.now) (g.H.Shelf.faults c.args.shelf.now) [] c.args.play_state.now start_progress (g.K.Sink.written c.args.sink.now) (g.met.H.Shelf.sound c.args.shelf.now);
}

pub returns-in_err-act-clause-crash : goal.returns-in_err-act-clause-crash
returns-in_err-act-clause-crash g c =
    let entry = g.H.Shelf.entry in
    let faults = g.H.Shelf.faults in
    let written = g.K.Sink.written in
    subst (λ ls. CrossesLines g.H.Disk.Disk.told (entry c.args.shelf.now) (entry c.playing.shelf) (faults c.args.shelf.now) (faults c.playing.shelf) ls c.args.play_state.now c.playing.play_state start_progress (written c.args.sink.now)) (take-append-drop c.playing.line-index c.args.lines.now)
    (crosses_more g.H.Disk.Disk.told g.met.H.Disk.Disk.sound (entry c.args.shelf.now) (entry c.playing.shelf) (faults c.args.shelf.now) (faults c.playing.shelf) (take c.playing.line-index c.args.lines.now) (drop c.playing.line-index c.args.lines.now)
    c.args.play_state.now c.playing.play_state start_progress (written c.args.sink.now) c.playing.invariant.crash)

pub returns-in_err-outcome-clause-crash : goal.returns-in_err-outcome-clause-crash
returns-in_err-outcome-clause-crash g c =
    let told = g.H.Disk.Disk.told in
    let entry = g.H.Shelf.entry in
    let faults = g.H.Shelf.faults in
    let written = g.K.Sink.written in
    let line = c.line-item.result in
    let meant : IsLineAct line c.playing.play_state.texts c.in-Some.act = subst (λ o. IfSome o (λ x. IsLineAct line c.playing.play_state.texts x)) c.in-Some.is c.in_ok-act.ensures.meant in
    crosses_in told g.met.H.Disk.Disk.sound (entry c.args.shelf.now) (entry c.playing.shelf) (entry c.play_act-outcome.new.shelf) (faults c.args.shelf.now) (faults c.playing.shelf) (faults c.play_act-outcome.new.shelf) c.playing.invariant.around.later c.play_act-outcome.ensures.around.later
    c.args.lines.now c.playing.line-index line c.playing-test.true c.line-item.is c.args.play_state.now c.playing.play_state c.play_act-outcome.new.play_state start_progress c.playing.now (written c.args.sink.now) (written c.playing.sink) (g.met.H.Shelf.sound c.playing.shelf) c.playing.invariant.played c.playing.invariant.crash
    (crosses_line told (entry c.playing.shelf) (entry c.play_act-outcome.new.shelf) line c.in-Some.act c.playing.play_state c.play_act-outcome.new.play_state c.playing.now (written c.playing.sink) g.met.H.Disk.Disk.sound (g.met.H.Shelf.sound c.playing.shelf) meant c.play_act-outcome.ensures.crash)

pub returns-in_err-write_event-clause-crash : goal.returns-in_err-write_event-clause-crash
returns-in_err-write_event-clause-crash g c =
    let told = g.H.Disk.Disk.told in
    let entry = g.H.Shelf.entry in
    let faults = g.H.Shelf.faults in
    let written = g.K.Sink.written in
    let line = c.line-item.result in
    let meant : IsLineAct line c.playing.play_state.texts c.in-Some.act = subst (λ o. IfSome o (λ x. IsLineAct line c.playing.play_state.texts x)) c.in-Some.is c.in_ok-act.ensures.meant in
    crosses_in told g.met.H.Disk.Disk.sound (entry c.args.shelf.now) (entry c.playing.shelf) (entry c.play_act-outcome.new.shelf) (faults c.args.shelf.now) (faults c.playing.shelf) (faults c.play_act-outcome.new.shelf) c.playing.invariant.around.later c.play_act-outcome.ensures.around.later
    c.args.lines.now c.playing.line-index line c.playing-test.true c.line-item.is c.args.play_state.now c.playing.play_state c.play_act-outcome.new.play_state start_progress c.playing.now (written c.args.sink.now) (written c.playing.sink) (g.met.H.Shelf.sound c.playing.shelf) c.playing.invariant.played c.playing.invariant.crash
    (crosses_line told (entry c.playing.shelf) (entry c.play_act-outcome.new.shelf) line c.in-Some.act c.playing.play_state c.play_act-outcome.new.play_state c.playing.now (written c.playing.sink) g.met.H.Disk.Disk.sound (g.met.H.Shelf.sound c.playing.shelf) meant c.play_act-outcome.ensures.crash)

pub returns-clause-crash : goal.returns-clause-crash
returns-clause-crash g c =
    let entry = g.H.Shelf.entry in
    let faults = g.H.Shelf.faults in
    let written = g.K.Sink.written in
    subst (λ ls. CrossesLines g.H.Disk.Disk.told (entry c.args.shelf.now) (entry c.playing.shelf) (faults c.args.shelf.now) (faults c.playing.shelf) ls c.args.play_state.now c.playing.play_state start_progress (written c.args.sink.now))
    (take_all c.playing.line-index c.args.lines.now (omega arith)) c.playing.invariant.crash
