use Rattle.std.proofs.Common.{◌≡◌, ◌∙◌, ⊎_elim, ℕ, ◌≤◌, true, false, List, sym, ap, subst, arith, length, refl}
use Rattle.std.specs.List.{Contains}
use Rattle.scenario.specs.declared.line.Line.{Line}
use Rattle.replay.specs.Playing.{around, IsPlay, IsPlayOn, IsRunBy}
use Rattle.course.specs.Parties.{parties_in}
use Rattle.course.specs.Starts.{start_course, start_members}
use Rattle.replay.specs.Crash.{AddsOnly, IsOfLines}
use Rattle.open_parties.specs.Crash.{disk_of}
use Rattle.open_parties.specs.OpenParties.{owners, NoneOf}
use Rattle.replay.proofs.Adding.{adds_none}
use Rattle.replay.proofs.Causes.{behind_set_up, ended_in_set_up}
use Rattle.replay.proofs.Concluding.{failed_set_up_runs}
use Rattle.replay.proofs.LineByLine.{disk_sound}
use Rattle.replay.proofs.Throughout.{OfPlay, blank_of, play_leaves, owned_or_not, set_up_leaves}
use Rattle.open_parties.proofs.Owning.{none_absent, count_owners}
use Rattle.replay.proofs.Declaring.{few_parties}
use Rattle.x_disk.proofs.Alike.{alike_trans}
use Rattle.replay.proofs.playing.play.Goals as goal

pub play_parties-requires-clause-few : goal.play_parties-requires-clause-few
play_parties-requires-clause-few g c = subst (λ (ls : List Line). length ls ≤ 65536) (sym c.lines.ensures.lines) c.lines.ensures.few

pub play_parties-requires-clause-count : goal.play_parties-requires-clause-count
play_parties-requires-clause-count g c =
    omega (arith, count_owners c.in-Ok.parties, ap length c.in-Ok.ensures.set_up.owners_are, few_parties c.args.scenario.now c.lines.ensures.rules)

pub returns-in-Ok-clause-played : goal.returns-in-Ok-clause-played
returns-in-Ok-clause-played g c = λ tells.
    let faults = g.H.Shelf.faults in
    let entry = g.H.Shelf.entry in
    let wrote = g.K.Sink.written in
    let lines = c.args.scenario.now in
    let new = c.play_parties.new in
    let result = c.play_parties.result in
    let shown = c.in-Ok.ensures.set_up.shown true (λ t. tells) in
    let on = c.play_parties.ensures.played (faults c.args.shelf.now) c.in-Ok.ensures.later shown.all_open (shown.members_are ∙ sym (ap start_members c.lines.ensures.lines)) in
    behind_set_up (entry c.args.shelf.now) (around lines (entry new.shelf) (faults c.args.shelf.now) (faults new.shelf) (wrote c.args.sink.now) (wrote new.sink)) result shown.blank
    (subst (λ (ls : List Line). IsPlayOn (around ls (entry new.shelf) (faults c.args.shelf.now) (faults new.shelf) (wrote c.args.sink.now) (wrote new.sink)) result) c.lines.ensures.lines on)

pub returns-in-Ok-clause-crash : goal.returns-in-Ok-clause-crash
returns-in-Ok-clause-crash g c = λ tells own.
    let told = g.H.Disk.Disk.told in
    let faults = g.H.Shelf.faults in
    let entry = g.H.Shelf.entry in
    let lines = c.args.scenario.now in
    let old = entry c.args.shelf.now in
    let mid = disk_of told (entry c.set_up.new.shelf) c.in-Ok.parties own in
    let new = entry c.play_parties.new.shelf own in
    let low = faults c.args.shelf.now in
    let high = faults c.play_parties.new.shelf in
    let all = c.in-Ok.ensures.set_up in
    let shown = all.shown true (λ t. tells) in
    let on = c.play_parties.ensures.crash low c.in-Ok.ensures.later shown.all_open (shown.members_are ∙ sym (ap start_members c.lines.ensures.lines)) own in
    ⊎_elim
    (λ (has : Contains (owners c.in-Ok.parties) own).
    play_leaves low high lines own (old own) mid new (disk_sound told (entry c.set_up.new.shelf) c.in-Ok.parties own g.met.H.Disk.Disk.sound (g.met.H.Shelf.sound c.set_up.new.shelf))
    (blank_of old (parties_in lines) own shown.blank (subst (λ (owns : List (List ℕ)). Contains owns own) all.owners_are has)) (all.any_moment tells own)
    (subst (λ (ls : List Line). AddsOnly mid new (IsOfLines low high ls (start_course ls) own)) c.lines.ensures.lines on))
    (λ (none : NoneOf c.in-Ok.parties own).
    adds_none (old own) new (OfPlay low high lines own (old own)) (g.met.H.Shelf.sound c.args.shelf.now own)
    (alike_trans (old own) (entry c.set_up.new.shelf own) new (all.others own none) (c.play_parties.ensures.others own none)))
    (owned_or_not c.in-Ok.parties own)

pub returns-in-Err-clause-crash : goal.returns-in-Err-clause-crash
returns-in-Err-clause-crash g c = λ tells own.
    let faults = g.H.Shelf.faults in
    let entry = g.H.Shelf.entry in
    set_up_leaves (faults c.args.shelf.now) (faults c.set_up.new.shelf) c.args.scenario.now own (entry c.args.shelf.now own) (entry c.set_up.new.shelf own) (c.in-Err.ensures.any_moment tells own)

pub returns-in-Ok-clause-runs : goal.returns-in-Ok-clause-runs
returns-in-Ok-clause-runs g c =
    let faults = g.H.Shelf.faults in
    let entry = g.H.Shelf.entry in
    let wrote = g.K.Sink.written in
    let new = c.play_parties.new in
    let result = c.play_parties.result in
    let shown = c.in-Ok.ensures.set_up.shown false (λ t. absurd (let lie : false ≡ true = t in cc lie)) in
    let on = c.play_parties.ensures.runs (faults c.args.shelf.now) c.in-Ok.ensures.later shown.all_open (shown.members_are ∙ sym (ap start_members c.lines.ensures.lines)) in
    subst (λ (ls : List Line). IsRunBy (around ls (entry new.shelf) (faults c.args.shelf.now) (faults new.shelf) (wrote c.args.sink.now) (wrote new.sink)) result) c.lines.ensures.lines on

pub returns-in-Err-clause-runs : goal.returns-in-Err-clause-runs
returns-in-Err-clause-runs g c =
    let faults = g.H.Shelf.faults in
    let entry = g.H.Shelf.entry in
    let wrote = g.K.Sink.written in
    let new = c.set_up.new in
    let s = around c.args.scenario.now (entry new.shelf) (faults c.args.shelf.now) (faults new.shelf) (wrote c.args.sink.now) (wrote c.args.sink.now) in
    subst (IsRunBy s) (sym c.set_up_answer.ensures) (failed_set_up_runs s c.in-Err.end)

pub returns-in-Err-clause-played : goal.returns-in-Err-clause-played
returns-in-Err-clause-played g c = λ tells.
    let faults = g.H.Shelf.faults in
    let entry = g.H.Shelf.entry in
    let wrote = g.K.Sink.written in
    let new = c.set_up.new in
    let s = around c.args.scenario.now (entry new.shelf) (faults c.args.shelf.now) (faults new.shelf) (wrote c.args.sink.now) (wrote c.args.sink.now) in
    subst (IsPlay (entry c.args.shelf.now) s) (sym c.set_up_answer.ensures) (ended_in_set_up (entry c.args.shelf.now) s c.in-Err.end (c.in-Err.ensures.ended tells) refl)

pub returns-in-Ok-clause-others : goal.returns-in-Ok-clause-others
returns-in-Ok-clause-others g c = λ own absent.
    let entry = g.H.Shelf.entry in
    let open_parties = c.in-Ok.parties in
    let none = none_absent open_parties own (λ is. absent (subst (λ (owns : List (List ℕ)). Contains owns own) c.in-Ok.ensures.set_up.owners_are is)) in
    alike_trans (entry c.args.shelf.now own) (entry c.set_up.new.shelf own) (entry c.play_parties.new.shelf own) (c.in-Ok.ensures.others own absent) (c.play_parties.ensures.others own none)
