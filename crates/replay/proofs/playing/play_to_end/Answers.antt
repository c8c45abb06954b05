use Rattle.std.proofs.Common.{◌≡◌, ◌∙◌, Err, sym, ap, subst, arith, length}
use Rattle.replay.specs.Showing.{IsWriteEnd}
use Rattle.course.specs.Starts.{start_progress}
use Rattle.replay.proofs.Concluding.{finishes, breaks_before, breaks_behind}
use Rattle.open_parties.proofs.Owning.{count_owners}
use Rattle.open_parties.proofs.Results.{of_err}
use Rattle.replay.proofs.playing.play_to_end.Goals as goal

pub tally_of-tally-requires-clause-few : goal.tally_of-tally-requires-clause-few
tally_of-tally-requires-clause-few g c =
    omega (arith, c.requires.count, count_owners c.args.play_state.now.parties, count_owners c.play_lines.new.play_state.parties, ap length c.in_ok-now.ensures.around.owners_stay)

pub returns-in_err-now-clause-broken : goal.returns-in_err-now-clause-broken
returns-in_err-now-clause-broken g c = λ why is unforged.
    let told = g.H.Disk.Disk.told in
    let faults = g.H.Shelf.faults in
    let wrote = g.K.Sink.written in
    let lines = c.args.lines.now in
    let old = c.args.play_state.now in
    let new = c.play_lines.new in
    let same : why ≡ c.in_err-now.field-0.0 = of_err c.from_residual.result _ why c.from_residual.ensures.1 is in
    let broken = c.play_lines.ensures.broken why (c.in_err-now.was ∙ ap Err (sym same)) unforged in
    breaks_before told (faults c.args.shelf.now) (faults new.shelf) lines old new.play_state start_progress (wrote c.args.sink.now) (wrote new.sink) (wrote new.sink) (g.H.Shelf.entry new.shelf) why broken

pub returns-in_err-write_shows-clause-broken : goal.returns-in_err-write_shows-clause-broken
returns-in_err-write_shows-clause-broken g c = λ why is unforged.
    let told = g.H.Disk.Disk.told in
    let faults = g.H.Shelf.faults in
    let wrote = g.K.Sink.written in
    let new = c.play_lines.new in
    let final = wrote c.write_shows.new.sink in
    let same : why ≡ c.in_err-write_shows.field-0.0 = of_err c.from_residual-in_err-write_shows.result _ why c.from_residual-in_err-write_shows.ensures.1 is in
    let part = c.in_err-write_shows.ensures.part in
    breaks_behind told (faults c.args.shelf.now) (faults new.shelf) c.args.lines.now c.args.play_state.now new.play_state start_progress (wrote c.args.sink.now) (wrote new.sink) final (g.H.Shelf.entry new.shelf) c.in_ok-now.now why
    c.in_ok-now.ensures.played (subst IsWriteEnd (sym same) c.in_err-write_shows.ensures.ends) part

pub returns-clause-finished : goal.returns-clause-finished
returns-clause-finished g c =
    let faults = g.H.Shelf.faults in
    let wrote = g.K.Sink.written in
    let new = c.play_lines.new in
    let final = wrote c.write_shows.new.sink in
    let tallied = c.tally_of-tally.ensures in
    let shown = c.in_ok-write_shows.ensures.written in
    finishes g.H.Disk.Disk.told (faults c.args.shelf.now) (faults new.shelf) c.args.lines.now c.args.play_state.now new.play_state start_progress (wrote c.args.sink.now) (wrote new.sink) final
    c.in_ok-now.now c.tally_of-tally.result c.in_ok-now.ensures.played tallied shown
