use Rattle.std.proofs.Common.{refl, Some, ◌∙◌, ap}
use Rattle.std.proofs.lemmas.Result.{err_from_is_err_and}
use Rattle.replay.proofs.Leaving.{left_same, left_stopped, begins_of}
use Rattle.open_parties.specs.Crash.{disk_begun}
use Rattle.replay.proofs.HoldingAgain.{holds_again_same, holds_again_stopped}
use Rattle.replay.proofs.acting.play_stopped.Goals as goal

pub returns-in_default-clause-left : goal.returns-in_default-clause-left
returns-in_default-clause-left g c =
    left_same g.H.Disk.Disk.told (g.H.Shelf.entry c.args.shelf.now c.args.own.now) c.args.play_state.now.parties c.put_in.new.self c.args.place c.args.node c.args.node (Some c.args.input.now) c.args.moment refl c.put_in.ensures

pub returns-in-Err-clause-left : goal.returns-in-Err-clause-left
returns-in-Err-clause-left g c =
    left_same g.H.Disk.Disk.told (g.H.Shelf.entry c.args.shelf.now c.args.own.now) c.args.play_state.now.parties c.put_in-in-Err.new.self c.args.place c.args.node c.in-Err.node (Some c.args.input.now) c.args.moment c.in-Err.ensures.same c.put_in-in-Err.ensures

pub returns-in_default-copied-clause-left : goal.returns-in_default-copied-clause-left
returns-in_default-copied-clause-left g c =
    left_same g.H.Disk.Disk.told (g.H.Shelf.entry c.args.shelf.now c.args.own.now) c.args.play_state.now.parties c.put_in-in_default-copied.new.self c.args.place c.args.node c.cancel.result (Some c.args.input.now) c.args.moment
    (c.cancel.ensures ∙ ap (λ p. p.node) c.in-Ok-plan.ensures.planned) c.put_in-in_default-copied.ensures

pub returns-in_err-next-clause-left : goal.returns-in_err-next-clause-left
returns-in_err-next-clause-left g c =
    let told = g.H.Disk.Disk.told in
    let begun = begins_of told c.in-Ok-plan.planned c.args.node c.args.input.now c.args.moment c.args.stop.n c.in-Ok.expected c.carry_out_to_call-begun.result c.in-Ok-plan.ensures.planned c.in-Ok.ensures c.carry_out_to_call-begun.ensures.at_stop c.carry_out_to_call-begun.ensures.failing c.carry_out_to_call-begun.ensures.left in
    let p = err_from_is_err_and c.from_residual.result c.from_residual.ensures.1 in
    rw (p.1, p.2) (c.in_err-next.ensures.left c.args.node (Some c.args.input.now) c.args.moment begun)

pub returns-in_err-note_if-clause-left : goal.returns-in_err-note_if-clause-left
returns-in_err-note_if-clause-left g c =
    let told = g.H.Disk.Disk.told in
    let begun = begins_of told c.in-Ok-plan.planned c.args.node c.args.input.now c.args.moment c.args.stop.n c.in-Ok.expected c.carry_out_to_call-begun.result c.in-Ok-plan.ensures.planned c.in-Ok.ensures c.carry_out_to_call-begun.ensures.at_stop c.carry_out_to_call-begun.ensures.failing c.carry_out_to_call-begun.ensures.left in
    let p = err_from_is_err_and c.from_residual-in_err-note_if.result c.from_residual-in_err-note_if.ensures.1 in
    rw (p.1, p.2) (left_stopped told (g.H.Shelf.entry c.reopen.new.shelf c.args.own.now) c.args.play_state.now.parties c.reopen.new.parties c.args.place c.args.node (Some c.args.input.now) c.args.moment c.args.stop (g.H.Shelf.faults c.args.shelf.now) (g.H.Shelf.faults c.reopen.new.shelf) c.in_ok-next.next
    (c.in_ok-next.ensures.stopped c.args.node (Some c.args.input.now) c.args.moment begun))

pub returns-clause-stopped : goal.returns-clause-stopped
returns-clause-stopped g c =
    let told = g.H.Disk.Disk.told in
    let begun = begins_of told c.in-Ok-plan.planned c.args.node c.args.input.now c.args.moment c.args.stop.n c.in-Ok.expected c.carry_out_to_call-begun.result c.in-Ok-plan.ensures.planned c.in-Ok.ensures c.carry_out_to_call-begun.ensures.at_stop c.carry_out_to_call-begun.ensures.failing c.carry_out_to_call-begun.ensures.left in
    c.in_ok-next.ensures.stopped c.args.node (Some c.args.input.now) c.args.moment begun

-- what a crash leaves

pub returns-in_default-clause-crash : goal.returns-in_default-clause-crash
returns-in_default-clause-crash g c =
    holds_again_same g.H.Disk.Disk.told (g.H.Shelf.entry c.args.shelf.now c.args.own.now) c.args.play_state.now.parties c.put_in.new.self c.args.place c.args.node c.args.node c.args.input.now c.args.moment refl c.put_in.ensures

pub returns-in-Err-clause-crash : goal.returns-in-Err-clause-crash
returns-in-Err-clause-crash g c =
    holds_again_same g.H.Disk.Disk.told (g.H.Shelf.entry c.args.shelf.now c.args.own.now) c.args.play_state.now.parties c.put_in-in-Err.new.self c.args.place c.args.node c.in-Err.node c.args.input.now c.args.moment c.in-Err.ensures.same c.put_in-in-Err.ensures

pub returns-in_default-copied-clause-crash : goal.returns-in_default-copied-clause-crash
returns-in_default-copied-clause-crash g c =
    holds_again_same g.H.Disk.Disk.told (g.H.Shelf.entry c.args.shelf.now c.args.own.now) c.args.play_state.now.parties c.put_in-in_default-copied.new.self c.args.place c.args.node c.cancel.result c.args.input.now c.args.moment (c.cancel.ensures ∙ ap (λ p. p.node) c.in-Ok-plan.ensures.planned) c.put_in-in_default-copied.ensures

pub returns-in_err-next-clause-crash : goal.returns-in_err-next-clause-crash
returns-in_err-next-clause-crash g c =
    holds_again_stopped g.H.Disk.Disk.told (g.H.Shelf.entry c.reopen.new.shelf c.args.own.now) c.args.play_state.now.parties c.reopen.new.parties c.args.place c.in-Ok-plan.planned c.args.node c.args.input.now c.args.moment (disk_begun c.carry_out_to_call-begun.result)
    c.in-Ok-plan.ensures.planned (g.met.H.Disk.Disk.sound (disk_begun c.carry_out_to_call-begun.result)) c.carry_out_to_call-begun.ensures.crash c.reopen.ensures.crash

pub returns-in_err-note_if-clause-crash : goal.returns-in_err-note_if-clause-crash
returns-in_err-note_if-clause-crash g c =
    holds_again_stopped g.H.Disk.Disk.told (g.H.Shelf.entry c.reopen.new.shelf c.args.own.now) c.args.play_state.now.parties c.reopen.new.parties c.args.place c.in-Ok-plan.planned c.args.node c.args.input.now c.args.moment (disk_begun c.carry_out_to_call-begun.result)
    c.in-Ok-plan.ensures.planned (g.met.H.Disk.Disk.sound (disk_begun c.carry_out_to_call-begun.result)) c.carry_out_to_call-begun.ensures.crash c.reopen.ensures.crash

pub returns-clause-crash : goal.returns-clause-crash
returns-clause-crash g c =
    holds_again_stopped g.H.Disk.Disk.told (g.H.Shelf.entry c.reopen.new.shelf c.args.own.now) c.args.play_state.now.parties c.reopen.new.parties c.args.place c.in-Ok-plan.planned c.args.node c.args.input.now c.args.moment (disk_begun c.carry_out_to_call-begun.result)
    c.in-Ok-plan.ensures.planned (g.met.H.Disk.Disk.sound (disk_begun c.carry_out_to_call-begun.result)) c.carry_out_to_call-begun.ensures.crash c.reopen.ensures.crash
