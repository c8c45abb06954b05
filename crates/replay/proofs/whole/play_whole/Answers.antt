use Rattle.std.proofs.Common.{◌≡◌, ◌<◌, sym, ◌∙◌, subst}
use Rattle.std.proofs.lemmas.Result.{err_from_is_err_and}
use Rattle.key_journal.specs.Opening.{IsFree}
use Rattle.open_parties.specs.declared.failure.Failure.TheVariants as failure
use Rattle.replay.proofs.Begun.{free_cause, rose_above}
use Rattle.open_parties.proofs.Carrying.{is_fault}
use Rattle.replay.proofs.Leaving.{whole_by, left_done, left_memory, left_broken}
use Rattle.node_core.specs.declared.node.Turn.TheVariants as turn
use Rattle.open_parties.specs.declared.open_party.PartyDisk.TheVariants.{Open, Closed}
use Rattle.x_disk.specs.Disk.{LeavesOnly}
use Rattle.open_parties.proofs.HoldingAgain.{EitherOf, holds_since_turn}
use Rattle.open_parties.proofs.Surrounding.{empty_within, filled_faulty}
use Rattle.replay.proofs.whole.play_whole.Goals as goal

pub put_in-requires : goal.put_in-requires
put_in-requires g c = empty_within c.args.play_state.now.parties c.args.place c.requires

pub returns-in-NoMemory-clause-left : goal.returns-in-NoMemory-clause-left
returns-in-NoMemory-clause-left g c =
    left_memory g.D.Disk.told c.args.planned c.args.place c.in-NoMemory.node c.in-NoMemory.ensures.turn c.args.play_state.now.parties c.put_in-in-NoMemory.new.self c.put_in-in-NoMemory.ensures

pub returns-in_ok-note-in-Done-clause-whole : goal.returns-in_ok-note-in-Done-clause-whole
returns-in_ok-note-in-Done-clause-whole g c =
    whole_by g.D.Disk.told c.args.planned c.args.place c.in-Done.node c.in-Done.verdict c.in-Done.reply c.in-Done.under c.in-Done.ensures.turn c.args.play_state.now (record { parties = c.put_in.new.self; texts = c.note.new.texts; facts = c.note.new.facts })
    c.put_in.ensures c.in_ok-note-in-Done.ensures.facts c.in_ok-note-in-Done.ensures.texts

pub returns-in_err-note-in-Done-clause-left : goal.returns-in_err-note-in-Done-clause-left
returns-in_err-note-in-Done-clause-left g c =
    let p = err_from_is_err_and c.from_residual.result c.from_residual.ensures.1 in
    rw (p.1, p.2) (left_done g.D.Disk.told c.args.planned c.args.place c.in-Done.node c.in-Done.verdict c.in-Done.reply c.in-Done.under c.in-Done.ensures.turn c.args.play_state.now.parties c.put_in.new.self c.put_in.ensures)

pub returns-in-Broken-clause-left : goal.returns-in-Broken-clause-left
returns-in-Broken-clause-left g c =
    let b = c.in-Broken.broken in
    let free = subst IsFree (sym c.give_up-disk.ensures.cause) (free_cause b.cause) in
    left_broken g.D.Disk.told c.args.planned c.args.place b c.give_up-disk.result.disk c.failure_by.result (c.failure_by.ensures.failing free) (g.met.D.Disk.sound b.disk) c.in-Broken.ensures.turn c.give_up-disk.ensures.disk c.args.play_state.now.parties c.put_in-in-Broken.new.self c.put_in-in-Broken.ensures

pub returns-in-Broken-clause-fault : goal.returns-in-Broken-clause-fault
returns-in-Broken-clause-fault g c = λ is.
    let told = g.D.Disk.told in
    let b = c.in-Broken.broken in
    let same : c.failure_by.result ≡ failure.Fault = cc is in
    let rose = rose_above (told c.args.planned.node.disk).faults (told b.disk).faults (c.in-Broken.ensures.turn.answer.cause.fault (is_fault b.cause (sym c.give_up-disk.ensures.cause ∙ c.failure_by.ensures.fault same))) in
    filled_faulty told c.args.play_state.now.parties c.put_in-in-Broken.new.self c.args.place c.give_up-disk.result.disk c.requires c.put_in-in-Broken.ensures (subst (λ k. 0 < (told k).faults) (sym c.give_up-disk.ensures.disk) rose)

pub returns-in_ok-note-in-Done-clause-crash : goal.returns-in_ok-note-in-Done-clause-crash
returns-in_ok-note-in-Done-clause-crash g c =
    holds_since_turn g.D.Disk.told c.args.play_state.now.parties c.put_in.new.self c.args.place c.args.planned (turn.Done c.in-Done.node c.in-Done.verdict c.in-Done.reply c.in-Done.under) c.in-Done.ensures.turn (Open c.in-Done.node) c.put_in.ensures (λ run. run)

pub returns-in_err-note-in-Done-clause-crash : goal.returns-in_err-note-in-Done-clause-crash
returns-in_err-note-in-Done-clause-crash g c =
    holds_since_turn g.D.Disk.told c.args.play_state.now.parties c.put_in.new.self c.args.place c.args.planned (turn.Done c.in-Done.node c.in-Done.verdict c.in-Done.reply c.in-Done.under) c.in-Done.ensures.turn (Open c.in-Done.node) c.put_in.ensures (λ run. run)

pub returns-in-Broken-clause-crash : goal.returns-in-Broken-clause-crash
returns-in-Broken-clause-crash g c =
    let told = g.D.Disk.told in
    let p = c.args.planned in
    let t = turn.Broken c.in-Broken.broken in
    holds_since_turn told c.args.play_state.now.parties c.put_in-in-Broken.new.self c.args.place p t c.in-Broken.ensures.turn (Closed c.give_up-disk.result.disk) c.put_in-in-Broken.ensures
    (λ run. subst (λ k. LeavesOnly (told p.node.disk) (told k) (EitherOf told c.args.play_state.now.parties c.put_in-in-Broken.new.self c.args.place p t c.in-Broken.ensures.turn)) (sym c.give_up-disk.ensures.disk) run)

pub returns-in-NoMemory-clause-crash : goal.returns-in-NoMemory-clause-crash
returns-in-NoMemory-clause-crash g c =
    holds_since_turn g.D.Disk.told c.args.play_state.now.parties c.put_in-in-NoMemory.new.self c.args.place c.args.planned (turn.NoMemory c.in-NoMemory.node) c.in-NoMemory.ensures.turn (Open c.in-NoMemory.node) c.put_in-in-NoMemory.ensures (λ run. run)
