use Rattle.std.proofs.Common.{true, false, sym, ap, subst, ◌∙◌, arith}
use Rattle.course.specs.Starts.{start_course}
use Rattle.open_parties.specs.Closing.{AllSlots, AnyFaulty}
use Rattle.replay.specs.Crash.{IsOfLines}
use Rattle.open_parties.specs.Crash.{disk_of}
use Rattle.replay.specs.Finishing.{answer_of}
use Rattle.replay.specs.Playing.{around, IsPlayOn, IsRunBy}
use Rattle.open_parties.specs.OpenParties.{owners}
use Rattle.replay.specs.declared.play_state.PlayState.{PlayState}
use Rattle.replay.proofs.Adding.{adds_end}
use Rattle.open_parties.proofs.Holding.{back_on_shelf}
use Rattle.replay.proofs.Causes.{write_fault_by, disk_fault_rose, never_refused}
use Rattle.replay.proofs.Concluding.{starts, concludes, runs}
use Rattle.open_parties.proofs.Owning.{slots_stay, apart_alike, none_alike}
use Rattle.x_disk.proofs.Alike.{alike_trans}
use Rattle.replay.proofs.playing.play_parties.Goals as goal

pub put_back_all-back-requires-clause-slots : goal.put_back_all-back-requires-clause-slots
put_back_all-back-requires-clause-slots g c =
    let slot = g.H.Shelf.has_slot in
    let played = c.play_to_end-outcome in
    subst (AllSlots (slot played.new.shelf)) (sym played.ensures.around.owners_stay) (slots_stay (slot c.args.shelf.now) (slot played.new.shelf) (owners c.args.parties) played.ensures.around.slots c.requires.slots)

pub put_back_all-back-requires-clause-apart : goal.put_back_all-back-requires-clause-apart
put_back_all-back-requires-clause-apart g c = apart_alike c.args.parties c.play_to_end-outcome.new.play_state.parties (sym c.play_to_end-outcome.ensures.around.owners_stay) c.requires.apart

pub returns-clause-played : goal.returns-clause-played
returns-clause-played g c = λ before first all_open members_are.
    let told = g.H.Disk.Disk.told in
    let faults = g.H.Shelf.faults in
    let entry = g.H.Shelf.entry in
    let wrote = g.K.Sink.written in
    let played = c.play_to_end-outcome in
    let back = c.put_back_all-back in
    let old : PlayState _ = record { parties = c.args.parties; texts = c.new.result; facts = c.new-2.result } in
    let at = starts told true c.args.lines.now old (wrote c.args.sink.now) all_open members_are c.new.ensures c.new-2.ensures in
    subst (IsPlayOn (around c.args.lines.now (entry back.new.shelf) before (faults back.new.shelf) (wrote c.args.sink.now) (wrote played.new.sink))) (sym (c.answer_of.ensures ∙ ap answer_of c.end_of.ensures))
    (concludes told (entry played.new.shelf) (entry back.new.shelf) before (faults c.args.shelf.now) (faults played.new.shelf) (faults back.new.shelf) first back.ensures.later c.args.lines.now old played.new.play_state
    (wrote c.args.sink.now) (wrote played.new.sink) at back.ensures.back back.ensures.others played.result back.result back.ensures.undamaged played.ensures.finished played.ensures.forged played.ensures.broken)

pub returns-clause-crash : goal.returns-clause-crash
returns-clause-crash g c = λ before first all_open members_are own.
    let told = g.H.Disk.Disk.told in
    let faults = g.H.Shelf.faults in
    let entry = g.H.Shelf.entry in
    let lines = c.args.lines.now in
    let wrote = g.K.Sink.written c.args.sink.now in
    let played = c.play_to_end-outcome in
    let back = c.put_back_all-back in
    let old : PlayState _ = record { parties = c.args.parties; texts = c.new.result; facts = c.new-2.result } in
    let at = starts told true lines old wrote all_open members_are c.new.ensures c.new-2.ensures in
    adds_end (disk_of told (entry c.args.shelf.now) c.args.parties own) (disk_of told (entry played.new.shelf) played.new.play_state.parties own) (entry back.new.shelf own) (IsOfLines before (faults back.new.shelf) lines (start_course lines) own)
    (played.ensures.crash before (faults back.new.shelf) first back.ensures.later wrote (start_course lines) at own)
    (back_on_shelf told (entry played.new.shelf) (entry back.new.shelf) played.new.play_state.parties own back.ensures.back (back.ensures.others own))

pub returns-clause-runs : goal.returns-clause-runs
returns-clause-runs g c = λ before first all_open members_are.
    let told = g.H.Disk.Disk.told in
    let faults = g.H.Shelf.faults in
    let entry = g.H.Shelf.entry in
    let wrote = g.K.Sink.written in
    let played = c.play_to_end-outcome in
    let back = c.put_back_all-back in
    let old : PlayState _ = record { parties = c.args.parties; texts = c.new.result; facts = c.new-2.result } in
    let at = starts told false c.args.lines.now old (wrote c.args.sink.now) all_open members_are c.new.ensures c.new-2.ensures in
    subst (IsRunBy (around c.args.lines.now (entry back.new.shelf) before (faults back.new.shelf) (wrote c.args.sink.now) (wrote played.new.sink))) (sym (c.answer_of.ensures ∙ ap answer_of c.end_of.ensures))
    (runs told (entry back.new.shelf) before (faults c.args.shelf.now) (faults played.new.shelf) (faults back.new.shelf) first back.ensures.later c.args.lines.now old played.new.play_state
    (wrote c.args.sink.now) (wrote played.new.sink) at played.result back.result played.ensures.finished played.ensures.forged)

pub returns-clause-refused : goal.returns-clause-refused
returns-clause-refused g c = λ v is. never_refused c.end_of.result v (sym c.answer_of.ensures ∙ is)

pub returns-clause-faults : goal.returns-clause-faults
returns-clause-faults g c =
    let faults = g.H.Shelf.faults in
    let played = c.play_to_end-outcome in
    let back = c.put_back_all-back in
    let answer = c.answer_of.ensures ∙ ap answer_of c.end_of.ensures in
    record {
      climbs = played.ensures.sink.climbs;
      later = omega (arith, played.ensures.around.later, back.ensures.later);
      write = λ is. played.ensures.sink.write (write_fault_by played.result back.result (sym answer ∙ is));
      fault = λ is. disk_fault_rose (faults c.args.shelf.now) (faults played.new.shelf) (faults back.new.shelf) (AnyFaulty g.H.Disk.Disk.told played.new.play_state.parties) played.result back.result played.ensures.around.later back.ensures.later
          played.ensures.around.fault back.ensures.seen back.ensures.fault (sym answer ∙ is);
    }

pub returns-clause-others : goal.returns-clause-others
returns-clause-others g c = λ own none.
    let entry = g.H.Shelf.entry in
    let played = c.play_to_end-outcome in
    let back = c.put_back_all-back in
    alike_trans (entry c.args.shelf.now own) (entry played.new.shelf own) (entry back.new.shelf own) (played.ensures.around.others own none)
    (back.ensures.others own (none_alike c.args.parties played.new.play_state.parties own (sym played.ensures.around.owners_stay) none))
