use Rattle.std.proofs.Common.{◌≡◌, Ok, Err, None, ap, refl}
use Rattle.std.proofs.lemmas.Result.{err_from_is_err_and}
use Rattle.open_parties.specs.declared.failure.Ending.TheVariants as ending
use Rattle.open_parties.specs.declared.failure.Failure.TheVariants as failure
use Rattle.course.specs.declared.progress.EventOutcome.TheVariants as outcome
use Rattle.replay.specs.declared.play_state.PlayState.{PlayState}
use Rattle.open_parties.specs.declared.open_party.PartyDisk.TheVariants.{Open}
use Rattle.replay.proofs.Eventing.{unheard_cut, unheard_breaks}
use Rattle.replay.proofs.Happened.{plays_stopped, plays_unheard}
use Rattle.replay.proofs.Judging.{member_there}
use Rattle.replay.proofs.Leaving.{begins_idle, left_same}
use Rattle.open_parties.proofs.Surrounding.{around_place, filled_open, refilled, slot_at}
use Rattle.replay.proofs.Unfinished.{breaks_honest}
use Rattle.course.specs.declared.act.LineAct.TheVariants as act
use Rattle.replay.proofs.Crossing.{crosses_at, refused_crosses, still_crosses}
use Rattle.replay.proofs.HoldingAgain.{holds_again_idle}
use Rattle.replay.proofs.acting.play_unheard.Goals as goal

pub returns-in_default-clause-played : goal.returns-in_default-clause-played
returns-in_default-clause-played g c =
    let told = g.H.Disk.Disk.told in
    let faults = g.H.Shelf.faults c.args.shelf.now in
    plays_unheard told faults faults c.args.play_state.now c.args.place c.args.number c.args.now.now c.in_default.is (λ tell. member_there tell told c.args.play_state.now c.args.place c.requires.within c.requires.all_open)

pub returns-in_default-of_unheard-clause-broken : goal.returns-in_default-of_unheard-clause-broken
returns-in_default-of_unheard-clause-broken g c =
    let told = g.H.Disk.Disk.told in
    let entry = g.H.Shelf.entry c.args.shelf.now in
    let old = c.args.play_state.now in
    let mid : PlayState _ = record { parties = c.take_out-node.new.self; texts = old.texts; facts = old.facts } in
    let new : PlayState _ = record { parties = c.put_in.new.self; texts = old.texts; facts = old.facts } in
    let node = c.take_out-node.result in
    let moment = c.args.now.now.moment in (
      failure.NoMemory,
      refl,
      breaks_honest told entry old new c.args.place None moment failure.NoMemory
          (λ tell w own is_place shows. (let m = member_there tell told old c.args.place c.requires.within c.requires.all_open w own is_place shows in (m.0, m.1, tt)))
          (unheard_breaks told old mid new c.args.place node c.take_out-node.ensures refl refl moment entry c.args.own.now failure.NoMemory c.requires.placed
          (left_same told (entry c.args.own.now) mid.parties new.parties c.args.place node node None moment refl c.put_in.ensures)),
    )

pub reopen-requires-clause-slot : goal.reopen-requires-clause-slot
reopen-requires-clause-slot g c =
    slot_at (g.H.Shelf.has_slot c.args.shelf.now) c.args.play_state.now.parties c.args.place c.args.own.now c.take_out-node.new.self c.take_out-node.result c.requires.slots c.requires.placed c.take_out-node.ensures

pub returns-in_err-reopen-clause-broken : goal.returns-in_err-reopen-clause-broken
returns-in_err-reopen-clause-broken g c =
    let told = g.H.Disk.Disk.told in
    let entry = g.H.Shelf.entry in
    let old = c.args.play_state.now in
    let mid : PlayState _ = record { parties = c.take_out-node.new.self; texts = old.texts; facts = old.facts } in
    let new : PlayState _ = record { parties = c.reopen.new.parties; texts = old.texts; facts = old.facts } in
    let node = c.take_out-node.result in
    let moment = c.args.now.now.moment in
    let begun = begins_idle told node c.into_disk.result moment c.in-Some.stop.n c.in-Ok.expected c.in-Ok.ensures c.into_disk.ensures.disk c.into_disk.ensures.durable c.view.ensures.stands in
    let p = err_from_is_err_and c.from_residual.result c.from_residual.ensures.1 in
    let failed = c.in_err-reopen.field-0.0 in
    rw (p.1, p.2) (
      failed,
      refl,
      breaks_honest told (entry c.reopen.new.shelf) old new c.args.place None moment failed
          (λ tell w own is_place shows. (let m = member_there tell told old c.args.place c.requires.within c.requires.all_open w own is_place shows in (m.0, m.1, tt)))
          (unheard_breaks told old mid new c.args.place node c.take_out-node.ensures refl refl moment (entry c.reopen.new.shelf) c.args.own.now failed c.requires.placed (c.in_err-reopen.ensures.left node None moment begun)),
    )

pub returns-in_err-reopen-clause-around : goal.returns-in_err-reopen-clause-around
returns-in_err-reopen-clause-around g c =
    let told = g.H.Disk.Disk.told in
    let entry = g.H.Shelf.entry in
    let slot = g.H.Shelf.has_slot in
    let faults = g.H.Shelf.faults in
    let node = c.take_out-node.result in
    let moment = c.args.now.now.moment in
    let begun = begins_idle told node c.into_disk.result moment c.in-Some.stop.n c.in-Ok.expected c.in-Ok.ensures c.into_disk.ensures.disk c.into_disk.ensures.durable c.view.ensures.stands in
    let p = err_from_is_err_and c.from_residual.result c.from_residual.ensures.1 in
    let left = c.in_err-reopen.ensures.left node None moment begun in
    rw (p.1, p.2) (around_place c.args.play_state.now.parties c.take_out-node.new.self c.reopen.new.parties c.args.place node c.take_out-node.ensures left.held left.fills told c.args.own.now c.requires.placed
    (entry c.args.shelf.now) (entry c.reopen.new.shelf) (slot c.args.shelf.now) (slot c.reopen.new.shelf) (faults c.args.shelf.now) (faults c.reopen.new.shelf) (Err (ending.Failed c.in_err-reopen.field-0.0)) c.reopen.ensures.shelf tt
    (λ is. (let same : c.in_err-reopen.field-0.0 ≡ failure.Fault = cc is in c.in_err-reopen.ensures.fault (ap Err same))))

pub returns-clause-played : goal.returns-clause-played
returns-clause-played g c =
    let told = g.H.Disk.Disk.told in
    let faults = g.H.Shelf.faults in
    let old = c.args.play_state.now in
    let mid : PlayState _ = record { parties = c.take_out-node.new.self; texts = old.texts; facts = old.facts } in
    let new : PlayState _ = record { parties = c.reopen.new.parties; texts = old.texts; facts = old.facts } in
    let node = c.take_out-node.result in
    let moment = c.args.now.now.moment in
    let begun = begins_idle told node c.into_disk.result moment c.in-Some.stop.n c.in-Ok.expected c.in-Ok.ensures c.into_disk.ensures.disk c.into_disk.ensures.durable c.view.ensures.stands in
    plays_stopped told (faults c.args.shelf.now) (faults c.reopen.new.shelf) old new c.args.place None c.args.number c.args.now.now c.in-Some.stop c.in_ok-reopen.field-0 c.in-Some.is
    (λ tell w own is_place shows. (let m = member_there tell told old c.args.place c.requires.within c.requires.all_open w own is_place shows in (m.0, m.1, tt)))
    (unheard_cut told old mid new c.args.place node c.take_out-node.ensures refl refl moment c.in-Some.stop (faults c.args.shelf.now) (faults c.reopen.new.shelf) c.in_ok-reopen.field-0 (c.in_ok-reopen.ensures.stopped node None moment begun))

pub returns-clause-around : goal.returns-clause-around
returns-clause-around g c =
    let told = g.H.Disk.Disk.told in
    let entry = g.H.Shelf.entry in
    let slot = g.H.Shelf.has_slot in
    let faults = g.H.Shelf.faults in
    let node = c.take_out-node.result in
    let moment = c.args.now.now.moment in
    let begun = begins_idle told node c.into_disk.result moment c.in-Some.stop.n c.in-Ok.expected c.in-Ok.ensures c.into_disk.ensures.disk c.into_disk.ensures.durable c.view.ensures.stands in
    let s = c.in_ok-reopen.ensures.stopped node None moment begun in
    around_place c.args.play_state.now.parties c.take_out-node.new.self c.reopen.new.parties c.args.place node c.take_out-node.ensures (Open s.opened) s.fills told c.args.own.now c.requires.placed
    (entry c.args.shelf.now) (entry c.reopen.new.shelf) (slot c.args.shelf.now) (slot c.reopen.new.shelf) (faults c.args.shelf.now) (faults c.reopen.new.shelf) (Ok outcome.Stopped) c.reopen.ensures.shelf
    (filled_open c.args.play_state.now.parties c.take_out-node.new.self c.reopen.new.parties c.args.place node s.opened c.take_out-node.ensures s.fills c.requires.all_open) (λ is. absurd (cc is))

-- what a crash leaves

pub returns-in_default-clause-crash : goal.returns-in_default-clause-crash
returns-in_default-clause-crash g c =
    still_crosses g.H.Disk.Disk.told (g.H.Shelf.entry c.args.shelf.now) (act.Refuse c.args.own.now c.args.number) c.args.play_state.now c.args.play_state.now c.args.now.now refl

pub returns-in_default-of_unheard-clause-crash : goal.returns-in_default-of_unheard-clause-crash
returns-in_default-of_unheard-clause-crash g c =
    let old = c.args.play_state.now in
    let new : PlayState _ = record { parties = c.put_in.new.self; texts = old.texts; facts = old.facts } in
    let node = c.take_out-node.result in
    still_crosses g.H.Disk.Disk.told (g.H.Shelf.entry c.args.shelf.now) (act.Refuse c.args.own.now c.args.number) old new c.args.now.now
    (refilled old.parties c.take_out-node.new.self c.put_in.new.self c.args.place node node c.take_out-node.ensures refl c.put_in.ensures)

pub returns-in_err-reopen-clause-crash : goal.returns-in_err-reopen-clause-crash
returns-in_err-reopen-clause-crash g c =
    let told = g.H.Disk.Disk.told in
    let entry = g.H.Shelf.entry in
    let old = c.args.play_state.now in
    let mid : PlayState _ = record { parties = c.take_out-node.new.self; texts = old.texts; facts = old.facts } in
    let new : PlayState _ = record { parties = c.reopen.new.parties; texts = old.texts; facts = old.facts } in
    let node = c.take_out-node.result in
    let moment = c.args.now.now.moment in
    refused_crosses told (entry c.args.shelf.now) (entry c.reopen.new.shelf) old new c.args.now.now c.args.own.now c.args.place c.args.number c.requires.placed
    (crosses_at told (entry c.args.shelf.now) (entry c.reopen.new.shelf) old mid new c.args.place node c.take_out-node.ensures None moment refl (λ keep. absurd keep)
    (λ tell w own is_place shows. (let m = member_there tell told old c.args.place c.requires.within c.requires.all_open w own is_place shows in (m.0, m.1, tt)))
    c.args.own.now c.requires.placed c.reopen.ensures.shelf.others
    (holds_again_idle told (entry c.reopen.new.shelf c.args.own.now) mid.parties new.parties c.args.place node c.into_disk.result moment c.into_disk.ensures.disk c.view.ensures.stands c.reopen.ensures.crash))

pub returns-clause-crash : goal.returns-clause-crash
returns-clause-crash g c =
    let told = g.H.Disk.Disk.told in
    let entry = g.H.Shelf.entry in
    let old = c.args.play_state.now in
    let mid : PlayState _ = record { parties = c.take_out-node.new.self; texts = old.texts; facts = old.facts } in
    let new : PlayState _ = record { parties = c.reopen.new.parties; texts = old.texts; facts = old.facts } in
    let node = c.take_out-node.result in
    let moment = c.args.now.now.moment in
    refused_crosses told (entry c.args.shelf.now) (entry c.reopen.new.shelf) old new c.args.now.now c.args.own.now c.args.place c.args.number c.requires.placed
    (crosses_at told (entry c.args.shelf.now) (entry c.reopen.new.shelf) old mid new c.args.place node c.take_out-node.ensures None moment refl (λ keep. absurd keep)
    (λ tell w own is_place shows. (let m = member_there tell told old c.args.place c.requires.within c.requires.all_open w own is_place shows in (m.0, m.1, tt)))
    c.args.own.now c.requires.placed c.reopen.ensures.shelf.others
    (holds_again_idle told (entry c.reopen.new.shelf c.args.own.now) mid.parties new.parties c.args.place node c.into_disk.result moment c.into_disk.ensures.disk c.view.ensures.stands c.reopen.ensures.crash))
