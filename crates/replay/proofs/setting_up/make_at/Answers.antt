use Rattle.course.specs.Parties.{new_member}
use Rattle.course.specs.Starts.{loads_of}
use Rattle.replay.specs.SettingUp.{BeginsInPart}
use Rattle.replay.proofs.Adding.{adds_none}
use Rattle.replay.proofs.Joining.{begins_from, begins_to}
use Rattle.replay.proofs.setting_up.make_at.Goals as goal

pub returns-in-Err-clause-left : goal.returns-in-Err-clause-left
returns-in-Err-clause-left g c = λ tells.
    let own = c.args.party.now.own in
    let old = g.H.Shelf.entry c.args.shelf.now own in
    adds_none old (g.H.Shelf.entry c.fetch.new.self own) (BeginsInPart old (new_member c.args.party.now) (loads_of own c.args.lines.now)) (g.met.H.Shelf.sound c.args.shelf.now own) (c.in-Err.ensures.err own)

pub returns-in-Ok-make-clause-any_moment : goal.returns-in-Ok-make-clause-any_moment
returns-in-Ok-make-clause-any_moment g c =
    let own = c.args.party.now.own in
    begins_from (g.H.Shelf.entry c.args.shelf.now own) (g.H.Disk.Disk.told c.in-Ok.disk) (g.H.Disk.Disk.told c.in-Ok-make.node.disk) (new_member c.args.party.now) (loads_of own c.args.lines.now)
    c.in-Ok.ensures.disk c.in-Ok-make.ensures.any_moment

pub returns-in-Err-make-clause-left : goal.returns-in-Err-make-clause-left
returns-in-Err-make-clause-left g c =
    let own = c.args.party.now.own in
    let old = g.H.Shelf.entry c.args.shelf.now own in
    let disk = g.H.Disk.Disk.told c.in-Err-make.failed_set_up.disk in
    let x = new_member c.args.party.now in
    let loads = loads_of own c.args.lines.now in
    begins_to old disk (g.H.Shelf.entry c.put_failed_set_up.new.shelf own) x loads (begins_from old (g.H.Disk.Disk.told c.in-Ok.disk) disk x loads c.in-Ok.ensures.disk c.in-Err-make.ensures.failed_set_up.any_moment) c.put_failed_set_up.ensures.back
