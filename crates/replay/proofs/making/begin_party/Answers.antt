use Rattle.std.proofs.Common.{Ok, Err}
use Rattle.course.specs.Parties.{new_member}
use Rattle.replay.proofs.Begun.{begins, begins_only, never_begins, unsynced}
use Rattle.replay.proofs.making.begin_party.Goals as goal

pub returns-in-Err-clause-failed_set_up : goal.returns-in-Err-clause-failed_set_up
returns-in-Err-clause-failed_set_up g c = λ loads.
    unsynced (g.D.Disk.told c.args.disk) (g.D.Disk.told c.sync.new.self) (new_member c.args.party.now) loads c.in-Err.error c.failure_of.result (g.met.D.Disk.sound c.args.disk) c.in-Err.ensures c.failure_of.ensures.failing c.failure_of.ensures.fault

pub returns-in-Ok-create-clause-begun : goal.returns-in-Ok-create-clause-begun
returns-in-Ok-create-clause-begun g c =
    begins g.D.Disk.told c.args.disk c.sync.new.self c.args.party.now c.in-Ok.ensures.now c.in-Ok-create.store c.bytes.ensures.ident c.in-Ok-create.ensures

pub returns-in-Ok-create-clause-any_moment : goal.returns-in-Ok-create-clause-any_moment
returns-in-Ok-create-clause-any_moment g c = λ loads.
    begins_only g.D.Disk.told c.args.disk c.sync.new.self c.args.party.now c.in-Ok.ensures.now (g.met.D.Disk.sound c.args.disk) (g.met.D.Disk.sound c.sync.new.self) c.in-Ok.ensures.time c.in-Ok.ensures.crash loads (Ok c.in-Ok-create.store) c.in-Ok-create.ensures

pub returns-in-Err-create-clause-failed_set_up : goal.returns-in-Err-create-clause-failed_set_up
returns-in-Err-create-clause-failed_set_up g c = λ loads.
    let u = c.in-Err-create.field-0 in
    let only = begins_only g.D.Disk.told c.args.disk c.sync.new.self c.args.party.now c.in-Ok.ensures.now (g.met.D.Disk.sound c.args.disk) (g.met.D.Disk.sound c.sync.new.self) c.in-Ok.ensures.time c.in-Ok.ensures.crash loads (Err u) c.in-Err-create.ensures in
    never_begins g.D.Disk.told c.args.disk c.sync.new.self c.args.party.now c.in-Ok.ensures.now loads u c.in-Err-create.ensures c.in-Ok.ensures.durable (g.met.D.Disk.sound u.disk) only c.set_up_end_of.result c.set_up_end_of.ensures
