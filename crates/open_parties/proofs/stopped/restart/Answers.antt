use Rattle.open_parties.proofs.Losing.{failed_off, failed_open}
use Rattle.open_parties.proofs.HoldingAgain.{off_leaves, restart_leaves}
use Rattle.open_parties.proofs.Stopping.{restarts}
use Rattle.open_parties.proofs.stopped.restart.Goals as goal

pub returns-in-Ok-open_from-clause-opened : goal.returns-in-Ok-open_from-clause-opened
returns-in-Ok-open_from-clause-opened g c =
    let told = g.D.Disk.told in
    let node = c.in-Ok-open_from.node in
    restarts (told c.args.disk) (told c.power_off.new.self) (told node.disk) c.args.choice node.gate node.end node.format node.party (g.met.D.Disk.sound c.power_off.new.self)
    c.in-Ok.ensures.crash c.in-Ok.ensures.stable c.in-Ok.ensures.now c.in-Ok.ensures.tells
    c.in-Ok-open_from.ensures.now c.in-Ok-open_from.ensures.stands c.in-Ok-open_from.ensures.exact c.in-Ok-open_from.ensures.format

pub returns-in-Err-clause-failed_disk : goal.returns-in-Err-clause-failed_disk
returns-in-Err-clause-failed_disk g c =
    let told = g.D.Disk.told in
    failed_off (told c.args.disk) (told c.power_off.new.self) c.failure_of.result c.failure_of.ensures.failing (g.met.D.Disk.sound c.power_off.new.self) c.in-Err.ensures.crash c.in-Err.ensures.tells

pub returns-in-Err-open_from-clause-failed_disk : goal.returns-in-Err-open_from-clause-failed_disk
returns-in-Err-open_from-clause-failed_disk g c =
    let told = g.D.Disk.told in
    failed_open told (told c.args.disk) c.power_off.new.self c.in-Err-open_from.field-0 c.failure_by.result c.failure_by.ensures.failing (g.met.D.Disk.sound c.power_off.new.self) c.in-Ok.ensures.crash c.in-Ok.ensures.tells c.in-Err-open_from.ensures

pub returns-in-Err-clause-crash : goal.returns-in-Err-clause-crash
returns-in-Err-clause-crash g c =
    off_leaves (g.D.Disk.told c.args.disk) (g.D.Disk.told c.power_off.new.self) (g.met.D.Disk.sound c.args.disk) c.in-Err.ensures.time c.in-Err.ensures.crash

pub returns-in-Ok-open_from-clause-crash : goal.returns-in-Ok-open_from-clause-crash
returns-in-Ok-open_from-clause-crash g c =
    let told = g.D.Disk.told in
    restart_leaves (told c.args.disk) (told c.power_off.new.self) (told c.in-Ok-open_from.node.disk) (g.met.D.Disk.sound c.args.disk) c.in-Ok.ensures.time c.in-Ok.ensures.crash c.in-Ok-open_from.ensures.any_moment

pub returns-in-Err-open_from-clause-crash : goal.returns-in-Err-open_from-clause-crash
returns-in-Err-open_from-clause-crash g c =
    let told = g.D.Disk.told in
    restart_leaves (told c.args.disk) (told c.power_off.new.self) (told c.in-Err-open_from.field-0.disk) (g.met.D.Disk.sound c.args.disk) c.in-Ok.ensures.time c.in-Ok.ensures.crash c.in-Err-open_from.ensures.any_moment
