use Rattle.key_journal.proofs.StepLemmas.{room_is}
use Rattle.key_journal.proofs.ready.Ready.new.Goals as goal

pub returns-clause-room : goal.returns-clause-room
returns-clause-room g c = room_is (g.D.Disk.told c.args.disk) c.args.gate c.args.end c.requires
