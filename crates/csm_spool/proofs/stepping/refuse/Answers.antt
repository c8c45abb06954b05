use Rattle.node_core.specs.Turns.{member_of}
use Rattle.csm_spool.proofs.Entries.{within, refused, spool_broken, no_memory}
use Rattle.csm_spool.proofs.stepping.refuse.Goals as goal

pub commit-requires-clause-next : goal.commit-requires-clause-next
commit-requires-clause-next g c = within c.args.spool.progress c.requires.next.entry c.requires.next.at

pub returns-in-Done : goal.returns-in-Done
returns-in-Done g c = refused g.D.Disk.told g.E.Disk.told c.args.spool c.args.plan c.args.node c.requires.next c.in-Done.spool c.in-Done.ensures

pub returns-in-Broken : goal.returns-in-Broken
returns-in-Broken g c = spool_broken g.D.Disk.told g.E.Disk.told c.args.spool c.args.plan c.args.node (member_of c.args.node) c.requires.next c.in-Broken.broken c.in-Broken.ensures

pub returns-in-NoMemory : goal.returns-in-NoMemory
returns-in-NoMemory g c = no_memory g.D.Disk.told g.E.Disk.told c.args.spool c.args.plan c.args.node (member_of c.args.node) c.requires.next c.in-NoMemory.spool c.in-NoMemory.ensures
