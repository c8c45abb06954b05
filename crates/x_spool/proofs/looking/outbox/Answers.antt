use Rattle.x_spool.proofs.Looked.{all_shows, all_untouched, gives}
use Rattle.x_spool.proofs.looking.outbox.Goals as goal

pub returns-clause-shows : goal.returns-clause-shows
returns-clause-shows g c = all_shows g.H.Disk.Disk.told c.args.name.now _ _ _ c.in-Ok.disk c.look-disk.result.0 c.look-disk.result.1 c.give_back.result c.in-Ok.ensures c.look-disk.ensures c.give_back.ensures

pub returns-clause-due : goal.returns-clause-due
returns-clause-due g c = gives c.law_one_outbox.ensures (g.H.Shelf.entry c.args.shelf.now c.args.name.now) c.give_back.result (returns-clause-shows g c)

pub returns-clause-untouched : goal.returns-clause-untouched
returns-clause-untouched g c = all_untouched g.H.Disk.Disk.told c.args.name.now _ _ _ c.in-Ok.disk c.look-disk.result.0 c.look-disk.result.1 c.give_back.result c.in-Ok.ensures c.look-disk.ensures c.give_back.ensures
