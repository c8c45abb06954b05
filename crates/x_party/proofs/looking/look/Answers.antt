use Rattle.x_party.proofs.Looks.{all_out}
use Rattle.x_party.proofs.looking.look.Goals as goal

pub returns-in-Ok-put_back-clause-notice : goal.returns-in-Ok-put_back-clause-notice
returns-in-Ok-put_back-clause-notice g c =
    all_out (g.H.Shelf.entry c.args.shelf.now c.args.name.now) (g.H.Disk.Disk.told c.in-Ok.disk) c.args.input.now c.args.class.now c.args.moment c.notice_on-disk.result.1 c.in-Ok.ensures.disk c.notice_on-disk.ensures.notice
