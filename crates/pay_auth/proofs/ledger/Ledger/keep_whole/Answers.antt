use Rattle.pay_auth.proofs.Turned.{turned}
use Rattle.pay_auth.proofs.ledger.Ledger.keep_whole.Goals as goal

pub returns : goal.returns
returns g c = turned g.D.Disk.told c.self.inside.standing c.args.self c.self.view_is c.args.next c.args.out c.replace.result c.ended.result c.replace.ensures.replaced c.ended.ensures.done c.ended.ensures.broken
