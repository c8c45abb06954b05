use Rattle.pay_auth.proofs.Turned.{switched_as, kept_as}
use Rattle.pay_auth.proofs.ledger.Ledger.keep.Goals as goal

pub returns-then-not-fits : goal.returns-then-not-fits
returns-then-not-fits g c = switched_as g.D.Disk.told c.self.inside.standing c.args.self c.self.view_is c.state.result.now c.state.ensures.state c.args.entry c.in-Ok.next c.in-Ok.ensures.next c.args.out c.keep_whole.result c.keep_whole.ensures

pub returns : goal.returns
returns g c =
    kept_as g.D.Disk.told c.self.inside.standing c.args.self c.self.view_is c.state.result.now c.state.ensures.state c.args.entry c.in-Ok.next c.in-Ok.ensures.next c.args.out c.keep.result c.ended.result c.keep.ensures.replaced
    c.ended.ensures.done c.ended.ensures.broken
