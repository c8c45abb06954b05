use Rattle.std.proofs.Common.{◌∙◌, sym}
use Rattle.spool_store.proofs.Opened.{empty, unread}
use Rattle.spool_store.proofs.spool.Spool.load.Goals as goal

pub returns-in-Err : goal.returns-in-Err
returns-in-Err g c = unread g.E.Disk.told c.args.disk c.in-Err.unmade c.in-Err.ensures

pub returns-in_default : goal.returns-in_default
returns-in_default g c =
    empty g.E.Disk.told c.args.disk c.in-Ok.standing c.in-Ok.ensures (sym c.state.ensures.state ∙ (sym c.behind-standing.view_is ∙ c.in_default.is)) c.into_disk.result c.into_disk.ensures.disk
