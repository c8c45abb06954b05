use Rattle.spool_store.proofs.Begun.{sorted, unopened, created}
use Rattle.spool_store.proofs.spool.Spool.begin.Goals as goal

pub returns-in-Ok : goal.returns-in-Ok
returns-in-Ok g c =
    sorted g.E.Disk.told c.args.disk c.args.batch.now.0 c.args.batch.now.1 c.bytes-bytes.ensures.batch c.bytes-bytes.ensures.sized c.law_one_finding.ensures.state c.law_one_finding.ensures.not_blank
    c.in-Ok.standing c.in-Ok.ensures c.opened.result c.opened.ensures

pub returns-in-Blank : goal.returns-in-Blank
returns-in-Blank g c =
    created g.E.Disk.told c.args.disk c.args.batch.now.0 c.args.batch.now.1 c.bytes-bytes.ensures.batch c.bytes-bytes.ensures.sized c.law_one_finding.ensures.state c.law_one_finding.ensures.not_blank
    c.in-Err.field-0 c.in-Blank.is c.in-Err.ensures c.create.result c.create.ensures

pub returns-in_default : goal.returns-in_default
returns-in_default g c =
    unopened g.E.Disk.told c.args.disk c.args.batch.now.0 c.args.batch.now.1 c.bytes-bytes.ensures.batch c.bytes-bytes.ensures.sized c.law_one_finding.ensures.state c.law_one_finding.ensures.not_blank
    c.in-Err.field-0 c.in_default.not-Blank c.in-Err.ensures
