use Rattle.pay_auth.proofs.Openings.{opened, unopened, created}
use Rattle.pay_auth.proofs.ledger.Ledger.open_ledger.Goals as goal

pub returns-in-Ok : goal.returns-in-Ok
returns-in-Ok g c = opened g.D.Disk.told c.args.disk c.in-Ok.standing c.in-Ok.ensures

pub returns-in-Blank : goal.returns-in-Blank
returns-in-Blank g c = created g.D.Disk.told c.args.disk c.in-Err.field-0 c.in-Blank.is c.in-Err.ensures c.law_one_finding.ensures.not_blank c.create.result c.create.ensures

pub returns-in_default : goal.returns-in_default
returns-in_default g c = unopened g.D.Disk.told c.args.disk c.in-Err.field-0 c.in_default.not-Blank c.in-Err.ensures
