use Rattle.x_pay.proofs.Books.{closed_acted, nobody_acted}
use Rattle.x_pay.proofs.opening.open_both.Goals as goal

pub returns-in-Err-clause-failed : goal.returns-in-Err-clause-failed
returns-in-Err-clause-failed g c =
    nobody_acted g.D.Disk.told c.args.party.now c.args.disks c.in-Err.field-0.disk (g.met.D.Disk.sound c.args.disks.second) c.in-Err.field-0.why c.no_party.result c.no_party.ensures c.in-Err.ensures.failed

pub returns-in-Err-open_ledger-clause-failed : goal.returns-in-Err-open_ledger-clause-failed
returns-in-Err-open_ledger-clause-failed g c =
    closed_acted g.D.Disk.told c.args.party.now c.args.disks c.in-Ok.node c.in-Err-open_ledger.field-0 c.in-Ok.ensures.opened c.in-Err-open_ledger.ensures c.law_one_finding.ensures.not_blank
    c.into_disk.result c.outcome_of.result c.into_disk.ensures.disk c.outcome_of.ensures
