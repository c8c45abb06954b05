use Rattle.std.proofs.Common.{length, ap, ◌∙◌, arith}
use Rattle.csm_spool.proofs.Onwards as onward
use Rattle.csm_spool.proofs.Whole.{behind, out, broken, halted}
use Rattle.csm_spool.proofs.driving.drive.Goals as goal

pub returns-in-Behind-clause-drive : goal.returns-in-Behind-clause-drive
returns-in-Behind-clause-drive g c =
    let one = c.law_one_finding.ensures in
    let spool = c.law_one_finding-2.ensures in
    behind c.law_one_hearing.ensures c.law_catching_up.ensures.caught_up c.law_catching_up.ensures.never_out one.party one.format spool.state spool.not_blank
    g.D.Disk.told g.E.Disk.told c.args.node c.args.spool c.view.ensures.stands c.progress.ensures.spool (g.met.D.Disk.sound c.args.node.disk) (g.met.E.Disk.sound c.args.spool.disk)
    c.in-Behind.node c.in-Behind.spool c.in-Behind.ensures c.run_on.result c.run_on.ensures.run

pub overflow_cast-entry : goal.overflow_cast-entry
overflow_cast-entry g c =
    let p = c.progress-in-OutOfStep.ensures.spool.progress in
    omega (arith, p.few, p.sized.few, c.plan_count-entry.ensures ∙ ap (λ p. length p.plans) c.progress-in-OutOfStep.ensures.progress)

pub returns-in-OutOfStep-clause-drive : goal.returns-in-OutOfStep-clause-drive
returns-in-OutOfStep-clause-drive g c =
    let one = c.law_one_finding.ensures in
    let spool = c.law_one_finding-2.ensures in
    out c.law_one_hearing.ensures c.law_catching_up.ensures.caught_up c.law_catching_up.ensures.never_out one.party one.format spool.state spool.not_blank
    g.D.Disk.told g.E.Disk.told c.args.node c.args.spool c.view.ensures.stands c.progress.ensures.spool (g.met.D.Disk.sound c.args.node.disk) (g.met.E.Disk.sound c.args.spool.disk)
    c.in-OutOfStep.node c.in-OutOfStep.spool c.plan_count-entry.result (c.plan_count-entry.ensures ∙ ap (λ p. length p.plans) c.progress-in-OutOfStep.ensures.progress) c.in-OutOfStep.ensures

pub returns-in-NodeBroken-clause-drive : goal.returns-in-NodeBroken-clause-drive
returns-in-NodeBroken-clause-drive g c =
    let one = c.law_one_finding.ensures in
    let spool = c.law_one_finding-2.ensures in
    broken c.law_one_hearing.ensures c.law_catching_up.ensures.caught_up c.law_catching_up.ensures.never_out one.party one.format spool.state spool.not_blank
    g.D.Disk.told g.E.Disk.told c.args.node c.args.spool c.view.ensures.stands c.progress.ensures.spool (g.met.D.Disk.sound c.args.node.disk) (g.met.E.Disk.sound c.args.spool.disk)
    c.in-NodeBroken.broken c.in-NodeBroken.spool c.in-NodeBroken.ensures

pub returns-in-NoMemory-clause-drive : goal.returns-in-NoMemory-clause-drive
returns-in-NoMemory-clause-drive g c =
    let one = c.law_one_finding.ensures in
    let spool = c.law_one_finding-2.ensures in
    halted c.law_one_hearing.ensures c.law_catching_up.ensures.caught_up c.law_catching_up.ensures.never_out one.party one.format spool.state spool.not_blank
    g.D.Disk.told g.E.Disk.told c.args.node c.args.spool c.view.ensures.stands c.progress.ensures.spool (g.met.D.Disk.sound c.args.node.disk) (g.met.E.Disk.sound c.args.spool.disk)
    c.in-NoMemory.node c.in-NoMemory.spool c.in-NoMemory.ensures

pub returns-in-Behind-clause-anyhow : goal.returns-in-Behind-clause-anyhow
returns-in-Behind-clause-anyhow g c = onward.behind g.D.Disk.told g.E.Disk.told c.args.node c.args.spool c.in-Behind.node c.in-Behind.spool c.in-Behind.ensures c.run_on.result c.run_on.ensures.anyhow

pub returns-in-OutOfStep-clause-anyhow : goal.returns-in-OutOfStep-clause-anyhow
returns-in-OutOfStep-clause-anyhow g c = onward.out g.D.Disk.told g.E.Disk.told c.args.node c.args.spool c.progress.ensures.spool c.view.ensures.stands c.in-OutOfStep.node c.in-OutOfStep.spool c.plan_count-entry.result c.in-OutOfStep.ensures

pub returns-in-NodeBroken-clause-anyhow : goal.returns-in-NodeBroken-clause-anyhow
returns-in-NodeBroken-clause-anyhow g c = onward.broken g.D.Disk.told g.E.Disk.told c.args.node c.args.spool c.progress.ensures.spool c.in-NodeBroken.broken c.in-NodeBroken.spool c.in-NodeBroken.ensures

pub returns-in-NoMemory-clause-anyhow : goal.returns-in-NoMemory-clause-anyhow
returns-in-NoMemory-clause-anyhow g c = onward.halted g.D.Disk.told g.E.Disk.told c.args.node c.args.spool c.progress.ensures.spool c.view.ensures.stands c.in-NoMemory.node c.in-NoMemory.spool c.in-NoMemory.ensures
