use Rattle.std.proofs.Common.{◌≤◌, ◌∙◌, sym, subst, length}
use Rattle.std.proofs.lemmas.Bool.{ltb-false}
use Rattle.csm_spool.proofs.Runs.{begun, on, ends, node_broken, spool_broken, halted, ends_anyhow, node_broken_anyhow, spool_broken_anyhow, halted_anyhow}
use Rattle.csm_spool.proofs.driving.run_on.Goals as goal

pub running-init : goal.running-init
running-init g c = begun g.D.Disk.told g.E.Disk.told c.args.node c.args.spool

pub running-preserved : goal.running-preserved
running-preserved g c =
    on g.D.Disk.told g.E.Disk.told c.args.node c.args.spool c.running.node c.running.spool c.running.invariant c.in-On.after c.in-On.new c.in-On.ensures.answer c.in-On.ensures.keeps

pub returns-in-NodeBroken-clause-run : goal.returns-in-NodeBroken-clause-run
returns-in-NodeBroken-clause-run g c =
    node_broken g.D.Disk.told g.E.Disk.told c.args.node c.args.spool c.running.node c.running.spool c.running.invariant c.in-NodeBroken.broken c.in-NodeBroken.spool c.in-NodeBroken.ensures.answer c.progress-in-NodeBroken.ensures.spool
    c.in-NodeBroken.ensures.keeps

pub returns-in-SpoolBroken-clause-run : goal.returns-in-SpoolBroken-clause-run
returns-in-SpoolBroken-clause-run g c =
    spool_broken g.D.Disk.told g.E.Disk.told c.args.node c.args.spool c.running.node c.running.spool c.running.invariant c.in-SpoolBroken.node c.in-SpoolBroken.broken c.in-SpoolBroken.ensures.answer c.view.ensures.stands
    c.in-SpoolBroken.ensures.keeps

pub returns-in-NoMemory-clause-run : goal.returns-in-NoMemory-clause-run
returns-in-NoMemory-clause-run g c =
    halted g.D.Disk.told g.E.Disk.told c.args.node c.args.spool c.running.node c.running.spool c.running.invariant c.in-NoMemory.node c.in-NoMemory.spool c.in-NoMemory.ensures.answer.0 c.in-NoMemory.ensures.answer.1
    c.view-in-NoMemory.ensures.stands c.progress-in-NoMemory.ensures.spool c.in-NoMemory.ensures.keeps

pub returns-clause-run : goal.returns-clause-run
returns-clause-run g c =
    ends g.D.Disk.told g.E.Disk.told c.args.node c.args.spool c.running.node c.running.spool c.running.invariant c.view-2.ensures.stands c.progress-2.ensures.spool
    (subst (λ p. length p.entries ≤ length p.plans) c.progress.ensures.progress (ltb-false (length c.progress.result.now.plans) (length c.progress.result.now.entries) (sym c.has_next.ensures ∙ c.running-test.false)))

pub returns-in-NodeBroken-clause-anyhow : goal.returns-in-NodeBroken-clause-anyhow
returns-in-NodeBroken-clause-anyhow g c =
    node_broken_anyhow g.D.Disk.told g.E.Disk.told c.args.node c.args.spool c.running.node c.running.spool c.running.invariant c.in-NodeBroken.broken c.in-NodeBroken.spool c.in-NodeBroken.ensures.answer
    c.progress-in-NodeBroken.ensures.spool c.in-NodeBroken.ensures.keeps

pub returns-in-SpoolBroken-clause-anyhow : goal.returns-in-SpoolBroken-clause-anyhow
returns-in-SpoolBroken-clause-anyhow g c =
    spool_broken_anyhow g.D.Disk.told g.E.Disk.told c.args.node c.args.spool c.running.node c.running.spool c.running.invariant c.in-SpoolBroken.node c.in-SpoolBroken.broken c.in-SpoolBroken.ensures.answer c.view.ensures.stands c.in-SpoolBroken.ensures.keeps

pub returns-in-NoMemory-clause-anyhow : goal.returns-in-NoMemory-clause-anyhow
returns-in-NoMemory-clause-anyhow g c =
    halted_anyhow g.D.Disk.told g.E.Disk.told c.args.node c.args.spool c.running.node c.running.spool c.running.invariant c.in-NoMemory.node c.in-NoMemory.spool c.in-NoMemory.ensures.answer.0 c.in-NoMemory.ensures.answer.1
    c.view-in-NoMemory.ensures.stands c.progress-in-NoMemory.ensures.spool c.in-NoMemory.ensures.keeps

pub returns-clause-anyhow : goal.returns-clause-anyhow
returns-clause-anyhow g c = ends_anyhow g.D.Disk.told g.E.Disk.told c.args.node c.args.spool c.running.node c.running.spool c.running.invariant c.view-2.ensures.stands c.progress-2.ensures.spool
