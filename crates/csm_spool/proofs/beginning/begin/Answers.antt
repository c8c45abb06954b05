use Rattle.spool_store.specs.Beginning.{begun_disk}
use Rattle.csm_spool.proofs.Begun.{stays}
use Rattle.csm_spool.proofs.beginning.begin.Goals as goal

pub returns-clause-in_step : goal.returns-clause-in_step
returns-clause-in_step g c =
    stays (λ image s holds. c.law_one_finding.ensures.not_blank image s holds) c.law_steps.ensures.begins g.D.Disk.told g.E.Disk.told c.args.batch.now.0 c.args.batch.now.1 c.args.node.now c.args.disk c.begin.result c.begin.ensures
    (g.met.E.Disk.sound c.args.disk) (g.met.E.Disk.sound (begun_disk c.begin.result))
