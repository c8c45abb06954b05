use Rattle.std.proofs.Common.{subst, sym}
use Rattle.member.specs.Member.{after}
use Rattle.node_core.specs.Turns.{member_of}
use Rattle.csm_spool.specs.declared.stepping.Stepped.TheVariants as stepped
use Rattle.csm_spool.specs.Stepping.{IsStep}
use Rattle.csm_spool.proofs.Entries.{within, accepted, node_broken, spool_broken, no_memory}
use Rattle.csm_spool.proofs.stepping.accept.Goals as goal

pub commit-requires-clause-next : goal.commit-requires-clause-next
commit-requires-clause-next g c = within c.args.spool.progress c.requires.next.entry c.requires.next.at

pub returns-in-Broken : goal.returns-in-Broken
returns-in-Broken g c =
    let planned = c.args.planned in
    subst (λ n. IsStep g.D.Disk.told g.E.Disk.told planned.node c.args.spool (stepped.SpoolBroken n c.in-Broken.broken)) (sym c.cancel.ensures)
    (spool_broken g.D.Disk.told g.E.Disk.told c.args.spool c.args.plan planned.node (after (member_of planned.node) planned.plan.edits) c.requires.next c.in-Broken.broken c.in-Broken.ensures)

pub returns-in-NoMemory : goal.returns-in-NoMemory
returns-in-NoMemory g c =
    let planned = c.args.planned in
    subst (λ n. IsStep g.D.Disk.told g.E.Disk.told planned.node c.args.spool (stepped.NoMemory n c.in-NoMemory.spool)) (sym c.cancel-in-NoMemory.ensures)
    (no_memory g.D.Disk.told g.E.Disk.told c.args.spool c.args.plan planned.node (after (member_of planned.node) planned.plan.edits) c.requires.next c.in-NoMemory.spool c.in-NoMemory.ensures)

pub returns-in-Ok : goal.returns-in-Ok
returns-in-Ok g c = accepted g.D.Disk.told g.E.Disk.told c.args.spool c.args.plan c.args.planned c.requires.next c.in-Done.spool c.in-Done.ensures c.in-Ok.node c.in-Ok.ensures

pub returns-in-Err : goal.returns-in-Err
returns-in-Err g c = node_broken g.D.Disk.told g.E.Disk.told c.args.spool c.args.plan c.args.planned c.requires.next c.in-Done.spool c.in-Done.ensures c.in-Err.broken c.in-Err.ensures
