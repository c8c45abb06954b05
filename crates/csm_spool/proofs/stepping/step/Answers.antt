use Rattle.std.proofs.Common.{subst}
use Rattle.csm_spool.specs.Stepping.{IsStep}
use Rattle.csm_spool.proofs.Entries.{next_at, refusal_leads, message_leads, unstepped}
use Rattle.csm_spool.proofs.stepping.step.Goals as goal

pub refuse-requires-clause-next : goal.refuse-requires-clause-next
refuse-requires-clause-next g c = record {
  entry = c.entry.result.now;
  at = next_at c.args.spool.progress c.progress-progress.result.now c.plan_count.result c.entry.result.now c.progress-progress.ensures.progress c.plan_count.ensures c.entry.ensures.entry;
  leads = refusal_leads c.args.node c.entry.result.now c.in-Refused.node c.in-Refused.plan c.in-Refused.ensures;
}

pub accept-requires-clause-next : goal.accept-requires-clause-next
accept-requires-clause-next g c = record {
  entry = c.entry.result.now;
  at = next_at c.args.spool.progress c.progress-progress.result.now c.plan_count.result c.entry.result.now c.progress-progress.ensures.progress c.plan_count.ensures c.entry.ensures.entry;
  leads = message_leads c.args.node c.entry.result.now c.in-Message.planned c.in-Message.plan c.in-Message.ensures;
}

pub returns-in-NoMemory : goal.returns-in-NoMemory
returns-in-NoMemory g c = unstepped g.D.Disk.told g.E.Disk.told c.args.spool c.args.node c.in-NoMemory.node c.in-NoMemory.ensures

pub returns-in-Refused : goal.returns-in-Refused
returns-in-Refused g c = subst (λ n. IsStep g.D.Disk.told g.E.Disk.told n c.args.spool c.refuse.result) c.in-Refused.ensures.same c.refuse.ensures

pub returns-in-Message : goal.returns-in-Message
returns-in-Message g c = subst (λ n. IsStep g.D.Disk.told g.E.Disk.told n c.args.spool c.accept.result) c.in-Message.ensures.same c.accept.ensures
