use Rattle.csm_spool.proofs.LastPlans.{caught_up, never_out}
use Rattle.csm_spool.proofs.laws.law_catching_up.Goals as goal

pub returns-clause-caught_up : goal.returns-clause-caught_up
returns-clause-caught_up c = caught_up c.law_settled_only_behind.ensures c.law_one_hearing.ensures

pub returns-clause-never_out : goal.returns-clause-never_out
returns-clause-never_out c = never_out c.law_settled_only_behind.ensures c.law_one_hearing.ensures
