use Rattle.audit_check.proofs.Running.{runs_lawful}
use Rattle.audit_check.proofs.laws.law_runs_lawful.Goals as goal

pub returns : goal.returns
returns c = runs_lawful c.law_lawful.ensures c.law_played_honest.ensures
