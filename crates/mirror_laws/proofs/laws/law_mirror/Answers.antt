use Rattle.mirror_laws.proofs.Runs.{counted, happens_once, agreed, ended}
use Rattle.mirror_laws.proofs.laws.law_mirror.Goals as goal

pub returns-clause-counts : goal.returns-clause-counts
returns-clause-counts c = λ start events. counted start events c.law_one_key_per_count.ensures

pub returns-clause-once : goal.returns-clause-once
returns-clause-once c = λ start events. happens_once start events c.law_once.ensures

pub returns-clause-agreement : goal.returns-clause-agreement
returns-clause-agreement c = λ start events. agreed start events c.law_agreement.ensures

pub returns-clause-ended : goal.returns-clause-ended
returns-clause-ended c = λ start events. ended start events c.law_ended.ensures
