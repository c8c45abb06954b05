use Rattle.call_laws.proofs.CallEvents.{command_is_call, arrival_is_call, compaction_is_call, migration_is_call}
use Rattle.call_laws.proofs.calls.law_calls.Goals as goal

pub returns-clause-commands : goal.returns-clause-commands
returns-clause-commands g c = λ old new name.
    command_is_call c.law_one_space.ensures c.law_one_finding.ensures.not_blank c.law_one_finding.ensures.undamaged name (g.H.Shelf.entry old name) (g.H.Shelf.entry new name)

pub returns-clause-arrivals : goal.returns-clause-arrivals
returns-clause-arrivals g c = λ old new name.
    arrival_is_call c.law_one_space.ensures c.law_one_finding.ensures.not_blank c.law_one_finding.ensures.undamaged name (g.H.Shelf.entry old name) (g.H.Shelf.entry new name)

pub returns-clause-compactions : goal.returns-clause-compactions
returns-clause-compactions g c = λ old new name.
    compaction_is_call c.law_one_space.ensures c.law_one_finding.ensures.not_blank c.law_one_finding.ensures.undamaged (g.H.Shelf.entry old name) (g.H.Shelf.entry new name)

pub returns-clause-migrations : goal.returns-clause-migrations
returns-clause-migrations g c = λ old new name.
    migration_is_call c.law_one_space.ensures c.law_one_finding.ensures.not_blank c.law_one_finding.ensures.undamaged (g.H.Shelf.entry old name) (g.H.Shelf.entry new name)
