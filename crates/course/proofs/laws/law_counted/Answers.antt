use Rattle.course.proofs.Counting.{texts_counted, events_counted, events_listed, outcomes_counted}
use Rattle.course.proofs.laws.law_counted.Goals as goal

pub returns-clause-texts : goal.returns-clause-texts
returns-clause-texts c = texts_counted

pub returns-clause-events : goal.returns-clause-events
returns-clause-events c = events_counted

pub returns-clause-listed : goal.returns-clause-listed
returns-clause-listed c = events_listed

pub returns-clause-outcomes : goal.returns-clause-outcomes
returns-clause-outcomes c = outcomes_counted
