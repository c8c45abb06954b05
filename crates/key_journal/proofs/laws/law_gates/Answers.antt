use Rattle.key_journal.proofs.GateLemmas.{begins_all, begins_front, either_begins, next_at, none_at}
use Rattle.key_journal.proofs.laws.law_gates.Goals as goal

pub returns-clause-begins : goal.returns-clause-begins
returns-clause-begins c = begins_all

pub returns-clause-either : goal.returns-clause-either
returns-clause-either c = either_begins

pub returns-clause-next : goal.returns-clause-next
returns-clause-next c = next_at

pub returns-clause-end : goal.returns-clause-end
returns-clause-end c = none_at

pub returns-clause-front : goal.returns-clause-front
returns-clause-front c = begins_front
