use Rattle.party_tables.proofs.Keys.{test_links, test_records, test_answers}
use Rattle.party_state.proofs.table_laws.law_same.Goals as goal

pub returns-clause-link : goal.returns-clause-link
returns-clause-link c = test_links.decides

pub returns-clause-key : goal.returns-clause-key
returns-clause-key c = test_records.decides

pub returns-clause-answer : goal.returns-clause-answer
returns-clause-answer c = test_answers.decides
