use Rattle.std.proofs.Common.{bytes_eq}
use Rattle.party_tables.specs.Keys.{same_link, same_record, same_answer, link_key, record_key, exchange_key, answer_key}
use Rattle.party_tables.proofs.Keys.{test_idents, test_links, test_records, test_answers}
use Rattle.party_tables.proofs.Tables.{find_key}
use Rattle.party_state.proofs.table_laws.law_found.Goals as goal

pub returns-clause-link : goal.returns-clause-link
returns-clause-link c = λ k l p h. find_key link_key same_link test_links k l p.links h

pub returns-clause-key : goal.returns-clause-key
returns-clause-key c = λ k r p h. find_key record_key same_record test_records k r p.keys h

pub returns-clause-exchange : goal.returns-clause-exchange
returns-clause-exchange c = λ peer e p h. find_key exchange_key bytes_eq test_idents peer e p.exchanges h

pub returns-clause-answer : goal.returns-clause-answer
returns-clause-answer c = λ k a p h. find_key answer_key same_answer test_answers k a p.answers h
