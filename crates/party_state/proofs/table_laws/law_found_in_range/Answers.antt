use Rattle.std.proofs.Common.{bytes_eq}
use Rattle.party_tables.specs.Keys.{same_link, same_record, same_answer, link_key, record_key, exchange_key, answer_key}
use Rattle.party_tables.specs.Ranges.{IsLink, IsRecord, IsExchange, IsCentreAnswer}
use Rattle.party_tables.proofs.Each.{find_all}
use Rattle.party_state.proofs.table_laws.law_found_in_range.Goals as goal

pub returns-clause-link : goal.returns-clause-link
returns-clause-link c = λ k l p i h. find_all IsLink link_key same_link k l p.links i.links h

pub returns-clause-key : goal.returns-clause-key
returns-clause-key c = λ k r p i h. find_all IsRecord record_key same_record k r p.keys i.keys h

pub returns-clause-exchange : goal.returns-clause-exchange
returns-clause-exchange c = λ peer e p i h. find_all IsExchange exchange_key bytes_eq peer e p.exchanges i.exchanges h

pub returns-clause-answer : goal.returns-clause-answer
returns-clause-answer c = λ k a p i h. find_all IsCentreAnswer answer_key same_answer k a p.answers i.answers h
