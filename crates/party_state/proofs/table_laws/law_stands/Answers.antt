use Rattle.std.proofs.Common.{List, bytes_eq, ap}
use Rattle.party_tables.specs.declared.link.LinkRec.{LinkRec}
use Rattle.party_tables.specs.declared.key.KeyRec.{KeyRec}
use Rattle.party_tables.specs.declared.exchange.Exchange.{Exchange}
use Rattle.party_tables.specs.declared.answer.Answer.{Answer}
use Rattle.party_tables.specs.Keys.{same_link, same_record, same_answer, link_key, record_key, exchange_key, answer_key}
use Rattle.party_tables.proofs.Tables.{put_stands}
use Rattle.party_tables.proofs.Lengths.{drop_absent}
use Rattle.party_state.proofs.table_laws.law_stands.Goals as goal

pub returns-clause-link : goal.returns-clause-link
returns-clause-link c = λ l p h. ap (λ (rows : List LinkRec). record p { links = rows }) (put_stands link_key same_link l p.links h)

pub returns-clause-key : goal.returns-clause-key
returns-clause-key c = λ r p h. ap (λ (rows : List KeyRec). record p { keys = rows }) (put_stands record_key same_record r p.keys h)

pub returns-clause-exchange : goal.returns-clause-exchange
returns-clause-exchange c = λ e p h. ap (λ (rows : List Exchange). record p { exchanges = rows }) (put_stands exchange_key bytes_eq e p.exchanges h)

pub returns-clause-answer : goal.returns-clause-answer
returns-clause-answer c = λ a p h. ap (λ (rows : List Answer). record p { answers = rows }) (put_stands answer_key same_answer a p.answers h)

pub returns-clause-no_link : goal.returns-clause-no_link
returns-clause-no_link c = λ k p h. ap (λ (rows : List LinkRec). record p { links = rows }) (drop_absent link_key same_link k p.links h)

pub returns-clause-no_exchange : goal.returns-clause-no_exchange
returns-clause-no_exchange c = λ peer p h. ap (λ (rows : List Exchange). record p { exchanges = rows }) (drop_absent exchange_key bytes_eq peer p.exchanges h)
