use Rattle.std.proofs.Common.{not}
use Rattle.party_tables.specs.declared.key.KeyRec.{KeyRec}
use Rattle.party_tables.specs.Keys.{same_link, same_record, link_key, record_key}
use Rattle.party_tables.specs.Statuses.{is_ended}
use Rattle.party_tables.proofs.Lengths.{length_put, length_filter_most, length_drop_most}
use Rattle.party_state.proofs.table_laws.law_counts.Goals as goal

pub returns-clause-link : goal.returns-clause-link
returns-clause-link c = λ l p. length_put link_key same_link l p.links

pub returns-clause-key : goal.returns-clause-key
returns-clause-key c = λ r p. length_put record_key same_record r p.keys

pub returns-clause-drop_link : goal.returns-clause-drop_link
returns-clause-drop_link c = λ k p. length_drop_most link_key same_link k p.links

pub returns-clause-drop_ended : goal.returns-clause-drop_ended
returns-clause-drop_ended c = λ p. length_filter_most (λ (k : KeyRec). not (is_ended k.status)) p.keys
