use Rattle.party_tables.specs.Keys.{same_link, link_key}
use Rattle.party_state.specs.State.{is_usable}
use Rattle.party_tables.proofs.Keys.{test_links}
use Rattle.party_tables.proofs.Distinct.{first_found}
use Rattle.party_state.proofs.table_laws.law_first_link.Goals as goal

pub returns : goal.returns
returns c = λ peer side l p i h. first_found link_key same_link test_links (is_usable peer side) l p.links i.links_once h
