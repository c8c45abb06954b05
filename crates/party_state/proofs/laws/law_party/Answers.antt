use Rattle.party_state.proofs.Editing.{party_apply}
use Rattle.party_state.proofs.laws.law_party.Goals as goal

pub returns-clause-stays : goal.returns-clause-stays
returns-clause-stays c = party_apply
