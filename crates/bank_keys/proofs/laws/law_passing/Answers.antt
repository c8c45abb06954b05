use Rattle.bank_keys.proofs.Passes.{passes_keys}
use Rattle.bank_keys.proofs.laws.law_passing.Goals as goal

pub returns : goal.returns
returns c = passes_keys c.law_accept.ensures.held c.law_accept.ensures.accepted c.law_counts.ensures.key
