use Rattle.key_journal.proofs.DamageLemmas.{one_damage}
use Rattle.key_journal.proofs.laws.law_one_damage.Goals as goal

pub returns : goal.returns
returns c = λ image first second one two. one_damage image first second one two
