use Rattle.key_journal.proofs.SameLemmas.{same_holds}
use Rattle.key_journal.proofs.laws.law_one_list.Goals as goal

pub returns : goal.returns
returns c = λ image first second one two. same_holds image first second one two
