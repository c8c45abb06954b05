use Rattle.std.specs.Prelude.{nat_lt}
use Rattle.csm_grammar.specs.Classes.{times}
use Rattle.csm_grammar.proofs.SetLemmas.{having_forms}
use Rattle.csm_grammar.proofs.form_set.FormSet.that_have.Goals as goal

pub returns : goal.returns
returns c = having_forms c.args.self.bits c.having.result (λ f. nat_lt c.args.count (times f c.args.tag)) c.having.ensures.forms
