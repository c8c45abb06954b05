use Rattle.std.proofs.Common.{ℕ, ◌∙◌, ap}
use Rattle.std.specs.Prelude.{nat_lt}
use Rattle.std.specs.List.{filter}
use Rattle.csm_grammar.specs.Classes.{times}
use Rattle.csm_grammar.specs.FormSets.{forms_in}
use Rattle.csm_read.proofs.fields.Fields.left.Goals as goal

pub returns : goal.returns
returns c = c.that_have.ensures ∙ ap (λ (n : ℕ). filter (λ f. nat_lt n (times f c.args.tag)) (forms_in c.args.self.now.left.bits)) c.times.ensures
