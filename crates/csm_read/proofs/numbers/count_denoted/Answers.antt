use Rattle.std.proofs.Common.{ℕ, Some, ap, ◌∙◌}
use Rattle.csm_grammar.specs.Values.{value_of}
use Rattle.csm_grammar.specs.Values.Value.{ANumber}
use Rattle.csm_grammar.specs.Values.Kind.{OfCount}
use Rattle.csm_read.proofs.Denoting.{number_stands}
use Rattle.csm_read.proofs.numbers.count_denoted.Goals as goal

pub returns-in-Some : goal.returns-in-Some
returns-in-Some c = number_stands (value_of OfCount c.args.contents.now) c.value.result (ap (λ (n : ℕ). Some (ANumber n)) c.value.ensures.value ∙ c.in-Some.ensures)
