use Rattle.std.proofs.Common.{ap, ◌∙◌}
use Rattle.std.specs.Prelude.{option_map}
use Rattle.csm_grammar.specs.Values.Value.{ANumber}
use Rattle.csm_grammar.proofs.ContentsReading.{count_read}
use Rattle.csm_grammar.proofs.contents.count.Goals as goal

pub returns : goal.returns
returns c = ap (option_map ANumber) c.ok.ensures.value ∙ count_read c.args.contents.now c.read.result c.read.ensures
