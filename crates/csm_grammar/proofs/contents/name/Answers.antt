use Rattle.std.proofs.Common.{ap, ◌∙◌}
use Rattle.std.specs.Prelude.{option_map}
use Rattle.csm_grammar.specs.Values.Value.{AName}
use Rattle.csm_grammar.proofs.NamesReading.{name_read}
use Rattle.csm_grammar.proofs.contents.name.Goals as goal

pub returns : goal.returns
returns c = ap (option_map AName) (c.ok.ensures.value ∙ name_read c.args.contents.now c.read.result c.read.ensures.spelled)
