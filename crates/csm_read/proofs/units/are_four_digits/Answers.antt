use Rattle.std.proofs.Common.{ap, ◌∙◌}
use Rattle.std.specs.Prelude.{is_ok}
use Rattle.csm_read.proofs.UnitLemmas.{four_digits}
use Rattle.csm_read.proofs.units.are_four_digits.Goals as goal

pub returns : goal.returns
returns c = c.is_ok.ensures.value ∙ ap is_ok c.from_hex.ensures ∙ four_digits c.args.bytes.now
