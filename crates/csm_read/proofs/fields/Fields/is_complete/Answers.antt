use Rattle.std.proofs.Common.{◌∙◌, sym}
use Rattle.std.specs.Prelude.{is_none}
use Rattle.csm_grammar.specs.Classes.{forms}
use Rattle.csm_grammar.specs.FormSets.{has_form}
use Rattle.csm_read.specs.Slotting.{absent_by}
use Rattle.csm_grammar.proofs.SetLemmas.{any_filtered}
use Rattle.csm_read.proofs.fields.Fields.is_complete.Goals as goal

pub returns : goal.returns
returns c = c.any_whole.ensures ∙ sym (any_filtered (has_form c.args.left.bits) (λ g. is_none (absent_by c.args.self.now.slots g)) forms)
