use Rattle.world_laws.proofs.Nodes.Binding.{input_is}
use Rattle.world_laws.proofs.inputs.law_inputs.Goals as goal

pub returns : goal.returns
returns c = input_is
