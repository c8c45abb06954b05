use Rattle.std.proofs.Common.{◌∙◌, length-set, Some, None}
use Rattle.csm_read.proofs.Denoting.{second_cleared, second_renumbered, second_denoted}
use Rattle.csm_read.proofs.fields.Fields.put_second.Goals as goal

pub invariant_of-self : goal.invariant_of-self
invariant_of-self c = (
  length-set c.args.self.now.slots 27 None ∙ c.args.self.now.sized,
  (c.args.self.now.as_many, (second_cleared c.args.self.now.slots c.args.self.now.numbers c.args.self.now.sized c.args.self.now.denoted, tt)),
)

pub invariant_of-self-2 : goal.invariant_of-self-2
invariant_of-self-2 c = (
  length-set c.args.self.now.slots 27 None ∙ c.args.self.now.sized,
  (
    length-set c.args.self.now.numbers 27 c.args.number ∙ c.args.self.now.as_many,
    (second_renumbered c.args.self.now.slots c.args.self.now.numbers c.args.number c.args.self.now.sized c.args.self.now.denoted, tt),
  ),
)

pub invariant_of-self-3 : goal.invariant_of-self-3
invariant_of-self-3 c = (
  length-set _ 27 (Some c.args.contents) ∙ (length-set c.args.self.now.slots 27 None ∙ c.args.self.now.sized),
  (
    length-set c.args.self.now.numbers 27 c.args.number ∙ c.args.self.now.as_many,
    (second_denoted c.args.self.now.slots c.args.self.now.numbers c.args.contents c.args.number c.args.self.now.sized c.args.self.now.as_many c.args.self.now.denoted c.requires, tt),
  ),
)
