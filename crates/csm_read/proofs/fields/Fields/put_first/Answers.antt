use Rattle.std.proofs.Common.{◌∙◌, length-set, Some, None}
use Rattle.csm_read.proofs.Denoting.{cleared_at, renumbered_at, written_at, slot_written, second_written}
use Rattle.csm_read.proofs.fields.Fields.put_first.Goals as goal

pub invariant_of-self : goal.invariant_of-self
invariant_of-self c = (
  length-set c.args.self.now.slots c.place.result None ∙ c.args.self.now.sized,
  (c.args.self.now.as_many, (cleared_at c.args.self.now.slots c.args.self.now.numbers c.args.tag c.place.result c.place.ensures.place c.args.self.now.sized c.args.self.now.denoted, tt)),
)

pub invariant_of-self-2 : goal.invariant_of-self-2
invariant_of-self-2 c = (
  length-set c.args.self.now.slots c.place.result None ∙ c.args.self.now.sized,
  (
    length-set c.args.self.now.numbers c.place-2.result c.args.number ∙ c.args.self.now.as_many,
    (renumbered_at c.args.self.now.slots c.args.self.now.numbers c.args.tag c.args.number c.place.result c.place-2.result c.place.ensures.place c.place-2.ensures.place c.args.self.now.sized c.args.self.now.as_many c.args.self.now.denoted, tt),
  ),
)

pub invariant_of-self-3 : goal.invariant_of-self-3
invariant_of-self-3 c = (
  length-set _ c.place-3.result (Some c.args.contents) ∙ (length-set c.args.self.now.slots c.place.result None ∙ c.args.self.now.sized),
  (
    length-set c.args.self.now.numbers c.place-2.result c.args.number ∙ c.args.self.now.as_many,
    (
      written_at c.args.self.now.slots c.args.self.now.numbers c.args.tag c.args.contents c.args.number c.place.result c.place-2.result c.place-3.result c.place.ensures.place c.place-2.ensures.place c.place-3.ensures.place c.args.self.now.sized c.args.self.now.as_many c.args.self.now.denoted c.requires,
      tt,
    ),
  ),
)

pub returns-clause-contents : goal.returns-clause-contents
returns-clause-contents c = λ t. slot_written c.args.self.now.slots c.args.tag c.args.contents t c.place.result c.place-3.result c.place.ensures.place c.place-3.ensures.place c.args.self.now.sized

pub returns-clause-second : goal.returns-clause-second
returns-clause-second c = second_written c.args.self.now.slots c.args.tag c.args.contents c.place.result c.place-3.result c.place.ensures.place c.place-3.ensures.place
