use Rattle.std.proofs.Common.{◌∙◌}
use Rattle.csm_read.proofs.Taking.{taken, unnamed_fault, named_field, good_contents, bad_contents}
use Rattle.csm_read.proofs.fields.Fields.take.Goals as goal

pub returns-in_default-of : goal.returns-in_default-of
returns-in_default-of c = λ fs k. unnamed_fault fs c.args.place c.args.token.now c.in-Some.name.now c.unnamed.result c.in-Some.ensures.0 c.in-Some.ensures.1 c.in_default-of.ensures c.unnamed.ensures

pub returns-in-Some-tag_fault : goal.returns-in-Some-tag_fault
returns-in-Some-tag_fault c = λ fs k.
    let n = named_field fs c.args.place c.args.token.now c.in-Some.name.now c.in-Some.contents.now c.in-Some-of.tag c.in-Some.ensures.0 c.in-Some.ensures.1 c.in-Some.ensures.2 c.in-Some-of.ensures in
    n.fault ∙ c.in-Some-tag_fault.ensures fs c.in-Some.contents.now k

pub returns-in-Some-denoted : goal.returns-in-Some-denoted
returns-in-Some-denoted c = λ fs k.
    let n = named_field fs c.args.place c.args.token.now c.in-Some.name.now c.in-Some.contents.now c.in-Some-of.tag c.in-Some.ensures.0 c.in-Some.ensures.1 c.in-Some.ensures.2 c.in-Some-of.ensures in
    let none = n.fault ∙ c.in_default-tag_fault.ensures fs c.in-Some.contents.now k ∙ good_contents c.in-Some-of.tag c.args.place c.in-Some.contents.now c.in-Some-denoted.ensures.some in
    (none, taken c.args.self.now.slots c.put.new.self.slots c.args.self.now.left.bits c.put.new.self.left.bits fs c.args.place c.args.token.now (record { tag = c.in-Some-of.tag; contents = c.in-Some.contents.now }) k none n.field c.put.ensures.contents c.put.ensures.forms)

pub returns-in-None : goal.returns-in-None
returns-in-None c = λ fs k.
    let n = named_field fs c.args.place c.args.token.now c.in-Some.name.now c.in-Some.contents.now c.in-Some-of.tag c.in-Some.ensures.0 c.in-Some.ensures.1 c.in-Some.ensures.2 c.in-Some-of.ensures in
    n.fault ∙ c.in_default-tag_fault.ensures fs c.in-Some.contents.now k ∙ bad_contents c.in-Some-of.tag c.args.place c.in-Some.contents.now c.bad_contents.result c.in-None.ensures c.bad_contents.ensures
