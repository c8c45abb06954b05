use Rattle.std.proofs.Common.{◌∙◌}
use Rattle.change_code.specs.Code.{code_of_change}
use Rattle.csm_spool.proofs.Codes.{inside_code, framed_code, framed_change}
use Rattle.csm_spool.proofs.planning.code_of.Goals as goal

pub body_of-requires : goal.body_of-requires
body_of-requires g c =
    let p = c.args.planned.now in
    (code_of_change p.node.format p.plan.edits, c.bytes.ensures ∙ c.in-Some.ensures.is)

pub code_anew-requires : goal.code_anew-requires
code_anew-requires g c =
    let p = c.args.planned.now in
    (p.node.format, p.plan.edits, inside_code p.node.format p.plan.edits c.in-Some.frame.now c.in-Some.ensures c.body_of.result.now (c.body_of.ensures (code_of_change p.node.format p.plan.edits) (c.bytes.ensures ∙ c.in-Some.ensures.is)))

pub returns-in-Some-clause-code : goal.returns-in-Some-clause-code
returns-in-Some-clause-code g c =
    let p = c.args.planned.now in
    framed_code p.node.format p.plan.edits c.in-Some.frame.now c.in-Some.ensures c.body_of.result.now (c.body_of.ensures (code_of_change p.node.format p.plan.edits) (c.bytes.ensures ∙ c.in-Some.ensures.is)) c.code_anew.result c.code_anew.ensures

pub returns-in-Some-clause-change : goal.returns-in-Some-clause-change
returns-in-Some-clause-change g c =
    let p = c.args.planned.now in
    framed_change p.node.format p.plan.edits c.in-Some.frame.now c.in-Some.ensures c.body_of.result.now (c.body_of.ensures (code_of_change p.node.format p.plan.edits) (c.bytes.ensures ∙ c.in-Some.ensures.is)) c.code_anew.result c.code_anew.ensures
