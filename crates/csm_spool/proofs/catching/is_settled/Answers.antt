use Rattle.std.proofs.Common.{List, ℕ, subst}
use Rattle.std.proofs.lemmas.Bool.{iff_false}
use Rattle.change_code.specs.Code.{IsCode, IsNoCode}
use Rattle.csm_spool.proofs.Settled.{is_nothing, is_something, empty, coded, no_begin, settled, done}
use Rattle.csm_spool.proofs.catching.is_settled.Goals as goal

pub returns-then-is_empty-clause-yes : goal.returns-then-is_empty-clause-yes
returns-then-is_empty-clause-yes g c = λ is. empty c.args.node.now.party c.args.plan.now (is_nothing c.bytes-code.result.now c.args.plan.now.change c.is_empty.result c.bytes-code.ensures c.is_empty.ensures c.if-is_empty.true)

pub settled-requires : goal.settled-requires
settled-requires g c =
    no_begin c.law_one_change.ensures c.args.node.now.party c.args.plan.now c.requires c.in-Ok.coded.format c.in-Ok.coded.change
    (subst (λ (l : List ℕ). IsCode c.in-Ok.coded.format l c.in-Ok.coded.change) c.bytes-code.ensures c.in-Ok.ensures.code)

pub returns-in-Ok-clause-yes : goal.returns-in-Ok-clause-yes
returns-in-Ok-clause-yes g c = λ is.
    settled c.law_one_change.ensures c.args.node.now.party c.args.plan.now c.requires c.in-Ok.coded.format c.in-Ok.coded.change
    (subst (λ (l : List ℕ). IsCode c.in-Ok.coded.format l c.in-Ok.coded.change) c.bytes-code.ensures c.in-Ok.ensures.code) (c.settled.ensures.0 is)

pub returns-in-Ok-clause-no : goal.returns-in-Ok-clause-no
returns-in-Ok-clause-no g c = λ is was.
    iff_false c.settled.ensures is
    (done c.law_one_change.ensures c.args.node.now.party c.args.plan.now c.requires c.in-Ok.coded.format c.in-Ok.coded.change
    (subst (λ (l : List ℕ). IsCode c.in-Ok.coded.format l c.in-Ok.coded.change) c.bytes-code.ensures c.in-Ok.ensures.code) was)

pub unreachable-requires : goal.unreachable-requires
unreachable-requires g c =
    coded c.args.plan.now c.requires (is_something c.bytes-code.result.now c.args.plan.now.change c.is_empty.result c.bytes-code.ensures c.is_empty.ensures c.if-is_empty.false)
    (subst IsNoCode c.bytes-code.ensures (c.in-Err-Bad.ensures.bad c.in-Err-Bad.field-0-is))
