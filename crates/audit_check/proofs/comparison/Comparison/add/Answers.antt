use Rattle.std.proofs.Common.{◌∙◌, sym, ap, arith}
use Rattle.audit_check.specs.Compared.{Compared}
use Rattle.audit_check.proofs.Comparing.{added_apart, added_so, common_second}
use Rattle.audit_check.proofs.comparison.Comparison.add.Goals as goal

pub returns-then-not-self : goal.returns-then-not-self
returns-then-not-self c = λ made given is. is ∙ sym (added_apart made c.args.more.now given (sym (ap (λ (x : Compared). x.same) (c.self.view_is ∙ is)) ∙ c.if-not-self.true))

pub split_at-requires : goal.split_at-requires
split_at-requires c = let most = common_second c.args.more.now c.self.inside.rest.now in omega (arith, most, c.common_length-count.ensures)

pub returns : goal.returns
returns c = λ made given is.
    added_so made c.args.more.now given (record { rest = c.self.inside.rest.now; same = c.self.inside.same }) (c.self.view_is ∙ is) c.if-not-self.false
    c.split_at.result.1.now c.common_length-count.result c.common_length-count.ensures c.split_at.ensures.back
