use Rattle.std.proofs.Common.{◌≡◌, true, false, length, ◌∙◌, sym, ap}
use Rattle.std.proofs.lemmas.Bool.{eqb-true}
use Rattle.audit_check.specs.Compared.{Compared}
use Rattle.audit_check.proofs.Comparing.{same_at_end, self_same}
use Rattle.audit_check.proofs.comparison.Comparison.is_same.Goals as goal

pub returns-then-self-clause-same : goal.returns-then-self-clause-same
returns-then-self-clause-same c = λ whole made given is.
    let view = c.self.view_is ∙ is in
    same_at_end made given (sym (ap (λ (x : Compared). x.same) view) ∙ c.if-self.true) (sym (ap (λ (x : Compared). length x.rest) view) ∙ eqb-true (length c.self.inside.rest.now) 0 (sym c.is_empty.ensures ∙ whole))

pub returns-else-self-clause-differs : goal.returns-else-self-clause-differs
returns-else-self-clause-differs c = λ differs made given is same.
    let lie : true ≡ false = sym (self_same made given same).0 ∙ (sym (ap (λ (x : Compared). x.same) (c.self.view_is ∙ is)) ∙ differs) in
    cc lie
