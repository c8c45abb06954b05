use Rattle.std.proofs.Common.{sym, ◌∙◌, refl, arith}
use Rattle.pay_auth.proofs.Coded.{none_short, none_lacking, none_longer, some_body}
use Rattle.pay_auth.proofs.body.read_rest.Goals as goal

pub returns-in_default-clause-no : goal.returns-in_default-clause-no
returns-in_default-clause-no c = λ is. none_short _ _ refl c.in_default.ensures

pub returns-in_default-2-clause-no : goal.returns-in_default-2-clause-no
returns-in_default-2-clause-no c =
    let lacks = rw c.in_default-2.is at c.in_ok-entries.ensures in
    λ is. none_lacking _ _ _ c.in-Some.n refl (omega arith) c.in-Some.ensures lacks

pub returns-then-is_empty-clause-yes : goal.returns-then-is_empty-clause-yes
returns-then-is_empty-clause-yes c =
    let starts = rw c.in-Some-2.is at c.in_ok-entries.ensures in
    some_body _ _ _ _ c.in-Some.n c.in-Some-2.entries.items refl (omega arith) c.in-Some.ensures starts (sym c.is_empty.ensures ∙ c.if-is_empty.true)

pub returns-else-is_empty-clause-no : goal.returns-else-is_empty-clause-no
returns-else-is_empty-clause-no c =
    let starts = rw c.in-Some-2.is at c.in_ok-entries.ensures in
    λ is. none_longer _ _ _ _ c.in-Some.n c.in-Some-2.entries.items refl (omega arith) c.in-Some.ensures starts (sym c.is_empty.ensures ∙ c.if-is_empty.false)
