use Rattle.std.proofs.Common.{◌≡◌, ◌∙◌, ◌<◌, ◌^◌, true, sym, subst, rules, arith}
use Rattle.spool_store.specs.Plans.{is_number, IsChange}
use Rattle.spool_store.proofs.Bytes.{plan_of, same_parts}
use Rattle.spool_store.proofs.parsing.read_plan.Goals as goal
use Rattle.spool_store.proofs.parsing.read_plan.Goals.{then-not-is_number-via-then-not-is_number, then-not-is_number-via-else-not-is_number+in_ok-is_change+then-not-branch}

pub returns-then-not-is_number-clause-no : goal.returns-then-not-is_number-clause-no
returns-then-not-is_number-clause-no c = λ none p plan.
    let small : c.in-Some.parts.number < 2 ^ 16 = search rules in
    let same = same_parts c.args.body.now c.in-Some.parts.reply.now c.in-Some.parts.change.now c.in-Some.parts.number p small c.in-Some.ensures.short c.in-Some.ensures.some plan in
    let number : is_number c.in-Some.parts.number ≡ true = subst (λ n. is_number n ≡ true) (sym same.0) plan.plan.number in
    let change : IsChange c.in-Some.parts.change.now = subst IsChange (sym same.1) plan.plan.change in
    elim c.then-not-is_number.branch [
      | then-not-is_number-via-then-not-is_number w ↦ grind (arith, number, c.is_number.ensures)
      | then-not-is_number-via-else-not-is_number+in_ok-is_change+then-not-branch w ↦ w.in_ok-is_change.ensures.no w.if-not-branch.true change
    ]

pub returns-clause-yes : goal.returns-clause-yes
returns-clause-yes c =
    let parts = c.in-Some.parts in
    plan_of c.args.body.now parts.reply.now parts.change.now c.in_ok-reply.reply c.in_ok-change.change parts.number c.in-Some.ensures.some (omega (arith, c.if-body-gt-LONGEST_PLAN.false))
    (sym c.is_number.ensures ∙ c.if-not-is_number.false) (c.in_ok-is_change.ensures.yes c.if-not-branch.false) c.in_ok-reply.ensures c.in_ok-change.ensures
