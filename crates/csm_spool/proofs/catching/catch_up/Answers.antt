use Rattle.std.proofs.Common.{◌≡◌, ◌-◌, ◌∙◌, Some, length, slice_get, refl, ap, subst, arith}
use Rattle.csm_spool.proofs.Entries.{settled, wanting, was_settled, not_settled}
use Rattle.csm_spool.proofs.catching.catch_up.Goals as goal

pub returns-then-count-eq0 : goal.returns-then-count-eq0
returns-then-count-eq0 g c =
    let count : c.plan_count-count.result ≡ length c.args.spool.progress.plans = c.plan_count-count.ensures ∙ ap (λ p. length p.plans) c.progress-progress.ensures.progress in
    settled g.D.Disk.told g.E.Disk.told c.args.spool c.args.node (λ plan e last. absurd (omega (arith, last.count, count, c.if-count-eq0.true)))

pub is_settled-requires : goal.is_settled-requires
is_settled-requires g c = c.plan-kept.ensures.kept.change

pub returns-in-Err : goal.returns-in-Err
returns-in-Err g c = wanting g.D.Disk.told g.E.Disk.told c.args.spool c.args.node c.args.node refl

pub returns-in-Ok-true : goal.returns-in-Ok-true
returns-in-Ok-true g c =
    let p = c.args.spool.progress in
    let last = c.plan_count-count.result - 1 in
    let count : c.plan_count-count.result ≡ length p.plans = c.plan_count-count.ensures ∙ ap (λ p. length p.plans) c.progress-progress.ensures.progress in
    let plan_is : slice_get p.plans last ≡ Some c.plan-kept.result.now = subst (λ q. slice_get q.plans last ≡ Some c.plan-kept.result.now) c.progress-progress.ensures.progress c.plan-kept.ensures.plan in
    settled g.D.Disk.told g.E.Disk.told c.args.spool c.args.node
    (was_settled c.args.node.party p last c.plan-kept.result.now (omega (arith, count, c.if-count-eq0.false)) plan_is (c.in-Ok-true.ensures.yes c.in-Ok-true.field-0-test))

pub take_again-requires-clause-count : goal.take_again-requires-clause-count
take_again-requires-clause-count g c =
    let count : c.plan_count-count.result ≡ length c.args.spool.progress.plans = c.plan_count-count.ensures ∙ ap (λ p. length p.plans) c.progress-progress.ensures.progress in
    omega (arith, count, c.if-count-eq0.false)

pub take_again-requires-clause-unsettled : goal.take_again-requires-clause-unsettled
take_again-requires-clause-unsettled g c =
    let p = c.args.spool.progress in
    let last = c.plan_count-count.result - 1 in
    let count : c.plan_count-count.result ≡ length p.plans = c.plan_count-count.ensures ∙ ap (λ p. length p.plans) c.progress-progress.ensures.progress in
    let plan_is : slice_get p.plans last ≡ Some c.plan-kept.result.now = subst (λ q. slice_get q.plans last ≡ Some c.plan-kept.result.now) c.progress-progress.ensures.progress c.plan-kept.ensures.plan in
    not_settled c.args.node.party p last c.plan-kept.result.now (omega (arith, count, c.if-count-eq0.false)) plan_is (c.in-Ok-false.ensures.no c.in-Ok-false.field-0-test)
