use Rattle.std.proofs.Common.{◌≡◌, ◌∙◌, Some, slice_get, subst}
use Rattle.std.proofs.lemmas.Bool.{iff_false}
use Rattle.csm_spool.specs.Catching.{IsCatching}
use Rattle.csm_spool.proofs.Entries.{out, wanting, out_refused, out_message, takes}
use Rattle.csm_spool.proofs.catching.take_again.Goals as goal

pub returns-in-NoMemory : goal.returns-in-NoMemory
returns-in-NoMemory g c = wanting g.D.Disk.told g.E.Disk.told c.args.spool c.args.node c.in-NoMemory.node c.in-NoMemory.ensures

pub returns-in-Refused : goal.returns-in-Refused
returns-in-Refused g c =
    let p = c.args.spool.progress in
    let plan_is : slice_get p.plans c.args.last ≡ Some c.plan-kept.result.now = subst (λ q. slice_get q.plans c.args.last ≡ Some c.plan-kept.result.now) c.progress-progress.ensures.progress c.plan-kept.ensures.plan in
    let entry_is : slice_get p.entries c.args.last ≡ Some c.entry.result.now = subst (λ q. slice_get q.entries c.args.last ≡ Some c.entry.result.now) c.progress-progress.ensures.progress c.entry.ensures.entry in
    out g.D.Disk.told g.E.Disk.told c.args.spool c.args.node c.in-Refused.node c.in-Refused.ensures.same
    (out_refused c.args.node p c.args.last c.plan-kept.result.now c.entry.result.now c.requires.count plan_is entry_is (c.requires.unsettled c.plan-kept.result.now plan_is) c.in-Refused.node _ c.in-Refused.ensures)

pub take_up-requires : goal.take_up-requires
take_up-requires g c =
    let p = c.args.spool.progress in
    let plan_is : slice_get p.plans c.args.last ≡ Some c.plan-kept.result.now = subst (λ q. slice_get q.plans c.args.last ≡ Some c.plan-kept.result.now) c.progress-progress.ensures.progress c.plan-kept.ensures.plan in
    let entry_is : slice_get p.entries c.args.last ≡ Some c.entry.result.now = subst (λ q. slice_get q.entries c.args.last ≡ Some c.entry.result.now) c.progress-progress.ensures.progress c.entry.ensures.entry in
    takes c.args.node p c.args.last c.plan-kept.result.now c.entry.result.now c.requires.count plan_is entry_is (c.requires.unsettled c.plan-kept.result.now plan_is) c.in-Message.planned c.in-Message.plan c.in-Message.ensures
    (c.is_same.ensures.0 c.if-is_same.true)

pub returns-then-is_same : goal.returns-then-is_same
returns-then-is_same g c = subst (λ n. IsCatching g.D.Disk.told g.E.Disk.told n c.args.spool c.take_up.result) c.in-Message.ensures.same c.take_up.ensures

pub returns : goal.returns
returns g c =
    let p = c.args.spool.progress in
    let plan_is : slice_get p.plans c.args.last ≡ Some c.plan-kept.result.now = subst (λ q. slice_get q.plans c.args.last ≡ Some c.plan-kept.result.now) c.progress-progress.ensures.progress c.plan-kept.ensures.plan in
    let entry_is : slice_get p.entries c.args.last ≡ Some c.entry.result.now = subst (λ q. slice_get q.entries c.args.last ≡ Some c.entry.result.now) c.progress-progress.ensures.progress c.entry.ensures.entry in
    out g.D.Disk.told g.E.Disk.told c.args.spool c.args.node c.cancel.result (c.cancel.ensures ∙ c.in-Message.ensures.same)
    (out_message c.args.node p c.args.last c.plan-kept.result.now c.entry.result.now c.requires.count plan_is entry_is (c.requires.unsettled c.plan-kept.result.now plan_is) c.in-Message.planned c.in-Message.plan c.in-Message.ensures
    (iff_false c.is_same.ensures c.if-is_same.false))
