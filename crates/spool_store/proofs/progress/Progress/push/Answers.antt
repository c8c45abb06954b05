use Rattle.std.proofs.Common.{◌<◌, length, sym, subst}
use Rattle.spool_store.specs.Contents.{Progress}
use Rattle.spool_store.proofs.Bytes.{pushed}
use Rattle.spool_store.proofs.progress.Progress.push.Goals as goal

pub invariant_of-self : goal.invariant_of-self
invariant_of-self c =
    let p : Progress = record { text = c.self.inside.batch.0; entries = c.self.inside.batch.1; plans = c.self.inside.plans.items } in
    pushed p c.args.plan c.push_plan.new.plans.items c.push_plan.result c.self.invariant c.requires.plan
    (subst (λ (s : Progress). length s.plans < length s.entries) (sym c.self.view_is) c.requires.next)
    c.push_plan.ensures.done c.push_plan.ensures.kept
