use Rattle.std.proofs.Common.{◌<◌, length, Option, Some, sym, subst, ap, ◌∙◌}
use Rattle.journal_state.specs.States.{Stood, stood}
use Rattle.journal_state.specs.Keeping.{IsFrameOf}
use Rattle.spool_store.specs.Contents.{Progress, Goes, with_plan}
use Rattle.spool_store.specs.Spools.{progress_in, spooled}
use Rattle.spool_store.specs.Committing.{IsCommitting}
use Rattle.spool_store.specs.declared.committing.Committed.TheVariants as committed
use Rattle.spool_store.proofs.Keeping.{frame_of_plan, some_progress, cut, done}
use Rattle.spool_store.proofs.spool.Spool.commit.Goals as goal

pub keep_behind-requires-clause-frame : goal.keep_behind-requires-clause-frame
keep_behind-requires-clause-frame g c =
    let p : Progress = progress_in c.self.inside.standing.state in
    let same = ap (λ s. s.state) c.into_parts-ready.ensures.parts ∙ c.self.invariant in
    let next = c.in-Ok-push.ensures.done p same in
    let open_yet = subst (λ s. length s.progress.plans < length s.progress.entries) (sym c.self.view_is) c.requires.next in
    let is = frame_of_plan p c.args.plan c.bytes-in-Ok-push.result.now c.requires.plan open_yet (c.bytes-in-Ok-push.ensures ∙ c.in-Ok.ensures) in (
      c.into_parts-ready.result.1,
      c.into_parts-ready.ensures.stands,
      subst (λ o. IsFrameOf Goes c.bytes-in-Ok-push.result.now o c.push.new.self) (sym same) (subst (λ o. IsFrameOf Goes c.bytes-in-Ok-push.result.now (Some p) o) (sym next) is),
    )

pub returns-in-Ok-keep_behind : goal.returns-in-Ok-keep_behind
returns-in-Ok-keep_behind g c =
    let told = g.E.Disk.told in
    let p : Progress = progress_in c.self.inside.standing.state in
    let same = ap (λ s. s.state) c.into_parts-ready.ensures.parts ∙ c.self.invariant in
    let next = c.in-Ok-push.ensures.done p same in
    let open_yet = subst (λ s. length s.progress.plans < length s.progress.entries) (sym c.self.view_is) c.requires.next in
    let frame = c.bytes-in-Ok-push.result.now in
    let is = frame_of_plan p c.args.plan frame c.requires.plan open_yet (c.bytes-in-Ok-push.ensures ∙ c.in-Ok.ensures) in
    let leads = subst (λ o. IsFrameOf Goes frame o c.push.new.self) (sym same) (subst (λ o. IsFrameOf Goes frame (Some p) o) (sym next) is) in
    let old : Stood g.row.E.Denot (Option Progress) = stood c.into_parts-ready.result.0 c.into_parts-ready.result.1 in
    subst (λ s. IsCommitting told s c.args.plan (committed.Done (spooled c.in-Ok-keep_behind.standing))) (ap spooled c.into_parts-ready.ensures.parts ∙ c.self.view_is)
    (done told old p same c.args.plan (length frame) c.push.new.self next c.in-Ok-keep_behind.standing (c.in-Ok-keep_behind.ensures c.into_parts-ready.result.1 c.into_parts-ready.ensures.stands leads))

pub invariant_of-result-in-Ok-keep_behind : goal.invariant_of-result-in-Ok-keep_behind
invariant_of-result-in-Ok-keep_behind g c =
    let p : Progress = progress_in c.self.inside.standing.state in
    let same = ap (λ s. s.state) c.into_parts-ready.ensures.parts ∙ c.self.invariant in
    let next = c.in-Ok-push.ensures.done p same in
    let open_yet = subst (λ s. length s.progress.plans < length s.progress.entries) (sym c.self.view_is) c.requires.next in
    let frame = c.bytes-in-Ok-push.result.now in
    let is = frame_of_plan p c.args.plan frame c.requires.plan open_yet (c.bytes-in-Ok-push.ensures ∙ c.in-Ok.ensures) in
    let leads = subst (λ o. IsFrameOf Goes frame o c.push.new.self) (sym same) (subst (λ o. IsFrameOf Goes frame (Some p) o) (sym next) is) in
    let kept = c.in-Ok-keep_behind.ensures c.into_parts-ready.result.1 c.into_parts-ready.ensures.stands leads in
    some_progress c.in-Ok-keep_behind.standing.state (with_plan p c.args.plan) (kept.replaced.state ∙ next)

pub returns : goal.returns
returns g c =
    let told = g.E.Disk.told in
    let p : Progress = progress_in c.self.inside.standing.state in
    let same = ap (λ s. s.state) c.into_parts-ready.ensures.parts ∙ c.self.invariant in
    let next = c.in-Ok-push.ensures.done p same in
    let open_yet = subst (λ s. length s.progress.plans < length s.progress.entries) (sym c.self.view_is) c.requires.next in
    let frame = c.bytes-in-Ok-push.result.now in
    let is = frame_of_plan p c.args.plan frame c.requires.plan open_yet (c.bytes-in-Ok-push.ensures ∙ c.in-Ok.ensures) in
    let leads = subst (λ o. IsFrameOf Goes frame o c.push.new.self) (sym same) (subst (λ o. IsFrameOf Goes frame (Some p) o) (sym next) is) in
    let old : Stood g.row.E.Denot (Option Progress) = stood c.into_parts-ready.result.0 c.into_parts-ready.result.1 in
    subst (λ s. IsCommitting told s c.args.plan (committed.Broken c.in-Err-keep_behind.broken)) (ap spooled c.into_parts-ready.ensures.parts ∙ c.self.view_is)
    (cut told old p same c.args.plan (length frame) c.push.new.self next c.in-Err-keep_behind.broken (g.met.E.Disk.sound c.in-Err-keep_behind.broken.disk) (c.in-Err-keep_behind.ensures c.into_parts-ready.result.1 c.into_parts-ready.ensures.stands leads))
