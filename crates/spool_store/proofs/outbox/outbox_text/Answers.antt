use Rattle.std.proofs.Common.{◌+◌, ◌++◌, ◌∷◌, [], List, ℕ, ap, sym, ◌∙◌}
use Rattle.spool_store.specs.Spools.{outbox_from}
use Rattle.spool_store.proofs.Lines.{line_more}
use Rattle.spool_store.proofs.outbox.outbox_text.Goals as goal

pub loop-i-preserved : goal.loop-i-preserved
loop-i-preserved c =
    c.in_ok-push_plan.ensures
    ∙ (ap (λ (l : List ℕ). l ++ outbox_from (c.loop-i.i + 1) (c.index-plans-i.result ∷ [])) c.loop-i.invariant
    ∙ sym (line_more c.args.plans.now c.loop-i.i c.index-plans-i.result c.loop-i-test.true c.index-plans-i.is))
