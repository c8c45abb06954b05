use Rattle.std.proofs.Common.{◌+◌, ℕ, ap₂, ◌∙◌, sym, ap}
use Rattle.course.specs.Tallies.{count_status}
use Rattle.party_state.specs.State.{Party}
use Rattle.audit_check.proofs.Closing.{keys_more}
use Rattle.audit_check.proofs.ending.count_keys.Goals as goal

pub counting-preserved : goal.counting-preserved
counting-preserved c = λ members holds_each.
    let x = c.view_at.ensures members holds_each in
    c.in_ok-count.ensures
    ∙ (ap₂ (λ (a b : ℕ). a + b) (c.counting.invariant members holds_each) (c.count_records.ensures.count ∙ ap (λ (p : Party). count_status c.args.status p.keys) x.2)
    ∙ sym (keys_more c.args.status members c.counting.place x.0 x.1))
