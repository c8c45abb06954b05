use Rattle.std.proofs.Common.{rules, ◌≡◌, ◌^◌, ◌-◌, ◌+◌, ℕ, List, length, take, ◌++◌, sym, subst}
use Rattle.csm_feed.specs.HeldBytes.{Feeding, IsKnown}
use Rattle.csm_feed.specs.Feeding.{with_bytes, Feeds}
use Rattle.csm_feed.proofs.Waiting.{known_more}
use Rattle.csm_feed.proofs.Pushing.{added, kept_as, feeds_as}
use Rattle.csm_feed.proofs.feed.Feed.push.Goals as goal

abbrev was : goal.After-self-1 → Feeding
was c = record { held = c.self.inside.held.items; before = c.self.inside.before; refusal = c.self.inside.refusal }

same : (c : goal.After-self-1) → was c ≡ c.args.self.now
same c = search rules

abbrev after : goal.After-self-1 → Feeding
after c = record { held = c.extend_from_slice.new.self.items; before = c.self.inside.before + length c.split_at.result.0.now; refusal = c.self.inside.refusal }

abbrev taken : goal.After-self-1 → List ℕ
taken c = take (length c.split_at.result.0.now + length c.split_at-2.result.0.now) c.args.piece.now

takes : (c : goal.After-self-1) → after c ≡ with_bytes (was c) (taken c)
takes c =
    added (was c) c.args.piece.now c.countable-piece.result.now c.split_at.result.0.now c.split_at.result.1.now c.split_at-2.result.0.now c.extend_from_slice.new.self.items
    (2 ^ 64 - 1 - (c.self.inside.before + length c.self.inside.held.items)) c.gap.result c.min.result
    (search rules) (search rules) (search rules) (search rules) (search rules) (search rules)

known : (c : goal.After-self-1) → IsKnown c.self.inside.unended c.extend_from_slice.new.self.items
known c =
    let e : c.extend_from_slice.new.self.items ≡ c.self.inside.held.items ++ c.split_at-2.result.0.now = search rules in
    subst (IsKnown c.self.inside.unended) (sym e) (known_more c.self.inside.unended c.self.inside.held.items c.split_at-2.result.0.now c.self.invariant.2)

pub invariant_of-self : goal.invariant_of-self
invariant_of-self c = (kept_as (was c) (after c) (taken c) c.law_fault_stays.ensures c.self.invariant.0 (takes c) (search rules) (search rules), search rules, known c)

pub returns-clause-takes : goal.returns-clause-takes
returns-clause-takes c = subst (λ (f : Feeding). after c ≡ with_bytes f (taken c)) (same c) (takes c)

pub returns-clause-fed : goal.returns-clause-fed
returns-clause-fed c = subst (λ (f : Feeding). Feeds f (taken c) (after c)) (same c) (feeds_as (was c) (after c) (taken c) (takes c))
