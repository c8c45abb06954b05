use Rattle.std.proofs.Common.{List, Option, subst, sym, ℕ}
use Rattle.edc_slices.specs.Lanes.{AreMade}
use Rattle.edc_slices.proofs.Chains.{none_made}
use Rattle.edc_slices.proofs.codes_before_ends.Goals.{then-all-saturating_mul, else-all-saturating_mul}
use Rattle.edc_slices.proofs.codes_before_ends.Goals as goal

pub side_by_side-requires-clause-made : goal.side_by_side-requires-clause-made
side_by_side-requires-clause-made c = none_made 512 c.args.bodies.now c.requires

pub completed-requires-clause-made : goal.completed-requires-clause-made
completed-requires-clause-made c =
    let bodies = c.args.bodies.now in
    elim c.if-all-saturating_mul.branch [
      | then-all-saturating_mul w ↦ subst (λ (x : List (Option ℕ)). AreMade x bodies) (sym w.codes-is) w.side_by_side.ensures
      | else-all-saturating_mul w ↦ subst (λ (x : List (Option ℕ)). AreMade x bodies) (sym w.codes-is) (none_made 512 bodies c.requires)
    ]
