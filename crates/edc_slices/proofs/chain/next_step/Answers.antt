use Rattle.std.proofs.Common.{cond, get_or, subst, sym, List, ℕ, Option, arith}
use Rattle.std.proofs.lemmas.Bool.Decides.{nat_tests}
use Rattle.edc_slices.specs.Lanes.{AreMade}
use Rattle.edc_slices.proofs.Chains.{begun_goes_on, has_chain, kept_goes_on, lane_at_end}
use Rattle.edc_slices.proofs.chain.next_step.Goals.{then-begun, else-begun}
use Rattle.edc_slices.proofs.chain.next_step.Goals as goal

pub returns-clause-chain : goal.returns-clause-chain
returns-clause-chain c =
    let bodies = c.args.bodies.now in
    let lane = c.if-begun.lane in
    let chain = get_or c.args.chains.now c.args.at 0 in
    let begun = c.is_empty-begun.result in
    has_chain bodies lane c.next_block-block.new.self (cond begun 0 chain) c.next_block-block.result
    (elim c.if-begun.branch [
      | then-begun w ↦ begun_goes_on bodies lane w.next-lane.result begun chain w.if-begun.true w.lane-is w.next-lane.ensures
      | else-begun w ↦ kept_goes_on bodies lane c.args.lane begun chain w.if-begun.false w.lane-is c.requires.chain (grind (arith, nat_tests, w.if-begun.ensures))
    ])
    c.next_block-block.ensures.text c.next_block-block.ensures.rest c.next_block-block.ensures.block

pub returns-clause-made : goal.returns-clause-made
returns-clause-made c =
    let bodies = c.args.bodies.now in
    elim c.if-begun.branch [
      | then-begun w ↦ subst (λ (x : List (Option ℕ)). AreMade x bodies) (sym w.codes-is)
          (w.take_code.ensures bodies c.requires.made (lane_at_end bodies c.args.lane (get_or c.args.chains.now c.args.at 0) c.requires.chain (grind (arith, nat_tests, w.if-begun.ensures))))
      | else-begun w ↦ subst (λ (x : List (Option ℕ)). AreMade x bodies) (sym w.codes-is) c.requires.made
    ]
