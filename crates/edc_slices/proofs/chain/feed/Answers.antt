use Rattle.std.proofs.Common.{◌≡◌, ◌∙◌, List, ℕ, ap, arith, length, map, refl, subst, sym}
use Rattle.std.specs.Prelude.{bit_xor}
use Rattle.std.specs.Simd.Lanes.{zip2}
use Rattle.std.proofs.lemmas.List.{length-set}
use Rattle.x_des.specs.Des.{enciphered}
use Rattle.edc_slices.specs.Chains.{edc_key}
use Rattle.edc_slices.specs.Lanes.{HaveChains}
use Rattle.edc_slices.proofs.Chains.{AreStepped, all_stepped, left_fewer, length-xored, stepped_more}
use Rattle.edc_slices.proofs.chain.feed.Goals as goal

pub loop-i-init : goal.loop-i-init
loop-i-init c = record {
  all_lanes = c.told-lanes;
  all_next = refl;
  all_begun = refl;
  stepped = λ k h other. absurd (omega arith);
  left = λ k h w other. c.requires.chains k w other;
  made = c.requires.made;
}

pub loop-i-preserved : goal.loop-i-preserved
loop-i-preserved c =
    let bodies = c.args.bodies.now in
    let chains = c.args.chains.now in
    let k = c.loop-i.invariant in
    let at = c.loop-i.i in
    let begun = c.loop-i.begun in
    let lane = c.next_step-step.result.lane in
    let block = c.next_step-step.result.block in
    let begins = c.next_step-step.result.begun in record {
      all_lanes = length-set c.loop-i.lanes at lane ∙ k.all_lanes;
      all_next = length-set c.loop-i.next_blocks at block ∙ k.all_next;
      all_begun = length-set begun at begins ∙ k.all_begun;
      stepped = stepped_more bodies c.loop-i.lanes chains c.loop-i.next_blocks begun at lane block begins (omega (arith, k.all_lanes)) (omega (arith, k.all_next)) (omega (arith, k.all_begun))
          c.next_step-step.ensures.chain k.stepped;
      left = left_fewer bodies c.loop-i.lanes chains at lane k.left;
      made = c.next_step-step.ensures.made;
    }

pub returns-clause-size : goal.returns-clause-size
returns-clause-size c =
    let blocks = c.loop-i.next_blocks in
    ap length (c.xor.ensures ∙ ap (λ xs. zip2 bit_xor xs blocks) c.clear.ensures) ∙ length-xored c.loop-i.begun c.args.chains.now blocks c.loop-i.invariant.all_begun c.requires.size c.loop-i.invariant.all_next

pub returns-clause-chains : goal.returns-clause-chains
returns-clause-chains c =
    let bodies = c.args.bodies.now in
    let blocks = c.loop-i.next_blocks in
    let begun = c.loop-i.begun in
    let chains = c.args.chains.now in
    let all : c.loop-i.i ≡ 128 = omega arith in
    subst (λ (x : List ℕ). HaveChains bodies c.loop-i.lanes (map (enciphered edc_key) x)) (sym (c.xor.ensures ∙ ap (λ xs. zip2 bit_xor xs blocks) c.clear.ensures))
    (all_stepped bodies c.loop-i.lanes begun chains blocks c.loop-i.invariant.all_begun c.requires.size c.loop-i.invariant.all_next (subst (AreStepped bodies c.loop-i.lanes chains begun blocks) all c.loop-i.invariant.stepped))
