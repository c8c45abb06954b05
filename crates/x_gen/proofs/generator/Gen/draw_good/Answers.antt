use Rattle.std.proofs.Common.{arith, sym, ap, ◌∙◌, ◌≡◌, ◌-◌, ◌+◌, suc, true, false, Some, ℕ}
use Rattle.x_gen.specs.declared.generator.Gen.{Gen}
use Rattle.x_gen.specs.Parity.{odd_parity_of, is_weak_key}
use Rattle.x_gen.specs.Gen.{drawn, gen_after}
use Rattle.x_gen.proofs.DrawLemmas.{good_of, good_next, good_here, good_none}
use Rattle.x_gen.proofs.generator.Gen.draw_good.Goals as goal

pub loop-i-preserved : goal.loop-i-preserved
loop-i-preserved c =
    let g = c.loop-i.generator in
    let left : 16 - c.loop-i.i ≡ suc (16 - (c.loop-i.i + 1)) = omega arith in
    let weak : is_weak_key (odd_parity_of (drawn g c.args.moment)) ≡ true = ap is_weak_key (sym c.draw-key.ensures.key) ∙ sym c.is_weak.ensures ∙ c.if-not-is_weak.false in
    ap (λ (h : Gen). good_of (16 - (c.loop-i.i + 1)) h c.args.moment) c.draw-key.ensures.after
    ∙ sym (good_next (16 - c.loop-i.i) (16 - (c.loop-i.i + 1)) g c.args.moment left weak) ∙ c.loop-i.invariant

pub returns-then-not-is_weak : goal.returns-then-not-is_weak
returns-then-not-is_weak c =
    let g = c.loop-i.generator in
    let left : 16 - c.loop-i.i ≡ suc (16 - (c.loop-i.i + 1)) = omega arith in
    let weak : is_weak_key (odd_parity_of (drawn g c.args.moment)) ≡ false = ap is_weak_key (sym c.draw-key.ensures.key) ∙ sym c.is_weak.ensures ∙ c.if-not-is_weak.true in
    sym c.loop-i.invariant ∙ good_here (16 - c.loop-i.i) (16 - (c.loop-i.i + 1)) g c.args.moment left weak
    ∙ ap (λ (k : ℕ). Some (k, gen_after g c.args.moment)) (sym c.draw-key.ensures.key)
    ∙ ap (λ (h : Gen). Some (c.draw-key.result.0, h)) (sym c.draw-key.ensures.after)

pub returns : goal.returns
returns c = sym c.loop-i.invariant ∙ good_none (16 - c.loop-i.i) c.loop-i.generator c.args.moment (omega arith)
