use Rattle.std.proofs.Common.{List, ℕ, inr, length, arith, ap, sym, subst}
use Rattle.change_code.specs.Following.{IsStep}
use Rattle.key_store.proofs.Following.{lead_more, place_more, place_within, unsound_here}
use Rattle.key_store.proofs.ahead.follow_all.Goals as goal

pub overflow_add-place-in-Ok-true : goal.overflow_add-place-in-Ok-true
overflow_add-place-in-Ok-true c =
    omega (
      arith,
      c.requires.fits,
      ap length c.bytes-in-Ok-true.ensures,
      place_within c.args.bodies.now c.loop-i.i c.index-bodies-i.result (omega arith) c.index-bodies-i.is c.args.gate c.loop-i.place c.loop-i.invariant.place,
    )

pub returns-in-Ok-false-clause-stops : goal.returns-in-Ok-false-clause-stops
returns-in-Ok-false-clause-stops c = inr (unsound_here c.args.bodies.now c.loop-i.i c.index-bodies-i.result (omega arith) c.index-bodies-i.is c.args.format c.args.state.now c.loop-i.state c.args.gate c.loop-i.place
    c.loop-i.invariant.lead c.loop-i.invariant.place
    (λ p is. c.in-Ok-false.ensures.no c.in-Ok-false.field-0-test p (subst (λ (b : List ℕ). IsStep c.args.format b c.loop-i.state p) (sym c.bytes.ensures) is)))

pub loop-i-preserved : goal.loop-i-preserved
loop-i-preserved c = record {
  lead = lead_more c.args.bodies.now c.loop-i.i c.index-bodies-i.result (omega arith) c.index-bodies-i.is c.args.format c.args.state.now c.loop-i.state c.follow_as.new.state c.loop-i.invariant.lead
      (subst (λ (b : List ℕ). IsStep c.args.format b c.loop-i.state c.follow_as.new.state) c.bytes.ensures (c.in-Ok-true.ensures.yes c.in-Ok-true.field-0-test));
  place = omega (
    arith,
    ap length c.bytes-in-Ok-true.ensures,
    place_more c.args.bodies.now c.loop-i.i c.index-bodies-i.result (omega arith) c.index-bodies-i.is c.args.gate c.loop-i.place c.loop-i.invariant.place,
  );
}
