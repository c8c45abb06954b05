use Rattle.std.proofs.Common.{sym, ◌∙◌, arith}
use Rattle.pay_auth.proofs.Running.{longest_more}
use Rattle.pay_auth.proofs.scanner.Run.length_in.Goals as goal

pub loop-place-preserved : goal.loop-place-preserved
loop-place-preserved c = record {
  within = omega (arith, c.loop-place-test.true);
  allowed = longest_more c.args.self c.loop-place.place c.args.bytes.now c.loop-place-test.true c.loop-place.invariant.allowed (sym c.allows.ensures ∙ c.if-allows.true);
}
