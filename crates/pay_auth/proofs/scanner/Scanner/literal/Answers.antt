use Rattle.std.proofs.Common.{get_or}
use Rattle.pay_auth.proofs.Literals.{literal_stops, some_at}
use Rattle.pay_auth.proofs.scanner.Scanner.literal.Goals as goal

pub returns-then-not-takes : goal.returns-then-not-takes
returns-then-not-takes c =
    let text = c.args.text.now in
    let i = c.loop-byte.byte-index in
    let kept = c.takes.ensures.no c.if-not-takes.true in
    rw kept.0 (literal_stops text c.args.self.now i c.loop-byte.self (get_or text i 0) (some_at text i c.loop-byte-test.true) c.loop-byte.invariant kept.1)
