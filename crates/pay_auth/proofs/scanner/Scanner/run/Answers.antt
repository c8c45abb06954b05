use Rattle.std.proofs.Common.{arith}
use Rattle.pay_auth.proofs.Running.{run_short, run_unended, run_starts}
use Rattle.pay_auth.proofs.scanner.Scanner.run.Goals as goal

pub returns-then-front-least : goal.returns-then-front-least
returns-then-front-least c =
    run_short c.args.run c.args.last c.requires c.args.self.now c.longest-front.new.self c.longest-front.result.now c.longest-front.ensures (omega (arith, c.if-front-least.true, c.least.ensures))

pub returns-then-takes : goal.returns-then-takes
returns-then-takes c =
    run_starts c.args.run c.args.last c.requires c.args.self.now c.longest-front.new.self c.longest-front.result.now c.longest-front.ensures c.takes.new.self
    (omega (arith, c.if-front-least.false, c.least.ensures)) (c.takes.ensures.yes c.if-takes.true)

pub returns-else-takes : goal.returns-else-takes
returns-else-takes c =
    let kept = c.takes.ensures.no c.if-takes.false in
    rw kept.0
    (run_unended c.args.run c.args.last c.requires c.args.self.now c.longest-front.new.self c.longest-front.result.now c.longest-front.ensures
    (omega (arith, c.if-front-least.false, c.least.ensures)) kept.1)
