use Rattle.std.proofs.Common.{subst}
use Rattle.pay_auth.specs.Scanning.{IsRunTaken}
use Rattle.pay_auth.proofs.Running.{taken_of}
use Rattle.pay_auth.proofs.scanner.Scanner.longest.Goals as goal

pub returns : goal.returns
returns c =
    subst (λ l. IsRunTaken c.args.run l c.split_at.result.1.now c.split_at.result.0.now) c.self.view_is
    (taken_of c.args.run c.length_in.result c.self.inside.rest.now c.split_at.result.0.now c.split_at.result.1.now c.length_in.ensures c.split_at.ensures.front c.split_at.ensures.back)
