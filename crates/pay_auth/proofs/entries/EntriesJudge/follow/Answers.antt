use Rattle.std.specs.Prelude.{Ok}
use Rattle.x_base.specs.declared.NoMemory.{NoMemory}
use Rattle.pay_auth.proofs.Sizing.{goes_no}
use Rattle.pay_auth.proofs.entries.EntriesJudge.follow.Goals as goal

pub returns-in_ok-goes-in-Some-clause-no : goal.returns-in_ok-goes-in-Some-clause-no
returns-in_ok-goes-in-Some-clause-no c =
    let is = rw c.in-Some.is at c.in_ok-entries.ensures.yes in
    goes_no {E = NoMemory} c.args.body.now c.deref.result.now c.in-Some.entries.items c.args.self.now (Ok c.in_ok-goes-in-Some.goes) is c.deref.ensures.value c.in_ok-goes-in-Some.ensures.no
