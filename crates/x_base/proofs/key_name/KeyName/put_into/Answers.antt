use Rattle.std.proofs.Common.{arith}
use Rattle.x_base.proofs.Naming.{digits_short}
use Rattle.x_base.proofs.key_name.KeyName.put_into.Goals as goal

pub put-requires : goal.put-requires
put-requires c =
    let digits = digits_short c.args.self.now.count c.value-count.ensures.count in
    grind arith
