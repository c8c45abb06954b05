use Rattle.std.proofs.Common.{arith}
use Rattle.pay_auth.proofs.Coded.{lacks_entry, begins_entry}
use Rattle.pay_auth.proofs.body.read_entries.Goals as goal

pub returns-in_default : goal.returns-in_default
returns-in_default c = lacks_entry c.args.n c.reading.counter c.args.reader.now c.reading.reader c.reading.entries.items (omega arith) c.reading.invariant c.in_default.ensures

pub reading-preserved : goal.reading-preserved
reading-preserved c =
    rw c.in-Ok.ensures.items
    (begins_entry c.reading.counter c.args.reader.now c.reading.reader c.read_entry.new.reader c.reading.entries.items c.in-Some.entry c.reading.invariant c.in-Some.ensures)
