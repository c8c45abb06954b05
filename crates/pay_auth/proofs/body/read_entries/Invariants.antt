use Rattle.change_code.specs.Reading.{StartsWith}
use Rattle.pay_auth.specs.Forms.{entries_form}
use Rattle.pay_auth.proofs.body.read_entries.Given as goal

abbrev pub invariant-reading : goal.invariant-reading
invariant-reading l = StartsWith (entries_form l.counter) l.initial.reader l.reader l.entries.items
