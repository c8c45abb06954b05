use Rattle.pay_auth.proofs.Sizing.{puts_beyond}
use Rattle.pay_auth.proofs.entries.Entries.put_all.Goals as goal

pub returns-then-is_full_for-clause-no : goal.returns-then-is_full_for-clause-no
returns-then-is_full_for-clause-no c = λ is.
    puts_beyond _ c.args.entries.now c.loop-entry.self c.loop-entry.entry-index c.entry-item.result c.row_key.result c.is_full_for.result
    c.loop-entry.invariant c.loop-entry-test.true c.entry-item.is c.row_key.ensures c.is_full_for.ensures c.if-is_full_for.true
