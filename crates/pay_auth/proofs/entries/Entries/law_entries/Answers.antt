use Rattle.pay_auth.specs.Entries.{entry_key, same_entry}
use Rattle.party_tables.proofs.Rows.{distinct_alike}
use Rattle.pay_auth.proofs.entries.Entries.law_entries.Goals as goal

pub returns-clause-once : goal.returns-clause-once
returns-clause-once c = rw (← c.self.view_is) (distinct_alike entry_key _ same_entry c.law_entry_test.ensures _ c.law_rows.ensures.once)
