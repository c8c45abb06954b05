use Rattle.std.proofs.Common.{◌≡◌, drop}
use Rattle.pay_auth.specs.Entries.{put_entries}
use Rattle.pay_auth.proofs.entries.Entries.put_all.Given as goal

abbrev pub invariant-loop-entry : goal.invariant-loop-entry
invariant-loop-entry l = put_entries (drop l.entry-index l.entries) l.self ≡ put_entries l.entries l.initial.self
