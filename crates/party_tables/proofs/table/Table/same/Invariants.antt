use Rattle.std.proofs.Common.{◌≡◌, ℕ, ◌<◌, length}
use Rattle.std.specs.Prelude.{slice_get}
use Rattle.party_tables.proofs.table.Table.same.Given as goal

abbrev pub invariant-loop-i : goal.invariant-loop-i
invariant-loop-i g l = record { long : length l.self.0 ≡ length l.other.0; same : (k : ℕ) → k < l.i → slice_get l.self.0 k ≡ slice_get l.other.0 k }
