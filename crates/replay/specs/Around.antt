-- The counts of faults of sink and shelf (this project's profile).
use Rattle.std.specs.Prelude.{◌≡◌, ◌≤◌, ℕ, Result, Err}
use Rattle.x_base.specs.Edge.{Rose}
use Rattle.open_parties.specs.declared.failure.Ending.{Ending}
use Rattle.open_parties.specs.declared.failure.Ending.TheVariants as ending
use Rattle.replay.specs.declared.result.PlayResult.{PlayResult}
use Rattle.replay.specs.declared.result.PlayResult.TheVariants as played

-- the count of the sink's faults doesn't fall, and a failed writing is counted
pub record SinkStays {T : Type 0} (before after : ℕ) (result : Result T Ending) : Type 0 where
  pub climbs : before ≤ after
  pub write : result ≡ Err ending.Write → Rose before after

-- the counts of faults don't fall, and a play that a fault ended was ended by the sink or the shelf, which counted it
pub record FaultsCounted (sank sinks before after : ℕ) (result : PlayResult) : Type 0 where
  pub climbs : sank ≤ sinks
  pub later : before ≤ after
  pub write : result ≡ played.WriteFault → Rose sank sinks
  pub fault : result ≡ played.DiskFault → Rose before after
