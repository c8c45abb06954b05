use Rattle.std.proofs.Common.{◌≡◌, length}
use Rattle.edc_slices.specs.Lanes.{AreMade, HaveChains}
use Rattle.edc_slices.proofs.chain.side_by_side.Given as goal

abbrev pub invariant-loop-step : goal.invariant-loop-step
invariant-loop-step l = record {
  size : length l.chains ≡ 128;
  chains : HaveChains l.bodies l.lanes l.chains;
  made : AreMade l.codes l.bodies;
}
