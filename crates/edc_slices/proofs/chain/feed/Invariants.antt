use Rattle.std.proofs.Common.{◌≡◌, length}
use Rattle.edc_slices.specs.Lanes.{AreMade}
use Rattle.edc_slices.proofs.Chains.{AreLeft, AreStepped}
use Rattle.edc_slices.proofs.chain.feed.Given as goal

abbrev pub invariant-loop-i : goal.invariant-loop-i
invariant-loop-i l = record {
  all_lanes : length l.lanes ≡ 128;
  all_next : length l.next_blocks ≡ 128;
  all_begun : length l.begun ≡ 128;
  stepped : AreStepped l.bodies l.lanes l.chains l.begun l.next_blocks l.i;
  left : AreLeft l.bodies l.lanes l.chains l.i;
  made : AreMade l.codes l.bodies;
}
