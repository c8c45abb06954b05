use Rattle.std.proofs.Common.{◌≡◌, ◌<◌, ◌^◌, take}
use Rattle.x_des.specs.Bits.{bits_of, pick}
use Rattle.x_des.proofs.wiring.Wiring.pass.Given as goal

-- what the first places of the table pick
abbrev pub invariant-loop-place : goal.invariant-loop-place
invariant-loop-place g l = record {
  so_far : bits_of l.place-index l.passed ≡ pick (take l.place-index l.self.table) (bits_of l.self.width l.bits);
  below : l.passed < 2 ^ l.place-index;
}
