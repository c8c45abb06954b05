-- The bytes before the index are of a name, and the array has them with zeros behind.
use Rattle.std.proofs.Common.{◌≡◌, true, take}
use Rattle.std.specs.List.{list_all}
use Rattle.x_base.specs.Names.{is_name_byte}
use Rattle.x_base.specs.Padded.{filled}
use Rattle.x_base.proofs.padded.Padded.read.Given as goal

abbrev pub invariant-loop-i : goal.invariant-loop-i
invariant-loop-i l = record {
  named : list_all is_name_byte (take l.i l.bytes) ≡ true;
  written : l.filled ≡ filled (take l.i l.bytes);
}
