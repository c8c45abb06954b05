use Rattle.std.proofs.Common.{◌≡◌, ◌<◌, ℕ, [], get_or, length}
use Rattle.x_mac.specs.Code.{edc_of}
use Rattle.edc_slices.specs.Ends.{text_before_end}
use Rattle.edc_slices.proofs.completed.Given as goal

abbrev pub invariant-loop-i : goal.invariant-loop-i
invariant-loop-i l = record {
  size : length l.codes ≡ 512;
  so_far : (k : ℕ) → k < l.i → get_or l.codes k 0 ≡ edc_of (text_before_end (get_or l.bodies k []));
}
