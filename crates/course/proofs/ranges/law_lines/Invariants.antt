use Rattle.std.proofs.Common.{take}
use Rattle.course.specs.Starts.{AreLinesInRange}
use Rattle.course.proofs.ranges.law_lines.Given as goal

abbrev pub invariant-loop-line : goal.invariant-loop-line
invariant-loop-line l = AreLinesInRange (take l.line-index l.lines)
