use Rattle.std.proofs.Common.{arith, subst}
use Rattle.std.proofs.lemmas.List.{take_all}
use Rattle.std.proofs.lemmas.List.Elements.{All-more}
use Rattle.course.specs.Starts.{IsLineInRange, AreLinesInRange}
use Rattle.course.proofs.ranges.law_lines.Goals as goal

pub loop-line-preserved : goal.loop-line-preserved
loop-line-preserved c = All-more IsLineInRange c.args.lines.now c.loop-line.line-index c.line-item.result (omega arith) c.loop-line.invariant (subst IsLineInRange c.line-item.is c.law_line.ensures)

pub returns : goal.returns
returns c = subst AreLinesInRange (take_all c.loop-line.line-index c.args.lines.now (omega arith)) c.loop-line.invariant
