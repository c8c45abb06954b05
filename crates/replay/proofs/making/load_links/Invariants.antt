use Rattle.std.proofs.Common.{take}
use Rattle.course.specs.Starts.{loads_of}
use Rattle.replay.specs.SettingUp.{IsLoadedTo}
use Rattle.replay.proofs.making.load_links.Given as goal

abbrev pub invariant-loop-line : goal.invariant-loop-line
invariant-loop-line g l = IsLoadedTo g.D.Disk.told l.fn.store l.loaded (loads_of l.own (take l.line-index l.lines))
