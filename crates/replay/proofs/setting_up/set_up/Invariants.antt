use Rattle.std.proofs.Common.{◌≤◌, take}
use Rattle.replay.specs.SettingUp.{AreSetUp}
use Rattle.replay.proofs.setting_up.set_up.Given as goal

abbrev pub invariant-loop-line : goal.invariant-loop-line
invariant-loop-line g l = record {
  set_up : AreSetUp g.H.Disk.Disk.told l.lines (take l.line-index l.lines) (g.H.Shelf.entry l.fn.shelf) (g.H.Shelf.entry l.shelf) (g.H.Shelf.has_slot l.shelf) l.parties;
  later : g.H.Shelf.faults l.fn.shelf ≤ g.H.Shelf.faults l.shelf;
}
