use Rattle.std.proofs.Common.{◌≡◌, ◌≤◌, ℕ, Err}
use Rattle.std.specs.Vec.{vec_len}
use Rattle.x_base.specs.Edge.{Rose}
use Rattle.open_parties.specs.Closing.{AllSlots, IsClosing}
use Rattle.open_parties.specs.OpenParties.{owners}
use Rattle.open_parties.specs.declared.failure.Failure.TheVariants as failure
use Rattle.open_parties.proofs.closing.put_back_all.Given as goal

abbrev pub invariant-closing : goal.invariant-closing
invariant-closing g l = record {
  closing : IsClosing g.H.Disk.Disk.told (g.H.Shelf.entry l.fn.shelf) (g.H.Shelf.entry l.shelf) (g.H.Shelf.faults l.fn.shelf) (g.H.Shelf.faults l.shelf) l.fn.parties l.left.items;
  slots : AllSlots (g.H.Shelf.has_slot l.shelf) (owners l.left.items);
  fault : l.outcome ≡ Err failure.Fault → Rose (g.H.Shelf.faults l.fn.shelf) (g.H.Shelf.faults l.shelf);
  undamaged : (place : ℕ) → l.outcome ≡ Err (failure.Damaged place) → ⊥;
  later : g.H.Shelf.faults l.fn.shelf ≤ g.H.Shelf.faults l.shelf;
}

abbrev pub decreases-closing : goal.decreases-closing
decreases-closing g l = vec_len l.left
