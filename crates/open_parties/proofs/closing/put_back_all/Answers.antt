use Rattle.std.proofs.Common.{List, arith, sym, subst}
use Rattle.open_parties.specs.Closing.{AllSlots, IsClosing}
use Rattle.open_parties.specs.OpenParties.{owners}
use Rattle.open_parties.specs.declared.open_party.OpenParty.{OpenParty}
use Rattle.open_parties.proofs.PuttingBack.{none_left, closed, closes, closes_on, slots_at, slots_front, rose_on, rose_then}
use Rattle.open_parties.proofs.closing.put_back_all.Goals as goal

pub closing-init : goal.closing-init
closing-init g c = record {
  closing = subst (λ (l : List (OpenParty _)). IsClosing g.H.Disk.Disk.told (g.H.Shelf.entry c.args.shelf.now) (g.H.Shelf.entry c.args.shelf.now) (g.H.Shelf.faults c.args.shelf.now) (g.H.Shelf.faults c.args.shelf.now) c.args.parties l) (sym c.into_parties-left.ensures) (closes g.H.Disk.Disk.told (g.H.Shelf.entry c.args.shelf.now) (g.H.Shelf.faults c.args.shelf.now) c.args.parties);
  slots = subst (λ (l : List (OpenParty _)). AllSlots (g.H.Shelf.has_slot c.args.shelf.now) (owners l)) (sym c.into_parties-left.ensures) c.requires.slots;
  fault = λ is. absurd (cc is);
  undamaged = λ place is. cc is;
  later = omega arith;
}

pub put_party-requires : goal.put_party-requires
put_party-requires g c =
    slots_at g.H.Disk.Disk.told (g.H.Shelf.has_slot c.closing.shelf) c.pop.new.self.items c.in-Some.open_party
    (subst (λ l. AllSlots (g.H.Shelf.has_slot c.closing.shelf) (owners l)) c.in-Some.ensures.items c.closing.invariant.slots)

pub closing-preserved-in-Ok : goal.closing-preserved-in-Ok
closing-preserved-in-Ok g c =
    let faults = g.H.Shelf.faults in
    record {
      closing = closes_on g.H.Disk.Disk.told (g.H.Shelf.entry c.args.shelf.now) (g.H.Shelf.entry c.closing.shelf) (g.H.Shelf.entry c.put_party.new.shelf) (faults c.args.shelf.now) (faults c.closing.shelf) (faults c.put_party.new.shelf)
          c.args.parties c.closing.left.items c.pop.new.self.items c.in-Some.open_party c.closing.invariant.later c.put_party.ensures.put.stays.later
          c.requires.apart c.in-Some.ensures.items c.closing.invariant.closing c.put_party.ensures.back c.put_party.ensures.seen c.put_party.ensures.put.stays.others;
      slots = slots_front g.H.Disk.Disk.told (g.H.Shelf.has_slot c.closing.shelf) (g.H.Shelf.has_slot c.put_party.new.shelf) c.pop.new.self.items c.in-Some.open_party c.put_party.ensures.put.stays.slots
          (subst (λ l. AllSlots (g.H.Shelf.has_slot c.closing.shelf) (owners l)) c.in-Some.ensures.items c.closing.invariant.slots);
      fault = λ is. rose_then (faults c.args.shelf.now) (faults c.closing.shelf) (faults c.put_party.new.shelf) c.put_party.ensures.put.stays.later (c.closing.invariant.fault is);
      undamaged = c.closing.invariant.undamaged;
      later = omega (arith, c.closing.invariant.later, c.put_party.ensures.put.stays.later);
    }

pub closing-preserved : goal.closing-preserved
closing-preserved g c =
    let faults = g.H.Shelf.faults in
    record {
      closing = closes_on g.H.Disk.Disk.told (g.H.Shelf.entry c.args.shelf.now) (g.H.Shelf.entry c.closing.shelf) (g.H.Shelf.entry c.put_party.new.shelf) (faults c.args.shelf.now) (faults c.closing.shelf) (faults c.put_party.new.shelf)
          c.args.parties c.closing.left.items c.pop.new.self.items c.in-Some.open_party c.closing.invariant.later c.put_party.ensures.put.stays.later
          c.requires.apart c.in-Some.ensures.items c.closing.invariant.closing c.put_party.ensures.back c.put_party.ensures.seen c.put_party.ensures.put.stays.others;
      slots = slots_front g.H.Disk.Disk.told (g.H.Shelf.has_slot c.closing.shelf) (g.H.Shelf.has_slot c.put_party.new.shelf) c.pop.new.self.items c.in-Some.open_party c.put_party.ensures.put.stays.slots
          (subst (λ l. AllSlots (g.H.Shelf.has_slot c.closing.shelf) (owners l)) c.in-Some.ensures.items c.closing.invariant.slots);
      fault = λ is. rose_on (faults c.args.shelf.now) (faults c.closing.shelf) (faults c.put_party.new.shelf) c.closing.invariant.later (c.in-Err.ensures.put.fault is);
      undamaged = c.in-Err.ensures.put.undamaged;
      later = omega (arith, c.closing.invariant.later, c.put_party.ensures.put.stays.later);
    }

pub returns-clause-seen : goal.returns-clause-seen
returns-clause-seen g c =
    let none = none_left g.H.Disk.Disk.told c.closing.left.items (omega (arith, c.in_default.ensures.cases.0, c.closing.left.ok)) in
    (closed g.H.Disk.Disk.told (g.H.Shelf.entry c.args.shelf.now) (g.H.Shelf.entry c.closing.shelf) (g.H.Shelf.faults c.args.shelf.now) (g.H.Shelf.faults c.closing.shelf) c.args.parties c.closing.left.items none c.closing.invariant.closing).1.1
