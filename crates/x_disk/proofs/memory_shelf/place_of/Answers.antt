use Rattle.std.proofs.Common.{◌≡◌, true, false, arith, ap, sym, ◌∙◌, get_or}
use Rattle.std.proofs.lemmas.Slice.Eq.{bytes_eq-Decides}
use Rattle.x_disk.specs.declared.slot.Slot.{Slot}
use Rattle.x_disk.proofs.SlotLemmas.{found_first, none_more}
use Rattle.x_disk.proofs.memory_shelf.place_of.Goals as goal

pub returns-then-eq-clause-some : goal.returns-then-eq-clause-some
returns-then-eq-clause-some c =
    let name = c.args.name.now in
    let slot = c.index-slots-place.result in
    let read = get_or c.args.slots.now c.loop-place.place slot in
    let named = (bytes_eq-Decides read.name name).0 (sym c.eq.ensures ∙ c.if-eq.true) in
    found_first c.args.slots.now name c.loop-place.place slot (omega arith) c.index-slots-place.is (ap (λ (s : Slot). s.name) c.index-slots-place.is ∙ named) c.loop-place.invariant

pub loop-place-preserved : goal.loop-place-preserved
loop-place-preserved c =
    let name = c.args.name.now in
    let slot = c.index-slots-place.result in
    let read = get_or c.args.slots.now c.loop-place.place slot in
    none_more c.args.slots.now name c.loop-place.place slot (omega arith) c.index-slots-place.is
    (λ same.
    let yes = (bytes_eq-Decides read.name name).1 (sym (ap (λ (s : Slot). s.name) c.index-slots-place.is) ∙ same) in
    let both : true ≡ false = sym yes ∙ sym c.eq.ensures ∙ c.if-eq.false in
    absurd (cc both))
    c.loop-place.invariant
