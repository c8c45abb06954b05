use Rattle.std.proofs.Common.{Some, ap, subst, sym, ◌∙◌, refl}
use Rattle.x_disk.specs.Slots.{disk_at, HasSlot, NoneOf, IsFirst}
use Rattle.x_disk.specs.declared.slot.Slot.{Slot}
use Rattle.x_disk.proofs.SlotLemmas.{set_disk, set_others, set_slots, set_slot, read_is, push_disk, push_slot, push_others, push_slots, no_slot}
use Rattle.x_disk.proofs.memory_shelf.put_in.Goals as goal

pub returns-in-Some-clause-disk : goal.returns-in-Some-clause-disk
returns-in-Some-clause-disk c =
    let f = subst (λ l. IsFirst l c.args.name.now c.in-Some.place) c.deref.ensures.value c.in-Some.ensures.some in
    set_disk c.args.slots.now.items c.args.name.now c.in-Some.place f (record { name = c.index_mut.result.now.name; disk = Some c.args.disk }) (ap (λ (s : Slot). s.name) (read_is c.args.slots.now.items c.args.name.now c.in-Some.place f c.index_mut.result.now c.index_mut.ensures.value) ∙ f.named)

pub returns-in-Some-clause-others : goal.returns-in-Some-clause-others
returns-in-Some-clause-others c =
    let f = subst (λ l. IsFirst l c.args.name.now c.in-Some.place) c.deref.ensures.value c.in-Some.ensures.some in
    set_others c.args.slots.now.items c.args.name.now c.in-Some.place f (record { name = c.index_mut.result.now.name; disk = Some c.args.disk }) (ap (λ (s : Slot). s.name) (read_is c.args.slots.now.items c.args.name.now c.in-Some.place f c.index_mut.result.now c.index_mut.ensures.value) ∙ f.named)

pub returns-in_ok-push-in-None-clause-disk : goal.returns-in_ok-push-in-None-clause-disk
returns-in_ok-push-in-None-clause-disk c =
    let none = subst (λ l. NoneOf l c.args.name.now) c.deref.ensures.value c.in-None.ensures.none in
    ap (λ l. disk_at l c.args.name.now) c.in_ok-push-in-None.ensures.items ∙ push_disk c.args.slots.now.items _ c.args.name.now none refl

pub returns-in_ok-push-in-None-clause-others : goal.returns-in_ok-push-in-None-clause-others
returns-in_ok-push-in-None-clause-others c = λ other not.
    ap (λ l. disk_at l other) c.in_ok-push-in-None.ensures.items ∙ push_others c.args.slots.now.items _ c.args.name.now refl other not

pub returns-in-Some-clause-kept : goal.returns-in-Some-clause-kept
returns-in-Some-clause-kept c = λ has.
    let f = subst (λ l. IsFirst l c.args.name.now c.in-Some.place) c.deref.ensures.value c.in-Some.ensures.some in
    set_disk c.args.slots.now.items c.args.name.now c.in-Some.place f (record { name = c.index_mut.result.now.name; disk = Some c.args.disk }) (ap (λ (s : Slot). s.name) (read_is c.args.slots.now.items c.args.name.now c.in-Some.place f c.index_mut.result.now c.index_mut.ensures.value) ∙ f.named)

pub returns-in-Some-clause-slots : goal.returns-in-Some-clause-slots
returns-in-Some-clause-slots c =
    let f = subst (λ l. IsFirst l c.args.name.now c.in-Some.place) c.deref.ensures.value c.in-Some.ensures.some in
    set_slots c.args.slots.now.items c.args.name.now c.in-Some.place f (record { name = c.index_mut.result.now.name; disk = Some c.args.disk }) (ap (λ (s : Slot). s.name) (read_is c.args.slots.now.items c.args.name.now c.in-Some.place f c.index_mut.result.now c.index_mut.ensures.value) ∙ f.named)

pub returns-in_ok-push-in-None-clause-kept : goal.returns-in_ok-push-in-None-clause-kept
returns-in_ok-push-in-None-clause-kept c = λ has.
    let none = subst (λ l. NoneOf l c.args.name.now) c.deref.ensures.value c.in-None.ensures.none in
    absurd (no_slot c.args.slots.now.items c.args.name.now none has)

pub returns-in_ok-push-in-None-clause-slots : goal.returns-in_ok-push-in-None-clause-slots
returns-in_ok-push-in-None-clause-slots c = λ other has. subst (λ l. HasSlot l other) (sym c.in_ok-push-in-None.ensures.items) (push_slots c.args.slots.now.items _ other has)

pub returns-in_err-push-in-None-clause-kept : goal.returns-in_err-push-in-None-clause-kept
returns-in_err-push-in-None-clause-kept c = λ has.
    let none = subst (λ l. NoneOf l c.args.name.now) c.deref.ensures.value c.in-None.ensures.none in
    absurd (no_slot c.args.slots.now.items c.args.name.now none has)

pub returns-in-Some-clause-slot : goal.returns-in-Some-clause-slot
returns-in-Some-clause-slot c =
    let f = subst (λ l. IsFirst l c.args.name.now c.in-Some.place) c.deref.ensures.value c.in-Some.ensures.some in
    set_slot c.args.slots.now.items c.args.name.now c.in-Some.place f (record { name = c.index_mut.result.now.name; disk = Some c.args.disk }) (ap (λ (s : Slot). s.name) (read_is c.args.slots.now.items c.args.name.now c.in-Some.place f c.index_mut.result.now c.index_mut.ensures.value) ∙ f.named)

pub returns-in_ok-push-in-None-clause-slot : goal.returns-in_ok-push-in-None-clause-slot
returns-in_ok-push-in-None-clause-slot c = subst (λ l. HasSlot l c.args.name.now) (sym c.in_ok-push-in-None.ensures.items) (push_slot c.args.slots.now.items _)
