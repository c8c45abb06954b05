use Rattle.std.proofs.Common.{unwrap_or, ap, subst, sym, ◌∙◌, refl}
use Rattle.x_disk.specs.Slots.{disk_at, fresh, HasSlot, NoneOf, IsFirst}
use Rattle.x_disk.specs.declared.slot.Slot.{Slot}
use Rattle.x_disk.proofs.SlotLemmas.{first_disk, set_others, set_slot, set_slots, set_none, read_is, push_others, push_none, push_slot, push_slots, none_disk}
use Rattle.x_disk.proofs.memory_shelf.take_out.Goals as goal

pub returns-in-Some-clause-disk : goal.returns-in-Some-clause-disk
returns-in-Some-clause-disk c =
    let f = subst (λ l. IsFirst l c.args.name.now c.in-Some.place) c.deref.ensures.value c.in-Some.ensures.some in
    first_disk c.args.slots.now.items c.args.name.now c.in-Some.place f ∙ ap (λ (s : Slot). unwrap_or s.disk fresh) (sym (read_is c.args.slots.now.items c.args.name.now c.in-Some.place f c.index_mut.result.now c.index_mut.ensures.value)) ∙ ap (λ o. unwrap_or o fresh) (sym c.take.ensures.value)

pub returns-in-Some-clause-others : goal.returns-in-Some-clause-others
returns-in-Some-clause-others c =
    let f = subst (λ l. IsFirst l c.args.name.now c.in-Some.place) c.deref.ensures.value c.in-Some.ensures.some in
    set_others c.args.slots.now.items c.args.name.now c.in-Some.place f (record { name = c.index_mut.result.now.name; disk = c.take.new.self }) (ap (λ (s : Slot). s.name) (read_is c.args.slots.now.items c.args.name.now c.in-Some.place f c.index_mut.result.now c.index_mut.ensures.value) ∙ f.named)

pub returns-in-Some-clause-none : goal.returns-in-Some-clause-none
returns-in-Some-clause-none c = λ empty.
    let f = subst (λ l. IsFirst l c.args.name.now c.in-Some.place) c.deref.ensures.value c.in-Some.ensures.some in
    let is = read_is c.args.slots.now.items c.args.name.now c.in-Some.place f c.index_mut.result.now c.index_mut.ensures.value in
    set_none c.args.slots.now.items c.args.name.now c.in-Some.place f (record { name = c.index_mut.result.now.name; disk = c.take.new.self }) (ap (λ (s : Slot). s.name) is ∙ f.named) c.take.ensures.after
    (ap (λ (s : Slot). s.disk) (sym is) ∙ sym c.take.ensures.value ∙ empty)

pub returns-in_ok-push-in-None-clause-disk : goal.returns-in_ok-push-in-None-clause-disk
returns-in_ok-push-in-None-clause-disk c = none_disk c.args.slots.now.items c.args.name.now (subst (λ l. NoneOf l c.args.name.now) c.deref.ensures.value c.in-None.ensures.none)

pub returns-in_ok-push-in-None-clause-others : goal.returns-in_ok-push-in-None-clause-others
returns-in_ok-push-in-None-clause-others c = λ other not.
    ap (λ l. disk_at l other) c.in_ok-push-in-None.ensures.items ∙ push_others c.args.slots.now.items _ c.args.name.now refl other not

pub returns-in_ok-push-in-None-clause-none : goal.returns-in_ok-push-in-None-clause-none
returns-in_ok-push-in-None-clause-none c = λ empty name.
    ap (λ l. disk_at l name) c.in_ok-push-in-None.ensures.items ∙ push_none c.args.slots.now.items _ c.args.name.now (subst (λ l. NoneOf l c.args.name.now) c.deref.ensures.value c.in-None.ensures.none) refl refl name

pub returns-in-Some-clause-slot : goal.returns-in-Some-clause-slot
returns-in-Some-clause-slot c =
    let f = subst (λ l. IsFirst l c.args.name.now c.in-Some.place) c.deref.ensures.value c.in-Some.ensures.some in
    set_slot c.args.slots.now.items c.args.name.now c.in-Some.place f (record { name = c.index_mut.result.now.name; disk = c.take.new.self }) (ap (λ (s : Slot). s.name) (read_is c.args.slots.now.items c.args.name.now c.in-Some.place f c.index_mut.result.now c.index_mut.ensures.value) ∙ f.named)

pub returns-in-Some-clause-slots : goal.returns-in-Some-clause-slots
returns-in-Some-clause-slots c =
    let f = subst (λ l. IsFirst l c.args.name.now c.in-Some.place) c.deref.ensures.value c.in-Some.ensures.some in
    set_slots c.args.slots.now.items c.args.name.now c.in-Some.place f (record { name = c.index_mut.result.now.name; disk = c.take.new.self }) (ap (λ (s : Slot). s.name) (read_is c.args.slots.now.items c.args.name.now c.in-Some.place f c.index_mut.result.now c.index_mut.ensures.value) ∙ f.named)

pub returns-in_ok-push-in-None-clause-slot : goal.returns-in_ok-push-in-None-clause-slot
returns-in_ok-push-in-None-clause-slot c = subst (λ l. HasSlot l c.args.name.now) (sym c.in_ok-push-in-None.ensures.items) (push_slot c.args.slots.now.items _)

pub returns-in_ok-push-in-None-clause-slots : goal.returns-in_ok-push-in-None-clause-slots
returns-in_ok-push-in-None-clause-slots c = λ other has. subst (λ l. HasSlot l other) (sym c.in_ok-push-in-None.ensures.items) (push_slots c.args.slots.now.items _ other has)
