use Rattle.std.proofs.Common.{rules, ◌≡◌, ◌-◌, ℕ, List, [], ◌∷◌, ◌++◌, length, take, drop, ◌∙◌, ap, subst, sym, arith}
use Rattle.std.proofs.lemmas.List.{take_rest}
use Rattle.x_disk.specs.History.{Step, PowerOff, History, and_then, left_by, state_of}
use Rattle.x_disk.specs.Record.{steps_of, ranges_of, Represents, IsApplied}
use Rattle.x_disk.specs.declared.disk_record.Entry.{Entry}
use Rattle.x_disk.specs.declared.disk_record.Entry.TheVariants as E
use Rattle.x_disk.proofs.RecordLemmas.{steps-power_off, represents_power_off, left_by_state, applied_all, now_power_off}
use Rattle.x_disk.proofs.disk_record.DiskRecord.add_power_off.Goals as goal

pub invariant_of-self-2 : goal.invariant_of-self-2
invariant_of-self-2 c =
    let i = c.self.inside in
    let image = c.settle.new.bytes.items in
    let entry = E.PowerOff c.args.choice in
    let held : c.deref.result.now ≡ i.entries.items = c.deref.ensures.value ∙ c.reserve.ensures.items in
    let now : c.apply_rest.new.image.items ≡ (state_of (steps_of i.entries.items i.payload.items)).now =
    c.apply_rest.ensures.whole ∙ ap (λ (l : List Entry). (state_of (steps_of l c.deref-2.result.now)).now) held ∙ ap (λ (l : List ℕ). (state_of (steps_of i.entries.items l)).now) c.deref-2.ensures.value in
    let stable = c.in_ok-left.ensures ∙ ap (λ (h : History). (state_of h.steps).stable) (sym c.self.view_is) in
    let ranges : take (length c.deref-3.result.now - i.first) (drop i.first c.deref-3.result.now) ≡ drop i.first i.entries.items =
    take_rest c.deref-3.result.now i.first ∙ ap (λ (l : List Entry). drop i.first l) (c.deref-3.ensures.value ∙ c.reserve.ensures.items) in
    let made : image ≡ left_by c.args.choice (record { now = c.apply_rest.new.image.items; stable = c.in_ok-left.left.items; pending = ranges_of (drop i.first i.entries.items) }) =
    c.in_ok-settle.ensures.bytes ∙ ap (λ (l : List Entry). left_by c.args.choice (record { now = c.apply_rest.new.image.items; stable = c.in_ok-left.left.items; pending = ranges_of l })) ranges in
    let left = left_by_state c.apply_rest.new.image.items c.in_ok-left.left.items i.entries.items i.payload.items i.first i.base.items i.base_entries i.base_bytes c.args.choice image c.self.invariant.0 now stable made in
    let same : image ≡ c.settle.new.stable.items = c.in_ok-settle.ensures.bytes ∙ sym c.in_ok-settle.ensures.stable in
    let entries : c.push.new.self.items ≡ i.entries.items ++ entry ∷ [] = c.in_ok-push.ensures.items ∙ ap (λ (l : List Entry). l ++ entry ∷ []) c.reserve.ensures.items in
    let kept = represents_power_off i.entries.items i.payload.items c.args.choice image c.self.invariant.0.size left in
    let whole = applied_all image (i.entries.items ++ entry ∷ []) i.payload.items (now_power_off i.entries.items i.payload.items c.args.choice image left) in
    let pushed = subst (λ (l : List Entry). Represents l i.payload.items (length l) image (length l) (length i.payload.items)) (sym entries) kept in
    let all = subst (λ (l : List ℕ). Represents c.push.new.self.items i.payload.items (length c.push.new.self.items) l (length c.push.new.self.items) (length i.payload.items)) same pushed in
    let caught = subst (λ (l : List Entry). IsApplied image l i.payload.items (length l) (length i.payload.items) (length image)) (sym entries) whole in
    let size : length c.push.new.self.items ≡ c.len-self-inside.result = omega (arith, c.len-self-inside.ensures) in
    let applied : length i.payload.items ≡ c.apply_rest.new.applied_bytes = sym (c.apply_rest.ensures.bytes ∙ ap (λ (l : List ℕ). length l) c.deref-2.ensures.value) in
    let used : length i.payload.items ≡ c.len-self-inside-2.result = omega (arith, c.len-self-inside-2.ensures) in
    let end : length image ≡ c.len-self-inside-3.result = omega (arith, c.len-self-inside-3.ensures) in (
      subst (λ (n : ℕ). Represents c.push.new.self.items i.payload.items n c.settle.new.stable.items n c.len-self-inside-2.result) size
          (subst (λ (n : ℕ). Represents c.push.new.self.items i.payload.items (length c.push.new.self.items) c.settle.new.stable.items (length c.push.new.self.items) n) used all),
      subst (λ (n : ℕ). IsApplied image c.push.new.self.items i.payload.items n c.apply_rest.new.applied_bytes c.len-self-inside-3.result) size
          (subst (λ (n : ℕ). IsApplied image c.push.new.self.items i.payload.items (length c.push.new.self.items) n c.len-self-inside-3.result) applied
          (subst (λ (n : ℕ). IsApplied image c.push.new.self.items i.payload.items (length c.push.new.self.items) (length i.payload.items) n) end caught)),
      record {
        for_bytes = omega (arith, c.self.invariant.2.for_bytes, c.apply_rest.ensures.capacity, c.settle.ensures.capacity);
        for_end = omega (arith, c.len-self-inside-3.ensures, c.settle.new.bytes.ok);
        for_payload = c.self.invariant.2.for_payload;
        for_entries = omega (arith, c.self.invariant.2.for_entries, c.reserve.ensures.capacity, c.push.ensures.capacity);
      },
    )

pub returns : goal.returns
returns c = record {
  ok = let i = c.self.inside in
      let entries = c.in_ok-push.ensures.items ∙ ap (λ (l : List Entry). l ++ E.PowerOff c.args.choice ∷ []) c.reserve.ensures.items in
      let steps : steps_of c.push.new.self.items i.payload.items ≡ steps_of i.entries.items i.payload.items ++ PowerOff c.args.choice ∷ [] =
      ap (λ (l : List Entry). steps_of l i.payload.items) entries ∙ steps-power_off i.entries.items i.payload.items c.args.choice in
      ap (λ (l : List Step). let h : History = record { room = i.room; steps = l } in h) steps ∙ ap (λ (h : History). and_then h (PowerOff c.args.choice)) c.self.view_is;
  err = search rules;
}
