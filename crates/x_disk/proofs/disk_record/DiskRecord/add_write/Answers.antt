use Rattle.std.proofs.Common.{rules, ◌≡◌, ◌+◌, ℕ, suc, max, List, [], ◌∷◌, ◌++◌, length, ◌∙◌, ap, subst, sym, arith}
use Rattle.x_disk.specs.History.{Step, Write, History, and_then, IsReserved}
use Rattle.x_disk.specs.Record.{steps_of, Represents, IsApplied}
use Rattle.x_disk.specs.declared.disk_record.Entry.{Entry}
use Rattle.x_disk.specs.declared.disk_record.Entry.TheVariants as E
use Rattle.x_disk.proofs.RecordLemmas.{steps-push, represents_write, applied_write, applied_short, length-steps, bytes-steps}
use Rattle.x_disk.proofs.disk_record.DiskRecord.add_write.Goals as goal

pub overflow_sub-end : goal.overflow_sub-end
overflow_sub-end c = let i = c.self.inside in omega (arith, applied_short i.bytes.items i.entries.items i.payload.items i.applied_entries i.applied_bytes i.end c.self.invariant.1)

pub returns-in_err-reserve : goal.returns-in_err-reserve
returns-in_err-reserve c = record {
  added = record { ok = search rules; err = search rules };
  covered = λ end n calls covers le small.
      let there = subst (λ h. IsReserved h end n (suc calls)) (sym c.self.view_is) covers in
      absurd (omega (arith, there.reaches, there.holds, le, c.self.invariant.2.for_bytes, c.self.invariant.1.end_is, c.in_err-reserve.ensures.full));
}

pub returns-in_err-reserve-2 : goal.returns-in_err-reserve-2
returns-in_err-reserve-2 c = record {
  added = record { ok = search rules; err = search rules };
  covered = λ end n calls covers le small.
      let there = subst (λ h. IsReserved h end n (suc calls)) (sym c.self.view_is) covers in
      absurd (omega (arith, there.counts, c.self.invariant.2.for_entries, c.in_err-reserve-2.ensures.full, length-steps c.self.inside.entries.items c.self.inside.payload.items));
}

pub returns-in_err-extend_from_slice : goal.returns-in_err-extend_from_slice
returns-in_err-extend_from_slice c = record {
  added = record { ok = search rules; err = search rules };
  covered = λ end n calls covers le small.
      let there = subst (λ h. IsReserved h end n (suc calls)) (sym c.self.view_is) covers in
      absurd (omega (arith, there.records, small, c.self.invariant.2.for_payload, c.in_err-extend_from_slice.ensures.full, bytes-steps c.self.inside.entries.items c.self.inside.payload.items c.self.invariant.0.size));
}

pub invariant_of-self-2 : goal.invariant_of-self-2
invariant_of-self-2 c =
    let i = c.self.inside in
    let entry = E.Write c.args.at (length c.args.bytes.now) in
    let kept = represents_write i.entries.items i.payload.items i.first i.base.items i.base_entries i.base_bytes c.args.at c.args.bytes.now c.self.invariant.0 in
    let behind = applied_write i.bytes.items i.entries.items i.payload.items i.applied_entries i.applied_bytes i.end c.args.at c.args.bytes.now c.self.invariant.0.size c.self.invariant.1 in
    let entries = c.in_ok-push.ensures.items ∙ ap (λ (l : List Entry). l ++ entry ∷ []) c.reserve-2.ensures.items in
    let payload = c.in_ok-extend_from_slice.ensures.items in
    let end : max i.end (c.args.at + length c.args.bytes.now) ≡ c.max-end.result = omega (arith, c.max-end.ensures) in (
      subst (λ (l : List ℕ). Represents c.push.new.self.items l i.first i.base.items i.base_entries i.base_bytes) (sym payload)
          (subst (λ (l : List Entry). Represents l (i.payload.items ++ c.args.bytes.now) i.first i.base.items i.base_entries i.base_bytes) (sym entries) kept),
      subst (λ (l : List ℕ). IsApplied l c.push.new.self.items c.extend_from_slice.new.self.items i.applied_entries i.applied_bytes c.max-end.result) (sym c.reserve.ensures.items)
          (subst (λ (l : List ℕ). IsApplied i.bytes.items c.push.new.self.items l i.applied_entries i.applied_bytes c.max-end.result) (sym payload)
          (subst (λ (l : List Entry). IsApplied i.bytes.items l (i.payload.items ++ c.args.bytes.now) i.applied_entries i.applied_bytes c.max-end.result) (sym entries)
          (subst (λ (n : ℕ). IsApplied i.bytes.items (i.entries.items ++ entry ∷ []) (i.payload.items ++ c.args.bytes.now) i.applied_entries i.applied_bytes n) end behind))),
      record {
        for_bytes = omega (arith, c.self.invariant.2.for_bytes, c.reserve.ensures.capacity);
        for_end = omega (arith, c.in_ok-reserve.ensures.ok, c.len.ensures);
        for_payload = omega (arith, c.self.invariant.2.for_payload, c.extend_from_slice.ensures.capacity);
        for_entries = omega (arith, c.self.invariant.2.for_entries, c.reserve-2.ensures.capacity, c.push.ensures.capacity);
      },
    )

pub returns : goal.returns
returns c = record {
  added = record {
    ok = let i = c.self.inside in
        let entry = E.Write c.args.at (length c.args.bytes.now) in
        let entries = c.in_ok-push.ensures.items ∙ ap (λ (l : List Entry). l ++ entry ∷ []) c.reserve-2.ensures.items in
        let payload = c.in_ok-extend_from_slice.ensures.items in
        let steps : steps_of c.push.new.self.items c.extend_from_slice.new.self.items ≡ steps_of i.entries.items i.payload.items ++ Write c.args.at c.args.bytes.now ∷ [] =
        ap (λ (l : List Entry). steps_of l c.extend_from_slice.new.self.items) entries ∙ ap (λ (l : List ℕ). steps_of (i.entries.items ++ entry ∷ []) l) payload
        ∙ steps-push i.entries.items i.payload.items c.args.at c.args.bytes.now c.self.invariant.0.size in
        ap (λ (l : List Step). let h : History = record { room = i.room; steps = l } in h) steps ∙ ap (λ (h : History). and_then h (Write c.args.at c.args.bytes.now)) c.self.view_is;
    err = search rules;
  };
  covered = search rules;
}
