use Rattle.std.proofs.Common.{rules, ◌≡◌, ℕ, suc, List, [], ◌∷◌, ◌++◌, length, ◌∙◌, ap, subst, sym, arith}
use Rattle.x_disk.specs.History.{Step, Sync, History, and_then, IsReserved}
use Rattle.x_disk.specs.Record.{steps_of, Represents, IsApplied}
use Rattle.x_disk.specs.declared.disk_record.Entry.{Entry}
use Rattle.x_disk.proofs.RecordLemmas.{steps-sync, represents_sync, applied_sync, length-steps}
use Rattle.x_disk.proofs.disk_record.DiskRecord.add_sync.Goals as goal

pub returns-in_err-push : goal.returns-in_err-push
returns-in_err-push c = record {
  added = record { ok = search rules; err = search rules };
  covered = λ end n calls covers.
      let there = subst (λ h. IsReserved h end n (suc calls)) (sym c.self.view_is) covers in
      absurd (omega (arith, there.counts, c.self.invariant.2.for_entries, c.in_err-push.ensures.full, length-steps c.self.inside.entries.items c.self.inside.payload.items));
}

pub invariant_of-self-2 : goal.invariant_of-self-2
invariant_of-self-2 c =
    let i = c.self.inside in
    let kept = represents_sync i.entries.items i.payload.items i.first i.base.items i.base_entries i.base_bytes c.self.invariant.0 in
    let entries = c.in_ok-push.ensures.items in
    let behind = applied_sync i.bytes.items i.entries.items i.payload.items i.applied_entries i.applied_bytes i.end c.self.invariant.1 in
    let pushed = subst (λ (l : List Entry). Represents l i.payload.items (length l) i.base.items i.base_entries i.base_bytes) (sym entries) kept in
    let size : length c.push.new.self.items ≡ c.len-self-inside.result = omega (arith, c.len-self-inside.ensures) in (
      subst (λ (n : ℕ). Represents c.push.new.self.items i.payload.items n i.base.items i.base_entries i.base_bytes) size pushed,
      subst (λ (l : List Entry). IsApplied i.bytes.items l i.payload.items i.applied_entries i.applied_bytes i.end) (sym entries) behind,
      record {
        for_bytes = c.self.invariant.2.for_bytes;
        for_end = c.self.invariant.2.for_end;
        for_payload = c.self.invariant.2.for_payload;
        for_entries = omega (arith, c.self.invariant.2.for_entries, c.push.ensures.capacity);
      },
    )

pub returns : goal.returns
returns c = record {
  added = record {
    ok = let i = c.self.inside in
        let entries = c.in_ok-push.ensures.items in
        let steps : steps_of c.push.new.self.items i.payload.items ≡ steps_of i.entries.items i.payload.items ++ Sync ∷ [] =
        ap (λ (l : List Entry). steps_of l i.payload.items) entries ∙ steps-sync i.entries.items i.payload.items in
        ap (λ (l : List Step). let h : History = record { room = i.room; steps = l } in h) steps ∙ ap (λ (h : History). and_then h Sync) c.self.view_is;
    err = search rules;
  };
  covered = search rules;
}
