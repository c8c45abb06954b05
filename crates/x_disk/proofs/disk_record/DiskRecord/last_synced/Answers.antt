use Rattle.std.proofs.Common.{◌≡◌, ◌-◌, List, ℕ, length, take, drop, ap, ◌∙◌, arith}
use Rattle.std.proofs.lemmas.List.{take_rest}
use Rattle.x_disk.specs.History.{History, state_of}
use Rattle.x_disk.specs.Record.{lengths, written}
use Rattle.x_disk.specs.declared.disk_record.Entry.{Entry}
use Rattle.x_disk.proofs.RecordLemmas.{lengths-take}
use Rattle.x_disk.proofs.disk_record.DiskRecord.last_synced.Goals as goal

pub write_all-requires : goal.write_all-requires
write_all-requires c =
    let i = c.self.inside in
    let entries : lengths (drop i.base_entries c.deref-2.result.now) ≡ lengths (drop i.base_entries i.entries.items) = ap (λ (l : List Entry). lengths (drop i.base_entries l)) c.deref-2.ensures.value in
    let bytes : length (drop i.base_bytes c.deref-3.result.now) ≡ length (drop i.base_bytes i.payload.items) = ap (λ (l : List ℕ). length (drop i.base_bytes l)) c.deref-3.ensures.value in
    let whole = ap (λ (l : List ℕ). length l) (take_rest c.deref-3.result.now i.base_bytes) in
    omega (arith, lengths-take (i.first - i.base_entries) (drop i.base_entries c.deref-2.result.now), entries, bytes, whole, c.self.invariant.0.made.rest)

pub returns : goal.returns
returns c =
    let i = c.self.inside in
    let entries : take (i.first - i.base_entries) (drop i.base_entries c.deref-2.result.now) ≡ take (i.first - i.base_entries) (drop i.base_entries i.entries.items) = ap (λ (l : List Entry). take (i.first - i.base_entries) (drop i.base_entries l)) c.deref-2.ensures.value in
    let bytes : take (length c.deref-3.result.now - i.base_bytes) (drop i.base_bytes c.deref-3.result.now) ≡ drop i.base_bytes i.payload.items = take_rest c.deref-3.result.now i.base_bytes ∙ ap (λ (l : List ℕ). drop i.base_bytes l) c.deref-3.ensures.value in
    let image : c.copy_from.new.to.items ≡ i.base.items = c.in_ok-copy_from.ensures.ok ∙ c.deref.ensures.value in
    c.in_ok-write_all.ensures.ok ∙ ap (λ (l : List Entry). written l (take (length c.deref-3.result.now - i.base_bytes) (drop i.base_bytes c.deref-3.result.now)) c.copy_from.new.to.items) entries
    ∙ ap (λ (l : List ℕ). written (take (i.first - i.base_entries) (drop i.base_entries i.entries.items)) l c.copy_from.new.to.items) bytes
    ∙ ap (written (take (i.first - i.base_entries) (drop i.base_entries i.entries.items)) (drop i.base_bytes i.payload.items)) image
    ∙ c.self.invariant.0.stable_made ∙ ap (λ (h : History). (state_of h.steps).stable) c.self.view_is
