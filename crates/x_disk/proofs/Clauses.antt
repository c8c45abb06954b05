-- The clauses of a disk's calls, of a disk in memory.
use Rattle.std.proofs.Common.{◌≡◌, ℕ, suc, ◌+◌, ◌-◌, ◌≤◌, max, List, [], ◌∷◌, ◌++◌, length, refl, sym, ◌∙◌, ap, subst, arith, length-append, Some}
use Rattle.x_disk.specs.Disk.{IsDurable, LeavesNoMore}
use Rattle.x_disk.specs.History.{Step, Write, Sync, PowerOff, History, and_then, State, state_of, IsImage, IsReserved, view_of, all_bytes, bytes_of, left_by}
use Rattle.x_disk.specs.HistoryLaw.{state_then, length-overwrite, settled_durable, well_state, only_settled, left_image}

bytes_then : (steps : List Step) (x : Step) → all_bytes (steps ++ x ∷ []) ≡ all_bytes steps + bytes_of x
bytes_then [] x = omega arith
bytes_then (y ∷ steps) x = omega (arith, bytes_then steps x)

pub write_keeps_stable : (h : History) (at : ℕ) (bytes : List ℕ) → (view_of (and_then h (Write at bytes))).stable ≡ (view_of h).stable
write_keeps_stable h at bytes = ap (λ (s : State). Some s.stable) (state_then h (Write at bytes))

pub write_covers : (h : History) (at : ℕ) (bytes : List ℕ) (end n calls : ℕ) → IsReserved h end n (suc calls) → at + length bytes ≤ end → length bytes ≤ n
    → IsReserved (and_then h (Write at bytes)) end (n - length bytes) calls
write_covers h at bytes end n calls covers le small =
    let now : length (state_of (and_then h (Write at bytes)).steps).now ≡ max (length (state_of h.steps).now) (at + length bytes) =
    ap (λ (s : State). length s.now) (state_then h (Write at bytes)) ∙ length-overwrite at bytes (state_of h.steps).now in
    record {
      reaches = covers.reaches;
      holds = omega (arith, now, covers.reaches, covers.holds, le);
      records = omega (arith, bytes_then h.steps (Write at bytes), covers.records, small);
      counts = omega (arith, covers.counts, length-append h.steps (Write at bytes ∷ []));
    }

pub sync_keeps_now : (h : History) → (view_of (and_then h Sync)).now ≡ (view_of h).now
sync_keeps_now h = ap (λ (s : State). Some s.now) (state_then h Sync)

pub sync_follows : (h : History) → LeavesNoMore (view_of h) (view_of (and_then h Sync))
sync_follows h = λ c left.
    let it : c ≡ (state_of h.steps).now = only_settled (state_of h.steps).now c (subst (λ (s : State). IsImage s c) (state_then h Sync) left) in
    subst (λ (l : List ℕ). IsImage (state_of h.steps) l) (sym it) (well_state h.steps).image

pub sync_durable : (h : History) → IsDurable (view_of (and_then h Sync))
sync_durable h = settled_durable h Sync (state_of h.steps).now refl

pub sync_covers : (h : History) (end n calls : ℕ) → IsReserved h end n (suc calls) → IsReserved (and_then h Sync) end n calls
sync_covers h end n calls covers =
    let now : length (state_of (and_then h Sync).steps).now ≡ length (state_of h.steps).now = ap (λ (s : State). length s.now) (state_then h Sync) in
    record {
      reaches = covers.reaches;
      holds = omega (arith, now, covers.holds);
      records = omega (arith, bytes_then h.steps Sync, covers.records);
      counts = omega (arith, covers.counts, length-append h.steps (Sync ∷ []));
    }

pub power_follows : (h : History) (choice : ℕ) → LeavesNoMore (view_of h) (view_of (and_then h (PowerOff choice)))
power_follows h choice = λ c left.
    let it : c ≡ left_by choice (state_of h.steps) = only_settled (left_by choice (state_of h.steps)) c (subst (λ (s : State). IsImage s c) (state_then h (PowerOff choice)) left) in
    subst (λ (l : List ℕ). IsImage (state_of h.steps) l) (sym it) (left_image choice (state_of h.steps) (well_state h.steps))

pub power_durable : (h : History) (choice : ℕ) → IsDurable (view_of (and_then h (PowerOff choice)))
power_durable h choice = settled_durable h (PowerOff choice) (left_by choice (state_of h.steps)) refl

pub power_now : (h : History) (choice : ℕ) → (view_of (and_then h (PowerOff choice))).now ≡ Some (left_by choice (state_of h.steps))
power_now h choice = ap (λ (s : State). Some s.now) (state_then h (PowerOff choice))
