-- Two disks are fetched and put back: what is told of that, and what is left of the shelf.
use Rattle.std.proofs.Common.{◌≡◌, ◌⊎◌, inl, inr, ℕ, ◌≤◌, ◌<◌, List, Result, Ok, Err, refl, sym, ◌∙◌, subst, arith}
use Rattle.x_base.specs.Edge.{Rose}
use Rattle.x_disk.specs.Disk.{View}
use Rattle.x_disk.specs.Shelf.{ShelfView}
use Rattle.x_disk.specs.declared.disk.DiskErr.{DiskErr}
use Rattle.x_disk.specs.declared.disk.DiskErr.TheVariants.{Fault, NoMemory}
use Rattle.disk_pair.specs.declared.disks.Disks.{Disks}
use Rattle.x_disk.proofs.Alike.{alike_trans}
use Rattle.disk_pair.specs.Pairs.{AreFetched, ArePutBack, LeavesPair, ThirdsStay, told_after}

pub thirds_on : (name other : List ℕ) (old mid new : List ℕ → View) → ThirdsStay name other old mid → ThirdsStay name other mid new → ThirdsStay name other old new
thirds_on name other old mid new first second = λ third apart from. alike_trans (old third) (mid third) (new third) (first third apart from) (second third apart from)

pub rose_some : (before after : ℕ) → before ≡ 0 → Rose before after → 0 < after
rose_some before after none (inl less) = omega (arith, none, less)
rose_some before after none (inr most) = omega (arith, none, most)

pub rose_from : (first mid last : ℕ) → first ≤ mid → Rose mid last → Rose first last
rose_from first mid last le (inl less) = inl (omega (arith, le, less))
rose_from first mid last le (inr most) = inr most

-- no memory was left, or a fault came and was counted
abbrev pub IsFailed : {O : Type 0} → (DiskErr → O) → O → ℕ → ℕ → Type 0
IsFailed failure o before after = (o ≡ failure NoMemory) ⊎ ((o ≡ failure Fault) × Rose before after)

-- the outcome, or a failure of the put back in its place
abbrev pub IsTold : {O : Type 0} → (DiskErr → O) → O → ℕ → ℕ → O → Type 0
IsTold failure o before after result = (result ≡ o) ⊎ IsFailed failure result before after

module _ {D O : Type 0} (told : D → View) (name other : List ℕ) (failure : DiskErr → O) where
  pub unfetched : (old new : ShelfView) (e : DiskErr) (o : O) → o ≡ failure e → AreFetched told name other old new (Err e) → IsFailed failure o old.faults new.faults
  unfetched old new Fault o is out = inr (is, out.cause refl)
  unfetched old new NoMemory o is out = inl is

  pub closed : (put : Disks D) (old new : ShelfView) (r : Result Unit DiskErr) (o result : O) → result ≡ told_after failure o r → ArePutBack told name other put old new r → IsTold failure o old.faults new.faults result
  closed put old new (Ok done) o result is back = inl is
  closed put old new (Err Fault) o result is back = inr (inr (is, back.cause refl))
  closed put old new (Err NoMemory) o result is back = inr (inl is)

  -- what is left of the shelf, where a failure is no answer
  module _ (IsAnswer : O → Type 0) (no_fault : IsAnswer (failure Fault) → ⊥) (no_memory : IsAnswer (failure NoMemory) → ⊥) (apart : failure NoMemory ≡ failure Fault → ⊥) where
    failed_rose : (o : O) (before after : ℕ) → IsFailed failure o before after → o ≡ failure Fault → Rose before after
    failed_rose o before after (inl is) fault = absurd (apart (sym is ∙ fault))
    failed_rose o before after (inr is) fault = is.1

    unanswered : (o : O) (before after : ℕ) → IsFailed failure o before after → IsAnswer o → ⊥
    unanswered o before after (inl is) answers = no_memory (subst IsAnswer is answers)
    unanswered o before after (inr is) answers = no_fault (subst IsAnswer is.0 answers)

    pub unfetched_leaves : (old new : ShelfView) (e : DiskErr) (o : O) → o ≡ failure e → AreFetched told name other old new (Err e)
        → LeavesPair name other (IsAnswer o) (o ≡ failure Fault) (new.is_back name) (new.is_back other) old.entry new.entry old.faults new.faults
    unfetched_leaves old new e o is out = record {
      back = λ answers. absurd (unanswered o old.faults new.faults (unfetched old new e o is out) answers);
      thirds = out.thirds;
      fault = failed_rose o old.faults new.faults (unfetched old new e o is out);
      later = out.later;
    }

    back_at : (put : Disks D) (old new : ShelfView) (r : Result Unit DiskErr) (o result : O) → result ≡ told_after failure o r → ArePutBack told name other put old new r → IsAnswer result → new.is_back name × new.is_back other
    back_at put old new (Ok done) o result is back answers = (back.first_back, back.second_back)
    back_at put old new (Err Fault) o result is back answers = absurd (no_fault (subst IsAnswer is answers))
    back_at put old new (Err NoMemory) o result is back answers = absurd (no_memory (subst IsAnswer is answers))

    module _ (old mid new : ShelfView) (taken put : Disks D) (r : Result Unit DiskErr) (o result : O) (out : AreFetched told name other old mid (Ok taken)) (back : ArePutBack told name other put mid new r) (is : result ≡ told_after failure o r)
        (seen : o ≡ failure Fault → Rose (told taken.first).faults (told put.first).faults ⊎ Rose (told taken.second).faults (told put.second).faults) where
      shown : o ≡ failure Fault → Rose mid.faults new.faults
      shown fault = elim (seen fault) [
        | inl rose ↦ back.first_seen (rose_some (told taken.first).faults (told put.first).faults out.first_fresh rose)
        | inr rose ↦ back.second_seen (rose_some (told taken.second).faults (told put.second).faults out.second_fresh rose)
      ]

      fault_told : IsTold failure o mid.faults new.faults result → result ≡ failure Fault → Rose mid.faults new.faults
      fault_told (inl same) fault = shown (sym same ∙ fault)
      fault_told (inr failed) fault = failed_rose result mid.faults new.faults failed fault

      pub around_leaves : LeavesPair name other (IsAnswer result) (result ≡ failure Fault) (new.is_back name) (new.is_back other) old.entry new.entry old.faults new.faults
      around_leaves = record {
        back = back_at put mid new r o result is back;
        thirds = thirds_on name other old.entry mid.entry new.entry out.thirds back.thirds;
        fault = λ fault. rose_from old.faults mid.faults new.faults out.later (fault_told (closed put mid new r o result is back) fault);
        later = omega (arith, out.later, back.later);
      }
