-- Both disks are fetched, compared, and put back.
use Rattle.std.proofs.Common.{◌≡◌, ◌⊎◌, inl, inr, ℕ, List, Result, Ok, Err, refl, sym, ◌∙◌, ap, subst, arith}
use Rattle.x_base.specs.Edge.{Rose}
use Rattle.x_disk.specs.Disk.{View, IsSound}
use Rattle.x_disk.specs.Shelf.{ShelfView, IsAlike}
use Rattle.disk_pair.specs.declared.disks.Disks.{Disks}
use Rattle.disk_pair.specs.Pairs.{AreFetched, ArePutBack}
use Rattle.x_disk.specs.declared.disk.DiskErr.{DiskErr}
use Rattle.x_disk.specs.declared.disk.DiskErr.TheVariants as disk
use Rattle.x_pair.specs.Comparisons.{IsAnswered, LeavesCompared, TellsLikeness}
use Rattle.x_pair.specs.Looking.{HasCompared, failed_as}
use Rattle.x_pair.specs.declared.likeness.Compared.{Compared}
use Rattle.x_pair.specs.declared.likeness.Compared.TheVariants as compared
use Rattle.x_disk.proofs.Alike.{untouched_alike, untouched_around}
use Rattle.disk_pair.proofs.Around.{rose_from, rose_some, thirds_on}

pub not_answered : {A : Type 0} (e : DiskErr) → IsAnswered (failed_as e) → A
not_answered disk.Fault is = absurd is
not_answered disk.NoMemory is = absurd is

pub nothing_told : (v w : View) (e : DiskErr) → TellsLikeness v w (failed_as e)
nothing_told v w disk.Fault = tt
nothing_told v w disk.NoMemory = tt

pub tells_around : (v w a b : View) (c : Compared) → IsAlike v a → IsAlike w b → TellsLikeness a b c → TellsLikeness v w c
tells_around v w a b (compared.Done l) first second tells = λ i j read. tells i j (record { first = first.now ∙ read.first; second = second.now ∙ read.second })
tells_around v w a b compared.Fault first second tells = tt
tells_around v w a b compared.NoMemory first second tells = tt

module _ {D : Type 0} (told : D → View) (name other : List ℕ) (old mid : ShelfView) where
  pub unfetched : (first : IsSound (old.entry name)) (second : IsSound (old.entry other)) (e : DiskErr) → AreFetched told name other old mid (Err e) → (c : Compared) → (IsAnswered c → ⊥) → (c ≡ compared.Fault → Rose old.faults mid.faults)
      → LeavesCompared name other c (mid.is_back name) (mid.is_back other) old.entry mid.entry old.faults mid.faults
  unfetched first second e out c none fault = record {
    first_stays = untouched_alike (old.entry name) (mid.entry name) first out.first_stays;
    second_stays = untouched_alike (old.entry other) (mid.entry other) second out.second_stays;
    back = λ is. absurd (none is);
    thirds = out.thirds;
    fault = fault;
    later = out.later;
  }

  module _ (new : ShelfView) (taken put : Disks D) (c : Compared) (out : AreFetched told name other old mid (Ok taken)) (did : HasCompared told taken put c) (r : Result Unit DiskErr) (back : ArePutBack told name other put mid new r) where
    shown : c ≡ compared.Fault → Rose mid.faults new.faults
    shown is = elim (did.fault is) [
      | inl rose ↦ back.first_seen (rose_some (told taken.first).faults (told put.first).faults out.first_fresh rose)
      | inr rose ↦ back.second_seen (rose_some (told taken.second).faults (told put.second).faults out.second_fresh rose)
    ]

    pub left : (result : Compared) → (IsAnswered result → new.is_back name × new.is_back other) → (result ≡ compared.Fault → (c ≡ compared.Fault) ⊎ Rose mid.faults new.faults)
        → LeavesCompared name other result (new.is_back name) (new.is_back other) old.entry new.entry old.faults new.faults
    left result is_back fault = record {
      first_stays = untouched_around (old.entry name) (told taken.first) (told put.first) (new.entry name) out.first back.first did.first;
      second_stays = untouched_around (old.entry other) (told taken.second) (told put.second) (new.entry other) out.second back.second did.second;
      back = is_back;
      thirds = thirds_on name other old.entry mid.entry new.entry out.thirds back.thirds;
      fault = λ is. rose_from old.faults mid.faults new.faults out.later (elim (fault is) [ inl of ↦ shown of | inr rose ↦ rose ]);
      later = omega (arith, out.later, back.later);
    }

fault_as : (e : DiskErr) → failed_as e ≡ compared.Fault → e ≡ disk.Fault
fault_as disk.Fault is = refl
fault_as disk.NoMemory is = absurd (cc is)

-- the shelf failed at the fetch
pub no_fetch : {D : Type 0} (told : D → View) (name other : List ℕ) (old mid : ShelfView) (first : IsSound (old.entry name)) (second : IsSound (old.entry other)) (e : DiskErr) → AreFetched told name other old mid (Err e) → (c : Compared) → c ≡ failed_as e
    → LeavesCompared name other c (mid.is_back name) (mid.is_back other) old.entry mid.entry old.faults mid.faults
no_fetch told name other old mid first second e out c is =
    unfetched told name other old mid first second e out c (λ answered. not_answered e (subst IsAnswered is answered)) (λ fault. out.cause (ap Err (fault_as e (sym is ∙ fault))))

module _ {D : Type 0} (told : D → View) (name other : List ℕ) (old mid new : ShelfView) (taken put : Disks D) (c : Compared) (out : AreFetched told name other old mid (Ok taken)) (did : HasCompared told taken put c) where
  pub all_back : (u : Unit) → ArePutBack told name other put mid new (Ok u) → LeavesCompared name other c (new.is_back name) (new.is_back other) old.entry new.entry old.faults new.faults
  all_back u back = left told name other old mid new taken put c out did (Ok u) back c (λ is. (back.first_back, back.second_back)) (λ is. inl is)

  pub not_back : (e : DiskErr) → ArePutBack told name other put mid new (Err e) → (result : Compared) → result ≡ failed_as e → LeavesCompared name other result (new.is_back name) (new.is_back other) old.entry new.entry old.faults new.faults
  not_back e back result is = left told name other old mid new taken put c out did (Err e) back result (λ answered. not_answered e (subst IsAnswered is answered)) (λ fault. inr (back.cause (ap Err (fault_as e (sym is ∙ fault)))))
