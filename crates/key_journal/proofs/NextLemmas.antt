-- What `next` answers, by what it found at the gate.
use Rattle.std.proofs.Common.{◌≡◌, inl, inr, ℕ, ◌+◌, ◌≤◌, ◌<◌, Bool, true, false, List, ◌∷◌, length, take, drop, Option, Some, None, Result, Ok, Err, refl, sym, ◌∙◌, ap, subst, arith}
use mathlib.Core.Logic.{◌≢◌}
use Rattle.std.specs.Result.{IsErr, IsErrAnd}
use Rattle.x_base.specs.Edge.{Rose}
use Rattle.x_disk.specs.Disk.{View, IsStill}
use Rattle.x_disk.specs.declared.disk.DiskErr.{DiskErr}
use Rattle.x_disk.specs.declared.disk.DiskErr.TheVariants as disk
use Rattle.key_journal.specs.Causes.{cause_of}
use Rattle.key_journal.specs.Journal.{four_bytes, start}
use Rattle.key_journal.specs.Judged.{judged_at, IsSized}
use Rattle.key_journal.specs.Opening.{IsFree, IsOpen, found_at, is_open}
use Rattle.key_journal.specs.Reading.{IsReadOn}
use Rattle.key_journal.specs.States.{FaultsRose, Reading}
use Rattle.key_journal.specs.declared.cause.Cause.{Cause}
use Rattle.key_journal.specs.declared.cause.Cause.TheVariants as cause
use Rattle.key_journal.specs.declared.judge.Judged.TheVariants as kind
use Rattle.key_journal.proofs.DamageLemmas.{one_damage, unended}
use Rattle.key_journal.proofs.OpenLemmas.{all_of, damaged_gate, first_of, found_body, found_end, more_of, one_list, undamaged_at}

free_of : (reason : DiskErr) → IsFree (cause_of reason)
free_of disk.Fault = tt
free_of disk.NoMemory = tt

fault_of : (reason : DiskErr) → cause_of reason ≡ cause.Fault → reason ≡ disk.Fault
fault_of disk.Fault is = refl
fault_of disk.NoMemory is = absurd (cc is)

pub still_same : (v : View) → IsStill v v
still_same v = record { now = refl; stable = refl; moment = refl; images = λ c left. left; images_stay = λ c left. left; since = λ t c left. left; since_stays = λ t c left. left }

pub rose_later : (before mid after : ℕ) → before ≤ mid → Rose mid after → Rose before after
rose_later before mid after h (inl rose) = inl (omega arith)
rose_later before mid after h (inr full) = inr full

abbrev pub reading : {D : Type 0} → D → ℕ → ℕ → Bool → Reading D
reading disk gate end ended = record { disk = disk; gate = gate; end = end; ended = ended }

-- the disk failed
pub failed : {D : Type 0} (told : D → View) (old new : Reading D) (reason : DiskErr) (result : Result (Option (List ℕ)) Cause) → IsErr result × IsErrAnd result (λ c. c ≡ cause_of reason)
    → IsStill (told old.disk) (told new.disk) → FaultsRose (told old.disk) (told new.disk) reason → new.gate ≡ old.gate → new.end ≡ old.end → new.ended ≡ old.ended → IsReadOn told old new result
failed told old new reason (Ok o) is still rose gate end ended = absurd (cc is.0)
failed told old new reason (Err c) is still rose gate end ended =
    let free : IsFree c = subst (λ (x : Cause). IsFree x) (sym is.1) (free_of reason) in
    record {
      exact = λ b now. inl free;
      body = tt;
      more = tt;
      all = tt;
      only = tt;
      ended = tt;
      onward = tt;
      rests = tt;
      unfinished = tt;
      undamaged = λ bodies has. free;
      damaged = λ place damaged b now. absurd (subst (λ (x : Cause). IsFree x) damaged free);
      unended = tt;
      first_damage = λ place b now damage. inl free;
      first = λ bodies all read has. first_of (told new.disk) bodies all new.gate read has;
      again = (gate, ended);
      end = end;
      still = still;
      names = inl free;
      fault = λ fault. rose.fault (fault_of reason (sym is.1 ∙ fault));
      faults = rose.later;
    }

module _ {D : Type 0} (told : D → View) (old new : Reading D) (size : ℕ) (o : IsOpen (told old.disk) size old.gate old.end old.ended) (still : IsStill (told old.disk) (told new.disk)) (later : (told old.disk).faults ≤ (told new.disk).faults)
    (end : new.end ≡ old.end) where
  -- the list ends at the gate
  pub none_left : new.gate ≡ old.gate → new.ended ≡ true → ((b : List ℕ) → (told old.disk).now ≡ Some b → (is_open b old.gate ≡ false) × (old.gate ≢ start b)) → IsReadOn told old new (Ok None)
  none_left gate done stop = record {
    exact = λ b now. found_end b old.gate old.end (stop b now).0 (stop b now).1;
    body = tt;
    more = tt;
    all = λ none bodies read. all_of (told old.disk) (told new.disk) bodies old.gate still.now stop read;
    only = λ none bodies all read has. one_list (told old.disk) (told new.disk) bodies all still.now (all_of (told old.disk) (told new.disk) bodies old.gate still.now stop read) has;
    ended = λ none. done;
    onward = tt;
    rests = λ none. gate;
    unfinished = tt;
    undamaged = λ bodies has. tt;
    damaged = tt;
    unended = λ none. unended (told old.disk) size old.gate old.end old.ended o stop;
    first_damage = tt;
    first = λ bodies all read has. first_of (told new.disk) bodies all new.gate read has;
    again = tt;
    end = end;
    still = still;
    names = tt;
    fault = tt;
    faults = later;
  }

  -- what lies at the gate is damaged
  pub damage_told : new.gate ≡ old.gate → new.ended ≡ old.ended → ((b : List ℕ) → (told old.disk).now ≡ Some b → found_at b old.gate old.end ≡ Err (cause.Damaged old.gate)) → IsReadOn told old new (Err (cause.Damaged old.gate))
  damage_told gate ended found =
      let broken = damaged_gate (told old.disk) size old.gate old.end old.ended o found in
      record {
        exact = λ b now. inr (found b now);
        body = tt;
        more = tt;
        all = tt;
        only = tt;
        ended = tt;
        onward = tt;
        rests = tt;
        unfinished = tt;
        undamaged = λ bodies has. undamaged_at (told old.disk) size old.gate old.end old.ended o bodies has found;
        damaged = broken;
        unended = tt;
        first_damage = λ place b now damage. inr (ap (λ (n : ℕ). cause.Damaged n) (one_damage b old.gate place (broken old.gate refl b now) damage));
        first = λ bodies all read has. first_of (told new.disk) bodies all new.gate read has;
        again = (gate, ended);
        end = end;
        still = still;
        names = inr refl;
        fault = λ fault. absurd (cc fault);
        faults = later;
      }

  -- a frame with this body
  pub body_read : (n : ℕ) (body : List ℕ) → new.ended ≡ false → new.gate ≡ old.gate + (5 + n) → new.gate < new.end → length body ≡ n → IsSized old.gate old.end size n
      → ((b : List ℕ) → (told old.disk).now ≡ Some b → kind.Frame n ≡ judged_at b old.gate old.end)
      → ((b : List ℕ) → (told old.disk).now ≡ Some b → take 5 (drop old.gate b) ≡ 1 ∷ four_bytes n)
      → ((b : List ℕ) → (told old.disk).now ≡ Some b → body ≡ take n (drop (old.gate + 5) b)) → IsReadOn told old new (Ok (Some body))
  body_read n body fresh next room long sized judged front text = record {
    exact = λ b now. found_body b body old.gate old.end n (judged b now) (text b now);
    body = record { some = omega (arith, sized.some); small = omega (arith, sized.small) };
    more = λ bodies read. more_of (told old.disk) size old.gate old.end old.ended o (told new.disk) new.gate n body still.now next sized front text bodies read;
    all = λ none. absurd (cc none);
    only = λ none. absurd (cc none);
    ended = λ none. absurd (cc none);
    onward = (omega arith, room);
    rests = λ none. absurd (cc none);
    unfinished = fresh;
    undamaged = λ bodies has. tt;
    damaged = tt;
    unended = λ none. absurd (cc none);
    first_damage = tt;
    first = λ bodies all read has. first_of (told new.disk) bodies all new.gate read has;
    again = tt;
    end = end;
    still = still;
    names = tt;
    fault = tt;
    faults = later;
  }
