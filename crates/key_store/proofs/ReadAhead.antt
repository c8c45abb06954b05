-- Bodies that are read ahead, and then followed.
use Rattle.std.proofs.Common.{◌≡◌, ◌⊎◌, inl, ℕ, ◌+◌, ◌<◌, ◌≤◌, ◌^◌, true, false, List, [], ◌∷◌, ◌++◌, length, Some, None, Ok, Err, ◌∙◌, refl, subst, arith, append_assoc, length-append}
use Rattle.x_disk.specs.Disk.{View, IsStill}
use Rattle.key_journal.specs.Journal.{frames}
use Rattle.key_journal.specs.Opening.{IsFound, IsFree, found_at}
use Rattle.key_journal.specs.Reading.{IsReadOn}
use Rattle.key_journal.specs.declared.cause.Cause.{Cause}
use Rattle.key_journal.specs.declared.cause.Cause.TheVariants as cause
use Rattle.key_journal.specs.States.{Reading, HasRead}
use Rattle.key_store.specs.Ahead.{gate_behind, IsReadAhead}
use Rattle.key_store.proofs.Causes.{read_any}
use Rattle.key_store.proofs.Keeping.{rose_later}
use Rattle.key_store.proofs.Loaded.{still_on}

-- the length of frames

pub frames_append : (bodies more : List (List ℕ)) → length (frames (bodies ++ more)) ≡ length (frames bodies) + length (frames more)
frames_append [] more = omega arith
frames_append (body ∷ bodies) more =
    omega (arith, frames_append bodies more, length-append body (frames (bodies ++ more)), length-append body (frames bodies))

pub frames_one : (bodies : List (List ℕ)) (body : List ℕ) → length (frames (bodies ++ body ∷ [])) ≡ length (frames bodies) + 5 + length body
frames_one bodies body = omega (arith, frames_append bodies (body ∷ []), length-append body [])

pub some_frames : (bodies : List (List ℕ)) → length bodies ≤ length (frames bodies)
some_frames [] = omega arith
some_frames (body ∷ bodies) = omega (arith, some_frames bodies, length-append body (frames bodies))

some_bodies : (bodies : List (List ℕ)) → 0 < length (frames bodies) → 0 < length bodies
some_bodies [] some = omega (arith, some)
some_bodies (body ∷ bodies) some = omega arith

-- bodies were read ahead up to the gate that is read next
pub record IsUnderWay {D : Type 0} (told : D → View) (old now : Reading D) (bodies : List (List ℕ)) : Type 0 where
  pub few : length bodies ≤ 512
  pub place : now.gate ≡ gate_behind old.gate bodies
  pub read : (front : List (List ℕ)) → HasRead (told old.disk) front old.gate → HasRead (told now.disk) (front ++ bodies) now.gate
  pub onward : 0 < length bodies → now.gate < now.end
  pub end : now.end ≡ old.end
  pub still : IsStill (told old.disk) (told now.disk)
  pub faults : (told old.disk).faults ≤ (told now.disk).faults

module _ {D : Type 0} (told : D → View) (old mid : Reading D) (bodies : List (List ℕ)) (way : IsUnderWay told old mid bodies) where
  -- one body more
  pub one_more : (new : Reading D) (body : List ℕ) → IsReadOn told mid new (Ok (Some body)) → length bodies < 512 → IsUnderWay told old new (bodies ++ body ∷ [])
  one_more new body next few = record {
    few = omega (arith, few, length-append bodies (body ∷ []));
    place = omega (arith, way.place, next.onward.0, frames_one bodies body);
    read = λ front has. subst (λ (l : List (List ℕ)). HasRead (told new.disk) l new.gate) (append_assoc front bodies (body ∷ [])) (next.more (front ++ bodies) (way.read front has));
    onward = λ some. next.onward.1;
    end = next.end ∙ way.end;
    still = still_on (told old.disk) (told mid.disk) (told new.disk) way.still next.still;
    faults = omega (arith, way.faults, next.faults);
  }

  -- enough was read ahead
  pub full : 0 < length (frames bodies) → mid.gate < 2 ^ 64 → IsReadAhead told old mid bodies (Ok true)
  full some fits = record {
    few = way.few;
    fits = omega (arith, way.place, fits);
    read = λ front has. subst (λ (g : ℕ). HasRead (told mid.disk) (front ++ bodies) g) way.place (way.read front has);
    more = λ is. (way.place, omega (arith, way.place, some), way.onward (some_bodies bodies some));
    all = λ is. absurd (cc is);
    exact = tt;
    names = tt;
    end = way.end;
    journal = record { still = way.still; faults = way.faults; fault = tt; names = tt };
  }

  -- the frames up to there are read still
  still_read : (new : Reading D) → IsStill (told mid.disk) (told new.disk) → (front : List (List ℕ)) → HasRead (told old.disk) front old.gate → HasRead (told new.disk) (front ++ bodies) (gate_behind old.gate bodies)
  still_read new still front has =
      let there = way.read front has in
      subst (λ (g : ℕ). HasRead (told new.disk) (front ++ bodies) g) way.place (record { image = there.image; now = still.now ∙ there.now; begins = there.begins })

  -- there are no more
  pub last : (new : Reading D) → IsReadOn told mid new (Ok None) → mid.gate < 2 ^ 64 → IsReadAhead told old new bodies (Ok false)
  last new next fits = record {
    few = way.few;
    fits = omega (arith, way.place, fits);
    read = still_read new next.still;
    more = λ is. absurd (cc is);
    all = λ is. (next.ended refl, λ front has. next.all refl (front ++ bodies) (way.read front has));
    exact = tt;
    names = tt;
    end = next.end ∙ way.end;
    journal = record { still = still_on (told old.disk) (told mid.disk) (told new.disk) way.still next.still; faults = omega (arith, way.faults, next.faults); fault = tt; names = tt };
  }

  -- what lies behind them can't be read
  pub stopped : (new : Reading D) (reason : Cause) → IsReadOn told mid new (Err reason) → mid.gate < 2 ^ 64 → IsReadAhead told old new bodies (Err reason)
  stopped new reason next fits = record {
    few = way.few;
    fits = omega (arith, way.place, fits);
    read = still_read new next.still;
    more = tt;
    all = tt;
    exact = λ image now.
        subst (λ (g : ℕ). IsFound (found_at image g old.end) (Err reason)) way.place (subst (λ (e : ℕ). IsFound (found_at image mid.gate e) (Err reason)) way.end (next.exact image (way.still.now ∙ now)));
    names = subst (λ (g : ℕ). IsFree reason ⊎ (reason ≡ cause.Damaged g)) way.place next.names;
    end = next.end ∙ way.end;
    journal = record {
      still = still_on (told old.disk) (told mid.disk) (told new.disk) way.still next.still;
      faults = omega (arith, way.faults, next.faults);
      fault = λ is. rose_later (told old.disk).faults (told mid.disk).faults (told new.disk).faults way.faults (next.fault is);
      names = read_any reason mid.gate next.names;
    };
  }

  -- no memory was left for one more
  pub unkept : (new : Reading D) (body : List ℕ) → IsReadOn told mid new (Ok (Some body)) → mid.gate < 2 ^ 64 → IsReadAhead told old new bodies (Err cause.NoMemory)
  unkept new body next fits = record {
    few = way.few;
    fits = omega (arith, way.place, fits);
    read = still_read new next.still;
    more = tt;
    all = tt;
    exact = λ image now. inl tt;
    names = inl tt;
    end = next.end ∙ way.end;
    journal = record {
      still = still_on (told old.disk) (told mid.disk) (told new.disk) way.still next.still;
      faults = omega (arith, way.faults, next.faults);
      fault = λ is. absurd (cc is);
      names = λ is. cc is;
    };
  }
