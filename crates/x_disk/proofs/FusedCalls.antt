-- The calls of a disk with a fuse: one that the fuse answers, and one that passes.
use Rattle.std.proofs.Common.{◌≡◌, ℕ, zero, suc, true, ◌+◌, ◌-◌, ◌<◌, ◌≤◌, ◌^◌, List, length, Some, Result, Ok, Err, inl, inr, ⊎_elim, refl, sym, ap, subst, arith}
use Rattle.std.proofs.lemmas.Result.{on_ok_weaker}
use Rattle.x_base.specs.Edge.{Rose}
use Rattle.x_disk.specs.Disk.{View, IsSound, IsStill, Elapses, HasCause, IsCounted, KeepsCover}
use Rattle.x_disk.specs.Calls.{IsMeasured, IsFilled, IsWriting, IsSyncing}
use Rattle.x_disk.specs.Fuse.{with_fuse, passes_of, faults_of, is_last, IsBurnt}
use Rattle.x_disk.specs.declared.disk.DiskErr.{DiskErr}
use Rattle.x_disk.specs.declared.disk.DiskErr.TheVariants.{Fault, NoMemory}
use Rattle.x_disk.specs.declared.fused.Fuse.{Fuse}
use Rattle.x_disk.specs.declared.fused.Fuse.TheVariants.{Passes, Blown}
use Rattle.x_disk.proofs.Runs.{torn_same}

still : (old new : Fuse) (v w : View) → IsStill v w → IsStill (with_fuse old v) (with_fuse new w)
still old new v w s = record { now = s.now; stable = s.stable; moment = s.moment; images = s.images; images_stay = s.images_stay; since = s.since; since_stays = s.since_stays }

same : (old new : Fuse) (v : View) → IsStill (with_fuse old v) (with_fuse new v)
same old new v = record { now = refl; stable = refl; moment = refl; images = λ c i. i; images_stay = λ c i. i; since = λ t c i. i; since_stays = λ t c i. i }

no_time : (old new : Fuse) (v : View) → Elapses (with_fuse old v) (with_fuse new v)
no_time old new v = record { later = omega arith; nothing_else = λ t c le left. inl left; keeps = λ t c le left. left }

none_left : (fuse : Fuse) → passes_of fuse ≡ Some 0 → fuse ≡ Passes 0
none_left (Passes n) h = cc
none_left (Blown n) h = cc

-- the fuse answers

one_fault : (old new : Fuse) (e : DiskErr) → IsBurnt old new (Err e) → faults_of new ≤ faults_of old + 1
one_fault old new Fault burnt = let f = burnt.fault refl in omega (arith, f)
one_fault old new NoMemory burnt = let n = burnt.no_memory refl in let f : faults_of new ≡ faults_of old = ap faults_of n.0 in omega (arith, f)

refused_cause : {T : Type 0} (old new : Fuse) (v : View) (e : DiskErr) → IsBurnt old new (Err e) → HasCause {T = T} (with_fuse old v) (with_fuse new v) (Err e)
refused_cause old new v e burnt = record {
  later = let l = burnt.later in omega (arith, l);
  fault = λ is. let i : e ≡ Fault = cc in let f : faults_of new ≡ faults_of old + 1 = burnt.fault (cc) in inl (omega (arith, f));
  no_memory = λ is.
      let i : e ≡ NoMemory = cc in
      let n : (new ≡ old) × (2 ^ 64 ≤ faults_of old) = burnt.no_memory (cc) in
      (same old new v, ap (λ f. v.faults + faults_of f) n.0, λ end bytes calls covers. (covers.0, subst (λ f. faults_of f + calls < 2 ^ 64) (sym n.0) covers.1));
}

refused_counted : {T : Type 0} (old new : Fuse) (v w : View) (e : DiskErr) → IsBurnt old new (Err e) → IsCounted {T = T} (with_fuse old v) (with_fuse new w) (Err e)
refused_counted old new v w e burnt = record { calls_left = burnt.calls_left; blows = λ none. let first = burnt.blows (none_left old none) in cc }

pub refused_measured : (old new : Fuse) (v : View) (e : DiskErr) → IsBurnt old new (Err e) → IsMeasured (with_fuse old v) (with_fuse new v) (Err e)
refused_measured old new v e burnt =
    record { value = tt; still = same old new v; covered = tt; cause = refused_cause old new v e burnt; counted = refused_counted old new v v e burnt }

pub refused_filled : (at : ℕ) (before after : List ℕ) (old new : Fuse) (v : View) (e : DiskErr) → IsBurnt old new (Err e) → IsFilled at before after (with_fuse old v) (with_fuse new v) (Err e)
refused_filled at before after old new v e burnt =
    record { value = tt; still = same old new v; covered = tt; cause = refused_cause old new v e burnt; counted = refused_counted old new v v e burnt }

pub refused_writing : (at : ℕ) (bytes : List ℕ) (old new : Fuse) (v : View) (e : DiskErr) → IsSound v → IsBurnt old new (Err e) → IsWriting at bytes (with_fuse old v) (with_fuse new v) (Err e)
refused_writing at bytes old new v e sound burnt = record {
  written = tt;
  stable = refl;
  tells = refl;
  crash = λ image left. (image, left, torn_same _ _ image);
  time = no_time old new v;
  clock = tt;
  cause = refused_cause old new v e burnt;
  counted = refused_counted old new v v e burnt;
  covered = record {
    answers = λ end n calls covers within fits is. let i : e ≡ NoMemory = cc in let full = burnt.no_memory (cc) in omega (arith, covers.1, full.1);
    left = λ end n calls covers within fits. (sound.covers_less end n (suc calls) (n - length bytes) calls covers.0 (omega arith) (omega arith), omega (arith, covers.1, one_fault old new e burnt));
  };
}

pub refused_syncing : (old new : Fuse) (v : View) (e : DiskErr) → IsSound v → IsBurnt old new (Err e) → IsSyncing (with_fuse old v) (with_fuse new v) (Err e)
refused_syncing old new v e sound burnt = record {
  durable = tt;
  stable = refl;
  now = refl;
  crash = λ image left. left;
  time = no_time old new v;
  clock = tt;
  cause = refused_cause old new v e burnt;
  counted = refused_counted old new v v e burnt;
  covered = record {
    answers = λ end n calls covers is. let i : e ≡ NoMemory = cc in let full = burnt.no_memory (cc) in omega (arith, covers.1, full.1);
    left = λ end n calls covers. (sound.covers_less end n (suc calls) n calls covers.0 (omega arith) (omega arith), omega (arith, covers.1, one_fault old new e burnt));
  };
}

-- the call passes

rose : (m n a b : ℕ) → a ≡ 0 → b ≡ 0 → Rose m n → Rose (m + a) (n + b)
rose m n a b i j rise = ⊎_elim (λ (h : m < n). inl (omega (arith, h, i, j))) (λ (h : 2 ^ 64 ≤ n + 1). inr (omega (arith, h, i, j))) rise

passed_keeps : (old new : Fuse) (v w : View) → IsBurnt old new (Ok tt) → KeepsCover v w → KeepsCover (with_fuse old v) (with_fuse new w)
passed_keeps old new v w burnt keeps = λ end bytes calls covers. (keeps end bytes calls covers.0, omega (arith, covers.1, burnt.unblown.1))

passed_cause : {T : Type 0} (old new : Fuse) (v w : View) (r : Result T DiskErr) → IsBurnt old new (Ok tt) → HasCause v w r → HasCause (with_fuse old v) (with_fuse new w) r
passed_cause old new v w r burnt cause = record {
  later = omega (arith, cause.later, burnt.unblown.0, burnt.unblown.1);
  fault = λ is. rose v.faults w.faults (faults_of old) (faults_of new) burnt.unblown.0 burnt.unblown.1 (cause.fault is);
  no_memory = λ is. let same = cause.no_memory is in (still old new v w same.0, omega (arith, same.1, burnt.unblown.0, burnt.unblown.1), passed_keeps old new v w burnt same.2);
}

passed_counted : {T : Type 0} (old new : Fuse) (v w : View) (r : Result T DiskErr) → IsBurnt old new (Ok tt) → IsCounted (with_fuse old v) (with_fuse new w) r
passed_counted old new v w r burnt = record { calls_left = burnt.calls_left; blows = λ none. let first = burnt.blows (none_left old none) in cc }

pub passed_measured : (old new : Fuse) (v w : View) (r : Result ℕ DiskErr) → IsBurnt old new (Ok tt) → IsMeasured v w r → IsMeasured (with_fuse old v) (with_fuse new w) r
passed_measured old new v w r burnt call = record {
  value = call.value;
  still = still old new v w call.still;
  covered = on_ok_weaker r (passed_keeps old new v w burnt) call.covered;
  cause = passed_cause old new v w r burnt call.cause;
  counted = passed_counted old new v w r burnt;
}

pub passed_filled : (at : ℕ) (before after : List ℕ) (old new : Fuse) (v w : View) (r : Result Unit DiskErr) → IsBurnt old new (Ok tt) → IsFilled at before after v w r → IsFilled at before after (with_fuse old v) (with_fuse new w) r
passed_filled at before after old new v w r burnt call = record {
  value = call.value;
  still = still old new v w call.still;
  covered = on_ok_weaker r (passed_keeps old new v w burnt) call.covered;
  cause = passed_cause old new v w r burnt call.cause;
  counted = passed_counted old new v w r burnt;
}

elapses : (old new : Fuse) (v w : View) → Elapses v w → Elapses (with_fuse old v) (with_fuse new w)
elapses old new v w time = record { later = time.later; nothing_else = time.nothing_else; keeps = time.keeps }

pub passed_writing : (at : ℕ) (bytes : List ℕ) (old new : Fuse) (v w : View) (r : Result Unit DiskErr) → IsBurnt old new (Ok tt) → IsWriting at bytes v w r → IsWriting at bytes (with_fuse old v) (with_fuse new w) r
passed_writing at bytes old new v w r burnt call = record {
  written = call.written;
  stable = call.stable;
  tells = call.tells;
  crash = call.crash;
  time = elapses old new v w call.time;
  clock = call.clock;
  cause = passed_cause old new v w r burnt call.cause;
  counted = passed_counted old new v w r burnt;
  covered = record {
    answers = λ end n calls covers. call.covered.answers end n calls covers.0;
    left = λ end n calls covers within fits. (call.covered.left end n calls covers.0 within fits, omega (arith, covers.1, burnt.unblown.1));
  };
}

-- the call that blows the fuse is made, and nobody hears how it ended
pub begun_writing : (at : ℕ) (bytes : List ℕ) (old new : Fuse) (v w : View) (r : Result Unit DiskErr) (e : DiskErr) → old ≡ Passes 0 → IsBurnt old new (Err e) → IsWriting at bytes v w r → IsWriting at bytes (with_fuse old v) (with_fuse new w) (Err e)
begun_writing at bytes old new v w r e last burnt call = record {
  written = tt;
  stable = call.stable;
  tells = call.tells;
  crash = call.crash;
  time = elapses old new v w call.time;
  clock = tt;
  cause = record {
    later = omega (arith, call.cause.later, burnt.later);
    fault = λ is. let i : e ≡ Fault = cc in let f : faults_of new ≡ faults_of old + 1 = burnt.fault (cc) in inl (omega (arith, f, call.cause.later));
    no_memory = λ is. let fault = burnt.blows last in absurd (cc (is, fault));
  };
  counted = refused_counted old new v w e burnt;
  covered = record {
    answers = λ end n calls covers within fits is. let fault = burnt.blows last in absurd (cc (is, fault));
    left = λ end n calls covers within fits. (call.covered.left end n calls covers.0 within fits, omega (arith, covers.1, one_fault old new e burnt));
  };
}

pub is_last_call : (fuse : Fuse) → is_last fuse ≡ true → fuse ≡ Passes 0
is_last_call (Passes zero) is = refl
is_last_call (Passes (suc n)) is = absurd (cc is)
is_last_call (Blown n) is = absurd (cc is)

pub passed_syncing : (old new : Fuse) (v w : View) (r : Result Unit DiskErr) → IsBurnt old new (Ok tt) → IsSyncing v w r → IsSyncing (with_fuse old v) (with_fuse new w) r
passed_syncing old new v w r burnt call = record {
  durable = on_ok_weaker r (λ durable. record { only = durable.only; stable = durable.stable }) call.durable;
  stable = call.stable;
  now = call.now;
  crash = call.crash;
  time = elapses old new v w call.time;
  clock = call.clock;
  cause = passed_cause old new v w r burnt call.cause;
  counted = passed_counted old new v w r burnt;
  covered = record {
    answers = λ end n calls covers. call.covered.answers end n calls covers.0;
    left = λ end n calls covers. (call.covered.left end n calls covers.0, omega (arith, covers.1, burnt.unblown.1));
  };
}
