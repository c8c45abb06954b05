use Rattle.std.proofs.Common.{rules, List, [], ◌∷◌, ℕ, ap, subst, sym}
use Rattle.x_disk.specs.Disk.{LeavesOnly, IsWritten}
use Rattle.key_journal.specs.States.{HasStaged, HoldsOldOrNew}
use Rattle.key_journal.proofs.StepLemmas.{commit_moment, commit_done, commit_ready, room_is}
use Rattle.std.proofs.Common.{◌≡◌, Some, Result, Err}
use Rattle.x_disk.specs.declared.disk.DiskErr.{DiskErr}
use Rattle.key_journal.proofs.ready.Staged.commit.Goals as goal

pub invariant_of-result : goal.invariant_of-result
invariant_of-result g c =
    let told = g.D.Disk.told in
    commit_ready (told c.self.inside.disk) (told c.put.new.disk) c.self.inside.gate c.self.inside.next c.self.inside.end c.self.invariant c.in-Ok.ensures.written c.put.ensures.tells c.in-Ok.ensures.durable

pub returns-in-Ok : goal.returns-in-Ok
returns-in-Ok g c = record {
  room = room_is (g.D.Disk.told c.put.new.disk) c.self.inside.next c.self.inside.end (invariant_of-result g c);
  committed = λ bodies body has.
      let told = g.D.Disk.told in
      commit_done (told c.self.inside.disk) (told c.put.new.disk) c.self.inside.gate c.self.inside.next c.self.inside.end c.self.invariant c.in-Ok.ensures.written bodies body
      (subst (λ d. HasStaged (told d) bodies body) (sym (ap (λ s. s.disk) c.self.view_is)) has);
  written = let told = g.D.Disk.told in subst (λ s. IsWritten s.gate (1 ∷ []) (told s.disk) (told c.put.new.disk)) c.self.view_is c.in-Ok.ensures.written;
  durable = search rules;
  any_moment = let told = g.D.Disk.told in
      subst (λ d. (bodies : List (List ℕ)) (body : List ℕ) → HasStaged (told d) bodies body → LeavesOnly (told d) (told c.put.new.disk) (HoldsOldOrNew bodies body)) (ap (λ s. s.disk) c.self.view_is)
      (commit_moment (told c.self.inside.disk) (told c.put.new.disk) c.self.inside.gate c.self.inside.next c.self.inside.end c.self.invariant c.put.ensures.any_moment);
  place = search rules;
  stable = tt;
  cause = tt;
  faults = search rules;
  tells = search rules;
  calls_left = search rules;
  blows = search rules;
  pending = tt;
  covered = tt;
  covered_then = search rules;
}

pub returns-in-Err : goal.returns-in-Err
returns-in-Err g c = record {
  room = tt;
  committed = tt;
  written = tt;
  durable = tt;
  any_moment = let told = g.D.Disk.told in
      subst (λ d. (bodies : List (List ℕ)) (body : List ℕ) → HasStaged (told d) bodies body → LeavesOnly (told d) (told c.put.new.disk) (HoldsOldOrNew bodies body)) (ap (λ s. s.disk) c.self.view_is)
      (commit_moment (told c.self.inside.disk) (told c.put.new.disk) c.self.inside.gate c.self.inside.next c.self.inside.end c.self.invariant c.put.ensures.any_moment);
  place = tt;
  stable = search rules;
  cause = search rules;
  faults = search rules;
  tells = search rules;
  calls_left = tt;
  blows = search rules;
  pending = λ bodies body has one fault blown.
      let told = g.D.Disk.told in
      let same = ap (λ s. s.disk) c.self.view_is in
      let written = c.in-Err.ensures.pending (subst (λ d. (told d).calls_left ≡ Some 1) (sym same) one) (ap (λ (e : DiskErr). let r : Result (Unit {0}) DiskErr = Err e in r) fault) blown in
      commit_done (told c.self.inside.disk) (told c.put.new.disk) c.self.inside.gate c.self.inside.next c.self.inside.end c.self.invariant written bodies body
      (subst (λ d. HasStaged (told d) bodies body) (sym same) has);
  covered = search rules;
  covered_then = tt;
}
