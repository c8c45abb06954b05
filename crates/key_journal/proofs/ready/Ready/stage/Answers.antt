use Rattle.std.proofs.Common.{rules, ◌+◌, ◌≤◌, List, ℕ, length, ap, subst, sym, arith}
use Rattle.x_disk.specs.Disk.{LeavesOnly, IsWritten}
use Rattle.key_journal.specs.Journal.{HoldsBodies}
use Rattle.key_journal.specs.States.{HasBodies}
use Rattle.key_journal.proofs.StepLemmas.{stage_moment, stage_done, stage_ready}
use Rattle.key_journal.proofs.ready.Ready.stage.Goals as goal

pub invariant_of-result : goal.invariant_of-result
invariant_of-result g c =
    let told = g.D.Disk.told in
    let fits : c.self.inside.gate + 1 + length c.args.frame.now ≤ c.self.inside.end = omega (arith, c.requires.fits, ap (λ s. s.gate) c.self.view_is, ap (λ s. s.end) c.self.view_is) in
    stage_ready (told c.self.inside.disk) (told c.put.new.disk) c.self.inside.gate c.self.inside.end c.args.frame.now c.requires.frame c.self.invariant c.in-Ok.ensures.written c.put.ensures.tells c.in-Ok.ensures.durable fits

pub returns-in-Ok : goal.returns-in-Ok
returns-in-Ok g c = record {
  staged = λ bodies body has is_body is.
      let told = g.D.Disk.told in
      let fits : c.self.inside.gate + 1 + length c.args.frame.now ≤ c.self.inside.end = omega (arith, c.requires.fits, ap (λ s. s.gate) c.self.view_is, ap (λ s. s.end) c.self.view_is) in
      stage_done (told c.self.inside.disk) (told c.put.new.disk) c.self.inside.gate c.self.inside.end c.args.frame.now body c.self.invariant c.in-Ok.ensures.written fits is is_body bodies
      (subst (λ d. HasBodies (told d) bodies) (sym (ap (λ s. s.disk) c.self.view_is)) has);
  written = let told = g.D.Disk.told in subst (λ s. IsWritten (s.gate + 1) c.args.frame.now (told s.disk) (told c.put.new.disk)) c.self.view_is c.in-Ok.ensures.written;
  durable = search rules;
  any_moment = let told = g.D.Disk.told in
      subst (λ d. (bodies : List (List ℕ)) → HasBodies (told d) bodies → LeavesOnly (told d) (told c.put.new.disk) (λ f. HoldsBodies f bodies)) (ap (λ s. s.disk) c.self.view_is)
      (stage_moment (told c.self.inside.disk) (told c.put.new.disk) c.self.inside.gate c.self.inside.end (length c.args.frame.now) c.self.invariant c.put.ensures.any_moment);
  place = search rules;
  stable = tt;
  cause = tt;
  faults = search rules;
  tells = search rules;
  calls_left = search rules;
  left = tt;
  blows = search rules;
  covered = tt;
  covered_then = search rules;
}

pub returns-in-Err : goal.returns-in-Err
returns-in-Err g c = record {
  staged = tt;
  written = tt;
  durable = tt;
  any_moment = let told = g.D.Disk.told in
      subst (λ d. (bodies : List (List ℕ)) → HasBodies (told d) bodies → LeavesOnly (told d) (told c.put.new.disk) (λ f. HoldsBodies f bodies)) (ap (λ s. s.disk) c.self.view_is)
      (stage_moment (told c.self.inside.disk) (told c.put.new.disk) c.self.inside.gate c.self.inside.end (length c.args.frame.now) c.self.invariant c.put.ensures.any_moment);
  place = tt;
  stable = search rules;
  cause = search rules;
  faults = search rules;
  tells = search rules;
  calls_left = tt;
  left = search rules;
  blows = search rules;
  covered = search rules;
  covered_then = tt;
}
