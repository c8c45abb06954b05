use Rattle.std.proofs.Common.{rules, subst, ap}
use Rattle.key_journal.specs.Wiping.{Wipes, LeavesCounting}
use Rattle.key_journal.proofs.StepLemmas.{room_is}
use Rattle.key_journal.proofs.WipeLemmas.{wiped_ready}
use Rattle.key_journal.proofs.ready.Ready.wipe.Goals as goal

pub invariant_of-result : goal.invariant_of-result
invariant_of-result g c =
    let told = g.D.Disk.told in
    let i = c.self.inside in
    wiped_ready (told i.disk) (told c.clear_idle.new.disk) i.gate i.end c.self.invariant c.in-Ok.ensures.wiped c.clear_idle.ensures.tells c.in-Ok.ensures.durable

pub returns-in-Ok : goal.returns-in-Ok
returns-in-Ok g c =
    let told = g.D.Disk.told in
    let same = ap (λ s. s.disk) c.self.view_is in
    record {
      wiped = subst (λ d. Wipes (told d) (told c.clear_idle.new.disk)) same c.in-Ok.ensures.wiped;
      place = search rules;
      room = room_is (told c.clear_idle.new.disk) _ _ (invariant_of-result g c);
      durable = search rules;
      any_moment = subst (λ d. LeavesCounting (told d) (told c.clear_idle.new.disk)) same c.clear_idle.ensures.any_moment;
      cause = tt;
      faults = search rules;
      tells = search rules;
    }

pub returns-in-Err : goal.returns-in-Err
returns-in-Err g c = record {
  wiped = tt;
  place = tt;
  room = tt;
  durable = tt;
  any_moment = let told = g.D.Disk.told in
      subst (λ d. LeavesCounting (told d) (told c.clear_idle.new.disk)) (ap (λ s. s.disk) c.self.view_is) c.clear_idle.ensures.any_moment;
  cause = search rules;
  faults = search rules;
  tells = search rules;
}
