use Rattle.std.proofs.Common.{rules, ℕ, Some, ◌∙◌, ap, subst, sym}
use Rattle.x_disk.specs.Disk.{Elapses, Ticks, IsDurable}
use Rattle.x_disk.specs.History.{PowerOff, left_by, state_of, view_of}
use Rattle.x_disk.specs.HistoryLaw.{step_elapses, step_ticks}
use Rattle.x_disk.proofs.Clauses.{power_follows, power_durable, power_now}
use Rattle.x_disk.proofs.torn.TornDiskDisk.power_off.Goals as goal

pub returns-clause-call : goal.returns-clause-call
returns-clause-call c = record {
  durable = subst (λ h. IsDurable (view_of h)) (sym c.in_ok-add_power_off.ensures.ok) (power_durable c.args.self.now c.args.choice);
  crash = λ image left. power_follows c.args.self.now c.args.choice image (subst (λ h. (view_of h).may_leave image) c.in_ok-add_power_off.ensures.ok left);
  stable = λ is. ap (λ h. (view_of h).now) c.in_ok-add_power_off.ensures.ok ∙ power_now c.args.self.now c.args.choice ∙ ap (λ (n : ℕ). Some (left_by n (state_of c.args.self.now.steps))) is;
  now = λ is. ap (λ h. (view_of h).now) c.in_ok-add_power_off.ensures.ok ∙ power_now c.args.self.now c.args.choice ∙ ap (λ (n : ℕ). Some (left_by n (state_of c.args.self.now.steps))) is;
  tells = search rules;
  as_before = search rules;
  time = subst (λ h. Elapses (view_of c.args.self.now) (view_of h)) (sym c.in_ok-add_power_off.ensures.ok) (step_elapses c.args.self.now (PowerOff c.args.choice));
  clock = subst (λ h. Ticks (view_of c.args.self.now) (view_of h)) (sym c.in_ok-add_power_off.ensures.ok) (step_ticks c.args.self.now (PowerOff c.args.choice));
  calls_left = search rules;
  cause = search rules;
}
