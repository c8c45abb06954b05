use Rattle.std.proofs.Common.{rules, ◌∙◌, ap, subst, sym}
use Rattle.x_disk.specs.Disk.{Elapses, Ticks, IsDurable}
use Rattle.x_disk.specs.History.{Sync, view_of, IsReserved}
use Rattle.x_disk.specs.HistoryLaw.{step_elapses, step_ticks}
use Rattle.x_disk.proofs.Clauses.{sync_keeps_now, sync_follows, sync_durable, sync_covers}
use Rattle.x_disk.proofs.torn.TornDiskDisk.sync.Goals as goal

pub returns-clause-call : goal.returns-clause-call
returns-clause-call c = record {
  durable = subst (λ h. IsDurable (view_of h)) (sym c.in_ok-add_sync.ensures.added.ok) (sync_durable c.args.self.now);
  stable = search rules;
  now = ap (λ h. (view_of h).now) c.in_ok-add_sync.ensures.added.ok ∙ sync_keeps_now c.args.self.now;
  crash = λ image left. sync_follows c.args.self.now image (subst (λ h. (view_of h).may_leave image) c.in_ok-add_sync.ensures.added.ok left);
  time = subst (λ h. Elapses (view_of c.args.self.now) (view_of h)) (sym c.in_ok-add_sync.ensures.added.ok) (step_elapses c.args.self.now Sync);
  clock = subst (λ h. Ticks (view_of c.args.self.now) (view_of h)) (sym c.in_ok-add_sync.ensures.added.ok) (step_ticks c.args.self.now Sync);
  cause = search rules;
  counted = search rules;
  covered = record {
    answers = λ end n calls covers none. absurd (cc none);
    left = λ end n calls covers. subst (λ h. IsReserved h end n calls) (sym c.in_ok-add_sync.ensures.added.ok) (sync_covers c.args.self.now end n calls covers);
  };
}
