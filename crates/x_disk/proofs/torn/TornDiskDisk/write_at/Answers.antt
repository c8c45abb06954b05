use Rattle.std.proofs.Common.{rules, ◌-◌, length, ◌∙◌, ap, subst, sym}
use Rattle.x_disk.specs.Disk.{Elapses, Ticks, IsTornAt, IsWritten, Follows}
use Rattle.x_disk.specs.History.{Write, view_of, IsReserved}
use Rattle.x_disk.specs.HistoryLaw.{step_elapses, step_ticks, write_written, write_follows}
use Rattle.x_disk.proofs.Clauses.{write_keeps_stable, write_covers}
use Rattle.x_disk.proofs.torn.TornDiskDisk.write_at.Goals as goal

pub returns-clause-call : goal.returns-clause-call
returns-clause-call c = record {
  written = subst (λ h. IsWritten c.args.at c.args.bytes.now (view_of c.args.self.now) (view_of h)) (sym c.in_ok-add_write.ensures.added.ok) (write_written c.args.at c.args.bytes.now c.args.self.now);
  stable = ap (λ h. (view_of h).stable) c.in_ok-add_write.ensures.added.ok ∙ write_keeps_stable c.args.self.now c.args.at c.args.bytes.now;
  tells = search rules;
  crash = subst (λ h. Follows (IsTornAt c.args.at (length c.args.bytes.now)) (view_of c.args.self.now) (view_of h)) (sym c.in_ok-add_write.ensures.added.ok) (write_follows c.args.at c.args.bytes.now c.args.self.now);
  time = subst (λ h. Elapses (view_of c.args.self.now) (view_of h)) (sym c.in_ok-add_write.ensures.added.ok) (step_elapses c.args.self.now (Write c.args.at c.args.bytes.now));
  clock = subst (λ h. Ticks (view_of c.args.self.now) (view_of h)) (sym c.in_ok-add_write.ensures.added.ok) (step_ticks c.args.self.now (Write c.args.at c.args.bytes.now));
  cause = search rules;
  counted = search rules;
  covered = record {
    answers = λ end n calls covers le small none. absurd (cc none);
    left = λ end n calls covers le small.
        subst (λ h. IsReserved h end (n - length c.args.bytes.now) calls) (sym c.in_ok-add_write.ensures.added.ok) (write_covers c.args.self.now c.args.at c.args.bytes.now end n calls covers le small);
  };
}
