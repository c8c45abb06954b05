use Rattle.std.proofs.Common.{refl, append_assoc}
use Rattle.course.proofs.summing.summary.Goals as goal

pub returns : goal.returns
returns c = rw (c.in_ok-put_keys.ensures, c.in_ok-put_events.ensures, c.new-text.ensures) (simp append_assoc refl)
