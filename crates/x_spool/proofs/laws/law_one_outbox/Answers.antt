use Rattle.x_spool.proofs.Looked.{one_look}
use Rattle.x_spool.proofs.laws.law_one_outbox.Goals as goal

pub returns : goal.returns
returns c = λ book a b.
    let spool = c.law_one_finding.ensures in
    one_look spool.state spool.not_blank spool.undamaged spool.one_damage book a b
