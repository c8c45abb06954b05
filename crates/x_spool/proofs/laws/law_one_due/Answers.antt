use Rattle.x_spool.proofs.Single.{one_due}
use Rattle.x_spool.proofs.laws.law_one_due.Goals as goal

pub returns : goal.returns
returns c = λ name image book text a b.
    let party = c.law_one_finding.ensures in
    let spool = c.law_one_finding-2.ensures in
    one_due party.party party.not_blank party.undamaged party.one_damage spool.state spool.not_blank spool.undamaged spool.one_damage name image book text a b
