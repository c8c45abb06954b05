use Rattle.x_pay.specs.Payments.{paying, accepting}
use Rattle.x_pay.proofs.Single.{one_due, out_once, in_once}
use Rattle.x_pay.proofs.laws.law_one_due.Goals as goal

pub returns-clause-paid : goal.returns-clause-paid
returns-clause-paid c = λ peer key amount name image book a b.
    let party = c.law_one_finding.ensures in
    let list = c.law_one_finding-2.ensures in
    one_due party.party party.not_blank party.undamaged party.one_damage list.state list.not_blank list.undamaged list.one_damage
    (paying peer key amount) (out_once peer key amount) name image book a b

pub returns-clause-accepted : goal.returns-clause-accepted
returns-clause-accepted c = λ bytes name image book a b.
    let party = c.law_one_finding.ensures in
    let list = c.law_one_finding-2.ensures in
    one_due party.party party.not_blank party.undamaged party.one_damage list.state list.not_blank list.undamaged list.one_damage
    (accepting bytes) (in_once c.law_one_pay.ensures bytes) name image book a b
