use Rattle.x_pay.specs.Payments.{paying, accepting}
use Rattle.pay_auth.specs.Runs.{Pays, Accepts}
use Rattle.x_pay.specs.Calls.{TellsPaid, TellsTaken}
use Rattle.x_pay.proofs.Calling.{is_call, pays_of, accepts_of}
use Rattle.x_pay.proofs.laws.law_ledger_calls.Goals as goal

pub returns-clause-paid : goal.returns-clause-paid
returns-clause-paid g c = λ old new p b peer key amount name ledger o found made safe.
    let entry = g.H.Shelf.entry in
    let list = c.law_one_finding-2.ensures in
    is_call c.law_one_finding.ensures.party list.state list.not_blank (paying peer key amount) (Pays p peer key amount) TellsPaid name
    (entry old name) (entry new name) (entry old ledger) (entry new ledger) p b (pays_of p b peer key amount) found o made safe

pub returns-clause-accepted : goal.returns-clause-accepted
returns-clause-accepted g c = λ old new p b bytes name ledger o found made safe.
    let entry = g.H.Shelf.entry in
    let list = c.law_one_finding-2.ensures in
    is_call c.law_one_finding.ensures.party list.state list.not_blank (accepting bytes) (Accepts p bytes) TellsTaken name
    (entry old name) (entry new name) (entry old ledger) (entry new ledger) p b (accepts_of p b bytes) found o made safe
