use Rattle.bank_arrivals.proofs.Served.{serves_exactly, sends_asked}
use Rattle.bank_arrivals.proofs.accepting.law_serves.Goals as goal

pub returns-clause-exactly : goal.returns-clause-exactly
returns-clause-exactly c = serves_exactly c.law_accept.ensures.held c.law_accept.ensures.accepted

pub returns-clause-sent : goal.returns-clause-sent
returns-clause-sent c = sends_asked c.law_accept.ensures.held c.law_accept.ensures.accepted c.law_sends.ensures
