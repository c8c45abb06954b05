use Rattle.bank_orders.proofs.Beginning.{command_begins}
use Rattle.bank_orders.proofs.laws.law_begins.Goals as goal

pub returns : goal.returns
returns c = command_begins c.law_accept.ensures.tested c.law_found.ensures.link c.law_found.ensures.key
