use Rattle.bank_orders.proofs.OrdersApart.{command_apart}
use Rattle.bank_orders.proofs.laws.law_orders_apart.Goals as goal

pub returns : goal.returns
returns c = command_apart c.law_accept.ensures.tested (record { same = c.law_same.ensures.link; found = c.law_found.ensures.link; put = c.law_put.ensures.link }) (record { same = c.law_same.ensures.key; found = c.law_found.ensures.key; put = c.law_put.ensures.key })
