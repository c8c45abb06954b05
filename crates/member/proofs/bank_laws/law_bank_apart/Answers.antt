use Rattle.member.proofs.BankApart.{RowsApart, RowsBegin, row_apart, row_begins}
use Rattle.member.proofs.bank_laws.law_bank_apart.Goals as goal

pub returns-clause-apart : goal.returns-clause-apart
returns-clause-apart c =
    let rows : RowsApart = record {
      command = c.law_orders_apart.ensures;
      rsi = c.law_arrivals_apart.ensures.rsi;
      rtr = c.law_keys_apart.ensures.rtr;
      ksm = c.law_keys_apart.ensures.ksm;
      rsm = c.law_arrivals_apart.ensures.rsm;
      esm = c.law_arrivals_apart.ensures.esm;
      dsm = c.law_arrivals_apart.ensures.dsm;
    } in
    row_apart rows

pub returns-clause-begins : goal.returns-clause-begins
returns-clause-begins c =
    let rows : RowsBegin = record {
      command = c.law_begins.ensures;
      rsi = c.law_begins-2.ensures.rsi;
      rtr = c.law_begins-3.ensures.rtr;
      ksm = c.law_begins-3.ensures.ksm;
      rsm = c.law_begins-2.ensures.rsm;
      esm = c.law_begins-2.ensures.esm;
      dsm = c.law_begins-2.ensures.dsm;
    } in
    row_begins rows
