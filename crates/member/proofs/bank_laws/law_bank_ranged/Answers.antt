use Rattle.member.proofs.BankRanged.{RowsRanged, decided_ranged}
use Rattle.member.proofs.bank_laws.law_bank_ranged.Goals as goal

pub returns : goal.returns
returns c =
    let rows : RowsRanged = record {
      command = c.law_ranged.ensures;
      rsi = c.law_ranged-2.ensures.rsi;
      rtr = c.law_ranged-3.ensures.rtr;
      ksm = c.law_ranged-3.ensures.ksm;
      rsm = c.law_ranged-2.ensures.rsm;
      esm = c.law_ranged-2.ensures.esm;
      dsm = c.law_ranged-2.ensures.dsm;
    } in
    decided_ranged rows
