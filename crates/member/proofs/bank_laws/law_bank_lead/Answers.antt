use Rattle.member.proofs.BankLeads.{RowsLed, lead_none}
use Rattle.member.proofs.bank_laws.law_bank_lead.Goals as goal

pub returns : goal.returns
returns c =
    let rows : RowsLed = record {
      rsi = c.law_arrival_lead.ensures.rsi;
      rtr = c.law_key_lead.ensures.rtr;
      ksm = c.law_key_lead.ensures.ksm;
      rsm = c.law_arrival_lead.ensures.rsm;
      esm = c.law_arrival_lead.ensures.esm;
      dsm = c.law_arrival_lead.ensures.dsm;
    } in
    lead_none rows
