-- The key under which the code of an arrival is tested, by the party's role (ANSI X9.17).
use Rattle.std.specs.Prelude.{Option}
use Rattle.x_base.specs.declared.party.Role.{Role}
use Rattle.x_base.specs.declared.party.Role.TheVariants.{Bank, Distribution, Translation}
use Rattle.csm_grammar.specs.declared.arrival.Arrival.{Arrival}
use Rattle.party_state.specs.declared.command.Input.{Input}
use Rattle.party_state.specs.declared.decision.Lead.{Lead}
use Rattle.party_state.specs.State.{Party}
use Rattle.role_base.specs.Leads.{of_arrival}
use Rattle.member.specs.BankLeads.{lead_of}
use Rattle.distribution_role.specs.Rows.{distribution_lead}
use Rattle.translation_role.specs.Rows.{translation_lead}

abbrev pub lead_by : Role → Party → Arrival → Option Lead
lead_by Bank p a = lead_of p a
lead_by Distribution p a = distribution_lead p a a.parsed.message
lead_by Translation p a = translation_lead p a a.parsed.message

abbrev pub lead_at : Party → Arrival → Option Lead
lead_at p a = lead_by p.role p a

-- of an input: of a command there is none
abbrev pub lead_in : Party → Input → Option Lead
lead_in p i = of_arrival (lead_at p) i
