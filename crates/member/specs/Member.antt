-- A party with the space that is left for it, and what it will do with an input (this project's profile).
use Rattle.std.specs.Prelude.{ℕ, cond, Option, None, List, []}
use Rattle.x_base.specs.declared.key_name.FullName.{FullName}
use Rattle.x_base.specs.declared.verdict.Verdict.{Verdict}
use Rattle.x_base.specs.declared.verdict.Verdict.TheVariants.{JournalFull}
use Rattle.party_state.specs.declared.command.Input.{Input}
use Rattle.party_state.specs.declared.decision.Decision.{Decision}
use Rattle.party_state.specs.declared.decision.Lead.{Lead}
use Rattle.party_state.specs.declared.edit.Edit.{Edit}
use Rattle.party_state.specs.State.{Party, apply}
use Rattle.change_code.specs.Cost.{fits, space_after}
use Rattle.change_code.specs.declared.space.Space.{Space}
use Rattle.member.specs.Deciding.{decision}
use Rattle.member.specs.Leads.{lead_in}

-- a party, and the room that is left on its disk, with the format of what is kept there
pub record Member : Type 0 where
  pub party : Party
  pub space : Space

-- what a member will do with an input: the key under which the input's code is tested, the edits that are kept, and what
-- is answered, with the key under which the reply's code is made
pub record Plan : Type 0 where
  pub lead : Option Lead
  pub edits : List Edit
  pub verdict : Verdict
  pub reply : Option (List ℕ)
  pub under : Option FullName

-- all as it is decided; a decision that refuses has no edits
abbrev pub as_decided : Option Lead → Decision → Plan
as_decided l d = record { lead = l; edits = d.change; verdict = d.verdict; reply = d.reply; under = d.under }

-- the change doesn't fit: nothing is kept or answered
abbrev pub as_full : Option Lead → Plan
as_full l = record { lead = l; edits = []; verdict = JournalFull; reply = None; under = None }

abbrev pub plan_of : Space → Option Lead → Decision → Plan
plan_of space l d = cond (fits space d.change) (as_decided l d) (as_full l)

-- what a member will do with an input at a moment
abbrev pub plan_at : Member → Input → ℕ → Plan
plan_at x i moment = plan_of x.space (lead_in x.party i) (decision x.party i moment)

-- the member after edits that are kept
abbrev pub after : Member → List Edit → Member
after x es = record { party = apply es x.party; space = space_after x.space es }
