-- What is answered with a plan, apart from its edits.
use Rattle.std.specs.Prelude.{◌≡◌, true, ℕ, List}
use Rattle.party_state.specs.declared.command.Input.{Input}
use Rattle.party_state.specs.declared.edit.Edit.{Edit}
use Rattle.change_code.specs.Cost.{fits}
use Rattle.change_code.specs.declared.format.Format.{Format}
use Rattle.role_base.specs.Storable.{IsStorable}
use Rattle.member.specs.Member.{Member, Plan, plan_at}
use Rattle.member.specs.declared.answer.Answer.{Answer}

abbrev pub plan_with : Answer → List Edit → Plan
plan_with a es = record { lead = a.lead; edits = es; verdict = a.verdict; reply = a.reply; under = a.under }

abbrev pub answer_of : Plan → Answer
answer_of plan = record { lead = plan.lead; verdict = plan.verdict; reply = plan.reply; under = plan.under }

-- a plan, and the format in which its edits are framed
pub record FramedPlan : Type 0 where
  pub plan : Plan
  pub format : Format

-- this is the member's plan for the input at the moment, in its format; its edits can be kept, and fit
pub record IsPlan (x : Member) (i : Input) (moment : ℕ) (p : FramedPlan) : Type 0 where
  pub is : p.plan ≡ plan_at x i moment
  pub format : p.format ≡ x.space.format
  pub kept : IsStorable x.party p.plan.edits
  pub fits : fits x.space p.plan.edits ≡ true

-- a member, and what it will do
pub record PlannedMember : Type 0 where
  pub member : Member
  pub plan : Plan
