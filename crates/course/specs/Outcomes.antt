-- What becomes of an event, and how often each outcome came (this project's profile).
use Rattle.std.specs.Prelude.{ℕ, Bool, cond, Option, Some, None, ◌≡◌, true, false, ◌+◌, ◌≤◌}
use Rattle.party_state.specs.declared.command.Input.{Input}
use Rattle.world_laws.specs.World.{World}
use Rattle.world_laws.specs.Events.{Completion, CutOld, CutNew, Action, Orders, Hears, Compacts, Migrates, Whole}
use Rattle.world_laws.specs.Steps.{world_after_input}
use Rattle.x_base.specs.Verdict.{number_of}
use Rattle.x_base.specs.declared.verdict.Verdict.{Verdict}
use Rattle.party_state.specs.Verdicts.{is_accept}
use Rattle.member.specs.Member.{Member, plan_at}
use Rattle.course.specs.Stops.{KeepsChange, IsFixed}
use Rattle.course.specs.declared.progress.EventOutcome.{EventOutcome}
use Rattle.course.specs.declared.progress.OutcomeCounts.{OutcomeCounts}
use Rattle.course.specs.declared.progress.Progress.{Progress}
use Rattle.course.specs.declared.progress.Stop.{Stop}
use Rattle.party_state.specs.declared.command.Input.TheVariants as input
use Rattle.course.specs.declared.progress.EventOutcome.TheVariants as outcome

-- what an event makes of the network at a party that has an input; where nothing is heard, nothing changes
abbrev pub world_after_given : ℕ → World → Member → Option Input → ℕ → Completion → World
world_after_given n w x None moment completion = w
world_after_given n w x (Some i) moment completion = world_after_input n w x i moment completion

-- the old state stands after a cut, or the new one
abbrev pub completion_of : Bool → Completion
completion_of next = cond next CutNew CutOld

-- the input that an action gives a party, where something is heard
abbrev pub input_in : Action → Option Input
input_in (Orders c) = Some (input.Ordered c)
input_in (Hears bytes (Some a)) = Some (input.Arrived a)
input_in (Hears bytes None) = None
input_in Compacts = None
input_in Migrates = None

abbrev pub outcome_of : Verdict → EventOutcome
outcome_of v = cond (is_accept v) outcome.Done (outcome.Refused (number_of v))

-- an event is whole, or cut where a stop waits; whether the disks tell their bytes, and two counts of the shelf's faults
abbrev pub IsCompleted : Bool → ℕ → ℕ → Option Stop → Member → ℕ → Option Input → Completion → Type 0
IsCompleted tell before after None x moment i completion = completion ≡ Whole
IsCompleted tell before after (Some stop) x moment i completion = (next : Bool) × (completion ≡ completion_of next) × IsFixed tell (KeepsChange x i moment) stop before after next

-- what becomes of it: by the verdict, or by the number of why nothing is heard
abbrev pub IsOutcome : Option Stop → Member → ℕ → Option Input → ℕ → EventOutcome → Type 0
IsOutcome (Some stop) x moment i number o = o ≡ outcome.Stopped
IsOutcome None x moment (Some i) number o = o ≡ outcome_of (plan_at x i moment).verdict
IsOutcome None x moment None number o = o ≡ outcome.Refused number

abbrev pub counted : EventOutcome → OutcomeCounts → OutcomeCounts
counted outcome.Done c = record c { done = c.done + 1 }
counted (outcome.Refused number) c = record c { refused = c.refused + 1 }
counted outcome.Stopped c = record c { stopped = c.stopped + 1 }
counted outcome.Nothing c = record c { none = c.none + 1 }

-- where a text was written
abbrev pub with_text : Bool → OutcomeCounts → OutcomeCounts
with_text true c = record c { texts = c.texts + 1 }
with_text false c = c

-- behind an event: the next number, and no stop waits
abbrev pub after_outcome : Progress → EventOutcome → Bool → Progress
after_outcome p o wrote = record { moment = p.moment; stop = None; number = p.number + 1; counts = with_text wrote (counted o p.counts) }

-- so many lines were played at most; events are numbered from 1
pub record IsWithin (p : Progress) (lines : ℕ) : Type 0 where
  pub least : 1 ≤ p.number
  pub number : p.number ≤ lines + 1
  pub done : p.counts.done ≤ lines
  pub refused : p.counts.refused ≤ lines
  pub stopped : p.counts.stopped ≤ lines
  pub none : p.counts.none ≤ lines
  pub texts : p.counts.texts ≤ lines
