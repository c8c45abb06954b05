-- What is due of an order, with which statuses it writes nothing, and how words are judged (this project's profile). `left` is what
-- the source has before, `old` what the shelf tells of the disks.
use Rattle.std.specs.Prelude.{◌≡◌, ◌⊎◌, ℕ, false, List, Option, Some, None, IfSome}
use Rattle.x_disk.specs.Disk.{View}
use Rattle.x_line.specs.declared.order.Order.{Order}
use Rattle.x_line.specs.declared.order.Order.TheVariants as order
use Rattle.x_line.specs.declared.usage.UsageKind.{UsageKind}
use Rattle.x_line.specs.declared.usage.UsageKind.TheVariants.{Line}
use Rattle.x_line.specs.Line.{is_line}
use Rattle.x_line.specs.Usage.{usage_of}
use Rattle.help_texts.specs.Topics.{topic_of}
use Rattle.call_ends.specs.declared.status.Status.{Status}
use Rattle.call_ends.specs.declared.status.Status.TheVariants as status
use Rattle.call_ends.specs.Causes.{IsSilent}
use Rattle.party_calls.specs.Obeys.{ExpectsCall}
use Rattle.x917.specs.Audited.{ExpectsAudit, audit_taken}
use Rattle.x917.specs.Playable.{ExpectsReplay, ExpectsDrill}

-- where no count of faults rises: the status is the one that is due, or no memory was left
abbrev pub Expects : Order → ℕ → Option (List ℕ) → (List ℕ → View) → Status → Type 0
Expects order.Replay moment left old s = IfSome left (λ all. ExpectsReplay all old s)
Expects order.Audit moment left old s = IfSome left (λ all. ExpectsAudit (audit_taken all) s)
Expects (order.Drill seed events) moment left old s = ExpectsDrill seed events s
Expects o moment left old s = ExpectsCall o moment left old s

-- with these statuses an order writes nothing. The playing of a scenario may break off behind its first lines
abbrev pub IsSilentOf : Order → Status → Type 0
IsSilentOf order.Replay status.ReadFault = Unit {0}
IsSilentOf order.Replay (status.BadScenario number) = Unit {0}
IsSilentOf order.Replay (status.Refused refusal) = Unit {0}
IsSilentOf order.Replay s = ⊥
IsSilentOf o s = IsSilent s

-- the words are judged first: where they don't ask for help the status says what is wrong with them, or no memory was left, and
-- then nothing is touched
pub record JudgesWords (words : List (List ℕ)) (s : Status) (stays : Type 0) : Type 0 where
  pub usage : (kind : UsageKind) → s ≡ status.Usage kind → (usage_of words ≡ Some kind) × (topic_of words ≡ None)
  pub wrong : (kind : UsageKind) → usage_of words ≡ Some kind → topic_of words ≡ None → (s ≡ status.Usage kind) ⊎ (s ≡ status.NoMemory)
  pub line : s ≡ status.Usage Line → is_line words ≡ false
  pub untouched : (kind : UsageKind) → usage_of words ≡ Some kind → topic_of words ≡ None → stays
