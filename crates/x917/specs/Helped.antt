-- What help writes (this project's profile). `before` and `after` are what the sink has.
use Rattle.std.specs.Prelude.{◌≡◌, ◌⊎◌, ◌++◌, ℕ, List, [], Option, Some}
use Rattle.help_texts.specs.declared.asking.Topic.{Topic}
use Rattle.help_texts.specs.Lines.{head_of}
use Rattle.help_texts.specs.Topics.{topic_of}
use Rattle.x_line.specs.declared.usage.UsageKind.{UsageKind}
use Rattle.x_line.specs.Usage.{usage_of}
use Rattle.call_ends.specs.declared.status.Status.{Status}
use Rattle.call_ends.specs.declared.status.Status.TheVariants as status
use Rattle.call_ends.specs.Puts.{Puts}

-- the text of the topic, which begins with its lines, was written, or the sink failed; or no memory was left, and nothing was
abbrev pub IsHelp : Topic → Status → Option (List ℕ) → Option (List ℕ) → Type 0
IsHelp topic s before after = ((words : List ℕ) × Puts (Some (head_of topic ++ words)) [] status.Done s before after)
    ⊎ ((s ≡ status.NoMemory) × (after ≡ before))

-- words that stand for no order and ask for help get it, and nothing else is touched
abbrev pub Helps : List (List ℕ) → Status → Option (List ℕ) → Option (List ℕ) → Type 0 → Type 0
Helps words s before after stays = (topic : Topic) (kind : UsageKind) → topic_of words ≡ Some topic → usage_of words ≡ Some kind → IsHelp topic s before after × stays
