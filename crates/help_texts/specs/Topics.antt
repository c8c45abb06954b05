-- What help is asked about (this project's profile).
use Rattle.std.specs.Prelude.{ℕ, List, Option, Some, None, option_map, slice_get, codes, if◌then◌else◌}
use Rattle.std.specs.Str.{bytes_eq}
use Rattle.clap.specs.Words.{Text}
use Rattle.x_line.specs.declared.order_kind.OrderKind.{OrderKind}
use Rattle.x_line.specs.OrderKinds.{named}
use Rattle.x_values.specs.Words.{plain_number_within}
use Rattle.help_texts.specs.declared.asking.Topic.{Topic}
use Rattle.help_texts.specs.declared.asking.Topic.TheVariants as topic

-- the number of a refusal
abbrev pub refusal_of : List ℕ → Option Topic
refusal_of word = option_map (λ n. topic.Refusal n) (plain_number_within 4 51 word)

-- the command, or the number
abbrev pub command_or_number : Option OrderKind → List ℕ → Option Topic
command_or_number (Some k) word = Some (topic.Command k)
command_or_number None word = refusal_of word

abbrev pub named_topic : List ℕ → Option Topic
named_topic word = command_or_number (named word) word

-- what stands behind `help`: nothing, or one name
abbrev pub topic_behind : Option Text → Option Topic
topic_behind None = Some topic.All
topic_behind (Some name) = named_topic name

-- of the first word, the second and the third, where they stand there
abbrev pub topic_at : Option Text → Option Text → Option Text → Option Topic
topic_at None name other = None
topic_at (Some first) name (Some other) = None
topic_at (Some first) name None = if bytes_eq first (codes "help") then topic_behind name else None

abbrev pub topic_of : List Text → Option Topic
topic_of words = topic_at (slice_get words 0) (slice_get words 1) (slice_get words 2)
