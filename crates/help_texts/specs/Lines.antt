-- The lines in which help shows a command and its options (this project's profile).
use Rattle.std.specs.Prelude.{◌++◌, ◌&&◌, not, ℕ, List, [], codes, if◌then◌else◌}
use Rattle.std.specs.List.{flat_map}
use Rattle.std.specs.Fmt.{decimal}
use Rattle.x_line.specs.declared.opt.Opt.{Opt}
use Rattle.x_line.specs.declared.order_kind.OrderKind.{OrderKind}
use Rattle.x_line.specs.Needs.{is_refused, is_required, need_of}
use Rattle.x_line.specs.Options.{name_of, options}
use Rattle.x_line.specs.OrderKinds.{name_of_kind, order_kinds}
use Rattle.help_texts.specs.declared.asking.Topic.{Topic}
use Rattle.help_texts.specs.declared.asking.Topic.TheVariants as topic

-- an option that the command requires, and one that it may have
abbrev pub required_option : OrderKind → Opt → List ℕ
required_option k o = if is_required (need_of k o) then codes " --" ++ name_of o else []

abbrev pub optional_option : OrderKind → Opt → List ℕ
optional_option k o = if not (is_required (need_of k o)) && not (is_refused (need_of k o)) then codes " [--" ++ (name_of o ++ codes "]") else []

-- the command with the options that it requires, and then those that it may have, in brackets; and a line feed
abbrev pub usage_line : OrderKind → List ℕ
usage_line k = codes "x917 " ++ (name_of_kind k ++ (flat_map (required_option k) options ++ (flat_map (optional_option k) options ++ codes "\n")))

-- with what the text of a topic begins: a line of each command; the line of the command; the line that tells the refusal
abbrev pub head_of : Topic → List ℕ
head_of topic.All = flat_map usage_line order_kinds
head_of (topic.Command k) = usage_line k
head_of (topic.Refusal n) = codes "refused " ++ (decimal n ++ codes "\n")
