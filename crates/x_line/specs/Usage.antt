-- What is wrong with the words of a command line: this project's profile.
use Rattle.std.specs.Prelude.{ℕ, ◌&&◌, not, List, Option, Some, None, find, if◌then◌else◌}
use Rattle.clap.specs.Words.{Row, Text}
use Rattle.x_line.specs.declared.order_kind.OrderKind.{OrderKind}
use Rattle.x_line.specs.declared.opt.Opt.{Opt}
use Rattle.x_line.specs.declared.usage.UsageKind.{UsageKind}
use Rattle.x_line.specs.declared.usage.UsageKind.TheVariants as kind
use Rattle.x_line.specs.Options.{options}
use Rattle.x_line.specs.Needs.{is_refused, is_required, need_of}
use Rattle.x_line.specs.LineValues.{named_kind, is_given, is_valid}
use Rattle.x_line.specs.Line.{is_line, rows_of_line}

-- the first option that is given and that the command doesn't take
abbrev pub unwanted_of : OrderKind → List Row → Option Opt
unwanted_of c rows = find (λ o. is_given o rows && is_refused (need_of c o)) options

-- the first option that isn't given and that the command can't do without
abbrev pub missing_of : OrderKind → List Row → Option Opt
missing_of c rows = find (λ o. not (is_given o rows) && is_required (need_of c o)) options

-- the first option that is given and whose value stands for nothing
abbrev pub bad_of : List Row → Option Opt
bad_of rows = find (λ o. is_given o rows && not (is_valid o rows)) options

-- every unwanted option comes before a missing one, and that before a bad value
abbrev pub first_fault : Option Opt → Option Opt → Option Opt → Option UsageKind
first_fault (Some o) missing bad = Some (kind.Unwanted o)
first_fault None (Some o) bad = Some (kind.Missing o)
first_fault None None (Some o) = Some (kind.BadValue o)
first_fault None None None = None

-- what is wrong with the options of the command
abbrev pub options_fault : Option OrderKind → List Row → Option UsageKind
options_fault None rows = Some kind.Command
options_fault (Some c) rows = first_fault (unwanted_of c rows) (missing_of c rows) (bad_of rows)

-- what is wrong with what clap finds
abbrev pub rows_fault : List Row → Option UsageKind
rows_fault rows = options_fault (named_kind rows) rows

-- what is wrong with the words, if anything is
abbrev pub usage_of : List Text → Option UsageKind
usage_of words = if is_line words then rows_fault (rows_of_line words) else Some kind.Line

abbrev pub number_of : UsageKind → ℕ
number_of kind.Line = 1
number_of kind.Command = 2
number_of (kind.Unwanted o) = 3
number_of (kind.Missing o) = 4
number_of (kind.BadValue o) = 5
