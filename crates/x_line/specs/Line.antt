-- The command line as clap is to read it: one positional, options of one value each, and two flags
-- (this project's profile).
use Rattle.std.specs.Prelude.{Bool, true, List, fold, Some, codes}
use Rattle.clap.specs.Words.{App, Row, Rule, Text, matches_of, new_app, new_rule, takes, with_rule}
use Rattle.clap.specs.Simple.{on_top}
use Rattle.clap.specs.declared.builder.ArgAction.TheVariants.{Set, SetTrue}
use Rattle.x_line.specs.declared.opt.Opt.{Opt}
use Rattle.x_line.specs.declared.opt.Opt.TheVariants as opt
use Rattle.x_line.specs.Options.{name_of, options}

-- the positional `command`, which has to be there
abbrev pub command_rule : Rule
command_rule = record (new_rule (codes "command")) { required = true; action = Some Set }

-- `--name value` or `--name=value`, and `--single` and `--tell` alone
abbrev pub option_rule : Opt → Rule
option_rule opt.Single =
    record (new_rule (codes "single")) { long = Some (codes "single"); action = Some SetTrue }
option_rule opt.Tell = record (new_rule (codes "tell")) { long = Some (codes "tell"); action = Some SetTrue }
option_rule o = record (new_rule (name_of o)) { long = Some (name_of o); action = Some Set }

abbrev pub with_option : App → Opt → App
with_option app o = with_rule app (option_rule o)

-- the words are those behind the program's name
abbrev pub bare_app : App
bare_app = on_top (λ s. record s { no_binary_name = true }) (new_app (codes "x917"))

-- the command line: the positional, and the options in their order
unfoldable pub x917_app : App
x917_app = fold with_option (with_rule bare_app command_rule) options

-- clap takes the words
unfoldable pub is_line : List Text → Bool
is_line words = takes x917_app words

-- what clap then finds in them
unfoldable pub rows_of_line : List Text → List Row
rows_of_line words = matches_of x917_app words
