-- What a command line gives: this project's profile.
use Rattle.std.specs.Prelude.{ℕ, Bool, true, false, List, Option, Some, None, is_some, option_and_then, codes}
use Rattle.std.specs.Str.{bytes_eq}
use Rattle.clap.specs.Words.{Row, Text, first_of}
use Rattle.x_line.specs.declared.order_kind.OrderKind.{OrderKind}
use Rattle.x_line.specs.declared.opt.Opt.{Opt}
use Rattle.x_line.specs.declared.opt.Opt.TheVariants as opt
use Rattle.x_line.specs.OrderKinds.{named}
use Rattle.x_line.specs.Options.{name_of}
use Rattle.x_line.specs.Values.{events_of, other_than, role_of, side_of}
use Rattle.x_values.specs.Words.{count_of, ident_of, key_name_of, key_of, label_of, number_of, pair_of, one_or_two_of}

-- the word in the place of the command
abbrev pub word_of : List Row → Option Text
word_of rows = first_of (codes "command") rows

-- the kind of order that it names
abbrev pub named_kind : List Row → Option OrderKind
named_kind rows = option_and_then named (word_of rows)

-- the text that clap has for a flag says that the flag was given
abbrev pub is_true : Option Text → Bool
is_true (Some text) = bytes_eq text (codes "true")
is_true None = false

-- the option was given
abbrev pub is_given : Opt → List Row → Bool
is_given opt.Single rows = is_true (first_of (codes "single") rows)
is_given opt.Tell rows = is_true (first_of (codes "tell") rows)
is_given o rows = is_some (first_of (name_of o) rows)

-- what the value of the option stands for, if it was given and stands for something
abbrev pub given : {A : Type 0} → (Text → Option A) → Opt → List Row → Option A
given reading o rows = option_and_then reading (first_of (name_of o) rows)

-- the identity that the option gives, which isn't that of the party
abbrev pub other_of : Opt → List Row → Option (List ℕ)
other_of o rows = option_and_then (other_than (given ident_of opt.Party rows)) (given ident_of o rows)

-- the value of the option stands for something; a flag has none
abbrev pub is_valid : Opt → List Row → Bool
is_valid opt.Party rows = is_some (given ident_of opt.Party rows)
is_valid opt.Role rows = is_some (given role_of opt.Role rows)
is_valid opt.Genkey rows = is_some (given pair_of opt.Genkey rows)
is_valid opt.Genseed rows = is_some (given key_of opt.Genseed rows)
is_valid opt.Peer rows = is_some (given ident_of opt.Peer rows)
is_valid opt.Label rows = is_some (given label_of opt.Label rows)
is_valid opt.Side rows = is_some (given side_of opt.Side rows)
is_valid opt.Key rows = is_some (given one_or_two_of opt.Key rows)
is_valid opt.New rows = is_some (given label_of opt.New rows)
is_valid opt.Ultimate rows = is_some (given ident_of opt.Ultimate rows)
is_valid opt.Name rows = is_some (given key_name_of opt.Name rows)
is_valid opt.Seed rows = is_some (given number_of opt.Seed rows)
is_valid opt.Events rows = is_some (given events_of opt.Events rows)
is_valid opt.Spool rows = is_some (other_of opt.Spool rows)
is_valid opt.Mirror rows = is_some (other_of opt.Mirror rows)
is_valid opt.Ledger rows = is_some (other_of opt.Ledger rows)
is_valid opt.Amount rows = is_some (given count_of opt.Amount rows)
is_valid opt.Single rows = true
is_valid opt.Tell rows = true
