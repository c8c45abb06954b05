-- What the value of an option stands for, where it is none of those that a scenario has too: this
-- project's profile.
use Rattle.std.specs.Prelude.{ℕ, List, Option, Some, None, codes, if◌then◌else◌}
use Rattle.std.specs.Str.{bytes_eq}
use Rattle.x_base.specs.declared.party.Role.{Role}
use Rattle.x_base.specs.declared.party.Role.TheVariants as role
use Rattle.x_base.specs.declared.party.Side.{Side}
use Rattle.x_base.specs.declared.party.Side.TheVariants as side
use Rattle.x_values.specs.Words.{plain_number_within}

-- what a party is
abbrev pub role_of : List ℕ → Option Role
role_of text =
    if bytes_eq text (codes "bank") then Some role.Bank
    else if bytes_eq text (codes "distribution") then Some role.Distribution
    else if bytes_eq text (codes "translation") then Some role.Translation
    else None

-- which end of a key-encrypting key a party is
abbrev pub side_of : List ℕ → Option Side
side_of text =
    if bytes_eq text (codes "out") then Some side.Sends
    else if bytes_eq text (codes "in") then Some side.Takes
    else None

-- a name other than the one that is taken, if one is
abbrev pub other_than : Option (List ℕ) → List ℕ → Option (List ℕ)
other_than (Some taken) name = if bytes_eq taken name then None else Some name
other_than None name = Some name

-- a number of events: 1 to 10,000, without a leading zero
abbrev pub events_of : List ℕ → Option ℕ
events_of digits = plain_number_within 1 10000 digits
