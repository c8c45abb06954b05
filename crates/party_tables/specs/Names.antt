-- The full name of a key that a party holds (ANSI X9.17; this project's profile).
use Rattle.std.specs.Prelude.{ℕ, ◌+◌, cond, List, bytes_eq}
use Rattle.x_base.specs.declared.key_name.KeyName.{KeyName}
use Rattle.x_base.specs.declared.key_name.FullName.{FullName}
use Rattle.party_tables.specs.declared.key.KeyRec.{KeyRec}

-- the recipient is the peer where the party itself is the originator, and otherwise the party
abbrev pub full_name : List ℕ → KeyRec → FullName
full_name own k = record { name = k.name; recipient = cond (bytes_eq k.name.originator own) k.peer own }

-- the name of a key that goes behind another, in one message: its count is one higher
abbrev pub name_behind : KeyName → KeyName
name_behind n = record n { count = n.count + 1 }

abbrev pub full_behind : FullName → FullName
full_behind u = record { name = name_behind u.name; recipient = u.recipient }
