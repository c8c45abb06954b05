-- The bodies of a ledger's journal (this project's profile). Numbers are most significant byte first.
use Rattle.std.specs.Prelude.{◌≡◌, ◌≤◌, ℕ, List, ◌∷◌, ◌++◌, length}
use Rattle.std.specs.List.{All, flat_map}
use Rattle.change_code.specs.Code.{two, eight, short, name_code, side_code}
use Rattle.pay_auth.specs.declared.entry.Entry.{Entry}
use Rattle.pay_auth.specs.Entries.{IsEntry, put_entries, most_entries}

-- peer, name, side, and the last number in eight bytes
abbrev pub entry_code : Entry → List ℕ
entry_code e = short e.peer ++ (name_code e.name ++ (side_code e.side ++ eight e.last))

-- one entry after another
abbrev pub entries_code : List Entry → List ℕ
entries_code entries = flat_map entry_code entries

-- the byte `L`, the number of entries in two bytes, and the entries
abbrev pub body_of : List Entry → List ℕ
body_of entries = 76 ∷ two (length entries) ++ entries_code entries

-- the most entries of a body
abbrev pub most_of_body : ℕ
most_of_body = 65535

-- these bytes are the body of these entries
pub record IsLedgerBody (bytes : List ℕ) (entries : List Entry) : Type 0 where
  pub few : length entries ≤ most_of_body
  pub in_range : All IsEntry entries
  pub is : bytes ≡ body_of entries

-- the body puts its entries, and no more stand then than can
pub record PutsBody (bytes : List ℕ) (old new : List Entry) : Type 0 where
  pub entries : List Entry
  pub body : IsLedgerBody bytes entries
  pub after : new ≡ put_entries entries old
  pub within : length new ≤ most_entries
