-- The entries of a ledger: the last number of each key, on each side (this project's profile).
use Rattle.std.specs.Prelude.{ℕ, Bool, ◌&&◌, is_none, nat_le, Option, Some, None, List, [], ◌∷◌, length, bytes_eq}
use Rattle.x_base.specs.Names.{IsIdent}
use Rattle.x_base.specs.Count.{IsCount}
use Rattle.x_base.specs.KeyName.{IsKeyName}
use Rattle.party_tables.specs.Keys.{same_name, same_side}
use Rattle.party_tables.specs.Tables.{find_row, put_row}
use Rattle.pay_auth.specs.declared.entry.Entry.{Entry}
use Rattle.pay_auth.specs.declared.entry.EntryKey.{EntryKey}

-- an entry's key: its peer, its name and its side
abbrev pub entry_key : Entry → EntryKey
entry_key e = record { peer = e.peer; name = e.name; side = e.side }

abbrev pub same_entry : EntryKey → EntryKey → Bool
same_entry a b = bytes_eq a.peer b.peer && (same_name a.name b.name && same_side a.side b.side)

pub record IsEntry (e : Entry) : Type 0 where
  pub peer : IsIdent e.peer
  pub name : IsKeyName e.name
  pub last : IsCount e.last

-- the entry in the place of the one with its key, or at the end
abbrev pub put_entry : Entry → List Entry → List Entry
put_entry e entries = put_row entry_key same_entry e entries

-- one entry after the other
abbrev pub put_entries : List Entry → List Entry → List Entry
put_entries [] entries = entries
put_entries (e ∷ es) entries = put_entries es (put_entry e entries)

abbrev pub entry_with : EntryKey → List Entry → Option Entry
entry_with k entries = find_row entry_key same_entry k entries

abbrev pub number_in : Option Entry → ℕ
number_in None = 0
number_in (Some e) = e.last

-- the last number under a key on a side, and 0 where there is none
abbrev pub last_number : EntryKey → List Entry → ℕ
last_number k entries = number_in (entry_with k entries)

-- a ledger has so many entries at most
abbrev pub most_entries : ℕ
most_entries = 4096

-- an entry is needed, and there are as many as there can be
abbrev pub is_full_for : EntryKey → List Entry → Bool
is_full_for k entries = is_none (entry_with k entries) && nat_le most_entries (length entries)
