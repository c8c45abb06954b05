-- How the entries of a body are read (this project's profile).
use Rattle.std.specs.Prelude.{◌≡◌, ℕ, List, length, Option}
use Rattle.std.specs.List.{All}
use Rattle.change_code.specs.Reading.{Form, IsPieceRead}
use Rattle.pay_auth.specs.declared.entry.Entry.{Entry}
use Rattle.pay_auth.specs.Entries.{IsEntry}
use Rattle.pay_auth.specs.Bodies.{entry_code, entries_code}

abbrev pub entry_form : Form Entry
entry_form = record { code = entry_code; Fits = IsEntry }

-- so many entries
abbrev pub entries_form : ℕ → Form (List Entry)
entries_form n = record { code = entries_code; Fits = λ entries. (length entries ≡ n) × All IsEntry entries }

abbrev pub IsEntriesRead : ℕ → List ℕ → List ℕ → Option (List Entry) → Type 0
IsEntriesRead n bytes rest entries = IsPieceRead (entries_form n) bytes rest entries
