-- What became of a payment over a ledger (this project's profile).
use Rattle.std.specs.Prelude.{◌≡◌, ℕ, List, [], Ok, Err}
use Rattle.x_disk.specs.Disk.{View}
use Rattle.key_journal.specs.States.{Failed}
use Rattle.journal_state.specs.Keeping.{IsReplaced}
use Rattle.pay_auth.specs.declared.entry.Entry.{Entry}
use Rattle.pay_auth.specs.declared.refusal.PayRefusal.{PayRefusal}
use Rattle.pay_auth.specs.declared.turn.PayTurn.{PayTurn}
use Rattle.pay_auth.specs.declared.turn.PayTurn.TheVariants as turn
use Rattle.pay_auth.specs.Entries.{put_entry}
use Rattle.pay_auth.specs.Bodies.{PutsBody}
use Rattle.pay_auth.specs.Ledgers.{LedgerView}

-- no test fails, and want of memory changed nothing
pub record IsWanting {D : Type 0} (old : LedgerView D) (Passes : List Entry → Entry → List ℕ → Type 0) (ledger : LedgerView D) : Type 0 where
  pub entry : Entry
  pub text : List ℕ
  pub passes : Passes old.state entry text
  pub same : ledger ≡ old

-- no test fails: the entry is kept, and then its text handed out
pub record IsDone {D : Type 0} (told : D → View) (old : LedgerView D) (Passes : List Entry → Entry → List ℕ → Type 0) (ledger : LedgerView D) (out : List ℕ) : Type 0 where
  pub entry : Entry
  pub passes : Passes old.state entry out
  pub kept : IsReplaced PutsBody [] told old (put_entry entry old.state) (Ok ledger)

-- no test fails, and the disk failed; no text is handed out
pub record IsBroken {D : Type 0} (told : D → View) (old : LedgerView D) (Passes : List Entry → Entry → List ℕ → Type 0) (b : Failed D) : Type 0 where
  pub entry : Entry
  pub text : List ℕ
  pub passes : Passes old.state entry text
  pub kept : IsReplaced PutsBody [] told old (put_entry entry old.state) (Err b)

-- the first test that fails refuses, and nothing changes; where none fails, the entry is kept
abbrev pub IsPayTurn : {D : Type 0} → (D → View) → LedgerView D → (List Entry → PayRefusal → Type 0) → (List Entry → Entry → List ℕ → Type 0) → PayTurn D → Type 0
IsPayTurn told old Refuses Passes (turn.Done ledger out) = IsDone told old Passes ledger out
IsPayTurn told old Refuses Passes (turn.Refused ledger cause) = Refuses old.state cause × (ledger ≡ old)
IsPayTurn told old Refuses Passes (turn.Broken b) = IsBroken told old Passes b
IsPayTurn told old Refuses Passes (turn.NoMemory ledger) = IsWanting old Passes ledger

-- these entries are the next ones, and then the text is handed out; or the disk failed, or memory was wanting
abbrev pub IsSwitchedTurn : {D : Type 0} → (D → View) → LedgerView D → List Entry → List ℕ → PayTurn D → Type 0
IsSwitchedTurn told old next text (turn.Done ledger out) = (out ≡ text) × IsReplaced PutsBody [] told old next (Ok ledger)
IsSwitchedTurn told old next text (turn.Refused ledger cause) = ⊥
IsSwitchedTurn told old next text (turn.Broken b) = IsReplaced PutsBody [] told old next (Err b)
IsSwitchedTurn told old next text (turn.NoMemory ledger) = ledger ≡ old

-- the same with one entry put
abbrev pub IsKeptTurn : {D : Type 0} → (D → View) → LedgerView D → Entry → List ℕ → PayTurn D → Type 0
IsKeptTurn told old entry text result = IsSwitchedTurn told old (put_entry entry old.state) text result
