-- What a source and a sink in memory hold (this project's profile).
use Rattle.std.specs.Prelude.{◌≡◌, ℕ, ◌+◌, ◌-◌, ◌^◌, ◌==◌, ◌||◌, ◌&&◌, not, nat_lt, Bool, List, length, min, Result, IfOk, is_ok, if◌then◌else◌}
use Rattle.std.specs.List.{list_any}

-- the bytes not yet taken, the numbers of the calls that are to fail, the number of the last call,
-- and the count of faults
pub record SourceState : Type 0 where
  pub left : List ℕ
  pub fails : List ℕ
  pub calls : ℕ
  pub faults : ℕ

-- the bytes written, how many it can hold, and the same of its calls
pub record SinkState : Type 0 where
  pub written : List ℕ
  pub room : ℕ
  pub fails : List ℕ
  pub calls : ℕ
  pub faults : ℕ

-- the number behind this one in a u64, which stays at its end
abbrev pub next_number : ℕ → ℕ
next_number n = min (n + 1) (2 ^ 64 - 1)

-- the call of this number is to fail
abbrev pub is_due : ℕ → List ℕ → Bool
is_due call fails = list_any (λ x. x == call) fails

-- a call of a source with so much room in the buffer: it gives all that the buffer can hold, and fails at the calls
-- that are due alone
pub record IsTakeOf {E : Type 0} (old new : SourceState) (room : ℕ) (result : Result ℕ E) : Type 0 where
  pub whole : IfOk result (λ n. n ≡ min (length old.left) room)
  pub due : is_ok result ≡ not (is_due new.calls old.fails)
  pub called : new.calls ≡ next_number old.calls
  pub counted : new.faults ≡ (if is_ok result then old.faults else next_number old.faults)
  pub same : new.fails ≡ old.fails

-- a call of a sink with a piece of so many bytes: it takes all that fits, and fails at the calls that are due and where
-- nothing fits alone
pub record IsPutOf {E : Type 0} (old new : SinkState) (count : ℕ) (result : Result ℕ E) : Type 0 where
  pub fits : IfOk result (λ n. n ≡ min count (old.room - length old.written))
  pub due : is_ok result ≡ not (is_due new.calls old.fails || (nat_lt 0 count && old.room == length old.written))
  pub called : new.calls ≡ next_number old.calls
  pub counted : new.faults ≡ (if is_ok result then old.faults else next_number old.faults)
  pub same_fails : new.fails ≡ old.fails
  pub same_room : new.room ≡ old.room
