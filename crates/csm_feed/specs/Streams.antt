-- A stream of messages (this project's profile): cryptographic service messages one behind the
-- other, with any blanks, CR and LF before, between and behind them.
use Rattle.std.specs.Prelude.{◌≡◌, ◌≢◌, ◌⊎◌, ℕ, false, List, [], ◌∷◌, ◌++◌, length, Option, Some, None}
use Rattle.csm_grammar.specs.declared.arrival.Arrival.{Arrival}
use Rattle.csm_grammar.specs.declared.refusal.ReadRefusal.{ReadRefusal}
use Rattle.csm_grammar.specs.declared.refusal.ReadRefusal.TheVariants as refusal
use Rattle.csm_grammar.specs.Spelling.{is_separator, AreSeparators}
use Rattle.csm_grammar.specs.Reading.{IsArrival}
use Rattle.csm_read.specs.Faults.{IsFault}
use Rattle.csm_grammar.specs.Places.{moved}

-- the bytes are separators and then a message as it was received, and so on
pub record Leads (b : List ℕ) (a : Arrival) (rest : List ℕ) : Type 0 where
  pub gap : List ℕ
  pub separators : AreSeparators gap
  pub arrived : IsArrival a.text a.parsed
  pub text : b ≡ gap ++ (a.text ++ rest)

-- the bytes are these messages in order, with any separators before, between and behind them
abbrev pub AreMessages : List ℕ → List Arrival → Type 0
AreMessages b [] = AreSeparators b
AreMessages b (a ∷ later) = (rest : List ℕ) × Leads b a rest × AreMessages rest later

-- no separator comes first
abbrev pub IsBegun : List ℕ → Type 0
IsBegun [] = Unit {0}
IsBegun (b ∷ bs) = is_separator b ≡ false

-- nothing, or a text that only doesn't end yet
abbrev pub IsWaiting : List ℕ → Type 0
IsWaiting held = (held ≡ []) ⊎ IsFault held (refusal.Unended (length held))

-- something in which no message begins, whatever follows. The refusal is that of `read`, its place
-- counted from so many bytes before
pub record IsRefusedAfter (before : ℕ) (held : List ℕ) (r : ReadRefusal) : Type 0 where
  pub something : held ≢ []
  pub reason : ReadRefusal
  pub fault : IsFault held reason
  pub lasting : (n : ℕ) → reason ≢ refusal.Unended n
  pub place : r ≡ moved before reason

-- what stands behind the messages is a refusal, or waits for more
abbrev pub EndsWith : ℕ → List ℕ → Option ReadRefusal → Type 0
EndsWith before held None = IsWaiting held
EndsWith before held (Some r) = IsRefusedAfter before held r

-- all that a stream holds: its messages in order, and the refusal behind them, if there is one
pub record HoldsArrivals (stream : List ℕ) (arrivals : List Arrival) (end : Option ReadRefusal) : Type 0 where
  pub front : List ℕ
  pub rest : List ℕ
  pub text : stream ≡ front ++ rest
  pub messages : AreMessages front arrivals
  pub begun : IsBegun rest
  pub ends : EndsWith (length front) rest end
