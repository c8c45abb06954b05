-- What is heard of the bytes of an input: this project's profile.
use Rattle.std.specs.Prelude.{◌≡◌, ℕ, ◌+◌, ◌-◌, ◌==◌, not, List, length, drop, Result, Ok, Err, Option, Some, None, position, if◌then◌else◌}
use Rattle.std.specs.List.{prefix_len}
use Rattle.csm_grammar.specs.declared.arrival.Arrival.{Arrival}
use Rattle.csm_grammar.specs.declared.parsed.Parsed.{Parsed}
use Rattle.csm_grammar.specs.declared.refusal.ReadRefusal.{ReadRefusal}
use Rattle.csm_grammar.specs.Spelling.{is_separator}
use Rattle.csm_grammar.specs.Reading.{IsRead}
use Rattle.csm_read.specs.Faults.{IsFault}
use Rattle.csm_grammar.specs.Places.{moved}
use Rattle.csm_feed.specs.declared.unheard.Unheard.{Unheard}
use Rattle.csm_feed.specs.declared.unheard.Unheard.TheVariants.{Text, Trailing}

-- how many bytes an input has at most: those of two messages of the greatest length, and one more
abbrev pub input_limit : ℕ
input_limit = 2049

-- how many separators stand in front
abbrev pub leading : List ℕ → ℕ
leading bytes = prefix_len is_separator bytes

-- what stands behind them
abbrev pub after_leading : List ℕ → List ℕ
after_leading bytes = drop (leading bytes) bytes

-- the place of the first byte that is no separator
abbrev pub first_other : List ℕ → Option ℕ
first_other bytes = position (λ b. not (is_separator b)) bytes

-- the place that is refused behind a message which ends at a place, in so many bytes: that of the first byte
-- that is no separator, or the last place of an input of the greatest length, since more may follow
abbrev pub refused_place : ℕ → ℕ → Option ℕ → Option ℕ
refused_place end count (Some n) = Some (end + n)
refused_place end count None = if count == input_limit then Some (input_limit - 1) else None

abbrev pub trailing : List ℕ → ℕ → Option ℕ
trailing bytes end = refused_place end (length bytes) (first_other (drop end bytes))

-- what is heard: the one message behind the separators in front, which nothing but separators follows; the
-- refusal to read it, with its place counted from the first byte; or what follows it
abbrev pub Heard : List ℕ → Result Parsed Unheard → Type 0
Heard bytes (Ok parsed) = IsRead (after_leading bytes) parsed × (trailing bytes (leading bytes + parsed.len) ≡ None)
Heard bytes (Err (Text refusal)) = (r : ReadRefusal) × IsFault (after_leading bytes) r × (refusal ≡ moved (leading bytes) r)
Heard bytes (Err (Trailing place)) = (parsed : Parsed) × IsRead (after_leading bytes) parsed × (trailing bytes (leading bytes + parsed.len) ≡ Some place)

-- what was read of arrivals
abbrev pub readings : Result Arrival Unheard → Result Parsed Unheard
readings (Ok arrival) = Ok arrival.parsed
readings (Err unheard) = Err unheard

-- exactly one thing is heard
pub record OneHeard (bytes : List ℕ) : Type 0 where
  pub heard : Result Parsed Unheard
  pub holds : Heard bytes heard
  pub alone : (other : Result Parsed Unheard) → Heard bytes other → other ≡ heard
