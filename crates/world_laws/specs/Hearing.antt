-- What is heard of bytes that arrive at a party (this project's profile).
use Rattle.std.specs.Prelude.{◌≡◌, ℕ, List, take, Option, Some, None, Ok, Err}
use Rattle.csm_grammar.specs.declared.arrival.Arrival.{Arrival}
use Rattle.csm_feed.specs.declared.unheard.Unheard.{Unheard}
use Rattle.csm_feed.specs.Heard.{Heard, after_leading}

-- the one message that they are, with its text as it was received; or none, where they are refused
abbrev pub IsHeard : List ℕ → Option Arrival → Type 0
IsHeard bytes (Some a) = Heard bytes (Ok a.parsed) × (a.text ≡ take a.parsed.len (after_leading bytes))
IsHeard bytes None = (u : Unheard) × Heard bytes (Err u)

-- one thing is heard of bytes, and no other
pub record HeardOnce (bytes : List ℕ) : Type 0 where
  pub heard : Option Arrival
  pub holds : IsHeard bytes heard
  pub alone : (other : Option Arrival) → IsHeard bytes other → other ≡ heard
