-- What a feed holds (this project's profile).
use Rattle.std.specs.Prelude.{◌≡◌, ◌≤◌, ◌<◌, ℕ, ◌+◌, ◌^◌, List, length, take, Option, Some}
use Rattle.csm_grammar.specs.declared.refusal.ReadRefusal.{ReadRefusal}
use Rattle.csm_feed.specs.Streams.{IsBegun, IsWaiting, IsRefusedAfter}

-- how many bytes are held at most: those of the longest message, and one more
abbrev pub held_limit : ℕ
held_limit = 1025

-- the bytes that are held, how many were pushed before them, and the refusal that was given
pub record Feeding : Type 0 where
  pub held : List ℕ
  pub before : ℕ
  pub refusal : Option ReadRefusal

-- what a feed keeps
pub record IsKept (f : Feeding) : Type 0 where
  pub short : length f.held ≤ held_limit
  pub counted : f.before + length f.held < 2 ^ 64
  pub begun : IsBegun f.held
  pub refused : (r : ReadRefusal) → f.refusal ≡ Some r → IsRefusedAfter f.before f.held r

-- the first bytes that are held, so many, are none or only don't end yet
pub record IsKnown (count : ℕ) (held : List ℕ) : Type 0 where
  pub within : count ≤ length held
  pub waiting : IsWaiting (take count held)
