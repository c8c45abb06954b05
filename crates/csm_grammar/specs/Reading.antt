-- What is read of a text.
use Rattle.std.specs.Prelude.{◌≡◌, ℕ, ◌≤◌, List, length, take}
use Rattle.csm_grammar.specs.declared.parsed.Parsed.{Parsed}
use Rattle.csm_grammar.specs.Spelling.{Spells}

-- a prefix of the bytes is the spelling of the message
pub record IsRead (b : List ℕ) (p : Parsed) : Type 0 where
  pub within : p.len ≤ length b
  pub spelled : Spells (take p.len b) p.message p.shut p.auth_len

-- the whole text is the spelling, and this is read from it
pub record IsArrival (text : List ℕ) (p : Parsed) : Type 0 where
  pub read : IsRead text p
  pub whole : p.len ≡ length text
