-- What is promised of every canonical text.
use Rattle.std.specs.Prelude.{◌≡◌, ℕ, List, ◌++◌, length}
use Rattle.csm_grammar.specs.declared.message.Message.{Message}
use Rattle.csm_grammar.specs.declared.parsed.Parsed.{Parsed}
use Rattle.csm_grammar.specs.Reading.{IsRead}
use Rattle.csm_grammar.specs.Spelling.{Says}
use Rattle.csm_write.specs.declared.closing.Closing.{Closing}
use Rattle.csm_write.specs.declared.closing.Closing.TheVariants as closings
use Rattle.csm_write.specs.Canon.{auth_of, shut_of, canon}
use Rattle.csm_write.specs.Writable.{Writable, AreTyped}

-- what is read of the canonical text
abbrev pub read_of : Message → Closing → Parsed
read_of m c = record { message = m; shut = shut_of m c; auth_len = length (auth_of m); len = length (canon m c) }

-- the text is read as the message, whatever follows
abbrev pub ReadsBack : Message → Closing → List ℕ → Type 0
ReadsBack m c text = (rest : List ℕ) → IsRead (text ++ rest) (read_of m c)

-- the canonical text of what is read of it, whatever follows, is the same text, with the same closing
-- and with the code that was read
abbrev pub Rewrites : Closing → List ℕ → Type 0
Rewrites c text = (rest : List ℕ) (p : Parsed) → IsRead (text ++ rest) p → (canon p.message c ≡ text) × (canon p.message (closings.Stated p.shut) ≡ text)

abbrev pub CanonReadsBack : Type 0
CanonReadsBack = (m : Message) (c : Closing) → AreTyped m c → Writable m c → ReadsBack m c (canon m c)

abbrev pub CanonRewrites : Type 0
CanonRewrites = (m : Message) (c : Closing) → AreTyped m c → Writable m c → Rewrites c (canon m c)

-- the authenticated text says the message, and no other
pub record OwnMeaning (m : Message) : Type 0 where
  pub says : Says (auth_of m) m
  pub alone : (n : Message) → Says (auth_of m) n → m ≡ n

abbrev pub AuthSays : Type 0
AuthSays = (m : Message) (c : Closing) → AreTyped m c → Writable m c → OwnMeaning m
