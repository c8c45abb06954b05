-- What is promised of every text.
use Rattle.std.specs.Prelude.{◌≡◌, ◌≢◌, ◌≤◌, ◌<◌, ◌⊎◌, ℕ, List, [], ◌++◌, length, take}
use Rattle.csm_grammar.specs.declared.message.Message.{Message}
use Rattle.csm_grammar.specs.declared.parsed.Parsed.{Parsed}
use Rattle.csm_grammar.specs.declared.parsed.Shut.{Shut}
use Rattle.csm_grammar.specs.declared.arrival.Arrival.{Arrival}
use Rattle.csm_grammar.specs.declared.refusal.ReadRefusal.{ReadRefusal}
use Rattle.csm_grammar.specs.declared.refusal.ReadRefusal.TheVariants as refusal
use Rattle.csm_grammar.specs.Spelling.{Field, Says, message_limit}
use Rattle.csm_grammar.specs.Written.{authenticated_fields, blank_text, IsWritten}
use Rattle.csm_grammar.specs.Reading.{IsRead}
use Rattle.csm_grammar.specs.Arrivals.{authenticated_text}
use Rattle.csm_grammar.specs.Places.{place_of}
use Rattle.csm_read.specs.Faults.{IsFault}
use Rattle.csm_read.specs.Judging.{ArePlain}

-- exactly one prefix is a spelling, of one message closed by one code, and there is no fault
pub record OneSpelling (b : List ℕ) : Type 0 where
  pub parsed : Parsed
  pub read : IsRead b parsed
  pub alone : (p : Parsed) → IsRead b p → p ≡ parsed
  pub faultless : (r : ReadRefusal) → ¬ (IsFault b r)

-- exactly one reason and place is a fault, and no prefix is a spelling
pub record OneFault (b : List ℕ) : Type 0 where
  pub reason : ReadRefusal
  pub fault : IsFault b reason
  pub alone : (r : ReadRefusal) → IsFault b r → r ≡ reason
  pub unread : (p : Parsed) → ¬ (IsRead b p)

abbrev pub OneAnswer : Type 0
OneAnswer = (b : List ℕ) → OneSpelling b ⊎ OneFault b

-- want of memory is no fault of a text, and a text that doesn't end is so by its length
pub record EndsAs (b : List ℕ) (r : ReadRefusal) : Type 0 where
  pub memory : r ≢ refusal.NoMemory
  pub long : (n : ℕ) → r ≡ refusal.TooLong n → (n ≡ message_limit) × (message_limit < length b)
  pub unended : (n : ℕ) → r ≡ refusal.Unended n → (n ≡ length b) × (length b ≤ message_limit)

abbrev pub FaultEnds : Type 0
FaultEnds = (b : List ℕ) (r : ReadRefusal) → IsFault b r → EndsAs b r

-- a fault has its place in the text, or at its end
abbrev pub FaultWithin : Type 0
FaultWithin = (b : List ℕ) (r : ReadRefusal) → IsFault b r → place_of r ≤ length b

-- more bytes change no answer, but of bytes that are none or only not ended
abbrev pub FaultStays : Type 0
FaultStays = (b more : List ℕ) (r : ReadRefusal) → b ≢ [] → ((n : ℕ) → r ≢ refusal.Unended n) → IsFault b r → IsFault (b ++ more) r

-- where `CSM(` is there and no more than 1,024 bytes are, bytes other than separators and `)` end nothing
abbrev pub UnendedStays : Type 0
UnendedStays = (b more : List ℕ) → 4 ≤ length b → ArePlain more → length (b ++ more) ≤ message_limit → IsFault b (refusal.Unended (length b)) → IsFault (b ++ more) (refusal.Unended (length (b ++ more)))

abbrev pub ReadStays : Type 0
ReadStays = (b more : List ℕ) (p : Parsed) → IsRead b p → IsRead (b ++ more) p

-- an authenticated text says one message
abbrev pub OneMeaning : Type 0
OneMeaning = (text : List ℕ) (m n : Message) → Says text m → Says text n → m ≡ n

-- the authenticated text of what is read says its message
abbrev pub ReadSays : Type 0
ReadSays = (b : List ℕ) (p : Parsed) → IsRead b p → Says (take p.auth_len b) p.message

-- what is written so is read back, whatever follows
abbrev pub WrittenRead : Type 0
WrittenRead = (fs : List Field) (code : Field) (m : Message) (shut : Shut) (rest : List ℕ) → IsWritten fs code m shut
    → IsRead (blank_text fs code ++ rest) (record { message = m; shut = shut; auth_len = length (authenticated_fields fs); len = length (blank_text fs code) })

-- what holds of an arrival: what it keeps is read of its text, and its authenticated text says its message
pub record IsReadWhole (a : Arrival) : Type 0 where
  pub read : IsRead a.text a.parsed
  pub says : Says (authenticated_text a) a.parsed.message

abbrev pub ArrivalsRead : Type 0
ArrivalsRead = (a : Arrival) → IsReadWhole a
