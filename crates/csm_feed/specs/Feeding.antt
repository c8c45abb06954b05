-- What a feed holds, and what its calls do (this project's profile).
use Rattle.std.specs.Prelude.{◌≡◌, ◌≢◌, ◌⊎◌, ℕ, ◌+◌, ◌-◌, ◌^◌, List, [], ◌∷◌, ◌++◌, length, take, drop, Some, None}
use Rattle.std.specs.List.{prefix_len}
use Rattle.csm_grammar.specs.declared.arrival.Arrival.{Arrival}
use Rattle.csm_grammar.specs.declared.parsed.Parsed.{Parsed}
use Rattle.csm_grammar.specs.declared.refusal.ReadRefusal.{ReadRefusal}
use Rattle.csm_grammar.specs.Spelling.{is_separator}
use Rattle.csm_grammar.specs.Reading.{IsRead}
use Rattle.csm_feed.specs.declared.next.Next.{Next}
use Rattle.csm_feed.specs.declared.next.Next.TheVariants.{Message, NotYet, Refused, NoMemory}
use Rattle.csm_feed.specs.Streams.{AreMessages, HoldsArrivals, IsWaiting, IsRefusedAfter}
use Rattle.csm_feed.specs.HeldBytes.{Feeding, held_limit}

-- how many bytes were pushed
abbrev pub pushed : Feeding → ℕ
pushed f = f.before + length f.held

-- no byte more can be held, or counted
abbrev pub IsFull : Feeding → Type 0
IsFull f = (length f.held ≡ held_limit) ⊎ (pushed f ≡ 2 ^ 64 - 1)

-- the separators in front of bytes, where nothing is held
abbrev pub gap_before : List ℕ → List ℕ → ℕ
gap_before [] b = prefix_len is_separator b
gap_before (h ∷ hs) b = 0

-- with bytes behind; separators before a message are not held
abbrev pub with_bytes : Feeding → List ℕ → Feeding
with_bytes f b = record { held = f.held ++ drop (gap_before f.held b) b; before = f.before + gap_before f.held b; refusal = f.refusal }

-- without the first bytes that are held and the separators behind them
abbrev pub without : ℕ → Feeding → Feeding
without n f = record { held = drop (gone n) f.held; before = f.before + gone n; refusal = f.refusal } where
  gone : ℕ → ℕ
  gone n = n + prefix_len is_separator (drop n f.held)

abbrev pub with_refusal : Feeding → ReadRefusal → Feeding
with_refusal f r = record { held = f.held; before = f.before; refusal = Some r }

-- the next message is read from what is held, and its bytes are released
pub record Hands (old : Feeding) (a : Arrival) (new : Feeding) : Type 0 where
  pub read : IsRead old.held a.parsed
  pub text : a.text ≡ take a.parsed.len old.held
  pub released : new ≡ without a.parsed.len old

-- what each answer says
abbrev pub Answers : Feeding → Next → Feeding → Type 0
Answers old (Message a) new = Hands old a new
Answers old NotYet new = IsWaiting old.held × (new ≡ old)
Answers old (Refused r) new = IsRefusedAfter old.before old.held r × (new ≡ with_refusal old r)
Answers old NoMemory new = (old.held ≢ []) × (old.refusal ≡ None) × (new ≡ old)

-- when each answer comes: where there is memory
pub record ComesAs (old : Feeding) (answer : Next) : Type 0 where
  pub message : (p : Parsed) → IsRead old.held p → (answer ≡ NoMemory) ⊎ ((a : Arrival) × (answer ≡ Message a) × (a.parsed ≡ p))
  pub not_yet : IsWaiting old.held → (answer ≡ NoMemory) ⊎ (answer ≡ NotYet)
  pub refused : (r : ReadRefusal) → IsRefusedAfter old.before old.held r → (answer ≡ NoMemory) ⊎ (answer ≡ Refused r)
  pub again : (r : ReadRefusal) → old.refusal ≡ Some r → answer ≡ Refused r
  pub nothing : old.held ≡ [] → answer ≡ NotYet

-- the stream that was pushed is the messages that were handed out, and what is held
pub record Fed (f : Feeding) (stream : List ℕ) (arrivals : List Arrival) : Type 0 where
  pub front : List ℕ
  pub text : stream ≡ front ++ f.held
  pub counted : f.before ≡ length front
  pub messages : AreMessages front arrivals

-- the message that an answer hands out
abbrev pub handed : Next → List Arrival
handed (Message a) = a ∷ []
handed NotYet = []
handed (Refused r) = []
handed NoMemory = []

-- bytes behind a stream are bytes behind what the feed holds
abbrev pub Feeds : Feeding → List ℕ → Feeding → Type 0
Feeds old b new = (stream : List ℕ) (arrivals : List Arrival) → Fed old stream arrivals → Fed new (stream ++ b) arrivals

-- messages are handed out in the order of the stream
abbrev pub HandsOut : Feeding → Next → Feeding → Type 0
HandsOut old answer new = (stream : List ℕ) (arrivals : List Arrival) → Fed old stream arrivals → Fed new stream (arrivals ++ handed answer)

-- NotYet and Refused come when all messages of the stream were handed out
pub record Exhausts (old : Feeding) (answer : Next) : Type 0 where
  pub not_yet : (stream : List ℕ) (arrivals : List Arrival) → Fed old stream arrivals → answer ≡ NotYet → HoldsArrivals stream arrivals None
  pub refused : (stream : List ℕ) (arrivals : List Arrival) (r : ReadRefusal) → Fed old stream arrivals → answer ≡ Refused r → HoldsArrivals stream arrivals (Some r)
