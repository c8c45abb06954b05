-- What is promised of every stream.
use Rattle.std.specs.Prelude.{◌≡◌, ℕ, List, ◌++◌, Option, Some}
use Rattle.csm_grammar.specs.declared.arrival.Arrival.{Arrival}
use Rattle.csm_grammar.specs.declared.refusal.ReadRefusal.{ReadRefusal}
use Rattle.csm_feed.specs.Streams.{AreMessages, HoldsArrivals}
use Rattle.csm_feed.specs.Heard.{OneHeard}

-- a stream holds messages and a refusal, if there is one, in one way only
abbrev pub OneHolding : Type 0
OneHolding = (stream : List ℕ) (arrivals others : List Arrival) (end last : Option ReadRefusal) → HoldsArrivals stream arrivals end → HoldsArrivals stream others last → (arrivals ≡ others) × (end ≡ last)

-- a refusal stays when more bytes come
abbrev pub RefusalStays : Type 0
RefusalStays = (stream more : List ℕ) (arrivals : List Arrival) (r : ReadRefusal) → HoldsArrivals stream arrivals (Some r) → HoldsArrivals (stream ++ more) arrivals (Some r)

-- messages in the front of a stream are the first that the stream holds
abbrev pub FirstHeld : Type 0
FirstHeld = (front rest : List ℕ) (arrivals all : List Arrival) (end : Option ReadRefusal) → AreMessages front arrivals → HoldsArrivals (front ++ rest) all end → (later : List Arrival) × (all ≡ arrivals ++ later)

-- of any bytes one thing is heard, and no other
abbrev pub OneHearing : Type 0
OneHearing = (bytes : List ℕ) → OneHeard bytes
