-- What the lines of a scenario make happen (this project's profile).
use Rattle.std.specs.Prelude.{◌≡◌, ◌-◌, ℕ, nat_le, cond, take, length, List, Option, Some, None, slice_get, Err}
use Rattle.csm_grammar.specs.declared.message.Message.{Message}
use Rattle.csm_grammar.specs.declared.arrival.Arrival.{Arrival}
use Rattle.csm_feed.specs.declared.unheard.Unheard.{Unheard}
use Rattle.csm_feed.specs.Heard.{Heard, input_limit}
use Rattle.csm_feed.specs.Numbers.{unheard_number}
use Rattle.scenario.specs.declared.line.Line.{Line}
use Rattle.world_laws.specs.Hearing.{IsHeard}
use Rattle.world_laws.specs.Events.{Action, Orders, Hears, Compacts, Migrates, IsAction}
use Rattle.csm_grammar.specs.declared.message.Message.TheVariants as message
use Rattle.party_state.specs.declared.command.Command.TheVariants as command
use Rattle.scenario.specs.declared.line.Line.TheVariants as line

-- at a party a command is given, or bytes arrive; or nothing happens, where there is no such text
pub data LineEvent : Type 0 where
  Nothing : LineEvent
  At : List ℕ → Action → LineEvent

-- the first bytes, as many as an input may have
abbrev pub input_bytes : List ℕ → List ℕ
input_bytes bytes = take input_limit bytes

-- a text arrives at a party, if there is one
abbrev pub Arrives : List ℕ → Option (List ℕ) → LineEvent → Type 0
Arrives party None h = h ≡ Nothing
Arrives party (Some text) h = (heard : Option Arrival) × IsHeard (input_bytes text) heard × (h ≡ At party (Hears (input_bytes text) heard))

-- the party that a message names as its receiver
abbrev pub receiver_of : Message → List ℕ
receiver_of (message.Rsi m) = m.receiver
receiver_of (message.Rfs m) = m.receiver
receiver_of (message.Rtr m) = m.receiver
receiver_of (message.Ksm m) = m.receiver
receiver_of (message.Rsm m) = m.receiver
receiver_of (message.Ers m) = m.receiver
receiver_of (message.Esm m) = m.receiver
receiver_of (message.Dsm m) = m.receiver

-- the message arrives at its receiver; bytes that are none name nobody
abbrev pub at_receiver : List ℕ → Option Arrival → LineEvent
at_receiver bytes None = Nothing
at_receiver bytes (Some a) = At (receiver_of a.parsed.message) (Hears bytes (Some a))

abbrev pub Returns : Option (List ℕ) → LineEvent → Type 0
Returns None h = h ≡ Nothing
Returns (Some text) h = (heard : Option Arrival) × IsHeard (input_bytes text) heard × (h ≡ at_receiver (input_bytes text) heard)

-- the j-th text, counted back from the last one
abbrev pub text_back : ℕ → List (List ℕ) → Option (List ℕ)
text_back j texts = cond (nat_le j (length texts)) (slice_get texts (length texts - j)) None

-- what a line makes happen, where these texts were written
abbrev pub MakesEvent : Line → List (List ℕ) → LineEvent → Type 0
MakesEvent (line.Start party peer label) texts h = h ≡ At party (Orders (command.Start peer label))
MakesEvent (line.StartKk party peer label new single) texts h = h ≡ At party (Orders (command.StartKk peer (Some label) new single))
MakesEvent (line.Ask party peer ultimate) texts h = h ≡ At party (Orders (command.Ask peer ultimate))
MakesEvent (line.Translate party centre ultimate) texts h = h ≡ At party (Orders (command.Translate centre ultimate))
MakesEvent (line.Resend party peer) texts h = h ≡ At party (Orders (command.Resend peer))
MakesEvent (line.End party peer name) texts h = h ≡ At party (Orders (command.End peer name))
MakesEvent (line.Drop party peer) texts h = h ≡ At party (Orders (command.Drop peer))
MakesEvent (line.Purge party) texts h = h ≡ At party (Orders command.Purge)
MakesEvent (line.Pass k party) texts h = Arrives party (slice_get texts (k - 1)) h
MakesEvent (line.Recent j) texts h = Returns (text_back j texts) h
MakesEvent (line.Bytes party bytes) texts h = Arrives party (Some bytes) h
MakesEvent (line.Party name role pair v) texts h = ⊥
MakesEvent (line.Link origin recipient label pair) texts h = ⊥
MakesEvent (line.Time moment) texts h = ⊥
MakesEvent (line.Stop n choice) texts h = ⊥

-- a line that is no event
abbrev pub IsNoEvent : Line → Type 0
IsNoEvent (line.Party name role pair v) = Unit {0}
IsNoEvent (line.Link origin recipient label pair) = Unit {0}
IsNoEvent (line.Time moment) = Unit {0}
IsNoEvent (line.Stop n choice) = Unit {0}
IsNoEvent l = ⊥

-- labels and identities are well formed, and of bytes is heard what is said
abbrev pub IsFormed : LineEvent → Type 0
IsFormed Nothing = Unit {0}
IsFormed (At party action) = IsAction action

-- where nothing is heard of bytes, this is the number of why
abbrev pub IsNumbered : Action → ℕ → Type 0
IsNumbered (Orders c) number = Unit {0}
IsNumbered (Hears bytes (Some a)) number = Unit {0}
IsNumbered (Hears bytes None) number = (u : Unheard) × Heard bytes (Err u) × (number ≡ unheard_number u)
IsNumbered Compacts number = ⊥
IsNumbered Migrates number = ⊥
