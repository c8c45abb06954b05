-- What is to be done at a line (this project's profile).
use Rattle.std.specs.Prelude.{◌≡◌, ◌-◌, ℕ, Bool, true, false, List, take, slice_get, Option, Some, None, Result, IfOk}
use Rattle.csm_grammar.specs.declared.arrival.Arrival.{Arrival}
use Rattle.csm_feed.specs.declared.unheard.Unheard.{Unheard}
use Rattle.csm_feed.specs.Heard.{Heard, after_leading, readings}
use Rattle.party_state.specs.declared.command.Command.{Command}
use Rattle.scenario.specs.declared.line.Line.{Line}
use Rattle.course.specs.Acts.{Means}
use Rattle.course.specs.LineEvents.{LineEvent, MakesEvent, IsFormed, input_bytes, text_back}
use Rattle.course.specs.declared.act.LineAct.{LineAct}
use Rattle.party_state.specs.declared.command.Command.TheVariants as command
use Rattle.scenario.specs.declared.line.Line.TheVariants as line

-- this is heard of the first bytes
pub record HeardOf (bytes : List ℕ) (heard : Result Arrival Unheard) : Type 0 where
  pub heard_is : Heard (input_bytes bytes) (readings heard)
  pub text : IfOk heard (λ (a : Arrival). a.text ≡ take a.parsed.len (after_leading (input_bytes bytes)))

-- this is to be done for an event of which this holds
abbrev pub MeantBy : (LineEvent → Type 0) → LineAct → Type 0
MeantBy holds a = (h : LineEvent) × holds h × IsFormed h × Means a h

-- this is to be done at a line that is an event, where these texts were written
abbrev pub IsLineAct : Line → List (List ℕ) → LineAct → Type 0
IsLineAct l texts a = MeantBy (MakesEvent l texts) a

-- the party and its command, of a line that gives one
abbrev pub order_in : Line → Option (List ℕ × Command)
order_in (line.Start party peer label) = Some (party, command.Start peer label)
order_in (line.StartKk party peer label new single) = Some (party, command.StartKk peer (Some label) new single)
order_in (line.Ask party peer ultimate) = Some (party, command.Ask peer ultimate)
order_in (line.Translate party centre ultimate) = Some (party, command.Translate centre ultimate)
order_in (line.Resend party peer) = Some (party, command.Resend peer)
order_in (line.End party peer name) = Some (party, command.End peer name)
order_in (line.Drop party peer) = Some (party, command.Drop peer)
order_in (line.Purge party) = Some (party, command.Purge)
order_in l = None

-- a line that gives no command
abbrev pub IsNoOrder : Line → Type 0
IsNoOrder (line.Start party peer label) = ⊥
IsNoOrder (line.StartKk party peer label new single) = ⊥
IsNoOrder (line.Ask party peer ultimate) = ⊥
IsNoOrder (line.Translate party centre ultimate) = ⊥
IsNoOrder (line.Resend party peer) = ⊥
IsNoOrder (line.End party peer name) = ⊥
IsNoOrder (line.Drop party peer) = ⊥
IsNoOrder (line.Purge party) = ⊥
IsNoOrder l = Unit {0}

-- bytes may arrive at the line
abbrev pub is_arrival : Line → Bool
is_arrival (line.Pass k party) = true
is_arrival (line.Recent j) = true
is_arrival (line.Bytes party bytes) = true
is_arrival l = false

-- the bytes that arrive at a line, if there are any, where these texts were written
abbrev pub arriving : Line → List (List ℕ) → Option (List ℕ)
arriving (line.Pass k party) texts = slice_get texts (k - 1)
arriving (line.Recent j) texts = text_back j texts
arriving (line.Bytes party bytes) texts = Some bytes
arriving l texts = None
