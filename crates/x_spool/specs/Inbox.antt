-- The messages of a stream as the lines of a batch (this project's profile).
use Rattle.std.specs.Prelude.{◌≡◌, ◌≢◌, ◌⊎◌, ℕ, List, [], ◌∷◌, ◌++◌, length, Some, None}
use Rattle.csm_grammar.specs.declared.arrival.Arrival.{Arrival}
use Rattle.csm_grammar.specs.declared.refusal.ReadRefusal.{ReadRefusal}
use Rattle.csm_grammar.specs.declared.refusal.ReadRefusal.TheVariants as refusal
use Rattle.csm_feed.specs.Streams.{AreMessages, EndsWith, IsBegun}
use Rattle.csm_batch.specs.Lines.{line_text}
use Rattle.x_spool.specs.declared.inbox.InboxFault.{InboxFault}
use Rattle.x_spool.specs.declared.inbox.InboxFault.TheVariants as fault

-- the lines by which messages arrive at this moment, in their order
abbrev pub arrival_lines : ℕ → List Arrival → List ℕ
arrival_lines moment [] = []
arrival_lines moment (a ∷ later) = line_text moment a.text ++ arrival_lines moment later

-- the stream is messages, and these are their lines
abbrev pub IsInbox : ℕ → List ℕ → List ℕ → Type 0
IsInbox moment stream lines = (arrivals : List Arrival) × AreMessages stream arrivals × (lines ≡ arrival_lines moment arrivals)

-- the refusal of what stands behind the messages: what begins none, or a message that doesn't end
abbrev pub IsReason : List ℕ → List ℕ → List ℕ → ReadRefusal → Type 0
IsReason stream front rest r = EndsWith (length front) rest (Some r) ⊎ (EndsWith (length front) rest None × (r ≡ refusal.Unended (length stream)))

-- behind the messages of the stream stands something else, which is refused so
pub record IsRefusedStream (stream : List ℕ) (r : ReadRefusal) : Type 0 where
  pub arrivals : List Arrival
  pub front : List ℕ
  pub rest : List ℕ
  pub text : stream ≡ front ++ rest
  pub messages : AreMessages front arrivals
  pub begun : IsBegun rest
  pub something : rest ≢ []
  pub reason : IsReason stream front rest r

-- why a stream isn't written as a batch; want of memory to any
abbrev pub WhyNoInbox : List ℕ → InboxFault → Type 0
WhyNoInbox stream (fault.Refused r) = IsRefusedStream stream r
WhyNoInbox stream fault.NoMemory = Unit {0}

-- a stream is one list of messages at most, or it is refused for one reason at most, and never both
pub record OneInbox : Type 0 where
  pub one_list : (stream : List ℕ) (ms ns : List Arrival) → AreMessages stream ms → AreMessages stream ns → ms ≡ ns
  pub one_reason : (stream : List ℕ) (r s : ReadRefusal) → IsRefusedStream stream r → IsRefusedStream stream s → r ≡ s
  pub never_both : (stream : List ℕ) (ms : List Arrival) (r : ReadRefusal) → AreMessages stream ms → IsRefusedStream stream r → ⊥
