-- What `batch` says (this project's profile). `left` and `rest` are what the source has before and after, `before` and `after` what
-- the sink has.
use Rattle.std.specs.Prelude.{◌≡◌, ◌≤◌, ◌⊎◌, ℕ, List, [], length, Option, Some, IfSome}
use Rattle.csm_grammar.specs.declared.arrival.Arrival.{Arrival}
use Rattle.csm_grammar.specs.declared.refusal.ReadRefusal.{ReadRefusal}
use Rattle.csm_feed.specs.Streams.{AreMessages}
use Rattle.csm_feed.specs.declared.unheard.Unheard.TheVariants.{Text, Trailing}
use Rattle.x_spool.specs.Inbox.{IsInbox, IsRefusedStream}
use Rattle.call_ends.specs.declared.status.Refusal.{Refusal}
use Rattle.call_ends.specs.declared.status.Refusal.TheVariants.{Unheard}
use Rattle.call_ends.specs.declared.status.Status.{Status}
use Rattle.call_ends.specs.declared.status.Status.TheVariants as status
use Rattle.call_ends.specs.Puts.{Puts}
use Rattle.party_calls.specs.Dues.{IsOrNoMemory}
use Rattle.party_calls.specs.Spooled.{batch_limit}

-- the bytes of a stream are refused: they are too many, or behind its messages stands what isn't one
pub data IsRefusedInbox (all : List ℕ) (refusal : Refusal) : Type 0 where
  TooMany : batch_limit ≤ length all → refusal ≡ Unheard (Trailing 1048576) → IsRefusedInbox all refusal
  NoMessage : length all ≤ 1048576 → (r : ReadRefusal) → refusal ≡ Unheard (Text r) → IsRefusedStream all r → IsRefusedInbox all refusal

-- the source failed or no memory was left; or its bytes are refused; and nothing was written. Or they are messages, and the line by
-- which each arrives at this moment was written, in their order
abbrev pub IsMade : ℕ → Option (List ℕ) → Option (List ℕ) → Status → Option (List ℕ) → Option (List ℕ) → Type 0
IsMade moment left rest s before after = (((s ≡ status.ReadFault) ⊎ (s ≡ status.NoMemory)) × (after ≡ before))
    ⊎ (((refusal : Refusal) × (s ≡ status.Refused refusal) × IfSome left (λ all. IsRefusedInbox all refusal) × (after ≡ before))
    ⊎ ((lines : List ℕ) × IfSome left (λ all. IsInbox moment all lines × (rest ≡ Some [])) × Puts (Some lines) [] status.Done s before after))

-- the status is the one that is due of the bytes, or no memory was left
pub record FollowsInbox (all : List ℕ) (s : Status) : Type 0 where
  pub done : (arrivals : List Arrival) → length all ≤ 1048576 → AreMessages all arrivals → IsOrNoMemory s status.Done
  pub refused : (refusal : Refusal) → IsRefusedInbox all refusal → IsOrNoMemory s (status.Refused refusal)
