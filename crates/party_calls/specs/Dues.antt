-- The status that is due of a call over a party, by the image of the party's disk (this project's profile).
use Rattle.std.specs.Prelude.{◌≡◌, ◌⊎◌, ℕ, List, Err, Some}
use Rattle.csm_grammar.specs.declared.arrival.Arrival.{Arrival}
use Rattle.csm_feed.specs.declared.unheard.Unheard.{Unheard}
use Rattle.csm_feed.specs.Heard.{Heard}
use Rattle.x_disk.specs.Disk.{View}
use Rattle.party_state.specs.declared.command.Input.TheVariants.{Arrived}
use Rattle.x_party.specs.Dues.{IsDue}
use Rattle.x_party.specs.declared.outcome.Outcome.{Outcome}
use Rattle.call_ends.specs.declared.status.Status.{Status}
use Rattle.call_ends.specs.declared.status.Status.TheVariants as status
use Rattle.call_ends.specs.declared.status.Refusal.TheVariants as refusal
use Rattle.call_ends.specs.Listening.{IsHeard, taken}
use Rattle.party_calls.specs.Ends.{status_of_outcome}

-- the status is this one, or no memory was left
abbrev pub IsOrNoMemory : Status → Status → Type 0
IsOrNoMemory s due = (s ≡ due) ⊎ (s ≡ status.NoMemory)

-- the status is that of the outcome that is due by the image, or no memory was left
abbrev pub Follows : View → (List ℕ → Outcome → Type 0) → Status → Type 0
Follows old due s = (image : List ℕ) (o : Outcome) → old.now ≡ Some image → due image o → (s ≡ status_of_outcome o) ⊎ (s ≡ status.NoMemory)

-- where bytes arrive at the party of this name: the refusal to hear them, or what is due of the message
pub record FollowsBytes (all name : List ℕ) (old : View) (moment : ℕ) (s : Status) : Type 0 where
  pub unheard : (u : Unheard) → Heard (taken all) (Err u) → (s ≡ status.Refused (refusal.Unheard u)) ⊎ (s ≡ status.NoMemory)
  pub heard : (arrival : Arrival) → IsHeard all arrival → Follows old (IsDue name (Arrived arrival) moment) s
