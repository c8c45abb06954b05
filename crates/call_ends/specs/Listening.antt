-- The one message that the bytes of a source are (this project's profile).
use Rattle.std.specs.Prelude.{◌≡◌, ◌⊎◌, ℕ, List, take, Ok, Err, Option, IfSome}
use Rattle.x_base.specs.declared.verdict.Verdict.TheVariants.{BadEdc}
use Rattle.csm_grammar.specs.declared.arrival.Arrival.{Arrival}
use Rattle.csm_grammar.specs.declared.refusal.ReadRefusal.TheVariants.{NoMemory}
use Rattle.csm_feed.specs.declared.unheard.Unheard.{Unheard}
use Rattle.csm_feed.specs.declared.unheard.Unheard.TheVariants as unheard
use Rattle.csm_feed.specs.Heard.{after_leading, Heard, input_limit}
use Rattle.call_ends.specs.declared.status.Refusal.{Refusal}
use Rattle.call_ends.specs.declared.status.Refusal.TheVariants as refusal
use Rattle.call_ends.specs.declared.status.Status.{Status}
use Rattle.call_ends.specs.declared.status.Status.TheVariants as status

-- the bytes of an input that are taken
abbrev pub taken : List ℕ → List ℕ
taken input = take input_limit input

-- a message that arrives: it is heard of the bytes that are taken, and is kept as it was received
pub record IsHeard (all : List ℕ) (arrival : Arrival) : Type 0 where
  pub heard : Heard (taken all) (Ok arrival.parsed)
  pub text : arrival.text ≡ take arrival.parsed.len (after_leading (taken all))

-- the refusals that can come, whatever the input
abbrev pub IsPossible : Refusal → Type 0
IsPossible (refusal.Unheard (unheard.Text NoMemory)) = ⊥
IsPossible (refusal.Unheard u) = Unit {0}
IsPossible (refusal.Decided verdict) = verdict ≡ BadEdc
IsPossible other = ⊥

-- no message arrived: the source failed, or no memory was left, or the bytes are refused
abbrev pub IsUnheard : Option (List ℕ) → Status → Type 0
IsUnheard left s = ((s ≡ status.ReadFault) ⊎ (s ≡ status.NoMemory))
    ⊎ ((u : Unheard) × (s ≡ status.Refused (refusal.Unheard u)) × IsPossible (refusal.Unheard u) × IfSome left (λ all. Heard (taken all) (Err u)))
