-- What `check` decides of an input, and what it writes: this project's profile.
use Rattle.std.specs.Prelude.{◌≡◌, ◌++◌, ◌∷◌, ◌==◌, ℕ, Bool, true, List, [], take, Result, Ok, Err, Option, Some, IfSome, ◌⊎◌, if◌then◌else◌}
use Rattle.x_base.specs.Edge.{AppendsTo, WrotePrefix}
use Rattle.x_base.specs.declared.verdict.Verdict.TheVariants.{BadEdc}
use Rattle.x_mac.specs.Code.{edc_of}
use Rattle.csm_grammar.specs.declared.parsed.Parsed.{Parsed}
use Rattle.csm_grammar.specs.declared.parsed.Shut.{Shut}
use Rattle.csm_grammar.specs.declared.parsed.Shut.TheVariants as shuts
use Rattle.csm_feed.specs.declared.unheard.Unheard.{Unheard}
use Rattle.csm_feed.specs.Heard.{after_leading, Heard}
use Rattle.csm_write.specs.declared.closing.Closing.{Closing}
use Rattle.csm_write.specs.declared.closing.Closing.TheVariants as closings
use Rattle.csm_write.specs.Canon.{canon}
use Rattle.call_ends.specs.declared.status.Refusal.{Refusal}
use Rattle.call_ends.specs.declared.status.Refusal.TheVariants as refusal
use Rattle.call_ends.specs.declared.status.Status.{Status}
use Rattle.call_ends.specs.declared.status.Status.TheVariants as status
use Rattle.call_ends.specs.Listening.{taken, IsPossible}

-- the authenticated text of the message in the bytes, as it was received
abbrev pub authenticated_text_in : List ℕ → Parsed → List ℕ
authenticated_text_in bytes parsed = take parsed.auth_len (take parsed.len (after_leading bytes))

-- an error detection code has to be that of the authenticated text; an authentication code, which has no key
-- here, isn't verified
abbrev pub is_right : List ℕ → Shut → Bool
is_right auth (shuts.Edc code) = code == edc_of auth
is_right auth (shuts.Mac code) = true

-- what is decided of a message, by its error detection code
abbrev pub judged : Bool → Parsed → Result Parsed Refusal
judged right parsed = if right then Ok parsed else Err (refusal.Decided BadEdc)

-- what is decided of what was heard of the bytes
abbrev pub decided_of : List ℕ → Result Parsed Unheard → Result Parsed Refusal
decided_of bytes (Ok parsed) = judged (is_right (authenticated_text_in bytes parsed) parsed.shut) parsed
decided_of bytes (Err unheard) = Err (refusal.Unheard unheard)

-- what is decided of an input: it follows from what is heard of the bytes that are taken
pub record IsDecision (input : List ℕ) (decided : Result Parsed Refusal) : Type 0 where
  pub arrival : Result Parsed Unheard
  pub heard : Heard (taken input) arrival
  pub follows : decided ≡ decided_of (taken input) arrival

-- the status of what was decided
abbrev pub status_of : Result Parsed Refusal → Status
status_of (Ok parsed) = status.Done
status_of (Err refusal) = status.Refused refusal

-- what closes the canonical text: a new error detection code, or the authentication code that came
abbrev pub closing_of : Shut → Closing
closing_of (shuts.Edc code) = closings.Edc
closing_of (shuts.Mac code) = closings.Stated (shuts.Mac code)

-- what is written: the canonical text of the message, and a line feed
abbrev pub reply_of : Parsed → List ℕ
reply_of parsed = canon parsed.message (closing_of parsed.shut) ++ 10 ∷ []

-- the input was accepted, and this is the reply to it
pub record IsReply (input reply : List ℕ) : Type 0 where
  pub parsed : Parsed
  pub accepted : IsDecision input (Ok parsed)
  pub spelled : reply ≡ reply_of parsed

-- the whole reply was written
abbrev pub WroteReply : List ℕ → Option (List ℕ) → Option (List ℕ) → Type 0
WroteReply input before after = (reply : List ℕ) × IsReply input reply × AppendsTo before after reply

-- a prefix of the reply was written
abbrev pub WroteSome : List ℕ → Option (List ℕ) → Option (List ℕ) → Type 0
WroteSome input before after = (reply : List ℕ) × IsReply input reply × WrotePrefix before after reply

-- how a `check` ends: what was left of the input before and after, and what was written
abbrev pub IsChecked : Status → Option (List ℕ) → Option (List ℕ) → Option (List ℕ) → Option (List ℕ) → Type 0
-- the input was read to its end and accepted, and the whole reply was written
IsChecked status.Done left rest before after = IfSome left (λ all. (rest ≡ Some []) × WroteReply all before after)
-- refused as it is decided of the input, and over any source for no other reason than these
IsChecked (status.Refused refusal) left rest before after =
    IsPossible refusal × IfSome left (λ all. IsDecision all (Err refusal)) × (after ≡ before)
IsChecked status.ReadFault left rest before after = after ≡ before
IsChecked status.WriteFault left rest before after = IfSome left (λ all. WroteSome all before after)
IsChecked status.NoMemory left rest before after = after ≡ before
IsChecked s left rest before after = ⊥

-- what is decided of the input is the status, or no memory was left
abbrev pub IsExact : Option (List ℕ) → Status → Type 0
IsExact left s = IfSome left (λ all. (decided : Result Parsed Refusal) → IsDecision all decided → (s ≡ status_of decided) ⊎ (s ≡ status.NoMemory))
