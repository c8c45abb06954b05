-- Keys that come from the source, and check values (this project's profile). `left` and `rest` are what the source has before and
-- after, `before` and `after` what the sink has, `old` and `new` what the shelf tells of the disks.
use Rattle.std.specs.Prelude.{◌≡◌, ◌⊎◌, ℕ, List, [], ◌∷◌, Option, Some, Result, Ok, Err}
use Rattle.x_mac.specs.declared.pair.Pair.{Pair}
use Rattle.pair_check.specs.Values.{check_value_of}
use Rattle.x_disk.specs.Disk.{View, Tells, LeavesOnly, IsUntouched}
use Rattle.x_disk.specs.Shelf.{AllStay}
use Rattle.key_journal.specs.States.{WritesOnlyToBlank}
use Rattle.key_parts.specs.Parts.{entered_of}
use Rattle.key_parts.specs.declared.part.Form.{Form}
use Rattle.key_parts.specs.declared.part.Part.{Part}
use Rattle.party_tables.specs.declared.link.LinkKey.{LinkKey}
use Rattle.party_state.specs.declared.command.Input.{Input}
use Rattle.party_state.specs.State.{Party}
use Rattle.key_store.specs.Store.{IsBlankOrFirst}
use Rattle.x_party.specs.Asking.{AsksParty, value_answer}
use Rattle.x_party.specs.Images.{StillTells, OrBefore}
use Rattle.x_party.specs.Outcomes.{CreatesParty, TakesTurn, IsSafe}
use Rattle.x_party.specs.declared.outcome.Outcome.{Outcome}
use Rattle.x_party.specs.declared.outcome.Outcome.TheVariants as outcome
use Rattle.x_pair.specs.Creations.{CreatesPair, GivesDueCreation, IsSafeCreation}
use Rattle.x_pair.specs.Dues.{GivesDuePair}
use Rattle.x_pair.specs.Outcomes.{IsSafePair, MakesPair, Work}
use Rattle.call_ends.specs.declared.status.Refusal.TheVariants.{BadDigits}
use Rattle.call_ends.specs.declared.status.Status.{Status}
use Rattle.call_ends.specs.declared.status.Status.TheVariants as status
use Rattle.call_ends.specs.Digits.{AreRead, IsNoKey, digits_taken}
use Rattle.party_calls.specs.Ends.{Ends}
use Rattle.party_calls.specs.Dues.{IsOrNoMemory}

-- there is none, and nothing was changed or written; or there is one, and this was done with it
abbrev pub EntersKey : Form → Option (List ℕ) → Option (List ℕ) → Status → Type 0 → (Part → Type 0) → Type 0
EntersKey form left rest s unchanged Did = (IsNoKey form left rest s × unchanged) ⊎ ((part : Part) × AreRead form left rest (Ok part) × Did part)

-- nothing was changed or written
abbrev pub IsUnchanged : Option (List ℕ) → Option (List ℕ) → (List ℕ → View) → (List ℕ → View) → Type 0
IsUnchanged before after old new = (after ≡ before) × AllStay old new

-- where no count of faults rises: the refusal of a line at fault, or what is due with the key
abbrev pub ExpectsRead : Result Part ℕ → Status → (Part → Type 0) → Type 0
ExpectsRead (Err line) s Due = IsOrNoMemory s (status.Refused (BadDigits line))
ExpectsRead (Ok part) s Due = Due part

abbrev pub ExpectsKey : Form → List ℕ → Status → (Part → Type 0) → Type 0
ExpectsKey form all s Due = ExpectsRead (entered_of form (digits_taken all)) s Due

-- ---- what is done with it

-- the outcome with a check value in place of the reply, where it is done
abbrev pub valued : List ℕ → Outcome → Outcome
valued value (outcome.Done reply) = outcome.Done (Some value)
valued value o = o

-- the party of this name had its turn with an input, as a command gives it, and the check value of the pair was written, with a
-- line feed
pub record IsValuedTurn (name : List ℕ) (i : Input) (pair : Pair) (moment : ℕ) (old new : View) (s : Status) (before after : Option (List ℕ)) : Type 0 where
  pub outcome : Outcome
  pub turned : TakesTurn name old new i moment outcome
  pub safe : IsSafe name old new i moment
  pub ends : Ends (valued (check_value_of pair) outcome) (10 ∷ []) s before after

-- a party was created, and the check value of its generator's pair was written, with a line feed
pub record IsValuedCreation (party : Party) (old new : View) (s : Status) (before after : Option (List ℕ)) : Type 0 where
  pub outcome : Outcome
  pub created : CreatesParty old new party outcome
  pub nothing_written : WritesOnlyToBlank old new
  pub any_moment : Tells old → LeavesOnly old new (OrBefore old (IsBlankOrFirst party))
  pub tells : StillTells old new
  pub ends : Ends (valued (check_value_of party.generator.key) outcome) (10 ∷ []) s before after

-- ---- at a party that is kept on two disks

-- a call over both disks did this, and the check value of the pair was written, with a line feed
pub record IsValuedPairCall (w : Work) (is_due : List ℕ → List ℕ → Outcome → Type 0) (pair : Pair) (party mirror : List ℕ) (old new : List ℕ → View) (s : Status) (before after : Option (List ℕ)) : Type 0 where
  pub outcome : Outcome
  pub made : MakesPair w (old party) (old mirror) (new party) (new mirror) outcome
  pub due : GivesDuePair (old party) (old mirror) is_due outcome
  pub safe : IsSafePair w (old party) (old mirror) (new party) (new mirror)
  pub ends : Ends (valued (check_value_of pair) outcome) (10 ∷ []) s before after

-- a party was created on both, and the check value of its generator's pair was written, with a line feed
pub record IsValuedPairCreation (p : Party) (party mirror : List ℕ) (old new : List ℕ → View) (s : Status) (before after : Option (List ℕ)) : Type 0 where
  pub outcome : Outcome
  pub created : CreatesPair p (old party) (old mirror) (new party) (new mirror) outcome
  pub due : GivesDueCreation (old party) (old mirror) outcome
  pub safe : IsSafeCreation p (old party) (old mirror) (new party) (new mirror)
  pub ends : Ends (valued (check_value_of p.generator.key) outcome) (10 ∷ []) s before after

-- ---- the check value of a link

-- a party was asked for the check value of a link, and it was written, with a line feed
pub record IsValuing (key : LinkKey) (old new : View) (s : Status) (before after : Option (List ℕ)) : Type 0 where
  pub outcome : Outcome
  pub asked : AsksParty (value_answer key) old new outcome
  pub untouched : IsUntouched old new
  pub ends : Ends outcome (10 ∷ []) s before after
