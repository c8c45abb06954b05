-- What an order does at a party that is kept on two disks (this project's profile). `left` and `rest` are what the source has
-- before and after, `before` and `after` what the sink has, `old` and `new` what the shelf tells of the disks.
use Rattle.std.specs.Prelude.{◌≡◌, ◌⊎◌, ℕ, false, List, [], ◌∷◌, Option, Some, None, IfSome}
use Rattle.x_disk.specs.Disk.{View}
use Rattle.x_disk.specs.Shelf.{AllStay}
use Rattle.key_parts.specs.declared.part.Form.TheVariants as form
use Rattle.csm_grammar.specs.declared.arrival.Arrival.{Arrival}
use Rattle.party_state.specs.declared.command.Command.TheVariants as command
use Rattle.party_state.specs.declared.command.Input.TheVariants.{Ordered, Arrived}
use Rattle.party_state.specs.State.{Party, begun}
use Rattle.disk_pair.specs.Pairs.{ThirdsStay}
use Rattle.x_line.specs.declared.order.Order.{Order}
use Rattle.x_line.specs.declared.order.Order.TheVariants as order
use Rattle.x_pair.specs.Creations.{CreatesPair, GivesDueCreation, IsSafeCreation}
use Rattle.x_pair.specs.Dues.{GivesDuePair, IsDueShow, IsDueTurn}
use Rattle.x_pair.specs.Outcomes.{IsSafePair, MakesPair, Work, showing, turning}
use Rattle.x_party.specs.declared.outcome.Outcome.{Outcome}
use Rattle.call_ends.specs.declared.status.Status.{Status}
use Rattle.call_ends.specs.Listening.{IsHeard, IsUnheard}
use Rattle.call_ends.specs.declared.party_command.PartyCommand.{PartyCommand}
use Rattle.party_calls.specs.Ends.{Ends, IsOfParty}
use Rattle.party_calls.specs.Entered.{EntersKey, IsUnchanged, IsValuedPairCall, IsValuedPairCreation}
use Rattle.call_ends.specs.Commands.{command_of}
use Rattle.party_calls.specs.Obeys.{is_reading, party_of}

-- a call over two disks did this, with the outcome that is due by the two images, a fault or want of memory; its reply was written
-- with an ending
pub record IsPairCall (w : Work) (is_due : List ℕ → List ℕ → Outcome → Type 0) (ending party mirror : List ℕ) (old new : List ℕ → View) (s : Status) (before after : Option (List ℕ)) : Type 0 where
  pub outcome : Outcome
  pub made : MakesPair w (old party) (old mirror) (new party) (new mirror) outcome
  pub due : GivesDuePair (old party) (old mirror) is_due outcome
  pub safe : IsSafePair w (old party) (old mirror) (new party) (new mirror)
  pub ends : Ends outcome ending s before after

-- a party was created on two disks, and nothing was written out
pub record IsPairCreation (p : Party) (party mirror : List ℕ) (old new : List ℕ → View) (s : Status) (before after : Option (List ℕ)) : Type 0 where
  pub outcome : Outcome
  pub created : CreatesPair p (old party) (old mirror) (new party) (new mirror) outcome
  pub due : GivesDueCreation (old party) (old mirror) outcome
  pub safe : IsSafeCreation p (old party) (old mirror) (new party) (new mirror)
  pub ends : Ends outcome [] s before after

abbrev pub ObeysMirroredCommand : Option PartyCommand → List ℕ → ℕ → (List ℕ → View) → (List ℕ → View) → Status → Option (List ℕ) → Option (List ℕ) → Type 0
ObeysMirroredCommand (Some t) mirror moment old new s before after = IsPairCall (turning t.party (Ordered t.command) moment) (IsDueTurn t.party (Ordered t.command) moment) (10 ∷ []) t.party mirror old new s before after
ObeysMirroredCommand None mirror moment old new s before after = ⊥

-- bytes arrived: no message was heard, and nothing was changed or written; or the party had its turn with it
abbrev pub IsTakenOfTwo : List ℕ → List ℕ → ℕ → Option (List ℕ) → Option (List ℕ) → (List ℕ → View) → (List ℕ → View) → Status → Option (List ℕ) → Option (List ℕ) → Type 0
IsTakenOfTwo party mirror moment left rest old new s before after = (IsUnheard left s × (after ≡ before) × AllStay old new)
    ⊎ ((arrival : Arrival) × IfSome left (λ all. IsHeard all arrival × (rest ≡ Some [])) × IsPairCall (turning party (Arrived arrival) moment) (IsDueTurn party (Arrived arrival) moment) (10 ∷ []) party mirror old new s before after)

-- what each order does at a party with a second disk of this name
abbrev pub ObeysMirrored : Order → List ℕ → ℕ → Status → Option (List ℕ) → Option (List ℕ) → Option (List ℕ) → Option (List ℕ) → (List ℕ → View) → (List ℕ → View) → Type 0
ObeysMirrored (order.Init party role key v) mirror moment s left rest before after old new =
    IsPairCreation (begun party role (record { key = key; v = v })) party mirror old new s before after
ObeysMirrored (order.Create party role) mirror moment s left rest before after old new = EntersKey form.Generator left rest s (IsUnchanged before after old new)
    (λ part. IsValuedPairCreation (begun party role (record { key = part.pair; v = part.seed })) party mirror old new s before after)
ObeysMirrored (order.Enter party peer label side) mirror moment s left rest before after old new = EntersKey form.Key left rest s (IsUnchanged before after old new)
    (λ part. IsValuedPairCall (turning party (Ordered (command.Load peer label side part.pair)) moment) (IsDueTurn party (Ordered (command.Load peer label side part.pair)) moment) part.pair party mirror old new s before after)
ObeysMirrored (order.Show party) mirror moment s left rest before after old new = IsPairCall showing IsDueShow [] party mirror old new s before after
ObeysMirrored (order.Take party) mirror moment s left rest before after old new = IsTakenOfTwo party mirror moment left rest old new s before after
ObeysMirrored o mirror moment s left rest before after old new = ObeysMirroredCommand (command_of o) mirror moment old new s before after

-- what it leaves: where the party answered, both disks are back on the shelf; the other disks stay, and the source where it isn't
-- read
pub record LeavesMirrored (o : Order) (mirror : List ℕ) (s : Status) (is_back : List ℕ → Type 0) (stays : Type 0) (old new : List ℕ → View) : Type 0 where
  pub back : IsOfParty s → IfSome (party_of o) is_back × is_back mirror
  pub others : IfSome (party_of o) (λ party. ThirdsStay party mirror old new)
  pub unread : is_reading o ≡ false → stays
