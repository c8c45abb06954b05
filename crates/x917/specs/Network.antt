-- An order as an event of a network of parties (this project's profile). `left` is what the source has before, `before` and
-- `after` what the sink has, `old` and `new` what the shelf tells of the disks.
use Rattle.std.specs.Prelude.{◌≡◌, ◌≢◌, ◌⊎◌, ℕ, List, [], ◌∷◌, Option, Some, None, IfSome}
use Rattle.x_disk.specs.Disk.{View, IsUntouched}
use Rattle.x_disk.specs.Shelf.{IsAlike}
use Rattle.csm_grammar.specs.declared.arrival.Arrival.{Arrival}
use Rattle.party_state.specs.State.{Party}
use Rattle.key_store.specs.Store.{Stands}
use Rattle.x_party.specs.declared.outcome.Outcome.{Outcome}
use Rattle.x_line.specs.declared.order.Order.{Order}
use Rattle.x_line.specs.declared.order.Order.TheVariants as order
use Rattle.world_laws.specs.Events.{Action, Orders, Hears, Compacts, Migrates, IsAction}
use Rattle.call_laws.specs.Calls.{IsCall, IsNamedCall}
use Rattle.call_ends.specs.declared.party_command.PartyCommand.{PartyCommand}
use Rattle.call_ends.specs.declared.status.Status.{Status}
use Rattle.call_ends.specs.Listening.{IsUnheard, taken}
use Rattle.party_calls.specs.Ends.{Ends}
use Rattle.call_ends.specs.Commands.{command_of}

-- the call is this action of a network, at the party that stands under the name, and it ends with that outcome's status and
-- reply: whole, where the party answered, and otherwise cut off
pub record IsEvent (action : Action) (moment : ℕ) (ending : List ℕ) (old new : View) (s : Status) (before after : Option (List ℕ)) : Type 0 where
  pub is_action : IsAction action
  pub outcome : Outcome
  pub event : IsCall old new action moment outcome
  pub ends : Ends outcome ending s before after

-- the same of a call of the party of this name; where another party stands on the disk, nothing changes there and nothing is
-- written
pub record IsNamedEvent (name : List ℕ) (action : Action) (moment : ℕ) (ending : List ℕ) (old new : View) (s : Status) (before after : Option (List ℕ)) : Type 0 where
  pub is_action : IsAction action
  pub outcome : Outcome
  pub event : IsNamedCall name old new action moment outcome
  pub ends : Ends outcome ending s before after
  pub other : (image : List ℕ) (party : Party) → old.now ≡ Some image → Stands image party → party.own ≢ name → IsUntouched old new × (after ≡ before)

-- a message is heard of the bytes that are taken, and its arrival is the event; or none is heard, and nothing is changed or
-- written
abbrev pub IsArrivalEvent : List ℕ → ℕ → Option (List ℕ) → View → View → Status → Option (List ℕ) → Option (List ℕ) → Type 0
IsArrivalEvent name moment left old new s before after = (IsUnheard left s × (after ≡ before) × IsAlike old new)
    ⊎ IfSome left (λ all. (arrival : Arrival) × IsNamedEvent name (Hears (taken all) (Some arrival)) moment (10 ∷ []) old new s before after)

abbrev pub IsCommandEvent : Option PartyCommand → ℕ → (List ℕ → View) → (List ℕ → View) → Status → Option (List ℕ) → Option (List ℕ) → Type 0
IsCommandEvent (Some t) moment old new s before after = IsNamedEvent t.party (Orders t.command) moment (10 ∷ []) (old t.party) (new t.party) s before after
IsCommandEvent None moment old new s before after = Unit {0}

-- what an order is in a network: parties begin, and links are loaded, before its events; showing, check values, wiping,
-- comparing, checking, auditing and payments, which change no party, are none, nor is a batch, which is many; a scenario is a
-- network of its own, of which Headline speaks
abbrev pub IsNetworkEvent : Order → ℕ → Status → Option (List ℕ) → Option (List ℕ) → Option (List ℕ) → (List ℕ → View) → (List ℕ → View) → Type 0
IsNetworkEvent order.Check moment s left before after old new = Unit {0}
IsNetworkEvent (order.Init party role key v) moment s left before after old new = Unit {0}
IsNetworkEvent (order.Load party peer label side pair) moment s left before after old new = Unit {0}
IsNetworkEvent (order.Create party role) moment s left before after old new = Unit {0}
IsNetworkEvent (order.Enter party peer label side) moment s left before after old new = Unit {0}
IsNetworkEvent (order.Value party peer label side) moment s left before after old new = Unit {0}
IsNetworkEvent (order.Show party) moment s left before after old new = Unit {0}
IsNetworkEvent (order.Wipe party) moment s left before after old new = Unit {0}
IsNetworkEvent (order.Compare party mirror) moment s left before after old new = Unit {0}
IsNetworkEvent order.Replay moment s left before after old new = Unit {0}
IsNetworkEvent order.Audit moment s left before after old new = Unit {0}
IsNetworkEvent (order.Drill seed events) moment s left before after old new = Unit {0}
IsNetworkEvent (order.Pay party peer name ledger amount) moment s left before after old new = Unit {0}
IsNetworkEvent (order.Accept party ledger) moment s left before after old new = Unit {0}
IsNetworkEvent (order.Spool party spool) moment s left before after old new = Unit {0}
IsNetworkEvent (order.Outbox spool) moment s left before after old new = Unit {0}
IsNetworkEvent order.Batch moment s left before after old new = Unit {0}
IsNetworkEvent (order.Compact party) moment s left before after old new = IsEvent Compacts moment [] (old party) (new party) s before after
IsNetworkEvent (order.Migrate party) moment s left before after old new = IsEvent Migrates moment [] (old party) (new party) s before after
IsNetworkEvent (order.Take party) moment s left before after old new = IsArrivalEvent party moment left (old party) (new party) s before after
IsNetworkEvent o moment s left before after old new = IsCommandEvent (command_of o) moment old new s before after
