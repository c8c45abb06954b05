-- Which deed of a session over one disk or two a call is (this project's profile). `start` is a network, and `mirrors` names the
-- second disk of each of its parties that keeps two. `left` is what the source has before, `before` and `after` what the sink has,
-- `old` and `new` what the shelf tells of each disk.
use Rattle.std.specs.Prelude.{◌≡◌, ◌⊎◌, ℕ, false, List, [], ◌∷◌, Option, Some, None, IfSome}
use Rattle.x_disk.specs.Disk.{View}
use Rattle.csm_grammar.specs.declared.arrival.Arrival.{Arrival}
use Rattle.member.specs.Member.{Member}
use Rattle.x_party.specs.declared.outcome.Outcome.{Outcome}
use Rattle.csm_batch.specs.declared.entry.Entry.{Entry}
use Rattle.csm_batch.specs.Batches.{IsBatch}
use Rattle.x_spool.specs.declared.outcome.SpoolOutcome.{SpoolOutcome}
use Rattle.x_line.specs.declared.order.Order.{Order}
use Rattle.x_line.specs.declared.order.Order.TheVariants as order
use Rattle.world_laws.specs.World.{World, member_at}
use Rattle.world_laws.specs.Events.{Action, Orders, Hears}
use Rattle.mirror_laws.specs.Runs.{Which}
use Rattle.mirror_laws.specs.Sessions.{Tending, Compacting, Migrating, Wiping, IsPairCalled, IsPairShown, IsAside, IsBatchTaken, IsNobodys, IsTended, own_disk}
use Rattle.call_ends.specs.declared.party_command.PartyCommand.{PartyCommand}
use Rattle.call_ends.specs.declared.status.Status.{Status}
use Rattle.call_ends.specs.Commands.{command_of}
use Rattle.call_ends.specs.Listening.{IsHeard, IsUnheard, taken}
use Rattle.party_calls.specs.Ends.{Ends}
use Rattle.party_calls.specs.Obeys.{is_replay, ledger_of, party_of}
use Rattle.party_calls.specs.Spooled.{EndsBatch, IsUnbatched}

-- what holds where the party of this name is one of the network, and keeps as second disk the one that is named, and none where none
-- is named
abbrev pub OverOwn : World → (List ℕ → Option (List ℕ)) → List ℕ → Option (List ℕ) → Type 0 → Type 0
OverOwn start mirrors name mirror deed = (x : Member) → member_at name start.members ≡ Some x → mirrors name ≡ mirror → deed

-- the party of the name is called by this action, over its own disks, and the call ends with that outcome's status and reply
pub record IsCallDeed (start : World) (mirrors : List ℕ → Option (List ℕ)) (name : List ℕ) (action : Action) (moment : ℕ) (ending : List ℕ) (old new : List ℕ → View) (s : Status) (before after : Option (List ℕ)) : Type 0 where
  pub outcome : Outcome
  pub called : IsPairCalled start mirrors name action moment outcome old new
  pub ends : Ends outcome ending s before after

-- the disk of this name is tended, if it is one of the two of a party of the network, or its only one
pub record IsTendingDeed (start : World) (mirrors : List ℕ → Option (List ℕ)) (file : List ℕ) (t : Tending) (old new : List ℕ → View) (s : Status) (before after : Option (List ℕ)) : Type 0 where
  pub outcome : Outcome
  pub tended : (name : List ℕ) (which : Which) (x : Member) → member_at name start.members ≡ Some x → own_disk mirrors name which ≡ Some file → IsTended start mirrors name which t outcome old new
  pub ends : Ends outcome [] s before after

-- a message is heard of the bytes that are taken, and its arrival is the action; or none is, nothing is written out, and no disk of a
-- party is written
abbrev pub IsArrivalDeed : World → (List ℕ → Option (List ℕ)) → List ℕ → Option (List ℕ) → ℕ → Option (List ℕ) → (List ℕ → View) → (List ℕ → View) → Status → Option (List ℕ) → Option (List ℕ) → Type 0
IsArrivalDeed start mirrors name mirror moment left old new s before after = (IsUnheard left s × (after ≡ before) × IsAside start mirrors old new)
    ⊎ IfSome left (λ all. (arrival : Arrival) × IsHeard all arrival × OverOwn start mirrors name mirror (IsCallDeed start mirrors name (Hears (taken all) (Some arrival)) moment (10 ∷ []) old new s before after))

abbrev pub IsCommandDeed : World → (List ℕ → Option (List ℕ)) → Option PartyCommand → Option (List ℕ) → ℕ → (List ℕ → View) → (List ℕ → View) → Status → Option (List ℕ) → Option (List ℕ) → Type 0
IsCommandDeed start mirrors (Some t) mirror moment old new s before after = OverOwn start mirrors t.party mirror (IsCallDeed start mirrors t.party (Orders t.command) moment (10 ∷ []) old new s before after)
IsCommandDeed start mirrors None mirror moment old new s before after = ⊥

-- a party is shown over one disk, which isn't written; or over its two
abbrev pub IsShowDeed : World → (List ℕ → Option (List ℕ)) → List ℕ → Option (List ℕ) → (List ℕ → View) → (List ℕ → View) → Type 0
IsShowDeed start mirrors name None old new = IsAside start mirrors old new
IsShowDeed start mirrors name (Some second) old new = OverOwn start mirrors name (Some second) (IsPairShown start mirrors name old new)

-- the party of this name takes a batch beside that spool, and the call ends with that outcome's status and outbox
pub record IsBatchCall (start : World) (mirrors : List ℕ → Option (List ℕ)) (name spool text : List ℕ) (entries : List Entry) (old new : List ℕ → View) (s : Status) (before after : Option (List ℕ)) : Type 0 where
  pub outcome : SpoolOutcome
  pub taken : IsBatchTaken start mirrors name spool text entries outcome old new
  pub ends : EndsBatch outcome s before after

-- a batch is read, and the party of the name takes it, if it is one of the network that keeps one disk, and the spool is nobody's; or
-- none is read, nothing is written out, and no disk of a party is written
abbrev pub IsBatchDeed : World → (List ℕ → Option (List ℕ)) → List ℕ → List ℕ → Option (List ℕ) → (List ℕ → View) → (List ℕ → View) → Status → Option (List ℕ) → Option (List ℕ) → Type 0
IsBatchDeed start mirrors name spool left old new s before after = (IsUnbatched left s × (after ≡ before) × IsAside start mirrors old new)
    ⊎ ((text : List ℕ) × (entries : List Entry) × IsBatch text entries × IfSome left (λ all. all ≡ text) × OverOwn start mirrors name None (IsNobodys start mirrors spool → IsBatchCall start mirrors name spool text entries old new s before after))

-- which deed an order is, of a party with that second disk or with none: the set-up is in front of the deeds, and a scenario is a
-- network of its own
abbrev pub IsDeedOf : World → (List ℕ → Option (List ℕ)) → Order → Option (List ℕ) → ℕ → Status → Option (List ℕ) → Option (List ℕ) → Option (List ℕ) → (List ℕ → View) → (List ℕ → View) → Type 0
IsDeedOf start mirrors order.Check mirror moment s left before after old new = IsAside start mirrors old new
IsDeedOf start mirrors (order.Init party role key v) mirror moment s left before after old new = Unit {0}
IsDeedOf start mirrors (order.Load party peer label side pair) mirror moment s left before after old new = Unit {0}
IsDeedOf start mirrors (order.Create party role) mirror moment s left before after old new = Unit {0}
IsDeedOf start mirrors (order.Enter party peer label side) mirror moment s left before after old new = Unit {0}
IsDeedOf start mirrors (order.Value party peer label side) mirror moment s left before after old new = IsAside start mirrors old new
IsDeedOf start mirrors (order.Show party) mirror moment s left before after old new = IsShowDeed start mirrors party mirror old new
IsDeedOf start mirrors (order.Wipe party) mirror moment s left before after old new = IsTendingDeed start mirrors party Wiping old new s before after
IsDeedOf start mirrors (order.Compare party other) mirror moment s left before after old new = IsAside start mirrors old new
IsDeedOf start mirrors order.Replay mirror moment s left before after old new = Unit {0}
IsDeedOf start mirrors order.Audit mirror moment s left before after old new = IsAside start mirrors old new
IsDeedOf start mirrors (order.Drill seed events) mirror moment s left before after old new = IsAside start mirrors old new
IsDeedOf start mirrors (order.Pay party peer name ledger amount) mirror moment s left before after old new = IsNobodys start mirrors ledger → IsAside start mirrors old new
IsDeedOf start mirrors (order.Accept party ledger) mirror moment s left before after old new = IsNobodys start mirrors ledger → IsAside start mirrors old new
IsDeedOf start mirrors (order.Spool party spool) mirror moment s left before after old new = IsBatchDeed start mirrors party spool left old new s before after
IsDeedOf start mirrors (order.Outbox spool) mirror moment s left before after old new = IsAside start mirrors old new
IsDeedOf start mirrors order.Batch mirror moment s left before after old new = IsAside start mirrors old new
IsDeedOf start mirrors (order.Compact party) mirror moment s left before after old new = IsTendingDeed start mirrors party Compacting old new s before after
IsDeedOf start mirrors (order.Migrate party) mirror moment s left before after old new = IsTendingDeed start mirrors party Migrating old new s before after
IsDeedOf start mirrors (order.Take party) mirror moment s left before after old new = IsArrivalDeed start mirrors party mirror moment left old new s before after
IsDeedOf start mirrors o mirror moment s left before after old new = IsCommandDeed start mirrors (command_of o) mirror moment old new s before after

-- the files of an order, of which none is a party's of the network. A scenario has files of its own
pub record IsApart (start : World) (mirrors : List ℕ → Option (List ℕ)) (o : Order) (mirror : Option (List ℕ)) : Type 0 where
  pub none_played : is_replay o ≡ false
  pub party : IfSome (party_of o) (IsNobodys start mirrors)
  pub other : IfSome (ledger_of o) (IsNobodys start mirrors)
  pub second : IfSome mirror (IsNobodys start mirrors)

-- a call is that deed; and one over files of which none is a party's of the network writes none of those
pub record IsDeed (start : World) (mirrors : List ℕ → Option (List ℕ)) (o : Order) (mirror : Option (List ℕ)) (moment : ℕ) (s : Status) (left before after : Option (List ℕ)) (old new : List ℕ → View) : Type 0 where
  pub deed : IsDeedOf start mirrors o mirror moment s left before after old new
  pub apart : IsApart start mirrors o mirror → IsAside start mirrors old new
