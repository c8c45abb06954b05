-- What an order does (this project's profile). `left` and `rest` are what the source has before and after, `before` and
-- `after` what the sink has, `old` and `new` what the shelf tells of the disks.
use Rattle.std.specs.Prelude.{◌≡◌, ◌≢◌, ◌≤◌, ◌⊎◌, ℕ, Bool, true, false, List, [], ◌∷◌, Option, Some, None, IfSome, option_map}
use Rattle.x_base.specs.Edge.{Rose}
use Rattle.x_disk.specs.Disk.{View, Tells, LeavesOnly, IsUntouched}
use Rattle.x_disk.specs.Shelf.{IsAlike, OthersStay, AllStay}
use Rattle.key_journal.specs.States.{WritesOnlyToBlank}
use Rattle.x_line.specs.declared.order.Order.{Order}
use Rattle.x_line.specs.declared.order.Order.TheVariants as order
use Rattle.key_parts.specs.declared.part.Form.TheVariants as form
use Rattle.csm_grammar.specs.declared.arrival.Arrival.{Arrival}
use Rattle.csm_feed.specs.Heard.{input_limit}
use Rattle.party_state.specs.declared.command.Command.TheVariants as command
use Rattle.party_state.specs.declared.command.Input.{Input}
use Rattle.party_state.specs.declared.command.Input.TheVariants.{Ordered, Arrived}
use Rattle.party_state.specs.State.{Party, begun}
use Rattle.change_code.specs.declared.format.Format.{Format}
use Rattle.key_store.specs.Store.{IsBlankOrFirst}
use Rattle.member.specs.Acts.{compacted_in, migrated_in}
use Rattle.x_party.specs.Asking.{IsDueAnswer, value_answer}
use Rattle.x_party.specs.Images.{StillTells, OrBefore}
use Rattle.x_party.specs.Outcomes.{CreatesParty, ShowsParty, RewritesParty, WipesParty, TakesTurn, IsSafe, IsSafeRewriting, IsSafeWiping}
use Rattle.x_party.specs.Dues.{IsDue, IsDueCompaction, IsDueCreation, IsDueMigration, IsDueShow, IsDueWiping}
use Rattle.x_party.specs.declared.outcome.Outcome.{Outcome}
use Rattle.disk_pair.specs.Pairs.{ThirdsStay}
use Rattle.x_pay.specs.Payments.{accepting, paying}
use Rattle.call_ends.specs.declared.party_command.PartyCommand.{PartyCommand}
use Rattle.call_ends.specs.declared.status.Status.{Status}
use Rattle.call_ends.specs.declared.status.Status.TheVariants as status
use Rattle.call_ends.specs.Causes.{IsSilent}
use Rattle.call_ends.specs.Listening.{IsHeard, IsUnheard}
use Rattle.call_ends.specs.Check.{IsChecked, IsExact}
use Rattle.call_ends.specs.Commands.{command_of}
use Rattle.party_calls.specs.Ends.{Ends, IsOfParty}
use Rattle.party_calls.specs.Dues.{Follows, FollowsBytes}
use Rattle.party_calls.specs.Paid.{FollowsPayment, IsAccepted, IsPayment, payment_limit, payment_taken}
use Rattle.party_calls.specs.Compared.{FollowsComparison, IsComparing}
use Rattle.party_calls.specs.Batched.{FollowsInbox, IsMade}
use Rattle.party_calls.specs.Spooled.{FollowsBatch, FollowsOutbox, IsBatched, IsOutboxCall, batch_limit}
use Rattle.call_ends.specs.Digits.{digits_limit}
use Rattle.party_calls.specs.Entered.{EntersKey, ExpectsKey, IsUnchanged, IsValuedCreation, IsValuedTurn, IsValuing}

-- the party of this name had its turn with an input, and its reply was written, with a line feed
pub record IsPartyTurn (name : List ℕ) (i : Input) (moment : ℕ) (old new : View) (s : Status) (before after : Option (List ℕ)) : Type 0 where
  pub outcome : Outcome
  pub turned : TakesTurn name old new i moment outcome
  pub safe : IsSafe name old new i moment
  pub ends : Ends outcome (10 ∷ []) s before after

-- a party was created, and nothing was written
pub record IsCreation (party : Party) (old new : View) (s : Status) (before after : Option (List ℕ)) : Type 0 where
  pub outcome : Outcome
  pub created : CreatesParty old new party outcome
  pub nothing_written : WritesOnlyToBlank old new
  pub any_moment : Tells old → LeavesOnly old new (OrBefore old (IsBlankOrFirst party))
  pub tells : StillTells old new
  pub ends : Ends outcome [] s before after

-- a party was shown, and the lines were written
pub record IsListing (old new : View) (s : Status) (before after : Option (List ℕ)) : Type 0 where
  pub outcome : Outcome
  pub shows : ShowsParty old new outcome
  pub untouched : IsUntouched old new
  pub ends : Ends outcome [] s before after

-- a party was written whole on its disk, in the format that its own calls for, and nothing was written out
pub record IsRewriting (format : Format → Option Format) (old new : View) (s : Status) (before after : Option (List ℕ)) : Type 0 where
  pub outcome : Outcome
  pub rewritten : RewritesParty format old new outcome
  pub safe : IsSafeRewriting format old new
  pub ends : Ends outcome [] s before after

-- what doesn't count of a party's file was wiped, and nothing was written
pub record IsWiping (old new : View) (s : Status) (before after : Option (List ℕ)) : Type 0 where
  pub outcome : Outcome
  pub wiped : WipesParty old new outcome
  pub safe : IsSafeWiping old new
  pub ends : Ends outcome [] s before after

-- bytes arrived: no message was heard, and nothing was changed or written; or the party had its turn with it
abbrev pub IsTaken : List ℕ → ℕ → Option (List ℕ) → Option (List ℕ) → View → View → Status → Option (List ℕ) → Option (List ℕ) → Type 0
IsTaken name moment left rest old new s before after = (IsUnheard left s × (after ≡ before) × IsAlike old new)
    ⊎ ((arrival : Arrival) × IfSome left (λ all. IsHeard all arrival × (rest ≡ Some [])) × IsPartyTurn name (Arrived arrival) moment old new s before after)

abbrev pub ObeysCommand : Option PartyCommand → ℕ → (List ℕ → View) → (List ℕ → View) → Status → Option (List ℕ) → Option (List ℕ) → Type 0
ObeysCommand (Some t) moment old new s before after = IsPartyTurn t.party (Ordered t.command) moment (old t.party) (new t.party) s before after
ObeysCommand None moment old new s before after = ⊥

-- what each order does at a party, or with a message or a payment. What the playing of a scenario, a drill and an audit say isn't said
-- here
abbrev pub Obeys : Order → ℕ → Status → Option (List ℕ) → Option (List ℕ) → Option (List ℕ) → Option (List ℕ) → (List ℕ → View) → (List ℕ → View) → Type 0
Obeys order.Check moment s left rest before after old new = IsChecked s left rest before after
Obeys (order.Init party role key v) moment s left rest before after old new =
    IsCreation (begun party role (record { key = key; v = v })) (old party) (new party) s before after
Obeys (order.Create party role) moment s left rest before after old new = EntersKey form.Generator left rest s (IsUnchanged before after old new)
    (λ part. IsValuedCreation (begun party role (record { key = part.pair; v = part.seed })) (old party) (new party) s before after)
Obeys (order.Enter party peer label side) moment s left rest before after old new = EntersKey form.Key left rest s (IsUnchanged before after old new)
    (λ part. IsValuedTurn party (Ordered (command.Load peer label side part.pair)) part.pair moment (old party) (new party) s before after)
Obeys (order.Value party peer label side) moment s left rest before after old new =
    IsValuing (record { peer = peer; label = label; side = side }) (old party) (new party) s before after
Obeys (order.Show party) moment s left rest before after old new = IsListing (old party) (new party) s before after
Obeys (order.Compact party) moment s left rest before after old new = IsRewriting compacted_in (old party) (new party) s before after
Obeys (order.Migrate party) moment s left rest before after old new = IsRewriting migrated_in (old party) (new party) s before after
Obeys (order.Wipe party) moment s left rest before after old new = IsWiping (old party) (new party) s before after
Obeys (order.Compare party mirror) moment s left rest before after old new = IsComparing party mirror old new s before after
Obeys order.Replay moment s left rest before after old new = Unit {0}
Obeys order.Audit moment s left rest before after old new = Unit {0}
Obeys (order.Drill seed events) moment s left rest before after old new = Unit {0}
Obeys (order.Pay party peer name ledger amount) moment s left rest before after old new = IsPayment (paying peer name amount) party ledger old new s before after
Obeys (order.Accept party ledger) moment s left rest before after old new = IsAccepted party ledger left rest old new s before after
Obeys (order.Spool party spool) moment s left rest before after old new = IsBatched party spool left rest old new s before after
Obeys (order.Outbox spool) moment s left rest before after old new = IsOutboxCall (old spool) (new spool) s before after
Obeys order.Batch moment s left rest before after old new = IsMade moment left rest s before after
Obeys (order.Take party) moment s left rest before after old new = IsTaken party moment left rest (old party) (new party) s before after
Obeys o moment s left rest before after old new = ObeysCommand (command_of o) moment old new s before after

abbrev pub ExpectsCommand : Option PartyCommand → ℕ → (List ℕ → View) → Status → Type 0
ExpectsCommand (Some t) moment old s = Follows (old t.party) (IsDue t.party (Ordered t.command) moment) s
ExpectsCommand None moment old s = Unit {0}

-- where no count of faults rises: the status is the one that is due, or no memory was left. What is due of the playing of a scenario,
-- of a drill and of an audit isn't said here
abbrev pub ExpectsCall : Order → ℕ → Option (List ℕ) → (List ℕ → View) → Status → Type 0
ExpectsCall order.Check moment left old s = IsExact left s
ExpectsCall (order.Init party role key v) moment left old s = Follows (old party) IsDueCreation s
ExpectsCall (order.Create party role) moment left old s = IfSome left (λ all. ExpectsKey form.Generator all s (λ part. Follows (old party) IsDueCreation s))
ExpectsCall (order.Enter party peer label side) moment left old s = IfSome left (λ all. ExpectsKey form.Key all s (λ part.
    Follows (old party) (IsDue party (Ordered (command.Load peer label side part.pair)) moment) s))
ExpectsCall (order.Value party peer label side) moment left old s = Follows (old party) (IsDueAnswer (value_answer (record { peer = peer; label = label; side = side }))) s
ExpectsCall (order.Show party) moment left old s = Follows (old party) IsDueShow s
ExpectsCall (order.Compact party) moment left old s = Follows (old party) IsDueCompaction s
ExpectsCall (order.Migrate party) moment left old s = Follows (old party) IsDueMigration s
ExpectsCall (order.Wipe party) moment left old s = Follows (old party) IsDueWiping s
ExpectsCall (order.Compare party mirror) moment left old s = FollowsComparison (old party) (old mirror) s
ExpectsCall order.Replay moment left old s = Unit {0}
ExpectsCall order.Audit moment left old s = Unit {0}
ExpectsCall (order.Drill seed events) moment left old s = Unit {0}
ExpectsCall (order.Pay party peer name ledger amount) moment left old s = FollowsPayment (paying peer name amount) party (old party) (old ledger) s
ExpectsCall (order.Accept party ledger) moment left old s = IfSome left (λ all. FollowsPayment (accepting (payment_taken all)) party (old party) (old ledger) s)
ExpectsCall (order.Spool party spool) moment left old s = IfSome left (λ all. FollowsBatch party spool all old s)
ExpectsCall (order.Outbox spool) moment left old s = FollowsOutbox (old spool) s
ExpectsCall order.Batch moment left old s = IfSome left (λ all. FollowsInbox all s)
ExpectsCall (order.Take party) moment left old s = IfSome left (λ all. FollowsBytes all party (old party) moment s)
ExpectsCall o moment left old s = ExpectsCommand (command_of o) moment old s

-- the party of an order, or the spool that is looked at
abbrev pub party_of : Order → Option (List ℕ)
party_of order.Check = None
party_of (order.Init party role key v) = Some party
party_of (order.Create party role) = Some party
party_of (order.Enter party peer label side) = Some party
party_of (order.Value party peer label side) = Some party
party_of (order.Show party) = Some party
party_of (order.Compact party) = Some party
party_of (order.Migrate party) = Some party
party_of (order.Wipe party) = Some party
party_of (order.Compare party mirror) = Some party
party_of (order.Take party) = Some party
party_of (order.Pay party peer name ledger amount) = Some party
party_of (order.Accept party ledger) = Some party
party_of order.Batch = None
party_of (order.Spool party spool) = Some party
party_of (order.Outbox spool) = Some spool
party_of o = option_map (λ (t : PartyCommand). t.party) (command_of o)

-- the other disk of an order: a ledger, a spool, or the second disk of a party
abbrev pub ledger_of : Order → Option (List ℕ)
ledger_of (order.Pay party peer name ledger amount) = Some ledger
ledger_of (order.Accept party ledger) = Some ledger
ledger_of (order.Compare party mirror) = Some mirror
ledger_of (order.Spool party spool) = Some spool
ledger_of o = None

-- the disks under other names than these stay
abbrev pub OthersOf : Option (List ℕ) → Option (List ℕ) → (List ℕ → View) → (List ℕ → View) → Type 0
OthersOf None ledger old new = AllStay old new
OthersOf (Some party) None old new = OthersStay party old new
OthersOf (Some party) (Some ledger) old new = ThirdsStay party ledger old new

-- the orders that begin, show, compare or look after the file of a party, pay out of it, or look at a spool
abbrev pub is_tended : Order → Bool
is_tended (order.Init party role key v) = true
is_tended (order.Show party) = true
is_tended (order.Value party peer label side) = true
is_tended (order.Compact party) = true
is_tended (order.Migrate party) = true
is_tended (order.Wipe party) = true
is_tended (order.Compare party mirror) = true
is_tended (order.Pay party peer name ledger amount) = true
is_tended (order.Outbox spool) = true
is_tended o = false

-- the order that sets up parties of its own on the shelf
abbrev pub is_replay : Order → Bool
is_replay order.Replay = true
is_replay o = false

-- the orders that read the source
abbrev pub is_reading : Order → Bool
is_reading order.Check = true
is_reading order.Replay = true
is_reading order.Audit = true
is_reading (order.Take party) = true
is_reading (order.Create party role) = true
is_reading (order.Enter party peer label side) = true
is_reading (order.Accept party ledger) = true
is_reading (order.Spool party spool) = true
is_reading order.Batch = true
is_reading o = false

-- how many bytes of a scenario are taken at most: one more than it may have
abbrev pub scenario_limit : ℕ
scenario_limit = 16777217

-- how many bytes of an auditor's input are taken at most: one more than it may have
abbrev pub audit_limit : ℕ
audit_limit = 67108865

-- how many bytes of the source an order takes at most
abbrev pub most_of : Order → ℕ
most_of order.Replay = scenario_limit
most_of order.Audit = audit_limit
most_of (order.Drill seed events) = 0
most_of (order.Accept party ledger) = payment_limit
most_of (order.Spool party spool) = batch_limit
most_of order.Batch = batch_limit
most_of (order.Create party role) = digits_limit
most_of (order.Enter party peer label side) = digits_limit
most_of o = input_limit

-- what an order leaves: where the party answered, its disk is back on the shelf, and its ledger's; the other disks stay, and the
-- source where it isn't read. Which disks the playing of a scenario leaves isn't said here
pub record LeavesOthers (o : Order) (s : Status) (is_back : List ℕ → Type 0) (stays : Type 0) (old new : List ℕ → View) : Type 0 where
  pub back : IsOfParty s → IfSome (party_of o) is_back
  pub ledger_back : IsOfParty s → IfSome (ledger_of o) is_back
  pub others : is_replay o ≡ false → OthersOf (party_of o) (ledger_of o) old new
  pub unread : is_reading o ≡ false → stays

-- what holds of the values of an order that words stand for: a drill has 1 to 10,000 events, and a ledger, a spool or a second disk
-- another name than the party
abbrev pub IsWithin : Order → Type 0
IsWithin (order.Drill seed events) = (1 ≤ events) × (events ≤ 10000)
IsWithin (order.Pay party peer name ledger amount) = party ≢ ledger
IsWithin (order.Accept party ledger) = party ≢ ledger
IsWithin (order.Compare party mirror) = party ≢ mirror
IsWithin (order.Spool party spool) = party ≢ spool
IsWithin o = Unit {0}

-- what a payment or a batch leaves, and why it failed: where the party answered both disks are back on the shelf, the others stay, with a
-- silent status nothing is written, and a fault comes only where a count of faults rose. The counts are those of the sink and the
-- shelf, before and after
pub record LeavesRest (party ledger : List ℕ) (s : Status) (is_back : List ℕ → Type 0) (unwritten : Type 0) (old new : List ℕ → View) (put puts disk disks : ℕ) : Type 0 where
  pub back : IsOfParty s → is_back party × is_back ledger
  pub thirds : ThirdsStay party ledger old new
  pub silent : IsSilent s → unwritten
  pub write_fault : s ≡ status.WriteFault → Rose put puts
  pub disk_fault : s ≡ status.DiskFault → Rose disk disks
