-- The order that a command line stands for: this project's profile.
use Rattle.std.specs.Prelude.{◌≡◌, ◌≢◌, ◌||◌, ℕ, not, Bool, true, List, Option, Some, None}
use Rattle.std.specs.List.{list_all}
use Rattle.clap.specs.Words.{Row, Text}
use Rattle.x_line.specs.declared.order_kind.OrderKind.{OrderKind}
use Rattle.x_line.specs.declared.order_kind.OrderKind.TheVariants as kinds
use Rattle.x_line.specs.declared.opt.Opt.TheVariants as opt
use Rattle.x_line.specs.declared.order.Order.{Order}
use Rattle.x_line.specs.declared.order.Order.TheVariants as order
use Rattle.x_line.specs.declared.usage.LineFault.{LineFault}
use Rattle.x_line.specs.declared.usage.LineFault.TheVariants as fault
use Rattle.x_line.specs.LineValues.{named_kind, given, is_given, is_valid, other_of}
use Rattle.x_line.specs.Line.{rows_of_line}
use Rattle.x_line.specs.Needs.{is_required, need_of}
use Rattle.x_line.specs.Options.{options}
use Rattle.x_line.specs.Usage.{usage_of}
use Rattle.x_line.specs.Values.{events_of, role_of, side_of}
use Rattle.x_values.specs.Words.{count_of, ident_of, key_name_of, key_of, label_of, number_of, pair_of, one_or_two_of}

-- of which kind an order is
abbrev pub kind_of : Order → OrderKind
kind_of order.Check = kinds.Check
kind_of order.Replay = kinds.Replay
kind_of order.Audit = kinds.Audit
kind_of order.Batch = kinds.Batch
kind_of (order.Init party role key v) = kinds.Init
kind_of (order.Create party role) = kinds.Create
kind_of (order.Load party peer label side pair) = kinds.Load
kind_of (order.Enter party peer label side) = kinds.Enter
kind_of (order.Start party peer label) = kinds.Start
kind_of (order.StartKk party peer new label single) = kinds.StartKk
kind_of (order.Ask party peer ultimate) = kinds.Ask
kind_of (order.Translate party peer ultimate) = kinds.Translate
kind_of (order.Take party) = kinds.Take
kind_of (order.Purge party) = kinds.Purge
kind_of (order.Show party) = kinds.Show
kind_of (order.Value party peer label side) = kinds.Value
kind_of (order.Compact party) = kinds.Compact
kind_of (order.Migrate party) = kinds.Migrate
kind_of (order.Wipe party) = kinds.Wipe
kind_of (order.Compare party mirror) = kinds.Compare
kind_of (order.Resend party peer) = kinds.Resend
kind_of (order.Drop party peer) = kinds.Drop
kind_of (order.End party peer name) = kinds.End
kind_of (order.Pay party peer name ledger amount) = kinds.Pay
kind_of (order.Accept party ledger) = kinds.Accept
kind_of (order.Spool party spool) = kinds.Spool
kind_of (order.Outbox spool) = kinds.Outbox
kind_of (order.Drill seed events) = kinds.Drill

-- each value of the order is what the value of its option stands for; one that may be left out is
-- there where its option is
abbrev pub HasValues : List Row → Order → Type 0
HasValues rows order.Check = Unit {0}
HasValues rows order.Replay = Unit {0}
HasValues rows order.Audit = Unit {0}
HasValues rows order.Batch = Unit {0}
HasValues rows (order.Init party role key v) = (given ident_of opt.Party rows ≡ Some party)
    × (given role_of opt.Role rows ≡ Some role) × (given pair_of opt.Genkey rows ≡ Some key)
    × (given key_of opt.Genseed rows ≡ Some v)
HasValues rows (order.Create party role) =
    (given ident_of opt.Party rows ≡ Some party) × (given role_of opt.Role rows ≡ Some role)
HasValues rows (order.Load party peer label side pair) =
    (given ident_of opt.Party rows ≡ Some party) × (given ident_of opt.Peer rows ≡ Some peer)
    × (given label_of opt.Label rows ≡ Some label) × (given side_of opt.Side rows ≡ Some side)
    × (given one_or_two_of opt.Key rows ≡ Some pair)
HasValues rows (order.Enter party peer label side) =
    (given ident_of opt.Party rows ≡ Some party) × (given ident_of opt.Peer rows ≡ Some peer)
    × (given label_of opt.Label rows ≡ Some label) × (given side_of opt.Side rows ≡ Some side)
HasValues rows (order.Start party peer label) = (given ident_of opt.Party rows ≡ Some party)
    × (given ident_of opt.Peer rows ≡ Some peer) × (given label_of opt.Label rows ≡ label)
HasValues rows (order.StartKk party peer new label single) =
    (given ident_of opt.Party rows ≡ Some party) × (given ident_of opt.Peer rows ≡ Some peer)
    × (given label_of opt.New rows ≡ Some new) × (given label_of opt.Label rows ≡ label)
    × (is_given opt.Single rows ≡ single)
HasValues rows (order.Ask party peer ultimate) = (given ident_of opt.Party rows ≡ Some party)
    × (given ident_of opt.Peer rows ≡ Some peer) × (given ident_of opt.Ultimate rows ≡ ultimate)
HasValues rows (order.Translate party peer ultimate) =
    (given ident_of opt.Party rows ≡ Some party) × (given ident_of opt.Peer rows ≡ Some peer)
    × (given ident_of opt.Ultimate rows ≡ Some ultimate)
HasValues rows (order.Take party) = given ident_of opt.Party rows ≡ Some party
HasValues rows (order.Purge party) = given ident_of opt.Party rows ≡ Some party
HasValues rows (order.Show party) = given ident_of opt.Party rows ≡ Some party
HasValues rows (order.Value party peer label side) =
    (given ident_of opt.Party rows ≡ Some party) × (given ident_of opt.Peer rows ≡ Some peer)
    × (given label_of opt.Label rows ≡ Some label) × (given side_of opt.Side rows ≡ Some side)
HasValues rows (order.Compact party) = given ident_of opt.Party rows ≡ Some party
HasValues rows (order.Migrate party) = given ident_of opt.Party rows ≡ Some party
HasValues rows (order.Wipe party) = given ident_of opt.Party rows ≡ Some party
HasValues rows (order.Compare party mirror) =
    (given ident_of opt.Party rows ≡ Some party) × (other_of opt.Mirror rows ≡ Some mirror)
HasValues rows (order.Resend party peer) =
    (given ident_of opt.Party rows ≡ Some party) × (given ident_of opt.Peer rows ≡ Some peer)
HasValues rows (order.Drop party peer) =
    (given ident_of opt.Party rows ≡ Some party) × (given ident_of opt.Peer rows ≡ Some peer)
HasValues rows (order.End party peer name) = (given ident_of opt.Party rows ≡ Some party)
    × (given ident_of opt.Peer rows ≡ Some peer) × (given key_name_of opt.Name rows ≡ Some name)
HasValues rows (order.Pay party peer name ledger amount) = (given ident_of opt.Party rows ≡ Some party)
    × (given ident_of opt.Peer rows ≡ Some peer) × (given key_name_of opt.Name rows ≡ Some name)
    × (other_of opt.Ledger rows ≡ Some ledger) × (given count_of opt.Amount rows ≡ Some amount)
HasValues rows (order.Accept party ledger) =
    (given ident_of opt.Party rows ≡ Some party) × (other_of opt.Ledger rows ≡ Some ledger)
HasValues rows (order.Spool party spool) =
    (given ident_of opt.Party rows ≡ Some party) × (other_of opt.Spool rows ≡ Some spool)
HasValues rows (order.Outbox spool) = other_of opt.Spool rows ≡ Some spool
HasValues rows (order.Drill seed events) =
    (given number_of opt.Seed rows ≡ Some seed) × (given events_of opt.Events rows ≡ Some events)

-- the order says what the command line gives
abbrev pub Says : List Row → Order → Type 0
Says rows o = (named_kind rows ≡ Some (kind_of o)) × HasValues rows o

-- the second disk of the order's party, which the line may give; two disks that are compared are named by the order itself
abbrev pub mirror_of : OrderKind → List Row → Option (List ℕ)
mirror_of kinds.Compare rows = None
mirror_of k rows = other_of opt.Mirror rows

-- the words stand for the order, of a party with this second disk or with none: nothing is wrong with them, and it says what
-- they give
abbrev pub IsGiven : List Text → Order → Option (List ℕ) → Type 0
IsGiven words o mirror = (usage_of words ≡ None) × Says (rows_of_line words) o × (mirror_of (kind_of o) (rows_of_line words) ≡ mirror)

-- they ask to be told what is accepted, which `take` alone can be
abbrev pub is_telling : List Text → Bool
is_telling words = is_given opt.Tell (rows_of_line words)

-- of a party with one disk
abbrev pub IsOrder : List Text → Order → Type 0
IsOrder words o = IsGiven words o None

-- of a party with two, the second of this name
abbrev pub IsMirrored : List Text → Order → List ℕ → Type 0
IsMirrored words o mirror = IsGiven words o (Some mirror)

-- an order that acts on two disks of a party, the second of this name, which isn't the party's
abbrev pub IsOfTwo : Order → List ℕ → Type 0
IsOfTwo (order.Init party role key v) mirror = party ≢ mirror
IsOfTwo (order.Create party role) mirror = party ≢ mirror
IsOfTwo (order.Load party peer label side pair) mirror = party ≢ mirror
IsOfTwo (order.Enter party peer label side) mirror = party ≢ mirror
IsOfTwo (order.Start party peer label) mirror = party ≢ mirror
IsOfTwo (order.StartKk party peer new label single) mirror = party ≢ mirror
IsOfTwo (order.Ask party peer ultimate) mirror = party ≢ mirror
IsOfTwo (order.Translate party peer ultimate) mirror = party ≢ mirror
IsOfTwo (order.Take party) mirror = party ≢ mirror
IsOfTwo (order.Purge party) mirror = party ≢ mirror
IsOfTwo (order.Show party) mirror = party ≢ mirror
IsOfTwo (order.Resend party peer) mirror = party ≢ mirror
IsOfTwo (order.Drop party peer) mirror = party ≢ mirror
IsOfTwo (order.End party peer name) mirror = party ≢ mirror
IsOfTwo o mirror = ⊥

-- the fault is what is wrong with the words; want of memory may be answered to any
abbrev pub IsFault : List Text → LineFault → Type 0
IsFault words (fault.Usage kind) = usage_of words ≡ Some kind
IsFault words fault.NoMemory = Unit {0}

-- all that this kind of order requires is given and stands for something
abbrev pub is_whole : OrderKind → List Row → Bool
is_whole k rows = list_all (λ o. not (is_required (need_of k o)) || is_valid o rows) options

-- an order of this kind with the values that the line gives, and none only where one is missing
abbrev pub IsMade : OrderKind → List Row → Option Order → Type 0
IsMade k rows (Some o) = (kind_of o ≡ k) × HasValues rows o
IsMade k rows None = ¬ (is_whole k rows ≡ true)
