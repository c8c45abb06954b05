-- Each list of words has one answer: this project's profile.
use Rattle.std.specs.Prelude.{◌≡◌, ◌≢◌, ◌≤◌, ℕ, List, Option, None}
use Rattle.clap.specs.Words.{Text}
use Rattle.x_base.specs.declared.key_name.KeyName.{KeyName}
use Rattle.x_line.specs.declared.order.Order.{Order}
use Rattle.x_line.specs.declared.order.Order.TheVariants as order
use Rattle.x_line.specs.Orders.{IsGiven, IsMirrored, IsOfTwo, IsOrder}
use Rattle.x_line.specs.Usage.{usage_of}

-- where nothing is wrong with the words they stand for an order
abbrev pub HasOrder : Type 0
HasOrder = (words : List Text) → usage_of words ≡ None → (o : Order) × (mirror : Option (List ℕ)) × IsGiven words o mirror

-- and for no other
abbrev pub OneOrder : Type 0
OneOrder = (words : List Text) (a b : Order) (m n : Option (List ℕ)) → IsGiven words a m → IsGiven words b n → (a ≡ b) × (m ≡ n)

-- a drill has 1 to 10,000 events
abbrev pub FewEvents : Type 0
FewEvents = (words : List Text) (seed events : ℕ) → IsOrder words (order.Drill seed events) → (1 ≤ events) × (events ≤ 10000)

-- a ledger doesn't lie under the party's name
abbrev pub PaysApart : Type 0
PaysApart = (words : List Text) (party peer : List ℕ) (name : KeyName) (ledger : List ℕ) (amount : ℕ) → IsOrder words (order.Pay party peer name ledger amount) → party ≢ ledger

abbrev pub AcceptsApart : Type 0
AcceptsApart = (words : List Text) (party ledger : List ℕ) → IsOrder words (order.Accept party ledger) → party ≢ ledger

-- nor does a spool
abbrev pub SpoolsApart : Type 0
SpoolsApart = (words : List Text) (party spool : List ℕ) → IsOrder words (order.Spool party spool) → party ≢ spool

-- a second disk comes with an order that acts on two, and doesn't lie under the party's name
abbrev pub MirrorsApart : Type 0
MirrorsApart = (words : List Text) (o : Order) (mirror : List ℕ) → IsMirrored words o mirror → IsOfTwo o mirror

abbrev pub ComparesApart : Type 0
ComparesApart = (words : List Text) (party mirror : List ℕ) → IsOrder words (order.Compare party mirror) → party ≢ mirror
