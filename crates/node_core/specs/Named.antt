-- How the party of a name is opened (this project's profile).
use Rattle.std.specs.Prelude.{◌≡◌, ◌≢◌, ℕ, ◌≤◌, List, Some}
use Rattle.x_base.specs.Edge.{Rose}
use Rattle.x_disk.specs.Disk.{View, IsUntouched}
use Rattle.key_journal.specs.Opening.{IsFree}
use Rattle.key_journal.specs.declared.cause.Cause.{Cause}
use Rattle.key_journal.specs.declared.cause.Cause.TheVariants as cause
use Rattle.party_state.specs.State.{Party}
use Rattle.key_store.specs.Store.{Stored, Stands, IsStore, IsRefusal}
use Rattle.node_core.specs.declared.named.WhyNotOpened.{WhyNotOpened}
use Rattle.node_core.specs.declared.named.WhyNotOpened.TheVariants.{OtherParty, Unmade}

-- the party of the name is opened, and nothing is written
pub record IsOpenedNamed {D : Type 0} (told : D → View) (name : List ℕ) (old : D) (node : Stored D) : Type 0 where
  pub store : IsStore (told node.disk) node.gate node.end node.format node.party
  pub untouched : IsUntouched (told old) (told node.disk)
  -- an image that stands is opened as its party
  pub exact : (image : List ℕ) (p : Party) → (told old).now ≡ Some image → Stands image p → node.party ≡ p
  pub own : node.party.own ≡ name
  pub faults : (told old).faults ≤ (told node.disk).faults

-- the image stands for a party of this identity, which isn't the name
pub record StandsForOther (name : List ℕ) (old : View) (found : List ℕ) : Type 0 where
  pub p : Party
  pub reads : (image : List ℕ) → old.now ≡ Some image → Stands image p
  pub own : found ≡ p.own
  pub differs : found ≢ name

-- no party is opened of the image, for this cause
pub record IsUnopened (old new : View) (reason : Cause) : Type 0 where
  pub refused : (image : List ℕ) → old.now ≡ Some image → IsRefusal image reason
  pub names : reason ≡ cause.NotEmpty → ⊥
  pub fault : reason ≡ cause.Fault → Rose old.faults new.faults

-- why the party of the name isn't opened
abbrev pub IsWhyNotOpened : List ℕ → View → View → WhyNotOpened → Type 0
IsWhyNotOpened name old new (OtherParty found) = StandsForOther name old found
IsWhyNotOpened name old new (Unmade reason) = IsUnopened old new reason

-- why an image that stands for this party isn't opened as that of the name: the party is another, or no image gives the cause
abbrev pub IsReasonFor : List ℕ → Party → WhyNotOpened → Type 0
IsReasonFor name p (OtherParty found) = (found ≡ p.own) × (p.own ≢ name)
IsReasonFor name p (Unmade reason) = IsFree reason

-- the party of the name isn't opened, and nothing is written
pub record IsNotOpenedNamed {D : Type 0} (told : D → View) (name : List ℕ) (old new : D) (why : WhyNotOpened) : Type 0 where
  pub reason : IsWhyNotOpened name (told old) (told new) why
  pub untouched : IsUntouched (told old) (told new)
  pub faults : (told old).faults ≤ (told new).faults
  -- an image that stands gives no other reason
  pub never : (image : List ℕ) (p : Party) → (told old).now ≡ Some image → Stands image p → IsReasonFor name p why
