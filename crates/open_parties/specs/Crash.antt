-- Where a party's disk is, and what a crash may leave of it at any moment of an event (this project's profile).
use Rattle.std.specs.Prelude.{◌≡◌, ◌⊎◌, ℕ, cond, List, [], ◌∷◌, Result, Ok, Err, bytes_eq}
use Rattle.x_disk.specs.Disk.{View, Tells, LeavesOnly}
use Rattle.x_disk.specs.Shelf.{IsAlike}
use Rattle.key_store.specs.Store.{Stored}
use Rattle.member.specs.Member.{Member}
use Rattle.node_core.specs.Turns.{IsImageOf}
use Rattle.open_parties.specs.OpenParties.{Fills}
use Rattle.open_parties.specs.declared.open_party.OpenParty.{OpenParty}
use Rattle.open_parties.specs.declared.open_party.PartyDisk.{PartyDisk}
use Rattle.open_parties.specs.declared.open_party.PartyDisk.TheVariants.{Open, Closed, Away}
use Rattle.open_parties.specs.declared.stopped.FailedPartyDisk.{FailedPartyDisk}

-- ---- where a party's disk is

-- the disk that is held, or the one on the shelf where nothing is
abbrev pub held_view : {D : Type 0} → (D → View) → View → PartyDisk D → View
held_view told shelved (Open node) = told node.disk
held_view told shelved (Closed disk) = told disk
held_view told shelved Away = shelved

-- what is held of a party; nothing where it is none of these
abbrev pub held_of : {D : Type 0} → List (OpenParty D) → List ℕ → PartyDisk D
held_of [] own = Away
held_of (s ∷ open_parties) own = cond (bytes_eq s.own own) s.held (held_of open_parties own)

-- what a party's disk tells
abbrev pub disk_of : {D : Type 0} → (D → View) → (List ℕ → View) → List (OpenParty D) → List ℕ → View
disk_of told entry open_parties own = held_view told (entry own) (held_of open_parties own)

-- ---- one event

-- the disk of a result
abbrev pub disk_begun : {D : Type 0} → Result D (FailedPartyDisk D) → D
disk_begun (Ok disk) = disk
disk_begun (Err failed_disk) = failed_disk.disk

abbrev pub disk_opened : {D : Type 0} → Result (Stored D) (FailedPartyDisk D) → D
disk_opened (Ok node) = node.disk
disk_opened (Err failed_disk) = failed_disk.disk

-- the image stands for x; or, where a change is kept, for y
abbrev pub IsEither : Member → Member → Type 0 → List ℕ → Type 0
IsEither x y keep image = IsImageOf x image ⊎ (keep × IsImageOf y image)

-- something is held of the party at a place again, or its disk is on the shelf; at any moment since that disk told this, a
-- crash leaves an image that has P
pub record IsHeldAgain {D : Type 0} (told : D → View) (shelved v : View) (P : List ℕ → Type 0) (old new : List (OpenParty D)) (place : ℕ) : Type 0 where
  pub held : PartyDisk D
  pub fills : Fills old new place held
  pub leaves : LeavesOnly v (held_view told shelved held) P

-- or it is the same open disk
abbrev pub HoldsAgain : {D : Type 0} → (D → View) → View → Stored D → Member → Member → Type 0 → List (OpenParty D) → List (OpenParty D) → ℕ → Type 0
HoldsAgain told shelved node x y keep old new place = Tells (told node.disk) → Fills old new place (Open node) ⊎ IsHeldAgain told shelved (told node.disk) (IsEither x y keep) old new place

-- the same of a disk that is held
abbrev pub LeavesHeld : {D : Type 0} → (D → View) → View → (List ℕ → Type 0) → PartyDisk D → Type 0
LeavesHeld told v P (Open node) = LeavesOnly v (told node.disk) P
LeavesHeld told v P (Closed disk) = LeavesOnly v (told disk) P
LeavesHeld told v P Away = ⊥

pub record IsHeldSince {D : Type 0} (told : D → View) (v : View) (P : List ℕ → Type 0) (old new : List (OpenParty D)) (place : ℕ) : Type 0 where
  pub held : PartyDisk D
  pub fills : Fills old new place held
  pub leaves : LeavesHeld told v P held

abbrev pub HoldsSince : {D : Type 0} → (D → View) → Stored D → Member → Member → Type 0 → List (OpenParty D) → List (OpenParty D) → ℕ → Type 0
HoldsSince told node x y keep old new place = Tells (told node.disk) → IsHeldSince told (told node.disk) (IsEither x y keep) old new place

-- what is held of a party stays, and so does its disk
pub record IsHeldStill {D : Type 0} (told : D → View) (before after : List ℕ → View) (old new : List (OpenParty D)) (own : List ℕ) : Type 0 where
  pub held : held_of new own ≡ held_of old own
  pub alike : IsAlike (disk_of told before old own) (disk_of told after new own)
