-- Open parties, in their order: what is held of each.
use Rattle.std.specs.Prelude.{◌≡◌, ◌≢◌, ℕ, Bool, true, List, [], ◌∷◌, ◌++◌, length, get_or}
use Rattle.x_disk.specs.Disk.{View, Tells}
use Rattle.party_state.specs.State.{Party}
use Rattle.key_store.specs.Store.{Stored}
use Rattle.member.specs.Member.{Member}
use Rattle.node_core.specs.Turns.{member_of}
use Rattle.open_parties.specs.declared.open_party.OpenParty.{OpenParty}
use Rattle.open_parties.specs.declared.open_party.PartyDisk.{PartyDisk}
use Rattle.open_parties.specs.declared.open_party.PartyDisk.TheVariants.{Open, Closed, Away}

abbrev pub open_party : {D : Type 0} → List ℕ → PartyDisk D → OpenParty D
open_party own held = record { own = own; held = held }

-- the members for which the open disks stand
abbrev pub with_held : {D : Type 0} → PartyDisk D → List Member → List Member
with_held (Open node) members = member_of node ∷ members
with_held (Closed disk) members = members
with_held Away members = members

abbrev pub members : {D : Type 0} → List (OpenParty D) → List Member
members [] = []
members (s ∷ open_parties) = with_held s.held (members open_parties)

-- the disk is open, and its party is the one whose place this is; where the disks tell their bytes, it does
pub record IsOf {D : Type 0} (tell : Bool) (told : D → View) (own : List ℕ) (node : Stored D) : Type 0 where
  pub named : node.party.own ≡ own
  pub tells : tell ≡ true → Tells (told node.disk)

abbrev pub IsIn : {D : Type 0} → Bool → (D → View) → List ℕ → PartyDisk D → Type 0
IsIn tell told own (Open node) = IsOf tell told own node
IsIn tell told own (Closed disk) = ⊥
IsIn tell told own Away = ⊥

abbrev pub AreIn : {D : Type 0} → Bool → (D → View) → List (OpenParty D) → Type 0
AreIn tell told [] = Unit {0}
AreIn tell told (s ∷ open_parties) = IsIn tell told s.own s.held × AreIn tell told open_parties

-- the disk is open
abbrev pub IsOpen : {D : Type 0} → PartyDisk D → Type 0
IsOpen (Open node) = Unit {0}
IsOpen (Closed disk) = ⊥
IsOpen Away = ⊥

abbrev pub AreOpen : {D : Type 0} → List (OpenParty D) → Type 0
AreOpen [] = Unit {0}
AreOpen (s ∷ open_parties) = IsOpen s.held × AreOpen open_parties

-- no party here has this identity
abbrev pub NoneOf : {D : Type 0} → List (OpenParty D) → List ℕ → Type 0
NoneOf [] own = Unit {0}
NoneOf (s ∷ open_parties) own = (s.own ≢ own) × NoneOf open_parties own

-- the party at this place is the first of this identity
abbrev pub IsPlace : {D : Type 0} → List (OpenParty D) → List ℕ → ℕ → Type 0
IsPlace {D = D} open_parties own place = (front : List (OpenParty D)) (s : OpenParty D) (back : List (OpenParty D)) → open_parties ≡ front ++ s ∷ back → length front ≡ place → NoneOf front own × (s.own ≡ own)

-- the identities, in order
abbrev pub owners : {D : Type 0} → List (OpenParty D) → List (List ℕ)
owners [] = []
owners (s ∷ open_parties) = s.own ∷ owners open_parties

-- an open disk is taken out of its place
pub record IsTakenOut {D : Type 0} (old new : List (OpenParty D)) (place : ℕ) (node : Stored D) : Type 0 where
  pub front : List (OpenParty D)
  pub own : List ℕ
  pub back : List (OpenParty D)
  pub before : old ≡ front ++ open_party own (Open node) ∷ back
  pub after : new ≡ front ++ open_party own Away ∷ back
  pub size : length front ≡ place

-- nothing is held at a place
pub record IsEmptyAt {D : Type 0} (open_parties : List (OpenParty D)) (place : ℕ) : Type 0 where
  pub front : List (OpenParty D)
  pub own : List ℕ
  pub back : List (OpenParty D)
  pub is : open_parties ≡ front ++ open_party own Away ∷ back
  pub size : length front ≡ place

-- what is held is put into an empty place
abbrev pub Fills : {D : Type 0} → List (OpenParty D) → List (OpenParty D) → ℕ → PartyDisk D → Type 0
Fills {D = D} old new place held = (front : List (OpenParty D)) (own : List ℕ) (back : List (OpenParty D)) → old ≡ front ++ open_party own Away ∷ back → length front ≡ place → new ≡ front ++ open_party own held ∷ back

-- the last party is dropped
abbrev pub DropsLast : {D : Type 0} → List (OpenParty D) → List (OpenParty D) → Type 0
DropsLast {D = D} old new = (front : List (OpenParty D)) (s : OpenParty D) → old ≡ front ++ s ∷ [] → new ≡ front

-- the disk is open, and this is its party
abbrev pub HoldsParty : {D : Type 0} → PartyDisk D → Party → Type 0
HoldsParty (Open node) p = p ≡ node.party
HoldsParty (Closed disk) p = ⊥
HoldsParty Away p = ⊥

-- the party at a place
abbrev pub HoldsAt : {D : Type 0} → List (OpenParty D) → ℕ → Party → Type 0
HoldsAt {D = D} open_parties place p = (s : OpenParty D) × (s ≡ get_or open_parties place s) × HoldsParty s.held p
