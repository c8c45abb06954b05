-- What a crash leaves on a disk that isn't touched, and on one that is written after it was read.
use Rattle.std.proofs.Common.{◌≡◌, ◌⊎◌, inr, ℕ, List, Some, sym, subst, arith}
use Rattle.x_disk.specs.Disk.{View, Tells, LeavesOnly, IsSound}
use Rattle.x_disk.proofs.Alike.{told_now}
use Rattle.x_disk.proofs.Runs.{began, joined, weaker}
use Rattle.party_state.specs.State.{Party}
use Rattle.change_code.specs.declared.format.Format.{Format}
use Rattle.key_store.specs.Store.{StandsAs, Stands, StandsWith, IsStore, space_between}
use Rattle.mirror_store.specs.Pairs.{IsMadeAnew, IsAsBefore}
use Rattle.mirror_store.specs.Opening.{LeavesParty}

pub rests : (v : View) (P : List ℕ → Type 0) → IsSound v → ((c : List ℕ) → v.may_leave c → P c) → LeavesOnly v v P
rests v P sound here = began v P sound here

pub stands_for : (image : List ℕ) (f : Format) (party : Party) → StandsAs image f party → Stands image party
stands_for image f party stands = record { format = f; stands = stands }

-- the image of a store that a read gives, with its space
pub stands_with : (v : View) (gate end : ℕ) (f : Format) (party : Party) → IsStore v gate end f party → (image : List ℕ) → v.now ≡ Some image → StandsWith image party (space_between gate end f)
stands_with v gate end f party store image now =
    let s = store.stands image now in
    record { bodies = s.bodies; holds = s.holds; fold = s.fold; left = omega (arith, store.room s.bodies (record { image = image; now = now; holds = s.holds })) }

-- each image of a store that a crash may leave now stands for its party, with its space
pub store_left : (v : View) (gate end : ℕ) (f : Format) (party : Party) → IsStore v gate end f party → Tells v → (c : List ℕ) → v.may_leave c → StandsWith c party (space_between gate end f)
store_left v gate end f party store tells c left =
    let image = told_now v.now tells in
    subst (λ (l : List ℕ). StandsWith l party (space_between gate end f)) (sym (store.durable.only image.0 c image.1 left)) (stands_with v gate end f party store image.0 image.1)

-- a disk that was only read leaves what it could
pub only_read : (v w : View) (before : List ℕ) (party : Party) → LeavesOnly v w v.may_leave → LeavesParty v w before party
only_read v w before party run = weaker v w v.may_leave (λ c. (IsMadeAnew before party c ⊎ IsAsBefore before c) ⊎ v.may_leave c) run (λ c left. inr left)

-- one that was read and then written
pub read_then : (v w u : View) (before : List ℕ) (party : Party) (P : List ℕ → Type 0) → LeavesOnly v w v.may_leave → LeavesOnly w u P
    → ((c : List ℕ) → P c → (IsMadeAnew before party c ⊎ IsAsBefore before c) ⊎ v.may_leave c) → LeavesParty v u before party
read_then v w u before party P first second is =
    joined v w u (λ c. (IsMadeAnew before party c ⊎ IsAsBefore before c) ⊎ v.may_leave c) (only_read v w before party first)
    (weaker w u P (λ c. (IsMadeAnew before party c ⊎ IsAsBefore before c) ⊎ v.may_leave c) second is)
