-- A network that is set up over one disk or two of each party, and a session that goes on there.
use Rattle.std.proofs.Common.{arith, ◌≡◌, ℕ, suc, ◌+◌, Option, List, [], ◌∷◌, length, refl, subst}
use Rattle.x_disk.specs.Disk.{View}
use Rattle.world_laws.specs.World.{World}
use Rattle.call_laws.specs.SetUp.{SetUp, names_in, network_of}
use Rattle.call_laws.proofs.Loads.{LoadsExactly}
use Rattle.mirror_laws.specs.Sessions.{PairDeed, HaveOwnDisks, IsDeedDone, AreDeedsDone}
use Rattle.mirror_laws.specs.SettingUp.{AreSetUpOn, AllTellOnOwn}
use Rattle.mirror_laws.proofs.Images.{Known}
use Rattle.mirror_laws.proofs.Began.{AreSteps, steps}

pub set_up : (known : Known) (exactly : LoadsExactly) (mirror : List ℕ → Option (List ℕ)) (ss : List SetUp) (apart : HaveOwnDisks mirror (network_of ss)) (disks : ℕ → List ℕ → View) → AllTellOnOwn mirror (names_in ss) (disks 0) → AreSetUpOn mirror [] ss 0 disks
    → AreSteps known exactly mirror (network_of ss) apart [] ss (disks (length ss))
set_up known exactly mirror ss apart disks tell is =
    let place : 0 + length ss ≡ length ss = omega arith in
    subst (λ (n : ℕ). AreSteps known exactly mirror (network_of ss) apart [] ss (disks n)) place
    (steps known exactly mirror (network_of ss) apart [] ss 0 disks (λ name x at. absurd (cc (at))) tell refl is)

-- deeds from the disks of a later number on
pub shifted : (start : World) (mirror : List ℕ → Option (List ℕ)) (ds : List PairDeed) (n k : ℕ) (disks ends : ℕ → List ℕ → View) → AreDeedsDone start mirror ds (n + k) disks ends
    → AreDeedsDone start mirror ds k (λ j. disks (n + j)) (λ j. ends (n + j))
shifted start mirror [] n k disks ends is = tt
shifted start mirror (d ∷ ds) n k disks ends is =
    let next : suc (n + k) ≡ n + suc k = omega arith in (
      subst (λ (m : ℕ). IsDeedDone start mirror d (disks (n + k)) (ends (n + k)) (disks m)) next is.0,
      shifted start mirror ds n (suc k) disks ends (subst (λ (m : ℕ). AreDeedsDone start mirror ds m disks ends) next is.1),
    )
