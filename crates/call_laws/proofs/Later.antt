-- A session that goes on where the set-up ended.
use Rattle.std.proofs.Common.{arith, ◌≡◌, ℕ, suc, ◌+◌, List, [], ◌∷◌, subst}
use Rattle.x_disk.specs.Disk.{View}
use Rattle.world_laws.specs.World.{World}
use Rattle.call_laws.specs.Sessions.{Deed, IsDone, AreDone}

-- deeds from the disks of a later number on
pub shifted : (start : World) (ds : List Deed) (n k : ℕ) (disks ends : ℕ → List ℕ → View) → AreDone start ds (n + k) disks ends → AreDone start ds k (λ j. disks (n + j)) (λ j. ends (n + j))
shifted start [] n k disks ends is = tt
shifted start (d ∷ ds) n k disks ends is =
    let next : suc (n + k) ≡ n + suc k = omega arith in (
      subst (λ (m : ℕ). IsDone start d (disks (n + k)) (ends (n + k)) (disks m)) next is.0,
      shifted start ds n (suc k) disks ends (subst (λ (m : ℕ). AreDone start ds m disks ends) next is.1),
    )
