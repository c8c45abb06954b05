-- What writes no party's disk goes on from what a session may have come to.
use Rattle.std.proofs.Common.{◌≡◌, ℕ, ◌+◌, Option, Some, List, [], ◌∷◌, ◌++◌, length, refl, ◌∙◌, ap}
use Rattle.std.specs.Prelude.{is_some}
use Rattle.x_disk.specs.Disk.{View, IsUntouched}
use Rattle.member.specs.Member.{Member}
use Rattle.world_laws.specs.World.{World, member_at}
use Rattle.mirror_laws.specs.Sessions.{PairDeed, Aside, IsAside}
use Rattle.mirror_laws.proofs.Images.{Pair, fewer}
use Rattle.mirror_laws.proofs.Led.{IsPossible, HasComeTo, led_still}
use Rattle.mirror_laws.proofs.OwnDisks.{second_view, second_untouched}

module _ (start : World) (mirror : List ℕ → Option (List ℕ)) (disks : ℕ → List ℕ → View) (ds : List PairDeed) (g : HasComeTo start mirror disks ds (disks (0 + length ds)))
    (new : List ℕ → View) (is : IsAside start mirror (disks (0 + length ds)) new) where
  abbrev was : List ℕ → View
  was = disks (0 + length ds)

  second : (q : List ℕ) (x : Member) → member_at q start.members ≡ Some x → IsUntouched (second_view (mirror q) was) (second_view (mirror q) new)
  second q x h = second_untouched (mirror q) was new (λ s e. is.seconds q s x h e)

  possible_before : (images : List ℕ → Pair) → IsPossible start mirror new images → IsPossible start mirror was images
  possible_before images possible q x h =
      fewer (new q).may_leave (second_view (mirror q) new).may_leave (was q).may_leave (second_view (mirror q) was).may_leave (is.firsts q x h).images (second q x h).images (images q).first (images q).second (possible q x h)

  pub aside : HasComeTo start mirror disks (ds ++ Aside ∷ []) new
  aside = record {
    first_tells = λ q x h. ap is_some (is.firsts q x h).now ∙ g.first_tells q x h;
    second_tells = λ q x h. ap is_some (second q x h).now ∙ g.second_tells q x h;
    reach = λ images possible. led_still start mirror disks ds images Aside (refl, refl) (g.reach images (possible_before images possible));
  }
