-- A party that is shown over its two disks goes on from what a session may have come to: one of the disks may be made anew.
use Rattle.std.proofs.Common.{inl, inr, ℕ, ◌+◌, Option, Some, List, [], ◌∷◌, ◌++◌, length, refl, sym, ◌∙◌, subst}
use Rattle.x_disk.specs.Disk.{View, IsSound}
use Rattle.member.specs.Member.{Member}
use Rattle.x_pair.specs.Outcomes.{IsSafePair, showing}
use Rattle.world_laws.specs.World.{World}
use Rattle.mirror_laws.specs.Sessions.{PairDeed, Shown, ShowCutOff, HaveOwnDisks, IsPairShown, PairOffWithin}
use Rattle.mirror_laws.specs.Deeds.{IsLostAgainOrNot}
use Rattle.mirror_laws.proofs.Images.{Pair, MayBe, Known}
use Rattle.mirror_laws.proofs.Ways.{Somebody, Way, left_way}
use Rattle.mirror_laws.proofs.SafeWays.{Reads, reads_of, left_at_end, safe_way}
use Rattle.mirror_laws.proofs.Led.{HasComeTo}
use Rattle.mirror_laws.proofs.Asked.{OthersMay, somebody, ended_goes, cut_goes}
use Rattle.mirror_laws.proofs.OwnDisks.{ButOwn, but_own, second_view, second_sound}

module _ (known : Known) (start : World) (mirror : List ℕ → Option (List ℕ)) (apart : HaveOwnDisks mirror start) (disks : ℕ → List ℕ → View) (ds : List PairDeed) (g : HasComeTo start mirror disks ds (disks (0 + length ds)))
    (sound : (q : List ℕ) → IsSound (disks (0 + length ds) q)) (name : List ℕ) (mid : List ℕ → View) (shown : IsPairShown start mirror name (disks (0 + length ds)) mid) where
  abbrev was : List ℕ → View
  was = disks (0 + length ds)

  others_stay : ButOwn start mirror name was mid
  others_stay = but_own start mirror apart name shown.member shown.at was mid shown.others

  safe : IsSafePair showing (was name) (second_view (mirror name) was) (mid name) (second_view (mirror name) mid)
  safe = subst (λ (m : Option (List ℕ)). IsSafePair showing (was name) (second_view m was) (mid name) (second_view m mid)) (sym shown.has) shown.safe

  now : Reads (was name) (second_view (mirror name) was)
  now = reads_of (was name) (second_view (mirror name) was) (sound name) (second_sound (mirror name) was sound) (g.first_tells name shown.member shown.at) (g.second_tells name shown.member shown.at)

  -- with these images of the others
  module _ (images : List ℕ → Pair) (others : OthersMay start mirror apart disks ds g name shown.member shown.at mid others_stay images) where
    abbrev some : (f : Option (List ℕ)) (d : List ℕ) → MayBe (was name).may_leave (second_view (mirror name) was).may_leave f d → Somebody name f d
    some f d may = somebody start mirror disks ds g name shown.member shown.at images others f d may

    abbrev x : Member
    x = (some (Some now.was_first) now.was_second (now.first_may, now.second_may)).member

    abbrev f : Option (List ℕ)
    f = (images name).first

    abbrev d : List ℕ
    d = (images name).second

    abbrev WayShown : Type 0
    WayShown = Way name (was name).may_leave (second_view (mirror name) was).may_leave some [] (IsLostAgainOrNot name (was name)) f d

    shown_way : MayBe ((mid name).left_since (was name).moment) ((second_view (mirror name) mid).left_since (second_view (mirror name) was).moment) f d → WayShown
    shown_way =
        safe_way known showing name (was name) (second_view (mirror name) was) (mid name) (second_view (mirror name) mid) now safe some (IsLostAgainOrNot name (was name)) (inl refl) x ⊥ (λ space y may. absurd may)
        (left_way known name (was name) (second_view (mirror name) was) some now.was_first now.was_second now.first_may now.second_may (IsLostAgainOrNot name (was name)) (inl refl) (λ blank. inr (blank, refl)) x ⊥ (λ change. absurd change)
        (λ change f d stands. absurd change) (λ change blank f d stands. absurd change)) f d

    ended_way : ((q : List ℕ) → IsSound (mid q)) → MayBe (mid name).may_leave (second_view (mirror name) mid).may_leave f d → WayShown
    ended_way sound_mid may =
        shown_way (left_at_end known showing name (was name) (second_view (mirror name) was) (mid name) (second_view (mirror name) mid) now safe some (sound_mid name) (second_sound (mirror name) mid sound_mid) f d may)

  pub shows : ((q : List ℕ) → IsSound (mid q)) → HasComeTo start mirror disks (ds ++ Shown name ∷ []) mid
  shows sound_mid =
      ended_goes start mirror apart disks ds g name shown.member shown.at mid others_stay (Shown name) [] (IsLostAgainOrNot name (was name)) (λ es is. (is, refl)) (safe.first_tells ∙ g.first_tells name shown.member shown.at) (safe.second_tells ∙ g.second_tells name shown.member shown.at)
      (λ images others. ended_way images others sound_mid)

  pub show_cut_off : (new : List ℕ → View) → PairOffWithin mirror name was mid new → HasComeTo start mirror disks (ds ++ ShowCutOff name ∷ []) new
  show_cut_off new off = cut_goes start mirror apart disks ds g name shown.member shown.at mid others_stay (ShowCutOff name) (IsLostAgainOrNot name (was name)) (λ es is. (is, refl)) new off shown_way
