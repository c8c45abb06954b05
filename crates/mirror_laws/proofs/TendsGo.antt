-- A party of which one disk is tended goes on from what a session may have come to.
use Rattle.std.proofs.Common.{◌≡◌, inl, inr, ℕ, ◌+◌, Option, Some, List, [], ◌∷◌, ◌++◌, length, refl, sym, ◌∙◌, ap, subst}
use Rattle.std.specs.Prelude.{is_some}
use Rattle.x_disk.specs.Disk.{View, Tells, IsSound, LeavesOnly, IsUntouched}
use Rattle.x_disk.specs.Shelf.{OthersStay, IsAlike}
use Rattle.x_disk.proofs.Alike.{untouched_alike}
use Rattle.party_state.specs.State.{Party}
use Rattle.change_code.specs.declared.format.Format.{Format}
use Rattle.key_store.specs.Store.{StandsWith}
use Rattle.member.specs.Acts.{compacted_in, migrated_in}
use Rattle.mirror_store.specs.Pairs.{Recovers}
use Rattle.mirror_store.specs.Opening.{IsPairRefusal}
use Rattle.mirror_store.specs.Recovering.{IsPairFailure}
use Rattle.mirror_store.specs.declared.pair.PairCause.{PairCause}
use Rattle.x_party.specs.Images.{StillTells}
use Rattle.x_party.specs.Outcomes.{FitsIn, space_in, IsOldOrRewritten, IsSafeRewriting}
use Rattle.x_party.specs.declared.outcome.Outcome.{Outcome}
use Rattle.world_laws.specs.World.{World}
use Rattle.world_laws.specs.Events.{Compacts, Migrates}
use Rattle.mirror_laws.specs.Runs.{FirstDisk, SecondDisk, PairEvent}
use Rattle.mirror_laws.specs.Sessions.{Tending, Compacting, Migrating, Wiping, PairDeed, Tended, TendCutOff, HaveOwnDisks, IsTendedDisk, IsTended, PairOffWithin}
use Rattle.mirror_laws.specs.Deeds.{IsTendingOf, IsCutTendingOf}
use Rattle.mirror_laws.proofs.Images.{Pair, MayBe, IsLike, Known, told, fewer, stands_so, like_opened}
use Rattle.mirror_laws.proofs.Ways.{Somebody, Way}
use Rattle.mirror_laws.proofs.Led.{HasComeTo}
use Rattle.mirror_laws.proofs.Asked.{OthersMay, somebody, ended_goes, cut_goes}
use Rattle.mirror_laws.proofs.OwnDisks.{ButOwn, second_view, second_sound, second_alike, not_second, not_first, others_stay}
use Rattle.mirror_laws.proofs.Tending.{IsSameOr, leaves_same, second_way, since_way, wiped_way, cut_way, ended_way}

-- ---- what the call that tends a disk promises of it, whichever it is

tended_tells : (t : Tending) (o : Outcome) (old new : View) → IsTendedDisk t o old new → StillTells old new
tended_tells Compacting o old new made = made.1.tells
tended_tells Migrating o old new made = made.1.tells
tended_tells Wiping o old new made = made.1.tells

module _ (known : Known) (old new : View) (was : List ℕ) (now : old.now ≡ Some was) (name : List ℕ) (like : IsLike name was) where
  rewritten_same : (format : Format → Option Format) → IsSafeRewriting format old new → LeavesOnly old new (IsSameOr was old.may_leave)
  rewritten_same format safe =
      leaves_same known old new (λ party space. IsOldOrRewritten (format space.format) party space) (λ party space. FitsIn (format space.format) party) safe was now
      (λ p s c is. elim is [
        | inl as_before ↦ stands_so c p s as_before
        | inr anew ↦ stands_so c p (space_in (format s.format) p s) anew
      ]) name like

  tended_same : (t : Tending) (o : Outcome) → IsTendedDisk t o old new → LeavesOnly old new (IsSameOr was old.may_leave)
  tended_same Compacting o made = rewritten_same compacted_in made.1
  tended_same Migrating o made = rewritten_same migrated_in made.1
  tended_same Wiping o made =
      leaves_same known old new (λ party space c. StandsWith c party space) (λ party space. Unit {0}) made.1 was now (λ p s c is. stands_so c p s is) name like

module _ (known : Known) (refused : (i j : List ℕ) (p : Party) (reason : PairCause) → Recovers i j p → IsPairRefusal i j reason → IsPairFailure p reason)
    (name : List ℕ) (moment : ℕ) (o : Outcome) (first second first_after : View) (some : (f : Option (List ℕ)) (d : List ℕ) → MayBe first.may_leave second.may_leave f d → Somebody name f d)
    (was : List ℕ) (now : first.now ≡ Some was) (first_left : first.may_leave was) (f : Option (List ℕ)) (d : List ℕ) where
  first_cut : (t : Tending) → IsTendedDisk t o first first_after → MayBe (first_after.left_since first.moment) second.may_leave f d
      → Way name first.may_leave second.may_leave some [] (IsCutTendingOf FirstDisk t name moment) f d
  first_cut Compacting made = cut_way known compacted_in Compacts (λ n w x moment c. refl) tt name moment first second first_after some was now first_left made.1 f d
  first_cut Migrating made = cut_way known migrated_in Migrates (λ n w x moment c. refl) tt name moment first second first_after some was now first_left made.1 f d
  first_cut Wiping made = wiped_way known name first second first_after some was now first_left (λ party space. Unit {0}) made.1 f d

  first_ended : IsSound first_after → Tells first_after → MayBe first_after.may_leave second.may_leave f d → (t : Tending) → IsTendedDisk t o first first_after
      → Way name first.may_leave second.may_leave some [] (IsTendingOf FirstDisk t o name moment) f d
  first_ended sound tells may Compacting made =
      ended_way known compacted_in Compacts (λ n w x moment c. refl) tt name moment first second first_after some was now first_left made.1 refused sound tells f d may o made.0
  first_ended sound tells may Migrating made =
      ended_way known migrated_in Migrates (λ n w x moment c. refl) tt name moment first second first_after some was now first_left made.1 refused sound tells f d may o made.0
  first_ended sound tells may Wiping made =
      first_cut Wiping made
      (since_way known name first second first_after some was now first_left (λ party space c. StandsWith c party space) (λ party space. Unit {0}) made.1 sound f d may)

-- ---- in a session

same_name : (a b : List ℕ) → Some a ≡ Some b → a ≡ b
same_name a b e = cc e

module _ (known : Known) (refused : (i j : List ℕ) (p : Party) (reason : PairCause) → Recovers i j p → IsPairRefusal i j reason → IsPairFailure p reason)
    (start : World) (mirror : List ℕ → Option (List ℕ)) (apart : HaveOwnDisks mirror start) (disks : ℕ → List ℕ → View) (ds : List PairDeed) (g : HasComeTo start mirror disks ds (disks (0 + length ds)))
    (sound : (q : List ℕ) → IsSound (disks (0 + length ds) q)) (name : List ℕ) (t : Tending) (moment : ℕ) (o : Outcome) (mid : List ℕ → View) where
  abbrev was : List ℕ → View
  was = disks (0 + length ds)

  -- its first disk, which may be its only one
  module _ (tended : IsTended start mirror name FirstDisk t o was mid) where
    is_own : name ≡ tended.disk
    is_own = same_name name tended.disk tended.own

    made : IsTendedDisk t o (was name) (mid name)
    made = subst (λ (q : List ℕ). IsTendedDisk t o (was q) (mid q)) (sym is_own) tended.made

    others : OthersStay name was mid
    others = subst (λ (q : List ℕ). OthersStay q was mid) (sym is_own) tended.others

    but_first : ButOwn start mirror name was mid
    but_first = others_stay start mirror apart name tended.member tended.at was mid (λ other ne away. others other ne)

    second_stays : IsUntouched (second_view (mirror name) was) (second_view (mirror name) mid)
    second_stays =
        untouched_alike (second_view (mirror name) was) (second_view (mirror name) mid) (second_sound (mirror name) was sound)
        (second_alike (mirror name) was mid (λ s e. others s (not_first start mirror apart name tended.member tended.at name tended.member tended.at s e)))

    first_now : (b : List ℕ) × ((was name).now ≡ Some b)
    first_now = told (was name) (g.first_tells name tended.member tended.at)

    first_may : (was name).may_leave first_now.0
    first_may = (sound name).now_among first_now.0 first_now.1

    first_told : Tells (mid name)
    first_told = tended_tells t o (was name) (mid name) made ∙ g.first_tells name tended.member tended.at

    pub tends_first : ((q : List ℕ) → IsSound (mid q)) → HasComeTo start mirror disks (ds ++ Tended name FirstDisk t moment o ∷ []) mid
    tends_first sound_mid =
        ended_goes start mirror apart disks ds g name tended.member tended.at mid but_first (Tended name FirstDisk t moment o) [] (IsTendingOf FirstDisk t o name moment) (λ es is. (is, refl)) first_told
        (ap is_some second_stays.now ∙ g.second_tells name tended.member tended.at) ways
      where
        ways : (images : List ℕ → Pair) (beside : OthersMay start mirror apart disks ds g name tended.member tended.at mid but_first images)
            → MayBe (mid name).may_leave (second_view (mirror name) mid).may_leave (images name).first (images name).second
            → Way name (was name).may_leave (second_view (mirror name) was).may_leave (somebody start mirror disks ds g name tended.member tended.at images beside) [] (IsTendingOf FirstDisk t o name moment) (images name).first (images name).second
        ways images beside may =
            first_ended known refused name moment o (was name) (second_view (mirror name) was) (mid name) (somebody start mirror disks ds g name tended.member tended.at images beside) first_now.0 first_now.1 first_may
            (images name).first (images name).second (sound_mid name) first_told
            (fewer (mid name).may_leave (second_view (mirror name) mid).may_leave (mid name).may_leave (second_view (mirror name) was).may_leave (λ c left. left) second_stays.images (images name).first (images name).second may)
            t made

    pub first_cut_off : (new : List ℕ → View) → PairOffWithin mirror name was mid new → HasComeTo start mirror disks (ds ++ TendCutOff name FirstDisk t moment o ∷ []) new
    first_cut_off new off = cut_goes start mirror apart disks ds g name tended.member tended.at mid but_first (TendCutOff name FirstDisk t moment o) (IsCutTendingOf FirstDisk t name moment) (λ es is. (is, refl)) new off ways
      where
        ways : (images : List ℕ → Pair) (beside : OthersMay start mirror apart disks ds g name tended.member tended.at mid but_first images)
            → MayBe ((mid name).left_since (was name).moment) ((second_view (mirror name) mid).left_since (second_view (mirror name) was).moment) (images name).first (images name).second
            → Way name (was name).may_leave (second_view (mirror name) was).may_leave (somebody start mirror disks ds g name tended.member tended.at images beside) [] (IsCutTendingOf FirstDisk t name moment) (images name).first (images name).second
        ways images beside since =
            first_cut known refused name moment o (was name) (second_view (mirror name) was) (mid name) (somebody start mirror disks ds g name tended.member tended.at images beside) first_now.0 first_now.1 first_may
            (images name).first (images name).second t made
            (fewer ((mid name).left_since (was name).moment) ((second_view (mirror name) mid).left_since (second_view (mirror name) was).moment) ((mid name).left_since (was name).moment) (second_view (mirror name) was).may_leave
            (λ c left. left) second_stays.any_moment.each (images name).first (images name).second since)

  -- its second one
  module _ (tended : IsTended start mirror name SecondDisk t o was mid) where
    made_second : IsTendedDisk t o (second_view (mirror name) was) (second_view (mirror name) mid)
    made_second = subst (λ (m : Option (List ℕ)). IsTendedDisk t o (second_view m was) (second_view m mid)) (sym tended.own) tended.made

    but_second : ButOwn start mirror name was mid
    but_second = others_stay start mirror apart name tended.member tended.at was mid (λ other ne away. tended.others other (λ is. away (tended.own ∙ ap (λ (a : List ℕ). Some a) (sym is))))

    first_alike : IsAlike (was name) (mid name)
    first_alike = tended.others name (λ is. not_second start mirror apart name tended.member tended.at name tended.member tended.at (tended.own ∙ ap (λ (a : List ℕ). Some a) (sym is)))

    first_stays : IsUntouched (was name) (mid name)
    first_stays = untouched_alike (was name) (mid name) (sound name) first_alike

    first_read : (b : List ℕ) × ((was name).now ≡ Some b)
    first_read = told (was name) (g.first_tells name tended.member tended.at)

    second_now : (b : List ℕ) × ((second_view (mirror name) was).now ≡ Some b)
    second_now = told (second_view (mirror name) was) (g.second_tells name tended.member tended.at)

    second_may : (second_view (mirror name) was).may_leave second_now.0
    second_may = (second_sound (mirror name) was sound).now_among second_now.0 second_now.1

    -- with these images of the others
    module _ (images : List ℕ → Pair) (beside : OthersMay start mirror apart disks ds g name tended.member tended.at mid but_second images) where
      abbrev some : (f : Option (List ℕ)) (d : List ℕ) → MayBe (was name).may_leave (second_view (mirror name) was).may_leave f d → Somebody name f d
      some f d may = somebody start mirror disks ds g name tended.member tended.at images beside f d may

      abbrev IsNone : List PairEvent → Type 0
      IsNone es = es ≡ []

      abbrev WayNone : Type 0
      WayNone = Way name (was name).may_leave (second_view (mirror name) was).may_leave some [] IsNone (images name).first (images name).second

      like : IsLike name second_now.0
      like =
          let k : Somebody name (Some first_read.0) second_now.0 = some (Some first_read.0) second_now.0 ((sound name).now_among first_read.0 first_read.1, second_may) in
          like_opened known first_read.0 second_now.0 name k.member k.own k.stands

      same : LeavesOnly (second_view (mirror name) was) (second_view (mirror name) mid) (IsSameOr second_now.0 (second_view (mirror name) was).may_leave)
      same = tended_same known (second_view (mirror name) was) (second_view (mirror name) mid) second_now.0 second_now.1 name like t o made_second

      by_same : MayBe (was name).may_leave (IsSameOr second_now.0 (second_view (mirror name) was).may_leave) (images name).first (images name).second → WayNone
      by_same = second_way known name (was name).may_leave (second_view (mirror name) was).may_leave some IsNone refl second_now.0 second_may (images name).first (images name).second

      second_cut : MayBe ((mid name).left_since (was name).moment) ((second_view (mirror name) mid).left_since (second_view (mirror name) was).moment) (images name).first (images name).second → WayNone
      second_cut since =
          by_same (fewer ((mid name).left_since (was name).moment) ((second_view (mirror name) mid).left_since (second_view (mirror name) was).moment) (was name).may_leave (IsSameOr second_now.0 (second_view (mirror name) was).may_leave)
          first_stays.any_moment.each same.each (images name).first (images name).second since)

      second_ended : ((q : List ℕ) → IsSound (mid q)) → MayBe (mid name).may_leave (second_view (mirror name) mid).may_leave (images name).first (images name).second → WayNone
      second_ended sound_mid may =
          by_same (fewer (mid name).may_leave (second_view (mirror name) mid).may_leave (was name).may_leave (IsSameOr second_now.0 (second_view (mirror name) was).may_leave) first_stays.images
          (λ d left. same.each d ((second_sound (mirror name) mid sound_mid).counts_now (second_view (mirror name) was).moment d same.later left)) (images name).first (images name).second may)

    pub tends_second : ((q : List ℕ) → IsSound (mid q)) → HasComeTo start mirror disks (ds ++ Tended name SecondDisk t moment o ∷ []) mid
    tends_second sound_mid =
        ended_goes start mirror apart disks ds g name tended.member tended.at mid but_second (Tended name SecondDisk t moment o) [] (λ es. es ≡ []) (λ es is. (is, refl)) (ap is_some first_stays.now ∙ g.first_tells name tended.member tended.at)
        (tended_tells t o (second_view (mirror name) was) (second_view (mirror name) mid) made_second ∙ g.second_tells name tended.member tended.at) (λ images beside. second_ended images beside sound_mid)

    pub second_cut_off : (new : List ℕ → View) → PairOffWithin mirror name was mid new → HasComeTo start mirror disks (ds ++ TendCutOff name SecondDisk t moment o ∷ []) new
    second_cut_off new off = cut_goes start mirror apart disks ds g name tended.member tended.at mid but_second (TendCutOff name SecondDisk t moment o) (λ es. es ≡ []) (λ es is. (is, refl)) new off second_cut
