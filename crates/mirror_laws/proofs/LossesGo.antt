-- A loss of a disk and a failure of power go on from what a session may have come to.
use Rattle.std.proofs.Common.{◌≡◌, ◌≢◌, inl, ℕ, suc, ◌+◌, Bool, true, false, Option, Some, None, List, [], ◌∷◌, ◌++◌, length, refl, sym, ◌∙◌, ap, subst, bytes_eq}
use Rattle.std.specs.Prelude.{is_some}
use Rattle.x_disk.specs.Disk.{View, Tells, IsSound, IsDurable}
use Rattle.x_disk.specs.Shelf.{IsAlike}
use Rattle.key_journal.specs.Journal.{is_blank}
use Rattle.party_tables.proofs.Keys.{test_idents}
use Rattle.change_code.specs.declared.format.Format.TheVariants.{Two}
use Rattle.key_store.specs.Store.{Stands}
use Rattle.member.specs.Member.{Member}
use Rattle.world_laws.specs.World.{World, member_at}
use Rattle.mirror_laws.specs.Runs.{Which, FirstDisk, SecondDisk, Loses}
use Rattle.mirror_laws.specs.Sessions.{PairDeed, PowerFails, Lost, HaveOwnDisks, AllOwnOff, IsLost}
use Rattle.mirror_laws.specs.Deeds.{IsOfPairDeed}
use Rattle.mirror_laws.proofs.Moves.{after_lost, party_kept, lost_moves}
use Rattle.mirror_laws.proofs.Images.{Pair, StandsFor, MayBe, Known, told, fewer, opened_first, first_stands, opened_lost}
use Rattle.mirror_laws.proofs.Ways.{Somebody, Going, Way, some_way}
use Rattle.mirror_laws.proofs.Led.{IsPossible, Led, HasComeTo, led_still}
use Rattle.mirror_laws.proofs.Asked.{somebody, by_way, off_left}
use Rattle.mirror_laws.proofs.OwnDisks.{second_view, second_sound, second_alike, second_off, not_second, not_first, not_mirror}

-- the power fails while no party's disk is written
pub all_off : (start : World) (mirror : List ℕ → Option (List ℕ)) (disks : ℕ → List ℕ → View) (ds : List PairDeed) → HasComeTo start mirror disks ds (disks (0 + length ds)) → (new : List ℕ → View) → AllOwnOff start mirror (disks (0 + length ds)) new
    → HasComeTo start mirror disks (ds ++ PowerFails ∷ []) new
all_off start mirror disks ds g new off = record {
  first_tells = λ q x h. ap is_some (off.firsts q x h).reads;
  second_tells = λ q x h. ap is_some (second_off (mirror q) (disks (0 + length ds)) new (λ s e. off.seconds q s x h e)).reads;
  reach = λ images possible. led_still start mirror disks ds images PowerFails (refl, refl) (g.reach images (λ q x h.
      fewer (new q).may_leave (second_view (mirror q) new).may_leave (disks (0 + length ds) q).may_leave (second_view (mirror q) (disks (0 + length ds))).may_leave
      (off_left (disks (0 + length ds) q).may_leave (new q) (off.firsts q x h)) (off_left (second_view (mirror q) (disks (0 + length ds))).may_leave (second_view (mirror q) new) (second_off (mirror q) (disks (0 + length ds)) new (λ s e. off.seconds q s x h e)))
      (images q).first (images q).second (possible q x h)));
}

-- by the loss of this disk
lost_by : (name : List ℕ) (which : Which) (x : Member) (f : Option (List ℕ)) (d : List ℕ) → StandsFor f d (after_lost which x) → Going name x [] (λ es. es ≡ Loses name which ∷ []) f d
lost_by name which x f d stands = record {
  events = Loses name which ∷ [];
  is = refl;
  are_events = (tt, tt);
  arrives = λ n w at. record { member = after_lost which x; moved = lost_moves name w x at which n; stands = stands };
}

not_both : {A : Type 0} (c : List ℕ) → is_blank c ≡ true → is_blank c ≡ false → A
not_both c blank not = (let lie : true ≡ false = sym blank ∙ not in absurd (cc lie))

module _ (known : Known) (start : World) (mirror : List ℕ → Option (List ℕ)) (apart : HaveOwnDisks mirror start) (disks : ℕ → List ℕ → View) (ds : List PairDeed) (g : HasComeTo start mirror disks ds (disks (0 + length ds)))
    (sound : (q : List ℕ) → IsSound (disks (0 + length ds) q)) (name : List ℕ) (new : List ℕ → View) where
  abbrev was : List ℕ → View
  was = disks (0 + length ds)

  -- what is left of the others
  abbrev OthersMay : (List ℕ → Pair) → Type 0
  OthersMay images = (q : List ℕ) (x : Member) → member_at q start.members ≡ Some x → q ≢ name → MayBe (was q).may_leave (second_view (mirror q) was).may_leave (images q).first (images q).second

  is_same : (q : List ℕ) → (bytes_eq q name ≡ true) → q ≡ name
  is_same q e = (test_idents.decides q name).0 e

  is_other : (q : List ℕ) → (bytes_eq q name ≡ false) → q ≢ name
  is_other q e is = (let t : bytes_eq q name ≡ true = (test_idents.decides q name).1 is in cc)

  -- ---- the first disk is lost

  module _ (l : IsLost start mirror name FirstDisk was new) where
    seconds_stay : (q : List ℕ) (x : Member) → member_at q start.members ≡ Some x → IsAlike (second_view (mirror q) was) (second_view (mirror q) new)
    seconds_stay q x h = second_alike (mirror q) was new (λ s e. l.others s (not_first start mirror apart name l.member l.at q x h s e))

    full : (d : List ℕ) → (second_view (mirror name) was).may_leave d → is_blank d ≡ false
    full = subst (λ (m : Option (List ℕ)). (d : List ℕ) → (second_view m was).may_leave d → is_blank d ≡ false) (sym l.has) l.left

    first_others : (images : List ℕ → Pair) → IsPossible start mirror new images → OthersMay images
    first_others images possible q x h ne =
        fewer (new q).may_leave (second_view (mirror q) new).may_leave (was q).may_leave (second_view (mirror q) was).may_leave (l.others q ne).images (seconds_stay q x h).images (images q).first (images q).second (possible q x h)

    second_may : (d : List ℕ) → (second_view (mirror name) new).may_leave d → (second_view (mirror name) was).may_leave d
    second_may = (seconds_stay name l.member l.at).images

    first_lost : (images : List ℕ → Pair) (others : OthersMay images) (f : Option (List ℕ)) (d : List ℕ) → MayBe (new name).may_leave (second_view (mirror name) new).may_leave f d
        → Way name (was name).may_leave (second_view (mirror name) was).may_leave (somebody start mirror disks ds g name l.member l.at images others) [] (λ es. es ≡ Loses name FirstDisk ∷ []) f d
    first_lost images others (Some c) d may =
        let possible : MayBe (was name).may_leave (second_view (mirror name) was).may_leave None d = (second_may d may.1, full d (second_may d may.1)) in
        let k : Somebody name None d = somebody start mirror disks ds g name l.member l.at images others None d possible in
        let blank : is_blank c ≡ true = ap is_blank (l.durable.only l.image c l.reads may.0) ∙ l.blank in
        record { from_first = None; from_second = d; possible = possible; going = lost_by name FirstDisk k.member (Some c) d (opened_lost known c d k.member blank k.stands) }
    first_lost images others None d may =
        let possible : MayBe (was name).may_leave (second_view (mirror name) was).may_leave None d = (second_may d may.0, may.1) in
        let k : Somebody name None d = somebody start mirror disks ds g name l.member l.at images others None d possible in
        record { from_first = None; from_second = d; possible = possible; going = lost_by name FirstDisk k.member None d (subst (Stands d) (sym (party_kept (Some Two) k.member)) k.stands) }

    pub loses_first : HasComeTo start mirror disks (ds ++ Lost name FirstDisk ∷ []) new
    loses_first = record { first_tells = first_tells; second_tells = second_tells; reach = reach }
      where
        first_tells : (q : List ℕ) (x : Member) → member_at q start.members ≡ Some x → Tells (new q)
        first_tells q x h = go (bytes_eq q name) refl
          where
            go : (t : Bool) → bytes_eq q name ≡ t → Tells (new q)
            go true e = subst (λ (a : List ℕ). Tells (new a)) (sym (is_same q e)) (ap is_some l.reads)
            go false e = ap is_some (l.others q (is_other q e)).now ∙ g.first_tells q x h

        second_tells : (q : List ℕ) (x : Member) → member_at q start.members ≡ Some x → Tells (second_view (mirror q) new)
        second_tells q x h = ap is_some (seconds_stay q x h).now ∙ g.second_tells q x h

        reach : (images : List ℕ → Pair) → IsPossible start mirror new images → Led start mirror disks (ds ++ Lost name FirstDisk ∷ []) images
        reach images possible =
            let others : OthersMay images = first_others images possible in
            by_way start mirror disks ds g name l.member l.at images others (Lost name FirstDisk)
            (some_way name (was name).may_leave (second_view (mirror name) was).may_leave (somebody start mirror disks ds g name l.member l.at images others) [] (λ es. es ≡ Loses name FirstDisk ∷ []) (IsOfPairDeed mirror (Lost name FirstDisk) was (disks (suc (0 + length ds))))
            (λ es is. (is, refl)) (images name).first (images name).second (first_lost images others (images name).first (images name).second (possible name l.member l.at)))

  -- ---- the second disk is lost

  module _ (l : IsLost start mirror name SecondDisk was new) where
    first_other : (q : List ℕ) (x : Member) → member_at q start.members ≡ Some x → q ≢ l.second
    first_other q x h is = not_second start mirror apart name l.member l.at q x h (l.has ∙ ap (λ (a : List ℕ). Some a) (sym is))

    other_seconds_stay : (q : List ℕ) (x : Member) → member_at q start.members ≡ Some x → q ≢ name → IsAlike (second_view (mirror q) was) (second_view (mirror q) new)
    other_seconds_stay q x h ne = second_alike (mirror q) was new (λ s e. l.others s (λ is. not_mirror start mirror apart name l.member l.at q x h ne s e (l.has ∙ ap (λ (a : List ℕ). Some a) (sym is))))

    reads : (second_view (mirror name) new).now ≡ Some l.image
    reads = subst (λ (m : Option (List ℕ)). (second_view m new).now ≡ Some l.image) (sym l.has) l.reads

    durable : IsDurable (second_view (mirror name) new)
    durable = subst (λ (m : Option (List ℕ)). IsDurable (second_view m new)) (sym l.has) l.durable

    second_others : (images : List ℕ → Pair) → IsPossible start mirror new images → OthersMay images
    second_others images possible q x h ne =
        fewer (new q).may_leave (second_view (mirror q) new).may_leave (was q).may_leave (second_view (mirror q) was).may_leave (l.others q (first_other q x h)).images (other_seconds_stay q x h ne).images
        (images q).first (images q).second (possible q x h)

    first_may : (c : List ℕ) → (new name).may_leave c → (was name).may_leave c
    first_may = (l.others name (first_other name l.member l.at)).images

    second_now : (b : List ℕ) × ((second_view (mirror name) was).now ≡ Some b)
    second_now = told (second_view (mirror name) was) (g.second_tells name l.member l.at)

    blank : (d : List ℕ) → (second_view (mirror name) new).may_leave d → is_blank d ≡ true
    blank d left = ap is_blank (durable.only l.image d reads left) ∙ l.blank

    second_lost : (images : List ℕ → Pair) (others : OthersMay images) (f : Option (List ℕ)) (d : List ℕ) → MayBe (new name).may_leave (second_view (mirror name) new).may_leave f d
        → Way name (was name).may_leave (second_view (mirror name) was).may_leave (somebody start mirror disks ds g name l.member l.at images others) [] (λ es. es ≡ Loses name SecondDisk ∷ []) f d
    second_lost images others (Some c) d may =
        let possible : MayBe (was name).may_leave (second_view (mirror name) was).may_leave (Some c) second_now.0 = (first_may c may.0, (second_sound (mirror name) was sound).now_among second_now.0 second_now.1) in
        let k : Somebody name (Some c) second_now.0 = somebody start mirror disks ds g name l.member l.at images others (Some c) second_now.0 possible in
        let stands = first_stands known c second_now.0 k.member k.stands (l.left c (first_may c may.0)) in
        record { from_first = Some c; from_second = second_now.0; possible = possible; going = lost_by name SecondDisk k.member (Some c) d (opened_first known c d name k.member k.own stands (inl (blank d may.1))) }
    second_lost images others None d may = not_both d (blank d may.0) may.1

    pub loses_second : HasComeTo start mirror disks (ds ++ Lost name SecondDisk ∷ []) new
    loses_second = record { first_tells = first_tells; second_tells = second_tells; reach = reach }
      where
        first_tells : (q : List ℕ) (x : Member) → member_at q start.members ≡ Some x → Tells (new q)
        first_tells q x h = ap is_some (l.others q (first_other q x h)).now ∙ g.first_tells q x h

        second_tells : (q : List ℕ) (x : Member) → member_at q start.members ≡ Some x → Tells (second_view (mirror q) new)
        second_tells q x h = go (bytes_eq q name) refl
          where
            go : (t : Bool) → bytes_eq q name ≡ t → Tells (second_view (mirror q) new)
            go true e = subst (λ (a : List ℕ). Tells (second_view (mirror a) new)) (sym (is_same q e)) (ap is_some reads)
            go false e = ap is_some (other_seconds_stay q x h (is_other q e)).now ∙ g.second_tells q x h

        reach : (images : List ℕ → Pair) → IsPossible start mirror new images → Led start mirror disks (ds ++ Lost name SecondDisk ∷ []) images
        reach images possible =
            let others : OthersMay images = second_others images possible in
            by_way start mirror disks ds g name l.member l.at images others (Lost name SecondDisk)
            (some_way name (was name).may_leave (second_view (mirror name) was).may_leave (somebody start mirror disks ds g name l.member l.at images others) [] (λ es. es ≡ Loses name SecondDisk ∷ []) (IsOfPairDeed mirror (Lost name SecondDisk) was (disks (suc (0 + length ds))))
            (λ es is. (is, refl)) (images name).first (images name).second (second_lost images others (images name).first (images name).second (possible name l.member l.at)))
