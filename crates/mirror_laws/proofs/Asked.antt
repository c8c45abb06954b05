-- What a call over two disks goes on from, and how a way from there makes a run.
use Rattle.std.proofs.Common.{◌≡◌, ◌≢◌, ℕ, suc, ◌+◌, Bool, true, false, cond, Option, Some, List, [], ◌∷◌, ◌++◌, length, refl, sym, ◌∙◌, ap, subst, bytes_eq}
use Rattle.std.specs.Prelude.{is_some}
use Rattle.x_disk.specs.Disk.{View, Tells}
use Rattle.x_disk.specs.Shelf.{IsAlike}
use Rattle.party_tables.proofs.Keys.{test_idents}
use Rattle.member.specs.Member.{Member}
use Rattle.world_laws.specs.World.{World, member_at}
use Rattle.call_laws.specs.Sessions.{IsOff}
use Rattle.call_laws.proofs.Reaching.{some_is}
use Rattle.mirror_laws.specs.Runs.{PairEvent, pair_run}
use Rattle.mirror_laws.specs.Sessions.{PairDeed, HaveOwnDisks, PairOffWithin}
use Rattle.mirror_laws.specs.Deeds.{IsOfPairDeed}
use Rattle.mirror_laws.proofs.Moves.{own_found}
use Rattle.mirror_laws.proofs.Images.{Pair, StandsFor, MayBe, fewer}
use Rattle.mirror_laws.proofs.Ways.{Somebody, Way, SomeWay, some_way}
use Rattle.mirror_laws.proofs.Led.{IsPossible, Led, HasComeTo, led_on}
use Rattle.mirror_laws.proofs.OwnDisks.{ButOwn, second_view, second_alike, second_off, second_off_since, not_second, not_first, not_mirror}

-- another pair under one name
abbrev pub put_pair : List ℕ → Pair → (List ℕ → Pair) → List ℕ → Pair
put_pair name p images q = cond (bytes_eq q name) p (images q)

pub pair_here : (name : List ℕ) (p : Pair) (images : List ℕ → Pair) → put_pair name p images name ≡ p
pair_here name p images = go (bytes_eq name name) refl
  where
    go : (t : Bool) → bytes_eq name name ≡ t → cond t p (images name) ≡ p
    go true e = refl
    go false e = (let h : bytes_eq name name ≡ true = (test_idents.decides name name).1 refl in absurd (cc))

pub pair_there : (name : List ℕ) (p : Pair) (images : List ℕ → Pair) (q : List ℕ) → q ≢ name → images q ≡ put_pair name p images q
pair_there name p images q ne = go (bytes_eq q name) refl
  where
    go : (t : Bool) → bytes_eq q name ≡ t → images q ≡ cond t p (images q)
    go true e = absurd (ne ((test_idents.decides q name).0 e))
    go false e = refl

-- a disk that is read after the power failed gives what could be left
pub off_left : (could : List ℕ → Type 0) (v : View) → IsOff could v → (c : List ℕ) → v.may_leave c → could c
off_left could v off c left = subst could (sym (off.durable.only off.image c off.reads left)) off.left

module _ (start : World) (mirror : List ℕ → Option (List ℕ)) (disks : ℕ → List ℕ → View) (ds : List PairDeed) (g : HasComeTo start mirror disks ds (disks (0 + length ds)))
    (name : List ℕ) (x0 : Member) (at0 : member_at name start.members ≡ Some x0) where
  abbrev pub old : List ℕ → View
  old = disks (0 + length ds)

  -- after the next deed
  abbrev later : List ℕ → View
  later = disks (suc (0 + length ds))

  -- with these images of the others
  module _ (images : List ℕ → Pair)
      (others : (q : List ℕ) (x : Member) → member_at q start.members ≡ Some x → q ≢ name → MayBe (old q).may_leave (second_view (mirror q) old).may_leave (images q).first (images q).second) where
    abbrev asked : Option (List ℕ) → List ℕ → List ℕ → Pair
    asked f d = put_pair name (record { first = f; second = d }) images

    asked_possible : (f : Option (List ℕ)) (d : List ℕ) → MayBe (old name).may_leave (second_view (mirror name) old).may_leave f d → IsPossible start mirror old (asked f d)
    asked_possible f d may q x h = go (bytes_eq q name) refl
      where
        go : (t : Bool) → bytes_eq q name ≡ t
            → MayBe (old q).may_leave (second_view (mirror q) old).may_leave (cond t (record { first = f; second = d }) (images q)).first (cond t (record { first = f; second = d }) (images q)).second
        go true e = (let is : q ≡ name = (test_idents.decides q name).0 e in subst (λ (a : List ℕ). MayBe (old a).may_leave (second_view (mirror a) old).may_leave f d) (sym is) may)
        go false e = others q x h (λ is. (let t : bytes_eq q name ≡ true = (test_idents.decides q name).1 is in cc))

    module _ (f : Option (List ℕ)) (d : List ℕ) (may : MayBe (old name).may_leave (second_view (mirror name) old).may_leave f d) where
      pub r : Led start mirror disks ds (put_pair name (record { first = f; second = d }) images)
      r = g.reach (asked f d) (asked_possible f d may)

      pub member : (x : Member) × (member_at name (pair_run 1 start r.events).members ≡ Some x)
      member = some_is (member_at name (pair_run 1 start r.events).members) (r.at.there name ∙ ap is_some at0)

      pub stood : StandsFor f d member.0
      stood = subst (λ (p : Pair). StandsFor p.first p.second member.0) (pair_here name (record { first = f; second = d }) images) (r.at.stands name member.0 member.1)

      abbrev pub somebody : Somebody name f d
      somebody = record { member = member.0; own = sym (own_found name (pair_run 1 start r.events) member.0 member.1); stands = stood }

    -- a way makes a run
    pub by_way : (c : PairDeed) → SomeWay name (old name).may_leave (second_view (mirror name) old).may_leave somebody (IsOfPairDeed mirror c old later) (images name).first (images name).second → Led start mirror disks (ds ++ c ∷ []) images
    by_way c found =
        let way = found.way in
        led_on start mirror disks ds found.texts (asked way.from_first way.from_second) images name (r way.from_first way.from_second way.possible) c
        (member way.from_first way.from_second way.possible).0 (member way.from_first way.from_second way.possible).1
        (pair_there name (record { first = way.from_first; second = way.from_second }) images) way.going

module _ (start : World) (mirror : List ℕ → Option (List ℕ)) (apart : HaveOwnDisks mirror start) (disks : ℕ → List ℕ → View) (ds : List PairDeed) (g : HasComeTo start mirror disks ds (disks (0 + length ds)))
    (name : List ℕ) (x0 : Member) (at0 : member_at name start.members ≡ Some x0) (mid : List ℕ → View) (stay : ButOwn start mirror name (disks (0 + length ds)) mid) where
  abbrev was : List ℕ → View
  was = disks (0 + length ds)

  abbrev next : List ℕ → View
  next = disks (suc (0 + length ds))

  second_stays : (q : List ℕ) (x : Member) → member_at q start.members ≡ Some x → q ≢ name → IsAlike (second_view (mirror q) was) (second_view (mirror q) mid)
  second_stays q x h ne = second_alike (mirror q) was mid (λ s e. stay.seconds q s x h ne e)

  is_other : (q : List ℕ) → bytes_eq q name ≡ false → q ≢ name
  is_other q e is = (let t : bytes_eq q name ≡ true = (test_idents.decides q name).1 is in cc)

  -- what may be left of the others
  abbrev pub OthersMay : (List ℕ → Pair) → Type 0
  OthersMay images = (q : List ℕ) (x : Member) → member_at q start.members ≡ Some x → q ≢ name → MayBe (was q).may_leave (second_view (mirror q) was).may_leave (images q).first (images q).second

  -- how the party of the name goes on to its images, by these texts and events of which this holds, from images of its disks of which
  -- this holds
  abbrev pub Ways : List (List ℕ) → (List PairEvent → Type 0) → (List ℕ → Type 0) → (List ℕ → Type 0) → Type 0
  Ways more are P Q = (images : List ℕ → Pair) (others : OthersMay images) → MayBe P Q (images name).first (images name).second
      → Way name (was name).may_leave (second_view (mirror name) was).may_leave (somebody start mirror disks ds g name x0 at0 images others) more are (images name).first (images name).second

  -- by the events and texts of this deed
  abbrev pub SomeWays : PairDeed → (List ℕ → Type 0) → (List ℕ → Type 0) → Type 0
  SomeWays c P Q = (images : List ℕ → Pair) (others : OthersMay images) → MayBe P Q (images name).first (images name).second
      → SomeWay name (was name).may_leave (second_view (mirror name) was).may_leave (somebody start mirror disks ds g name x0 at0 images others) (IsOfPairDeed mirror c was next) (images name).first (images name).second

  of_ways : (c : PairDeed) (more : List (List ℕ)) (are : List PairEvent → Type 0) → ((es : List PairEvent) → are es → IsOfPairDeed mirror c was next es more) → (P Q : List ℕ → Type 0) → Ways more are P Q → SomeWays c P Q
  of_ways c more are by P Q ways images others may =
      some_way name (was name).may_leave (second_view (mirror name) was).may_leave (somebody start mirror disks ds g name x0 at0 images others) more are (IsOfPairDeed mirror c was next) by (images name).first (images name).second
      (ways images others may)

  -- a deed ends
  pub done_goes : (c : PairDeed) → Tells (mid name) → Tells (second_view (mirror name) mid) → SomeWays c (mid name).may_leave (second_view (mirror name) mid).may_leave → HasComeTo start mirror disks (ds ++ c ∷ []) mid
  done_goes c first_told second_told ways = record { first_tells = first_tells; second_tells = second_tells; reach = reach }
    where
      first_tells : (q : List ℕ) (x : Member) → member_at q start.members ≡ Some x → Tells (mid q)
      first_tells q x h = go (bytes_eq q name) refl
        where
          go : (t : Bool) → bytes_eq q name ≡ t → Tells (mid q)
          go true e = (let is : q ≡ name = (test_idents.decides q name).0 e in subst (λ (a : List ℕ). Tells (mid a)) (sym is) first_told)
          go false e = ap is_some (stay.firsts q x h (is_other q e)).now ∙ g.first_tells q x h

      second_tells : (q : List ℕ) (x : Member) → member_at q start.members ≡ Some x → Tells (second_view (mirror q) mid)
      second_tells q x h = go (bytes_eq q name) refl
        where
          go : (t : Bool) → bytes_eq q name ≡ t → Tells (second_view (mirror q) mid)
          go true e = (let is : q ≡ name = (test_idents.decides q name).0 e in subst (λ (a : List ℕ). Tells (second_view (mirror a) mid)) (sym is) second_told)
          go false e = ap is_some (second_stays q x h (is_other q e)).now ∙ g.second_tells q x h

      others : (images : List ℕ → Pair) → IsPossible start mirror mid images → OthersMay images
      others images possible q x h ne =
          fewer (mid q).may_leave (second_view (mirror q) mid).may_leave (was q).may_leave (second_view (mirror q) was).may_leave (stay.firsts q x h ne).images (second_stays q x h ne).images
          (images q).first (images q).second (possible q x h)

      reach : (images : List ℕ → Pair) → IsPossible start mirror mid images → Led start mirror disks (ds ++ c ∷ []) images
      reach images possible = by_way start mirror disks ds g name x0 at0 images (others images possible) c (ways images (others images possible) (possible name x0 at0))

  -- by these texts
  pub ended_goes : (c : PairDeed) (more : List (List ℕ)) (are : List PairEvent → Type 0) → ((es : List PairEvent) → are es → IsOfPairDeed mirror c was next es more) → Tells (mid name) → Tells (second_view (mirror name) mid)
      → Ways more are (mid name).may_leave (second_view (mirror name) mid).may_leave → HasComeTo start mirror disks (ds ++ c ∷ []) mid
  ended_goes c more are by first_told second_told ways = done_goes c first_told second_told (of_ways c more are by (mid name).may_leave (second_view (mirror name) mid).may_leave ways)

  -- the power fails in it
  pub cut_goes : (c : PairDeed) (are : List PairEvent → Type 0) → ((es : List PairEvent) → are es → IsOfPairDeed mirror c was next es []) → (new : List ℕ → View) → PairOffWithin mirror name was mid new
      → Ways [] are ((mid name).left_since (was name).moment) ((second_view (mirror name) mid).left_since (second_view (mirror name) was).moment) → HasComeTo start mirror disks (ds ++ c ∷ []) new
  cut_goes c are by new off ways = record { first_tells = first_tells; second_tells = second_tells; reach = reach }
    where
      own_second_off : IsOff ((second_view (mirror name) mid).left_since (second_view (mirror name) was).moment) (second_view (mirror name) new)
      own_second_off = second_off_since (mirror name) was mid new off.second

      other_second_off : (q : List ℕ) (x : Member) → member_at q start.members ≡ Some x → q ≢ name → IsOff (second_view (mirror q) was).may_leave (second_view (mirror q) new)
      other_second_off q x h ne = second_off (mirror q) was new (λ s e. off.others s (not_first start mirror apart name x0 at0 q x h s e) (not_mirror start mirror apart name x0 at0 q x h ne s e))

      first_tells : (q : List ℕ) (x : Member) → member_at q start.members ≡ Some x → Tells (new q)
      first_tells q x h = go (bytes_eq q name) refl
        where
          go : (t : Bool) → bytes_eq q name ≡ t → Tells (new q)
          go true e = (let is : q ≡ name = (test_idents.decides q name).0 e in subst (λ (a : List ℕ). Tells (new a)) (sym is) (ap is_some off.first.reads))
          go false e = ap is_some (off.others q (is_other q e) (not_second start mirror apart name x0 at0 q x h)).reads

      second_tells : (q : List ℕ) (x : Member) → member_at q start.members ≡ Some x → Tells (second_view (mirror q) new)
      second_tells q x h = go (bytes_eq q name) refl
        where
          go : (t : Bool) → bytes_eq q name ≡ t → Tells (second_view (mirror q) new)
          go true e = (let is : q ≡ name = (test_idents.decides q name).0 e in subst (λ (a : List ℕ). Tells (second_view (mirror a) new)) (sym is) (ap is_some own_second_off.reads))
          go false e = ap is_some (other_second_off q x h (is_other q e)).reads

      others : (images : List ℕ → Pair) → IsPossible start mirror new images → OthersMay images
      others images possible q x h ne =
          fewer (new q).may_leave (second_view (mirror q) new).may_leave (was q).may_leave (second_view (mirror q) was).may_leave (off_left (was q).may_leave (new q) (off.others q ne (not_second start mirror apart name x0 at0 q x h)))
          (off_left (second_view (mirror q) was).may_leave (second_view (mirror q) new) (other_second_off q x h ne)) (images q).first (images q).second (possible q x h)

      left : (images : List ℕ → Pair) → IsPossible start mirror new images → MayBe ((mid name).left_since (was name).moment) ((second_view (mirror name) mid).left_since (second_view (mirror name) was).moment) (images name).first (images name).second
      left images possible =
          fewer (new name).may_leave (second_view (mirror name) new).may_leave ((mid name).left_since (was name).moment) ((second_view (mirror name) mid).left_since (second_view (mirror name) was).moment)
          (off_left ((mid name).left_since (was name).moment) (new name) off.first) (off_left ((second_view (mirror name) mid).left_since (second_view (mirror name) was).moment) (second_view (mirror name) new) own_second_off)
          (images name).first (images name).second (possible name x0 at0)

      reach : (images : List ℕ → Pair) → IsPossible start mirror new images → Led start mirror disks (ds ++ c ∷ []) images
      reach images possible =
          by_way start mirror disks ds g name x0 at0 images (others images possible) c
          (of_ways c [] are by ((mid name).left_since (was name).moment) ((second_view (mirror name) mid).left_since (second_view (mirror name) was).moment) ways images (others images possible) (left images possible))
