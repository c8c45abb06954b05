-- By which events a member goes on to the images that a call over its two disks leaves.
use Rattle.std.proofs.Common.{◌≡◌, inl, inr, ℕ, true, false, Option, Some, None, List, [], ◌∷◌, sym, ◌∙◌, subst}
use Rattle.x_disk.specs.Disk.{View}
use Rattle.key_journal.specs.Journal.{is_blank}
use Rattle.party_state.specs.State.{Party}
use Rattle.key_store.specs.Store.{Stands, StandsWith}
use Rattle.member.specs.Member.{Member}
use Rattle.world_laws.specs.World.{World, member_at}
use Rattle.mirror_laws.specs.Runs.{FirstDisk, PairEvent, Loses, pair_run, ArePairEvents}
use Rattle.mirror_laws.specs.Deeds.{MayBeBlank}
use Rattle.mirror_laws.proofs.Moves.{Moved, unmoved, after_lost, lost_moves}
use Rattle.mirror_laws.proofs.Images.{StandsFor, MayBe, IsLike, by_blank, Known, one_party, never_blank, opened_first, first_stands, opened_second, second_stands, second_space, blank_again, opened_lost, like_opened, own_like}

-- under this name somebody stands for the images
pub record Somebody (name : List ℕ) (f : Option (List ℕ)) (d : List ℕ) : Type 0 where
  pub member : Member
  pub own : member.party.own ≡ name
  pub stands : StandsFor f d member

-- the network goes on to somebody who does
pub record Arrives (name : List ℕ) (w later : World) (texts : List (List ℕ)) (f : Option (List ℕ)) (d : List ℕ) : Type 0 where
  pub member : Member
  pub moved : Moved name w later texts member
  pub stands : StandsFor f d member

-- it does so from this member, by events of which this holds
pub record Going (name : List ℕ) (x : Member) (texts : List (List ℕ)) (are : List PairEvent → Type 0) (f : Option (List ℕ)) (d : List ℕ) : Type 0 where
  pub events : List PairEvent
  pub is : are events
  pub are_events : ArePairEvents events
  pub arrives : (n : ℕ) (w : World) → member_at name w.members ≡ Some x → Arrives name w (pair_run n w events) texts f d

-- it does so from images that could be left before
pub record Way (name : List ℕ) (P Q : List ℕ → Type 0) (some : (f : Option (List ℕ)) (d : List ℕ) → MayBe P Q f d → Somebody name f d) (texts : List (List ℕ)) (are : List PairEvent → Type 0)
    (f : Option (List ℕ)) (d : List ℕ) : Type 0 where
  pub from_first : Option (List ℕ)
  pub from_second : List ℕ
  pub possible : MayBe P Q from_first from_second
  pub going : Going name (some from_first from_second possible).member texts are f d

-- nothing happens
pub still_going : (name : List ℕ) (x : Member) (are : List PairEvent → Type 0) → are [] → (f : Option (List ℕ)) (d : List ℕ) → StandsFor f d x → Going name x [] are f d
still_going name x are none f d stands = record {
  events = [];
  is = none;
  are_events = tt;
  arrives = λ n w at. record { member = x; moved = unmoved name w x at; stands = stands };
}

-- an image of the first disk that a call leaves: it stands for the member as it was, or as it is then, is blank as it was, or could be
-- left before
pub data FirstLeft (x next : Member) (Change : Type 0) (P : List ℕ → Type 0) (was image : List ℕ) : Type 0 where
  OldFirst : StandsWith image x.party x.space → FirstLeft x next Change P was image
  NewFirst : Change → StandsWith image next.party next.space → FirstLeft x next Change P was image
  BlankFirst : is_blank was ≡ true → is_blank image ≡ true → FirstLeft x next Change P was image
  WasFirst : P image → FirstLeft x next Change P was image

-- of the second
pub data SecondLeft (x next : Member) (Change : Type 0) (Q : List ℕ → Type 0) (was image : List ℕ) : Type 0 where
  OldSecond : Stands image x.party → SecondLeft x next Change Q was image
  NewSecond : Change → Stands image next.party → SecondLeft x next Change Q was image
  BlankSecond : is_blank was ≡ true → is_blank image ≡ true → SecondLeft x next Change Q was image
  SameSecond : (p : Party) → Stands was p → Stands image p → SecondLeft x next Change Q was image
  WasSecond : Q image → SecondLeft x next Change Q was image

-- where both disks stay
pub untouched_way : (name : List ℕ) (P Q : List ℕ → Type 0) (some : (f : Option (List ℕ)) (d : List ℕ) → MayBe P Q f d → Somebody name f d) (are : List PairEvent → Type 0) → are []
    → (f : Option (List ℕ)) (d : List ℕ) → MayBe P Q f d → Way name P Q some [] are f d
untouched_way name P Q some are none f d may = record { from_first = f; from_second = d; possible = may; going = still_going name (some f d may).member are none f d (some f d may).stands }

-- the call is made over two disks that gave these images when they were read. Where it changes something, there is a next member, to
-- whom the network goes on by the events
module _ (known : Known) (name : List ℕ) (first second : View) (some : (f : Option (List ℕ)) (d : List ℕ) → MayBe first.may_leave second.may_leave f d → Somebody name f d)
    (was_first was_second : List ℕ) (first_left : first.may_leave was_first) (second_left : second.may_leave was_second) (are : List PairEvent → Type 0) (none : are [])
    (again : MayBeBlank first → are (Loses name FirstDisk ∷ [])) (next : Member) (Change : Type 0) (next_own : Change → next.party.own ≡ name)
    (cut_going : Change → (f : Option (List ℕ)) (d : List ℕ) → StandsFor f d next → Going name (some (Some was_first) was_second (first_left, second_left)).member [] are f d)
    (cut_lost_going : Change → MayBeBlank first → (f : Option (List ℕ)) (d : List ℕ) → StandsFor f d (after_lost FirstDisk next) → Going name (some (Some was_first) was_second (first_left, second_left)).member [] are f d) where
  abbrev here : Somebody name (Some was_first) was_second
  here = some (Some was_first) was_second (first_left, second_left)

  abbrev x : Member
  x = here.member

  abbrev WayTo : Option (List ℕ) → List ℕ → Type 0
  WayTo f d = Way name first.may_leave second.may_leave some [] are f d

  here_way : (f : Option (List ℕ)) (d : List ℕ) → Going name x [] are f d → WayTo f d
  here_way f d going = record { from_first = Some was_first; from_second = was_second; possible = (first_left, second_left); going = going }

  lost_going : MayBeBlank first → (f : Option (List ℕ)) (d : List ℕ) → StandsFor f d (after_lost FirstDisk x) → Going name x [] are f d
  lost_going blank f d stands = record {
    events = Loses name FirstDisk ∷ [];
    is = again blank;
    are_events = (tt, tt);
    arrives = λ n w at. record { member = after_lost FirstDisk x; moved = lost_moves name w x at FirstDisk n; stands = stands };
  }

  like_now : (d : List ℕ) → second.may_leave d → IsLike name d
  like_now d left = let k : Somebody name (Some was_first) d = some (Some was_first) d (first_left, left) in like_opened known was_first d name k.member k.own k.stands

  abbrev Left : List ℕ → Type 0
  Left d = SecondLeft x next Change second.may_leave was_second d

  like_left : (d : List ℕ) → Left d → IsLike name d
  like_left d (OldSecond stands) = inr (x.party, stands, here.own)
  like_left d (NewSecond change stands) = inr (next.party, stands, next_own change)
  like_left d (BlankSecond was blank) = inl blank
  like_left d (SameSecond p was stands) = inr (p, stands, own_like known name was_second p was (like_now was_second second_left))
  like_left d (WasSecond left) = like_now d left

  -- the first image is blank
  blank_way : (c d : List ℕ) → is_blank c ≡ true → (b : MayBeBlank first) → Left d → WayTo (Some c) d
  blank_way c d blank b (OldSecond stands) = here_way (Some c) d (lost_going b (Some c) d (opened_lost known c d x blank stands))
  blank_way c d blank b (NewSecond change stands) = here_way (Some c) d (cut_lost_going change b (Some c) d (opened_lost known c d next blank stands))
  blank_way c d blank b (BlankSecond was now) =
      let k : Somebody name (Some b.image) was_second = some (Some b.image) was_second (b.left, second_left) in
      never_blank known was_second k.member.party was (second_stands known b.image was_second k.member k.stands b.blank)
  blank_way c d blank b (SameSecond p was stands) =
      let k : Somebody name (Some b.image) was_second = some (Some b.image) was_second (b.left, second_left) in
      let same : p ≡ k.member.party = one_party known was_second p k.member.party was (second_stands known b.image was_second k.member k.stands b.blank) in
      record {
        from_first = Some b.image;
        from_second = was_second;
        possible = (b.left, second_left);
        going = still_going name k.member are none (Some c) d
            (opened_second known c d k.member blank (subst (Stands d) same stands) (second_space known b.image was_second k.member k.stands b.blank));
      }
  blank_way c d blank b (WasSecond left) =
      let k : Somebody name (Some b.image) d = some (Some b.image) d (b.left, left) in
      record {
        from_first = Some b.image;
        from_second = d;
        possible = (b.left, left);
        going = still_going name k.member are none (Some c) d (blank_again known b.image c d k.member k.stands b.blank blank);
      }

  -- it could be left before, and isn't blank
  stood_way : (c d : List ℕ) → first.may_leave c → is_blank c ≡ false → Left d → WayTo (Some c) d
  stood_way c d may not left =
      let k : Somebody name (Some c) was_second = some (Some c) was_second (may, second_left) in
      record {
        from_first = Some c;
        from_second = was_second;
        possible = (may, second_left);
        going = still_going name k.member are none (Some c) d (opened_first known c d name k.member k.own (first_stands known c was_second k.member k.stands not) (like_left d left));
      }

  first_way : (c d : List ℕ) → FirstLeft x next Change first.may_leave was_first c → Left d → WayTo (Some c) d
  first_way c d (OldFirst stands) left = here_way (Some c) d (still_going name x are none (Some c) d (opened_first known c d name x here.own stands (like_left d left)))
  first_way c d (NewFirst change stands) left = here_way (Some c) d (cut_going change (Some c) d (opened_first known c d name next (next_own change) stands (like_left d left)))
  first_way c d (BlankFirst was blank) left = blank_way c d blank (record { image = was_first; left = first_left; blank = was }) left
  first_way c d (WasFirst may) left = elim (by_blank c) [
    | inl blank ↦ blank_way c d blank (record { image = c; left = may; blank = blank }) left
    | inr not ↦ stood_way c d may not left
  ]

  -- the first image is left out
  second_way : (d : List ℕ) → is_blank d ≡ false → Left d → WayTo None d
  second_way d not (OldSecond stands) = here_way None d (still_going name x are none None d stands)
  second_way d not (NewSecond change stands) = here_way None d (cut_going change None d stands)
  second_way d not (BlankSecond was blank) = (let lie : true ≡ false = sym blank ∙ not in absurd (cc lie))
  second_way d not (SameSecond p was stands) =
      let possible : MayBe first.may_leave second.may_leave None was_second = (second_left, known.not_blank was_second p was) in
      let k : Somebody name None was_second = some None was_second possible in
      record {
        from_first = None;
        from_second = was_second;
        possible = possible;
        going = still_going name k.member are none None d (subst (Stands d) (one_party known was_second p k.member.party was k.stands) stands);
      }
  second_way d not (WasSecond left) = untouched_way name first.may_leave second.may_leave some are none None d (left, not)

  pub left_way : (f : Option (List ℕ)) (d : List ℕ) → MayBe (FirstLeft x next Change first.may_leave was_first) (SecondLeft x next Change second.may_leave was_second) f d → WayTo f d
  left_way (Some c) d left = first_way c d left.0 left.1
  left_way None d left = second_way d left.1 left.0

-- a way by events of which more holds
pub way_more : (name : List ℕ) (P Q : List ℕ → Type 0) (some : (f : Option (List ℕ)) (d : List ℕ) → MayBe P Q f d → Somebody name f d) (texts : List (List ℕ)) (are more : List PairEvent → Type 0) → ((es : List PairEvent) → are es → more es)
    → (f : Option (List ℕ)) (d : List ℕ) → Way name P Q some texts are f d → Way name P Q some texts more f d
way_more name P Q some texts are more by f d way = record {
  from_first = way.from_first;
  from_second = way.from_second;
  possible = way.possible;
  going = record { events = way.going.events; is = by way.going.events way.going.is; are_events = way.going.are_events; arrives = way.going.arrives };
}

-- a way by some texts, which are those of its events
pub record SomeWay (name : List ℕ) (P Q : List ℕ → Type 0) (some : (f : Option (List ℕ)) (d : List ℕ) → MayBe P Q f d → Somebody name f d) (are : List PairEvent → List (List ℕ) → Type 0) (f : Option (List ℕ)) (d : List ℕ) : Type 0 where
  pub texts : List (List ℕ)
  pub way : Way name P Q some texts (λ es. are es texts) f d

pub some_way : (name : List ℕ) (P Q : List ℕ → Type 0) (some : (f : Option (List ℕ)) (d : List ℕ) → MayBe P Q f d → Somebody name f d) (texts : List (List ℕ)) (are : List PairEvent → Type 0) (more : List PairEvent → List (List ℕ) → Type 0)
    → ((es : List PairEvent) → are es → more es texts) → (f : Option (List ℕ)) (d : List ℕ) → Way name P Q some texts are f d → SomeWay name P Q some more f d
some_way name P Q some texts are more by f d way = record { texts = texts; way = way_more name P Q some texts are (λ es. more es texts) by f d way }
