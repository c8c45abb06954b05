-- Images of a party's two disks, the first of which may be left out: then it is lost, and the second decides alone.
use Rattle.std.proofs.Common.{◌≡◌, ◌⊎◌, inl, inr, ℕ, Bool, true, false, cond, Option, Some, None, is_some, List, refl, sym, ◌∙◌, ap, subst}
use Rattle.x_disk.specs.Disk.{View, Tells}
use Rattle.key_journal.specs.Journal.{is_blank}
use Rattle.party_state.specs.State.{Party}
use Rattle.change_code.specs.Cost.{can_compact, space_of_whole}
use Rattle.change_code.specs.Whole.{IsTooLarge}
use Rattle.change_code.specs.declared.format.Format.{Format}
use Rattle.change_code.specs.declared.format.Format.TheVariants.{Two}
use Rattle.change_code.specs.declared.space.Space.{Space}
use Rattle.key_journal.specs.States.{room_of}
use Rattle.key_store.specs.Store.{Stands, StandsWith}
use Rattle.member.specs.Member.{Member}
use Rattle.mirror_store.specs.Pairs.{Recovers}
use Rattle.mirror_store.specs.Opening.{HasFirstSpace}
use Rattle.x_pair.specs.Outcomes.{BothStand}
use Rattle.mirror_laws.specs.Runs.{FirstDisk}
use Rattle.mirror_laws.specs.Deeds.{RecoversAs}
use Rattle.mirror_laws.proofs.Moves.{after_lost}

-- the images, the first one or none
pub record Pair : Type 0 where
  pub first : Option (List ℕ)
  pub second : List ℕ

-- the member stands for them
abbrev pub StandsFor : Option (List ℕ) → List ℕ → Member → Type 0
StandsFor (Some c) d x = RecoversAs c d x
StandsFor None d x = Stands d x.party

-- a crash may leave them, by what it may leave of each disk
abbrev pub MayBe : (List ℕ → Type 0) → (List ℕ → Type 0) → Option (List ℕ) → List ℕ → Type 0
MayBe P Q (Some c) d = P c × Q d
MayBe P Q None d = Q d × (is_blank d ≡ false)

-- the image is blank, or stands for a party of this name
abbrev pub IsLike : List ℕ → List ℕ → Type 0
IsLike name d = (is_blank d ≡ true) ⊎ ((p : Party) × Stands d p × (p.own ≡ name))

pub fewer : (P Q P2 Q2 : List ℕ → Type 0) → ((c : List ℕ) → P c → P2 c) → ((d : List ℕ) → Q d → Q2 d) → (f : Option (List ℕ)) (d : List ℕ) → MayBe P Q f d → MayBe P2 Q2 f d
fewer P Q P2 Q2 first second (Some c) d may = (first c may.0, second d may.1)
fewer P Q P2 Q2 first second None d may = (second d may.0, may.1)

pub by_blank : (c : List ℕ) → (is_blank c ≡ true) ⊎ (is_blank c ≡ false)
by_blank c = go (is_blank c)
  where
    go : (b : Bool) → (b ≡ true) ⊎ (b ≡ false)
    go true = inl refl
    go false = inr refl

pub told : (v : View) → Tells v → (b : List ℕ) × (v.now ≡ Some b)
told v tells = go v.now tells
  where
    go : (o : Option (List ℕ)) → is_some o ≡ true → (b : List ℕ) × (o ≡ Some b)
    go (Some b) is = (b, refl)
    go None is = absurd (cc is)

pub stands_so : (image : List ℕ) (p : Party) (left : Space) → StandsWith image p left → Stands image p
stands_so image p left is = record { format = left.format; stands = record { bodies = is.bodies; holds = is.holds; fold = is.fold } }

-- the space with which it stands
abbrev pub space_of : (image : List ℕ) (p : Party) → Stands image p → Space
space_of image p is = record { format = is.format; room = room_of is.stands.bodies }

pub stands_with : (image : List ℕ) (p : Party) (is : Stands image p) → StandsWith image p (space_of image p is)
stands_with image p is = record { bodies = is.stands.bodies; holds = is.stands.holds; fold = is.stands.fold; left = refl }

-- what is known of images
pub record Known : Type 0 where
  pub not_blank : (image : List ℕ) (p : Party) → Stands image p → is_blank image ≡ false
  pub one_space : (image : List ℕ) (p q : Party) (left other : Space) → StandsWith image p left → StandsWith image q other → (p ≡ q) × (left ≡ other)
  pub large : (f : Format) (p : Party) → can_compact f p ≡ false → IsTooLarge f p

-- its space is that of one frame, or it is too large for one
abbrev pub IsWholeOrLarge : Member → Type 0
IsWholeOrLarge x = (x.space ≡ space_of_whole Two x.party) ⊎ IsTooLarge Two x.party

module _ (known : Known) where
  pub one_party : (image : List ℕ) (p q : Party) → Stands image p → Stands image q → p ≡ q
  one_party image p q a b = (known.one_space image p q (space_of image p a) (space_of image q b) (stands_with image p a) (stands_with image q b)).0

  pub never_blank : {A : Type 0} (image : List ℕ) (p : Party) → is_blank image ≡ true → Stands image p → A
  never_blank image p blank stands = (let is : true ≡ false = sym blank ∙ known.not_blank image p stands in absurd (cc is))

  -- ---- a first image that stands

  pub opened_first : (c d name : List ℕ) (x : Member) → x.party.own ≡ name → StandsWith c x.party x.space → IsLike name d → RecoversAs c d x
  opened_first c d name x own stands (inl blank) = record { recovers = inl (stands_so c x.party x.space stands, inl blank); space = inl (inl stands) }
  opened_first c d name x own stands (inr other) =
      record { recovers = inl (stands_so c x.party x.space stands, inr (other.0, other.1, other.2 ∙ sym own)); space = inl (inl stands) }

  pub first_stands : (c d : List ℕ) (x : Member) → RecoversAs c d x → is_blank c ≡ false → StandsWith c x.party x.space
  first_stands c d x is not = go is.space
    where
      blank_never : {A : Type 0} → is_blank c ≡ true → A
      blank_never blank = (let lie : true ≡ false = sym blank ∙ not in absurd (cc lie))

      go : HasFirstSpace c x.party x.space ⊎ ((is_blank c ≡ true) × IsTooLarge Two x.party) → StandsWith c x.party x.space
      go (inl (inl stands)) = stands
      go (inl (inr blank)) = blank_never blank.0
      go (inr blank) = blank_never blank.0

  -- ---- a first image that is blank

  pub opened_second : (c d : List ℕ) (x : Member) → is_blank c ≡ true → Stands d x.party → IsWholeOrLarge x → RecoversAs c d x
  opened_second c d x blank stands (inl whole) = record { recovers = inr (blank, stands); space = inl (inr (blank, whole)) }
  opened_second c d x blank stands (inr large) = record { recovers = inr (blank, stands); space = inr (blank, large) }

  pub second_stands : (c d : List ℕ) (x : Member) → RecoversAs c d x → is_blank c ≡ true → Stands d x.party
  second_stands c d x is blank = go is.recovers
    where
      go : Recovers c d x.party → Stands d x.party
      go (inl first) = never_blank c x.party blank first.0
      go (inr second) = second.1

  pub second_space : (c d : List ℕ) (x : Member) → RecoversAs c d x → is_blank c ≡ true → IsWholeOrLarge x
  second_space c d x is blank = go is.space
    where
      go : HasFirstSpace c x.party x.space ⊎ ((is_blank c ≡ true) × IsTooLarge Two x.party) → IsWholeOrLarge x
      go (inl (inl stands)) = never_blank c x.party blank (stands_so c x.party x.space stands)
      go (inl (inr whole)) = inl whole.1
      go (inr large) = inr large.1

  -- another blank image is as good
  pub blank_again : (b c d : List ℕ) (x : Member) → RecoversAs b d x → is_blank b ≡ true → is_blank c ≡ true → RecoversAs c d x
  blank_again b c d x is was blank = opened_second c d x blank (second_stands b d x is was) (second_space b d x is was)

  -- where the first disk is lost, the second decides
  pub opened_lost : (c d : List ℕ) (x : Member) → is_blank c ≡ true → Stands d x.party → RecoversAs c d (after_lost FirstDisk x)
  opened_lost c d x blank stands = go (can_compact Two x.party) refl
    where
      go : (b : Bool) → can_compact Two x.party ≡ b → RecoversAs c d (cond b (record { party = x.party; space = space_of_whole Two x.party }) x)
      go true fits = opened_second c d (record { party = x.party; space = space_of_whole Two x.party }) blank stands (inl refl)
      go false unfit = opened_second c d x blank stands (inr (known.large Two x.party unfit))

  -- ---- the second image

  pub like_opened : (c d name : List ℕ) (x : Member) → x.party.own ≡ name → RecoversAs c d x → IsLike name d
  like_opened c d name x own is = go is.recovers
    where
      go : Recovers c d x.party → IsLike name d
      go (inl (stands, inl blank)) = inl blank
      go (inl (stands, inr other)) = inr (other.0, other.1, other.2 ∙ own)
      go (inr second) = inr (x.party, second.1, own)

  pub own_like : (name d : List ℕ) (p : Party) → Stands d p → IsLike name d → p.own ≡ name
  own_like name d p stands (inl blank) = never_blank d p blank stands
  own_like name d p stands (inr other) = ap (λ (q : Party). q.own) (one_party d p other.0 stands other.1) ∙ other.2

  -- beside a first image, or none, another second one of the same party is as good
  pub same_second : (name : List ℕ) (f : Option (List ℕ)) (was d : List ℕ) (x : Member) → x.party.own ≡ name → (p : Party) → Stands was p → Stands d p → StandsFor f was x → StandsFor f d x
  same_second name (Some c) was d x own p before now is = elim (by_blank c) [
    | inl blank ↦ opened_second c d x blank (subst (Stands d) (one_party was p x.party before (second_stands c was x is blank)) now) (second_space c was x is blank)
    | inr not ↦ opened_first c d name x own (first_stands c was x is not) (inr (p, now, own_like name was p before (like_opened c was name x own is)))
  ]
  same_second name None was d x own p before now is = subst (Stands d) (one_party was p x.party before is) now

  -- ---- both disks stand

  module _ (first second : View) (x : Member) (both : BothStand first second x) (i j : List ℕ) (first_now : first.now ≡ Some i) (second_now : second.now ≡ Some j) where
    first_is : (c : List ℕ) → first.may_leave c → StandsWith c x.party x.space
    first_is c left = subst (λ (b : List ℕ). StandsWith b x.party x.space) (sym (both.on_first.durable.only i c first_now left)) (both.on_first.reads i first_now)

    second_is : (d : List ℕ) → second.may_leave d → Stands d x.party
    second_is d left = subst (λ (b : List ℕ). Stands b x.party) (sym (both.durable.only j d second_now left)) (both.on_second j second_now)

    pub both_stand : (name : List ℕ) → x.party.own ≡ name → (f : Option (List ℕ)) (d : List ℕ) → MayBe first.may_leave second.may_leave f d → StandsFor f d x
    both_stand name own (Some c) d may = opened_first c d name x own (first_is c may.0) (inr (x.party, second_is d may.1, own))
    both_stand name own None d may = second_is d may.0
