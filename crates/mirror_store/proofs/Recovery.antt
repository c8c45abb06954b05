-- What is opened from what a crash left.
use Rattle.std.proofs.Common.{◌≡◌, ◌⊎◌, inl, inr, ℕ, List, true, false, refl, sym, ◌∙◌, ap, subst}
use Rattle.key_journal.specs.Journal.{is_blank}
use Rattle.key_journal.specs.declared.cause.Cause.TheVariants as cause
use Rattle.party_state.specs.State.{Party}
use Rattle.change_code.specs.declared.format.Format.TheVariants.{Two}
use Rattle.change_code.specs.Whole.{IsTooLarge}
use Rattle.key_store.specs.Store.{Stands, IsFirstDamage}
use Rattle.mirror_store.specs.Pairs.{IsBlankOrLike, Recovers}
use Rattle.mirror_store.specs.Opening.{IsPairRefusal}
use Rattle.mirror_store.specs.Recovering.{IsEither, RecoversEither, IsLeft, RecoversOther, IsPairFailure}
use Rattle.mirror_store.specs.declared.pair.PairCause.{PairCause}
use Rattle.mirror_store.specs.declared.pair.PairCause.TheVariants.{First, Second, OtherParty, TooLarge}

never_both : true ≡ false → ⊥
never_both is = cc is

pub turned : (p q : Party) (i j : List ℕ) → q.own ≡ p.own → IsEither p q i → IsEither p q j → RecoversEither p q i j
turned p q i j own (inl first) (inl second) = inl (inl (first, inr (p, second, refl)))
turned p q i j own (inl first) (inr second) = inl (inl (first, inr (q, second, own)))
turned p q i j own (inr first) (inl second) = inr (inl (first, inr (p, second, sym own)))
turned p q i j own (inr first) (inr second) = inr (inl (first, inr (q, second, refl)))

pub first_lost : (p q : Party) (b j : List ℕ) → is_blank b ≡ true → IsEither p q j → RecoversEither p q b j
first_lost p q b j blank (inl second) = inl (inr (blank, second))
first_lost p q b j blank (inr second) = inr (inr (blank, second))

pub second_lost : (p q : Party) (i b : List ℕ) → is_blank b ≡ true → IsEither p q i → RecoversEither p q i b
second_lost p q i b blank (inl first) = inl (inl (first, inl blank))
second_lost p q i b blank (inr first) = inr (inl (first, inl blank))

module _ (unique : (image : List ℕ) (p q : Party) → Stands image p → Stands image q → p ≡ q) (not_blank : (image : List ℕ) (p : Party) → Stands image p → is_blank image ≡ false)
    (undamaged : (image : List ℕ) (p : Party) (place : ℕ) → Stands image p → IsFirstDamage image place → ⊥) where
  blank_never : (i : List ℕ) (p : Party) → is_blank i ≡ true → Stands i p → ⊥
  blank_never i p blank stands = never_both (sym blank ∙ not_blank i p stands)

  -- what is left of an image that stands for the party
  left_stands : (i c : List ℕ) (party : Party) → Stands i party → IsLeft i party c → Stands c party
  left_stands i c party stands (inl is) = is
  left_stands i c party stands (inr (inl blank)) = absurd (blank_never i party blank.0 stands)
  left_stands i c party stands (inr (inr was)) = subst (λ (p : Party). Stands c p) (unique i was.0 party was.1 stands) was.2

  -- what is left of one that is blank or stands for a party of the same identity
  left_like : (j d : List ℕ) (party : Party) → IsBlankOrLike party j → IsLeft j party d → IsBlankOrLike party d
  left_like j d party like (inl is) = inr (party, is, refl)
  left_like j d party like (inr (inl blank)) = inl blank.1
  left_like j d party (inl blank) (inr (inr was)) = absurd (blank_never j was.0 blank was.1)
  left_like j d party (inr other) (inr (inr was)) = inr (was.0, was.2, ap (λ (p : Party). p.own) (unique j was.0 other.0 was.1 other.1) ∙ other.2)

  pub opened : (i j c d : List ℕ) (party : Party) → Recovers i j party → IsLeft i party c → IsLeft j party d → Recovers c d party
  opened i j c d party (inl is) first second = inl (left_stands i c party is.0 first, left_like j d party is.1 second)
  opened i j c d party (inr is) (inl first) second = inl (first, inr (party, left_stands j d party is.1 second, refl))
  opened i j c d party (inr is) (inr (inl blank)) second = inr (blank.1, left_stands j d party is.1 second)
  opened i j c d party (inr is) (inr (inr was)) second = absurd (blank_never i was.0 is.0 was.1)

  pub opened_first_lost : (i j b d : List ℕ) (party : Party) → is_blank i ≡ false → is_blank j ≡ false → is_blank b ≡ true → IsLeft j party d → Recovers b d party ⊎ RecoversOther j b d
  opened_first_lost i j b d party first second blank (inl is) = inl (inr (blank, is))
  opened_first_lost i j b d party first second blank (inr (inl gone)) = absurd (never_both (sym gone.0 ∙ second))
  opened_first_lost i j b d party first second blank (inr (inr was)) = inr (record { party = was.0; stands = was.1; recovers = inr (blank, was.2) })

  pub opened_second_lost : (i j c b : List ℕ) (party : Party) → Recovers i j party → is_blank i ≡ false → is_blank b ≡ true → IsLeft i party c → Recovers c b party
  opened_second_lost i j c b party (inl is) first blank left = inl (left_stands i c party is.0 left, inl blank)
  opened_second_lost i j c b party (inr is) first blank left = absurd (never_both (sym is.0 ∙ first))

  pub one_party : (i j : List ℕ) (p q : Party) → Recovers i j p → Recovers i j q → p ≡ q
  one_party i j p q (inl a) (inl b) = unique i p q a.0 b.0
  one_party i j p q (inl a) (inr b) = absurd (blank_never i p b.0 a.0)
  one_party i j p q (inr a) (inl b) = absurd (blank_never i q a.0 b.0)
  one_party i j p q (inr a) (inr b) = unique j p q a.1 b.1

  never_blank : (i j : List ℕ) (party : Party) → Recovers i j party → is_blank i ≡ true → is_blank j ≡ true → ⊥
  never_blank i j party (inl is) first second = blank_never i party first is.0
  never_blank i j party (inr is) first second = blank_never j party second is.1

  first_undamaged : (i j : List ℕ) (party : Party) (place : ℕ) → Recovers i j party → (is_blank i ≡ true → IsFirstDamage i place → ⊥) → IsFirstDamage i place → ⊥
  first_undamaged i j party place (inl is) never damage = undamaged i party place is.0 damage
  first_undamaged i j party place (inr is) never damage = never is.0 damage

  second_undamaged : (i j : List ℕ) (party : Party) (place : ℕ) → Recovers i j party → (is_blank j ≡ true → IsFirstDamage j place → ⊥) → IsFirstDamage j place → ⊥
  second_undamaged i j party place (inl (stands, inl blank)) never damage = never blank damage
  second_undamaged i j party place (inl (stands, inr other)) never damage = undamaged j other.0 place other.1 damage
  second_undamaged i j party place (inr is) never damage = undamaged j party place is.1 damage

  damage_not_blank : (image : List ℕ) (place : ℕ) → is_blank image ≡ true → IsFirstDamage image place → ⊥
  damage_not_blank image place blank damage = never_both (sym blank ∙ damage.not_blank)

  same_identity : (i j : List ℕ) (party one other : Party) → Recovers i j party → Stands i one → Stands j other → one.own ≡ other.own
  same_identity i j party one other (inl (stands, inl blank)) first second = absurd (blank_never j other blank second)
  same_identity i j party one other (inl (stands, inr like)) first second =
      ap (λ (p : Party). p.own) (unique i one party first stands) ∙ (sym like.2 ∙ ap (λ (p : Party). p.own) (unique j like.0 other like.1 second))
  same_identity i j party one other (inr is) first second = absurd (blank_never i one is.0 first)

  pub refused : (i j : List ℕ) (party : Party) (reason : PairCause) → Recovers i j party → IsPairRefusal i j reason → IsPairFailure party reason
  refused i j party (First cause.Blank) recovers is = absurd (never_blank i j party recovers is.0 is.1)
  refused i j party (First cause.NotEmpty) recovers is = absurd is
  refused i j party (First (cause.Damaged place)) recovers is = absurd (first_undamaged i j party place recovers (damage_not_blank i place) is)
  refused i j party (First cause.Fault) recovers is = tt
  refused i j party (First cause.NoMemory) recovers is = tt
  refused i j party (Second cause.Blank) recovers is = absurd is
  refused i j party (Second cause.NotEmpty) recovers is = absurd is
  refused i j party (Second (cause.Damaged place)) recovers is = absurd (second_undamaged i j party place recovers (damage_not_blank j place) is.1)
  refused i j party (Second cause.Fault) recovers is = tt
  refused i j party (Second cause.NoMemory) recovers is = tt
  refused i j party (OtherParty one other) recovers is = absurd (is.apart (is.one_is ∙ (same_identity i j party is.party is.second_party recovers is.first_is is.second_is ∙ sym is.other_is)))
  refused i j party TooLarge recovers is = subst (IsTooLarge Two) (one_party i j is.party party is.recovers recovers) is.too_large
