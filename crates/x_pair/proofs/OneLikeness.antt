-- Two images are one thing to one another.
use Rattle.std.proofs.Common.{◌≡◌, inl, inr, ℕ, true, false, List, refl, sym, ◌∙◌, ap, subst}
use Rattle.x_disk.specs.Disk.{View}
use Rattle.key_journal.specs.Journal.{is_blank}
use Rattle.party_state.specs.State.{Party}
use Rattle.key_store.specs.Store.{Stands, IsFirstDamage}
use Rattle.mirror_store.specs.Comparing.{IsComparison, lacks}
use Rattle.mirror_store.specs.declared.comparing.Comparison.{Comparison}
use Rattle.mirror_store.specs.declared.comparing.Comparison.TheVariants as comparison
use Rattle.x_pair.specs.Comparisons.{AreStates, IsLikeness, TellsLikeness, GivesDueLikeness}
use Rattle.x_pair.specs.Looking.{IsLikenessOf, like_of}
use Rattle.x_pair.specs.declared.likeness.Compared.{Compared}
use Rattle.x_pair.specs.declared.likeness.Compared.TheVariants as compared
use Rattle.x_pair.specs.declared.likeness.Likeness.{Likeness}
use Rattle.x_pair.specs.declared.likeness.Likeness.TheVariants as likeness

-- what is found of an image
data Finding : Type 0 where
  IsParty : Party → Finding
  IsBlank : Finding
  IsDamaged : ℕ → Finding

abbrev Finds : List ℕ → Finding → Type 0
Finds image (IsParty p) = Stands image p
Finds image IsBlank = is_blank image ≡ true
Finds image (IsDamaged place) = IsFirstDamage image place

-- what the second image makes of it, where the first is blank and where it stands for a party
abbrev BesideBlank : Finding → Likeness → Type 0
BesideBlank (IsParty two) l = l ≡ likeness.FirstBlank
BesideBlank IsBlank l = l ≡ likeness.BothBlank
BesideBlank (IsDamaged place) l = l ≡ likeness.SecondDamaged place

abbrev BesideParty : Party → Finding → Likeness → Type 0
BesideParty one (IsParty two) l = IsLikenessOf one two l
BesideParty one IsBlank l = l ≡ likeness.SecondBlank
BesideParty one (IsDamaged place) l = l ≡ likeness.SecondDamaged place

abbrev Found : List ℕ → Finding → Likeness → Type 0
Found j (IsParty one) l = (g : Finding) × Finds j g × BesideParty one g l
Found j IsBlank l = (g : Finding) × Finds j g × BesideBlank g l
Found j (IsDamaged place) l = l ≡ likeness.FirstDamaged place

-- a likeness by what is found of the images
states_found : (i j : List ℕ) (c : Comparison) → AreStates i j c → (f : Finding) × Finds i f × Found j f (like_of c)
states_found i j c is = (IsParty is.one, is.first_is, (IsParty is.two, is.second_is, inr (c, is.own, is.comparison, refl)))

found : (i j : List ℕ) (l : Likeness) → IsLikeness i j l → (f : Finding) × Finds i f × Found j f l
found i j likeness.Same is = states_found i j comparison.Same is
found i j likeness.FirstAhead is = states_found i j comparison.FirstAhead is
found i j likeness.SecondAhead is = states_found i j comparison.SecondAhead is
found i j likeness.Neither is = states_found i j comparison.Neither is
found i j likeness.OtherParty is = (IsParty is.one, is.first_is, (IsParty is.two, is.second_is, inl (is.differ, refl)))
found i j likeness.FirstBlank is = (IsBlank, is.0, (IsParty is.1.0, is.1.1, refl))
found i j likeness.SecondBlank is = (IsParty is.0.0, is.0.1, (IsBlank, is.1, refl))
found i j likeness.BothBlank is = (IsBlank, is.0, (IsBlank, is.1, refl))
found i j (likeness.FirstDamaged place) is = (IsDamaged place, is, refl)
found i j (likeness.SecondDamaged place) (inl blank, damage) = (IsBlank, blank, (IsDamaged place, damage, refl))
found i j (likeness.SecondDamaged place) (inr stands, damage) = (IsParty stands.0, stands.1, (IsDamaged place, damage, refl))

-- ---- one comparison of two states

never : {A : Type 0} → true ≡ false → A
never is = absurd (cc is)

same_alike : (p q : Party) → p ≡ q → lacks p q ≡ lacks q p
same_alike p q is = ap (λ (x : Party). lacks x q) is ∙ sym (ap (λ (x : Party). lacks q x) is)

ahead_alike : {A : Type 0} (p q : Party) → lacks q p ≡ true → lacks p q ≡ false → lacks p q ≡ lacks q p → A
ahead_alike p q more less alike = never (sym more ∙ (sym alike ∙ less))

one_comparison : (p q : Party) (c d : Comparison) → IsComparison p q c → IsComparison p q d → c ≡ d
one_comparison p q comparison.Same comparison.Same a b = refl
one_comparison p q comparison.Same comparison.FirstAhead a b = ahead_alike p q b.more b.no_less (same_alike p q a)
one_comparison p q comparison.Same comparison.SecondAhead a b = ahead_alike q p b.more b.no_less (sym (same_alike p q a))
one_comparison p q comparison.Same comparison.Neither a b = absurd (b.differ a)
one_comparison p q comparison.FirstAhead comparison.Same a b = ahead_alike p q a.more a.no_less (same_alike p q b)
one_comparison p q comparison.FirstAhead comparison.FirstAhead a b = refl
one_comparison p q comparison.FirstAhead comparison.SecondAhead a b = never (sym a.more ∙ b.no_less)
one_comparison p q comparison.FirstAhead comparison.Neither a b = ahead_alike p q a.more a.no_less b.alike
one_comparison p q comparison.SecondAhead comparison.Same a b = ahead_alike q p a.more a.no_less (sym (same_alike p q b))
one_comparison p q comparison.SecondAhead comparison.FirstAhead a b = never (sym b.more ∙ a.no_less)
one_comparison p q comparison.SecondAhead comparison.SecondAhead a b = refl
one_comparison p q comparison.SecondAhead comparison.Neither a b = ahead_alike q p a.more a.no_less (sym b.alike)
one_comparison p q comparison.Neither comparison.Same a b = absurd (a.differ b)
one_comparison p q comparison.Neither comparison.FirstAhead a b = ahead_alike p q b.more b.no_less a.alike
one_comparison p q comparison.Neither comparison.SecondAhead a b = ahead_alike q p b.more b.no_less (sym a.alike)
one_comparison p q comparison.Neither comparison.Neither a b = refl

one_of_parties : (p q : Party) (l m : Likeness) → IsLikenessOf p q l → IsLikenessOf p q m → l ≡ m
one_of_parties p q l m (inl a) (inl b) = a.1 ∙ sym b.1
one_of_parties p q l m (inl a) (inr b) = absurd (a.0 b.1)
one_of_parties p q l m (inr a) (inl b) = absurd (b.0 a.1)
one_of_parties p q l m (inr a) (inr b) = a.3 ∙ (ap like_of (one_comparison p q a.0 b.0 a.2 b.2) ∙ sym b.3)

one_beside_blank : (g : Finding) (l m : Likeness) → BesideBlank g l → BesideBlank g m → l ≡ m
one_beside_blank (IsParty two) l m a b = a ∙ sym b
one_beside_blank IsBlank l m a b = a ∙ sym b
one_beside_blank (IsDamaged place) l m a b = a ∙ sym b

one_beside_party : (p : Party) (g : Finding) (l m : Likeness) → BesideParty p g l → BesideParty p g m → l ≡ m
one_beside_party p (IsParty two) l m a b = one_of_parties p two l m a b
one_beside_party p IsBlank l m a b = a ∙ sym b
one_beside_party p (IsDamaged place) l m a b = a ∙ sym b

module _ (unique : (image : List ℕ) (p q : Party) → Stands image p → Stands image q → p ≡ q) (not_blank : (image : List ℕ) (p : Party) → Stands image p → is_blank image ≡ false)
    (undamaged : (image : List ℕ) (p : Party) (place : ℕ) → Stands image p → IsFirstDamage image place → ⊥)
    (one_damage : (image : List ℕ) (a b : ℕ) → IsFirstDamage image a → IsFirstDamage image b → a ≡ b) where
  one_finding : (image : List ℕ) (f g : Finding) → Finds image f → Finds image g → f ≡ g
  one_finding image (IsParty p) (IsParty q) a b = ap IsParty (unique image p q a b)
  one_finding image (IsParty p) IsBlank a b = never (sym b ∙ not_blank image p a)
  one_finding image (IsParty p) (IsDamaged place) a b = absurd (undamaged image p place a b)
  one_finding image IsBlank (IsParty q) a b = never (sym a ∙ not_blank image q b)
  one_finding image IsBlank IsBlank a b = refl
  one_finding image IsBlank (IsDamaged place) a b = never (sym a ∙ b.not_blank)
  one_finding image (IsDamaged place) (IsParty q) a b = absurd (undamaged image q place b a)
  one_finding image (IsDamaged place) IsBlank a b = never (sym b ∙ a.not_blank)
  one_finding image (IsDamaged place) (IsDamaged other) a b = ap IsDamaged (one_damage image place other a b)

  one_found : (j : List ℕ) (f : Finding) (l m : Likeness) → Found j f l → Found j f m → l ≡ m
  one_found j (IsParty p) l m a b = one_beside_party p b.0 l m (subst (λ (g : Finding). BesideParty p g l) (one_finding j a.0 b.0 a.1 b.1) a.2) b.2
  one_found j IsBlank l m a b = one_beside_blank b.0 l m (subst (λ (g : Finding). BesideBlank g l) (one_finding j a.0 b.0 a.1 b.1) a.2) b.2
  one_found j (IsDamaged place) l m a b = a ∙ sym b

  one_likeness : (i j : List ℕ) (l m : Likeness) → IsLikeness i j l → IsLikeness i j m → l ≡ m
  one_likeness i j l m a b =
      let x = found i j l a in
      let y = found i j m b in
      one_found j y.0 l m (subst (λ (f : Finding). Found j f l) (one_finding i x.0 y.0 x.1 y.1) x.2) y.2

  pub likeness_due : (first second : View) (c : Compared) → TellsLikeness first second c → GivesDueLikeness first second c
  likeness_due first second (compared.Done l) tells = λ i j m read is. inl (ap compared.Done (one_likeness i j l m (tells i j read) is))
  likeness_due first second compared.Fault tells = λ i j m read is. inr (inl refl)
  likeness_due first second compared.NoMemory tells = λ i j m read is. inr (inr refl)
