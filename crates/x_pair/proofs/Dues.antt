-- One outcome is due of two images.
use Rattle.std.proofs.Common.{◌≡◌, ◌⊎◌, inl, inr, ℕ, true, false, List, Option, refl, sym, ◌∙◌, ap, subst}
use Rattle.x_base.specs.declared.verdict.Verdict.{Verdict}
use Rattle.x_disk.specs.Disk.{View}
use Rattle.key_journal.specs.Journal.{is_blank}
use Rattle.key_journal.specs.declared.cause.Cause.TheVariants as cause
use Rattle.party_state.specs.declared.command.Input.{Input}
use Rattle.party_state.specs.State.{Party}
use Rattle.change_code.specs.Whole.{IsTooLarge}
use Rattle.change_code.specs.declared.format.Format.TheVariants.{Two}
use Rattle.change_code.specs.declared.space.Space.{Space}
use Rattle.key_store.specs.Store.{Stands, StandsWith, IsFirstDamage}
use Rattle.member.specs.Member.{Member, Plan}
use Rattle.mirror_store.specs.Pairs.{PairStands, Recovers}
use Rattle.mirror_store.specs.Opening.{AreOthers, HasFirstSpace, IsPairRefusal, IsSound}
use Rattle.mirror_store.specs.Recovering.{IsPairFailure}
use Rattle.mirror_store.specs.Turns.{pair_plan_at}
use Rattle.mirror_store.specs.declared.pair.PairCause.{PairCause}
use Rattle.mirror_store.specs.declared.pair.PairCause.TheVariants.{First, Second, OtherParty}
use Rattle.x_party.specs.declared.outcome.Outcome.{Outcome}
use Rattle.x_party.specs.declared.outcome.Outcome.TheVariants as outcome
use Rattle.x_pair.specs.Dues.{OfDue, IsDueOfPair, IsPlanned, IsToTurn, IsToShow, IsDueShow, IsDueTurn, GivesDuePair}
use Rattle.x_pair.specs.Outcomes.{Work, MakesOf, MakesPair, OfOpened, IsNobody, IsTooLargePair, IsDamagedPair, SaysTurn, SaysShow, showing, turning}

never : {A : Type 0} → true ≡ false → A
never is = absurd (cc is)

-- the outcome is the other one, or a failure came in its place
abbrev IsGiven : Outcome → Outcome → Type 0
IsGiven o other = (o ≡ other) ⊎ ((o ≡ outcome.Fault) ⊎ (o ≡ outcome.NoMemory))

module _ (unique : (image : List ℕ) (p q : Party) → Stands image p → Stands image q → p ≡ q) (not_blank : (image : List ℕ) (p : Party) → Stands image p → is_blank image ≡ false)
    (undamaged : (image : List ℕ) (p : Party) (place : ℕ) → Stands image p → IsFirstDamage image place → ⊥)
    (one_damage : (image : List ℕ) (a b : ℕ) → IsFirstDamage image a → IsFirstDamage image b → a ≡ b)
    (one_party : (a b : List ℕ) (p q : Party) → Recovers a b p → Recovers a b q → p ≡ q)
    (refused : (a b : List ℕ) (p : Party) (reason : PairCause) → Recovers a b p → IsPairRefusal a b reason → IsPairFailure p reason)
    (i j : List ℕ) where
  -- two images are one thing alone
  opened_nobody : {A : Type 0} (p : Party) → Recovers i j p → is_blank i ≡ true → is_blank j ≡ true → A
  opened_nobody p opened first second = absurd (refused i j p (First cause.Blank) opened (first, second))

  opened_others : {A : Type 0} (p : Party) (one other : List ℕ) → Recovers i j p → AreOthers i j one other → A
  opened_others p one other opened apart = absurd (refused i j p (OtherParty one other) opened apart)

  opened_damaged : {A : Type 0} (p : Party) (place : ℕ) → Recovers i j p → IsDamagedPair i j place → A
  opened_damaged p place opened (inl damage) = absurd (refused i j p (First (cause.Damaged place)) opened damage)
  opened_damaged p place opened (inr damage) = absurd (refused i j p (Second (cause.Damaged place)) opened damage)

  nobody_others : {A : Type 0} (one other : List ℕ) → is_blank i ≡ true → AreOthers i j one other → A
  nobody_others one other blank apart = never (sym blank ∙ not_blank i apart.party apart.first_is)

  nobody_damaged : {A : Type 0} (place : ℕ) → is_blank i ≡ true → is_blank j ≡ true → IsDamagedPair i j place → A
  nobody_damaged place first second (inl damage) = never (sym first ∙ damage.not_blank)
  nobody_damaged place first second (inr damage) = never (sym second ∙ damage.1.not_blank)

  others_damaged : {A : Type 0} (one other : List ℕ) (place : ℕ) → AreOthers i j one other → IsDamagedPair i j place → A
  others_damaged one other place apart (inl damage) = absurd (undamaged i apart.party place apart.first_is damage)
  others_damaged one other place apart (inr damage) = absurd (undamaged j apart.second_party place apart.second_is damage.1)

  sound_damaged : {A : Type 0} (place : ℕ) → IsSound i → IsFirstDamage i place → A
  sound_damaged place (inl blank) damage = never (sym blank ∙ damage.not_blank)
  sound_damaged place (inr stands) damage = absurd (undamaged i stands.0 place stands.1 damage)

  one_place : (a b : ℕ) → IsDamagedPair i j a → IsDamagedPair i j b → a ≡ b
  one_place a b (inl x) (inl y) = one_damage i a b x y
  one_place a b (inl x) (inr y) = sound_damaged a y.0 x
  one_place a b (inr x) (inl y) = sound_damaged b x.0 y
  one_place a b (inr x) (inr y) = one_damage j a b x.1 y.1

  same_others : (one other a b : List ℕ) → AreOthers i j one other → AreOthers i j a b → outcome.OtherParty one other ≡ outcome.OtherParty a b
  same_others one other a b x y =
      let first : one ≡ a = x.one_is ∙ (ap (λ (p : Party). p.own) (unique i x.party y.party x.first_is y.first_is) ∙ sym y.one_is) in
      let second : other ≡ b = x.other_is ∙ (ap (λ (p : Party). p.own) (unique j x.second_party y.second_party x.second_is y.second_is) ∙ sym y.other_is) in
      rw (first, second) refl

  same_nobody : (said verdict : Verdict) (answer reply : Option (List ℕ)) → IsNobody i j said answer → IsNobody i j verdict reply → outcome.Refused said answer ≡ outcome.Refused verdict reply
  same_nobody said verdict answer reply x y = rw (x.said, x.written, y.said, y.written) refl

  -- a party that acts, or is due to act, isn't one that is too large
  never_large : {A : Type 0} (p : Party) (said : Verdict) (answer : Option (List ℕ)) → Recovers i j p → ((PairStands i j p → ⊥) → IsTooLarge Two p → ⊥) → IsTooLargePair i j said answer → A
  never_large p said answer recovers small large =
      let same : large.too_large.party ≡ p = one_party i j large.too_large.party p large.too_large.recovers recovers in
      absurd (small (λ both. large.too_large.apart (subst (PairStands i j) (sym same) both)) (subst (IsTooLarge Two) same large.too_large.too_large))

  same_large : (said verdict : Verdict) (answer reply : Option (List ℕ)) → IsTooLargePair i j said answer → IsTooLargePair i j verdict reply → outcome.Refused said answer ≡ outcome.Refused verdict reply
  same_large said verdict answer reply x y = rw (x.said, x.written, y.said, y.written) refl

  due_large : {A : Type 0} (P : Party → Outcome → Type 0) (o : Outcome) (said : Verdict) (answer : Option (List ℕ)) → IsTooLargePair i j said answer → OfDue P i j o → A
  due_large P o said answer large due = never_large due.party said answer due.recovers due.fits large

  -- what is said of the party that is opened is what is due of it
  module _ (w : Work) (P : Party → Outcome → Type 0) (a b : View)
      (agrees : (o other : Outcome) (x y : Member) → HasFirstSpace i x.party x.space → w.Says x o y → P x.party other → o ≡ other) where
    opened_due : (o other : Outcome) → OfOpened w i j a b o → OfDue P i j other → o ≡ other
    opened_due o other opened due =
        agrees o other opened.member opened.next opened.space opened.says (subst (λ (p : Party). P p other) (one_party i j due.party opened.member.party due.recovers opened.recovers) due.is)

    opened_given : (o other : Outcome) → OfOpened w i j a b o → IsDueOfPair P i j other → IsGiven o other
    opened_given o (outcome.Done reply) opened due = inl (opened_due o (outcome.Done reply) opened due)
    opened_given o (outcome.Refused verdict reply) opened (inl due) = inl (opened_due o (outcome.Refused verdict reply) opened due)
    opened_given o (outcome.Refused verdict reply) opened (inr (inl due)) = opened_nobody opened.member.party opened.recovers due.first_blank due.second_blank
    opened_given o (outcome.Refused verdict reply) opened (inr (inr due)) = never_large opened.member.party verdict reply opened.recovers opened.small due
    opened_given o (outcome.OtherParty one two) opened (inl due) = inl (opened_due o (outcome.OtherParty one two) opened due)
    opened_given o (outcome.OtherParty one two) opened (inr due) = opened_others opened.member.party one two opened.recovers due
    opened_given o (outcome.Damaged place) opened due = opened_damaged opened.member.party place opened.recovers due
    opened_given o outcome.Fault opened due = absurd due
    opened_given o outcome.NoMemory opened due = absurd due

    nobody_given : (said : Verdict) (answer : Option (List ℕ)) (other : Outcome) → IsNobody i j said answer → IsDueOfPair P i j other → IsGiven (outcome.Refused said answer) other
    nobody_given said answer (outcome.Done reply) none due = opened_nobody due.party due.recovers none.first_blank none.second_blank
    nobody_given said answer (outcome.Refused verdict reply) none (inl due) = opened_nobody due.party due.recovers none.first_blank none.second_blank
    nobody_given said answer (outcome.Refused verdict reply) none (inr (inl due)) = inl (same_nobody said verdict answer reply none due)
    nobody_given said answer (outcome.Refused verdict reply) none (inr (inr due)) = opened_nobody due.too_large.party due.too_large.recovers none.first_blank none.second_blank
    nobody_given said answer (outcome.OtherParty one two) none (inl due) = opened_nobody due.party due.recovers none.first_blank none.second_blank
    nobody_given said answer (outcome.OtherParty one two) none (inr due) = nobody_others one two none.first_blank due
    nobody_given said answer (outcome.Damaged place) none due = nobody_damaged place none.first_blank none.second_blank due
    nobody_given said answer outcome.Fault none due = absurd due
    nobody_given said answer outcome.NoMemory none due = absurd due

    large_given : (said : Verdict) (answer : Option (List ℕ)) (other : Outcome) → IsTooLargePair i j said answer → IsDueOfPair P i j other → IsGiven (outcome.Refused said answer) other
    large_given said answer (outcome.Done reply) large due = due_large P (outcome.Done reply) said answer large due
    large_given said answer (outcome.Refused verdict reply) large (inl due) = due_large P (outcome.Refused verdict reply) said answer large due
    large_given said answer (outcome.Refused verdict reply) large (inr (inl due)) = opened_nobody large.too_large.party large.too_large.recovers due.first_blank due.second_blank
    large_given said answer (outcome.Refused verdict reply) large (inr (inr due)) = inl (same_large said verdict answer reply large due)
    large_given said answer (outcome.OtherParty one two) large (inl due) = due_large P (outcome.OtherParty one two) said answer large due
    large_given said answer (outcome.OtherParty one two) large (inr due) = opened_others large.too_large.party one two large.too_large.recovers due
    large_given said answer (outcome.Damaged place) large due = opened_damaged large.too_large.party place large.too_large.recovers due
    large_given said answer outcome.Fault large due = absurd due
    large_given said answer outcome.NoMemory large due = absurd due

    others_given : (one two : List ℕ) (other : Outcome) → AreOthers i j one two → IsDueOfPair P i j other → IsGiven (outcome.OtherParty one two) other
    others_given one two (outcome.Done reply) apart due = opened_others due.party one two due.recovers apart
    others_given one two (outcome.Refused verdict reply) apart (inl due) = opened_others due.party one two due.recovers apart
    others_given one two (outcome.Refused verdict reply) apart (inr (inl due)) = nobody_others one two due.first_blank apart
    others_given one two (outcome.Refused verdict reply) apart (inr (inr due)) = opened_others due.too_large.party one two due.too_large.recovers apart
    others_given one two (outcome.OtherParty c d) apart (inl due) = opened_others due.party one two due.recovers apart
    others_given one two (outcome.OtherParty c d) apart (inr due) = inl (same_others one two c d apart due)
    others_given one two (outcome.Damaged place) apart due = others_damaged one two place apart due
    others_given one two outcome.Fault apart due = absurd due
    others_given one two outcome.NoMemory apart due = absurd due

    damaged_given : (place : ℕ) (other : Outcome) → IsDamagedPair i j place → IsDueOfPair P i j other → IsGiven (outcome.Damaged place) other
    damaged_given place (outcome.Done reply) damage due = opened_damaged due.party place due.recovers damage
    damaged_given place (outcome.Refused verdict reply) damage (inl due) = opened_damaged due.party place due.recovers damage
    damaged_given place (outcome.Refused verdict reply) damage (inr (inl due)) = nobody_damaged place due.first_blank due.second_blank damage
    damaged_given place (outcome.Refused verdict reply) damage (inr (inr due)) = opened_damaged due.too_large.party place due.too_large.recovers damage
    damaged_given place (outcome.OtherParty one two) damage (inl due) = opened_damaged due.party place due.recovers damage
    damaged_given place (outcome.OtherParty one two) damage (inr due) = others_damaged one two place due damage
    damaged_given place (outcome.Damaged at) damage due = inl (ap outcome.Damaged (one_place place at damage due))
    damaged_given place outcome.Fault damage due = absurd due
    damaged_given place outcome.NoMemory damage due = absurd due

    pub given : (o other : Outcome) → MakesOf w i j a b o → IsDueOfPair P i j other → IsGiven o other
    given (outcome.Done reply) other makes due = opened_given (outcome.Done reply) other makes due
    given (outcome.Refused said answer) other (inl opened) due = opened_given (outcome.Refused said answer) other opened due
    given (outcome.Refused said answer) other (inr (inl none)) due = nobody_given said answer other none due
    given (outcome.Refused said answer) other (inr (inr large)) due = large_given said answer other large due
    given (outcome.OtherParty one two) other (inl opened) due = opened_given (outcome.OtherParty one two) other opened due
    given (outcome.OtherParty one two) other (inr apart) due = others_given one two other apart due
    given (outcome.Damaged place) other makes due = damaged_given place other makes due
    given outcome.Fault other makes due = inr (inl refl)
    given outcome.NoMemory other makes due = inr (inr refl)

-- ---- what is said of a party and what is due of it

says_show : (o other : Outcome) (x y : Member) → SaysShow x o y → IsToShow x.party other → o ≡ other
says_show (outcome.Done reply) (outcome.Done answer) x y says due = ap outcome.Done (says.0 ∙ sym due)
says_show (outcome.Done reply) (outcome.Refused verdict answer) x y says due = absurd due
says_show (outcome.Done reply) (outcome.OtherParty one two) x y says due = absurd due
says_show (outcome.Done reply) (outcome.Damaged place) x y says due = absurd due
says_show (outcome.Done reply) outcome.Fault x y says due = absurd due
says_show (outcome.Done reply) outcome.NoMemory x y says due = absurd due
says_show (outcome.Refused verdict reply) other x y says due = absurd says
says_show (outcome.OtherParty one two) other x y says due = absurd says
says_show (outcome.Damaged place) other x y says due = absurd says
says_show outcome.Fault other x y says due = absurd says
says_show outcome.NoMemory other x y says due = absurd says

module _ (not_blank : (image : List ℕ) (p : Party) → Stands image p → is_blank image ≡ false)
    (one_space : (image : List ℕ) (first second : Party) (space other : Space) → StandsWith image first space → StandsWith image second other → (first ≡ second) × (space ≡ other))
    (name i : List ℕ) (input : Input) (moment : ℕ) where
  stands_blank : {A : Type 0} (p : Party) (space : Space) → StandsWith i p space → is_blank i ≡ true → A
  stands_blank p space is blank = never (sym blank ∙ not_blank i p (record { format = space.format; stands = record { bodies = is.bodies; holds = is.holds; fold = is.fold } }))

  same_space : (p : Party) (space other : Space) → HasFirstSpace i p space → HasFirstSpace i p other → space ≡ other
  same_space p space other (inl a) (inl b) = (one_space i p p space other a b).1
  same_space p space other (inl a) (inr b) = stands_blank p space a b.0
  same_space p space other (inr a) (inl b) = stands_blank p other b a.0
  same_space p space other (inr a) (inr b) = a.1 ∙ sym b.1

  planned_is : (x : Member) (plan : Plan) → HasFirstSpace i x.party x.space → IsPlanned i x.party input moment plan → plan ≡ pair_plan_at x input moment
  planned_is x plan left at = at.2 ∙ ap (λ (s : Space). pair_plan_at (record { party = x.party; space = s }) input moment) (same_space x.party at.0 x.space at.1 left)

  says_turn : (o other : Outcome) (x y : Member) → HasFirstSpace i x.party x.space → SaysTurn name input moment x o y → IsToTurn name i input moment x.party other → o ≡ other
  says_turn (outcome.Done reply) (outcome.Done answer) x y left says due =
      ap outcome.Done (says.written ∙ sym (due.written ∙ ap (λ (p : Plan). p.reply) (planned_is x due.plan left due.planned)))
  says_turn (outcome.Done reply) (outcome.Refused verdict answer) x y left says due =
      absurd (due.refused (due.said ∙ (ap (λ (p : Plan). p.verdict) (planned_is x due.plan left due.planned) ∙ says.accepted)))
  says_turn (outcome.Done reply) (outcome.OtherParty asked found) x y left says due = absurd (due.differs (due.own ∙ says.own))
  says_turn (outcome.Done reply) (outcome.Damaged place) x y left says due = absurd due
  says_turn (outcome.Done reply) outcome.Fault x y left says due = absurd due
  says_turn (outcome.Done reply) outcome.NoMemory x y left says due = absurd due
  says_turn (outcome.Refused said reply) (outcome.Done answer) x y left says due =
      absurd (says.refused (says.said ∙ (sym (ap (λ (p : Plan). p.verdict) (planned_is x due.plan left due.planned)) ∙ due.accepted)))
  says_turn (outcome.Refused said reply) (outcome.Refused verdict answer) x y left says due =
      let is = planned_is x due.plan left due.planned in
      let one : said ≡ verdict = says.said ∙ sym (due.said ∙ ap (λ (p : Plan). p.verdict) is) in
      let two : reply ≡ answer = says.written ∙ sym (due.written ∙ ap (λ (p : Plan). p.reply) is) in
      rw (one, two) refl
  says_turn (outcome.Refused said reply) (outcome.OtherParty asked found) x y left says due = absurd (due.differs (due.own ∙ says.own))
  says_turn (outcome.Refused said reply) (outcome.Damaged place) x y left says due = absurd due
  says_turn (outcome.Refused said reply) outcome.Fault x y left says due = absurd due
  says_turn (outcome.Refused said reply) outcome.NoMemory x y left says due = absurd due
  says_turn (outcome.OtherParty one two) (outcome.Done answer) x y left says due = absurd (says.differs (says.own ∙ due.own))
  says_turn (outcome.OtherParty one two) (outcome.Refused verdict answer) x y left says due = absurd (says.differs (says.own ∙ due.own))
  says_turn (outcome.OtherParty one two) (outcome.OtherParty asked found) x y left says due =
      let first : one ≡ asked = says.called ∙ sym due.called in
      let second : two ≡ found = says.own ∙ sym due.own in
      rw (first, second) refl
  says_turn (outcome.OtherParty one two) (outcome.Damaged place) x y left says due = absurd due
  says_turn (outcome.OtherParty one two) outcome.Fault x y left says due = absurd due
  says_turn (outcome.OtherParty one two) outcome.NoMemory x y left says due = absurd due
  says_turn (outcome.Damaged place) other x y left says due = absurd says
  says_turn outcome.Fault other x y left says due = absurd says
  says_turn outcome.NoMemory other x y left says due = absurd says

-- ---- the whole calls

module _ (unique : (image : List ℕ) (p q : Party) → Stands image p → Stands image q → p ≡ q) (not_blank : (image : List ℕ) (p : Party) → Stands image p → is_blank image ≡ false)
    (undamaged : (image : List ℕ) (p : Party) (place : ℕ) → Stands image p → IsFirstDamage image place → ⊥)
    (one_damage : (image : List ℕ) (a b : ℕ) → IsFirstDamage image a → IsFirstDamage image b → a ≡ b)
    (one_party : (a b : List ℕ) (p q : Party) → Recovers a b p → Recovers a b q → p ≡ q)
    (refused : (a b : List ℕ) (p : Party) (reason : PairCause) → Recovers a b p → IsPairRefusal a b reason → IsPairFailure p reason)
    (first second a b : View) (o : Outcome) where
  pub show_due : MakesPair showing first second a b o → GivesDuePair first second IsDueShow o
  show_due makes = λ i j other read due.
      given unique not_blank undamaged one_damage one_party refused i j showing (λ party x. IsToShow party x) a b (λ s t x y left says is. says_show s t x y says is) o other (makes i j read) due

  pub turn_due : (one_space : (image : List ℕ) (p q : Party) (space other : Space) → StandsWith image p space → StandsWith image q other → (p ≡ q) × (space ≡ other))
      (name : List ℕ) (input : Input) (moment : ℕ) → MakesPair (turning name input moment) first second a b o → GivesDuePair first second (IsDueTurn name input moment) o
  turn_due one_space name input moment makes = λ i j other read due.
      given unique not_blank undamaged one_damage one_party refused i j (turning name input moment) (λ party x. IsToTurn name i input moment party x) a b
      (λ s t x y left says is. says_turn not_blank one_space name i input moment s t x y left says is) o other (makes i j read) due
