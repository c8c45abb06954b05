-- An image has one outcome that is due, and a call's outcome is that one.
use Rattle.std.proofs.Common.{◌≡◌, ◌⊎◌, inl, inr, ℕ, true, false, List, Option, Some, refl, sym, ap, ◌∙◌, subst}
use Rattle.x_base.specs.declared.verdict.Verdict.{Verdict}
use Rattle.x_base.specs.declared.verdict.Verdict.TheVariants.{Accept}
use Rattle.x_disk.specs.Disk.{View}
use Rattle.key_journal.specs.Journal.{is_blank}
use Rattle.party_state.specs.declared.command.Input.{Input}
use Rattle.party_state.specs.declared.decision.Decision.{Decision}
use Rattle.party_state.specs.State.{Party}
use Rattle.party_show.specs.Show.{shown}
use Rattle.change_code.specs.declared.format.Format.{Format}
use Rattle.change_code.specs.declared.space.Space.{Space}
use Rattle.change_code.specs.Cost.{fits}
use Rattle.key_store.specs.Store.{Stands, StandsAs, StandsWith, IsFirstDamage}
use Rattle.member.specs.Deciding.{decision}
use Rattle.x_party.specs.Images.{OfOwnParty}
use Rattle.x_party.specs.Outcomes.{IsAsDecided, IsTooLong, IsTooLargeIn, IsRefusedTurn, IsNobody, CreatesParty, ShowsParty, RewritesParty, WipesParty, TakesTurn}
use Rattle.x_party.specs.Dues.{Accepts, Refuses, FindsOther, FindsNobody, FitsOneFrame, PassesOneFrame, IsDue, IsDueCreation, IsDueShow, IsDueRewriting, IsDueWiping, GivesDue}
use Rattle.x_party.specs.declared.outcome.Outcome.{Outcome}
use Rattle.x_party.specs.declared.outcome.Outcome.TheVariants as outcome
use Rattle.x_party.proofs.Spaces.{as_format, in_format, so}

-- the outcome is due, or a fault or want of memory came in its place
abbrev pub DueOr : Outcome → Type 0 → Type 0
DueOr o due = due ⊎ ((o ≡ outcome.Fault) ⊎ (o ≡ outcome.NoMemory))

pub gives : (old : View) (o : Outcome) (due : List ℕ → Outcome → Type 0) → ((image : List ℕ) → old.now ≡ Some image → DueOr o (due image o))
    → ((image : List ℕ) (a b : Outcome) → due image a → due image b → a ≡ b) → GivesDue old due o
gives old o due came one = λ image other now is. go image other is (came image now) where
  go : (image : List ℕ) (other : Outcome) → due image other → DueOr o (due image o) → (o ≡ other) ⊎ ((o ≡ outcome.Fault) ⊎ (o ≡ outcome.NoMemory))
  go image other is (inl mine) = inl (one image o other mine is)
  go image other is (inr failed) = inr failed

pub blank_or : {A : Type 0} (image : List ℕ) → is_blank image ≡ true → is_blank image ≡ false → A
blank_or image blank marked = let no : true ≡ false = sym blank ∙ marked in absurd cc

done_same : (r t : Option (List ℕ)) → r ≡ t → outcome.Done r ≡ outcome.Done t
done_same r t reply = cc

refused_same : (v w : Verdict) (r t : Option (List ℕ)) → v ≡ w → r ≡ t → outcome.Refused v r ≡ outcome.Refused w t
refused_same v w r t verdict reply = cc

-- ---- what came is due

due_created : (old new : View) (p : Party) (o : Outcome) → CreatesParty old new p o → (image : List ℕ) → old.now ≡ Some image → DueOr o (IsDueCreation image o)
due_created old new p (outcome.Done reply) is image now = inl (is.reply, is.blank image now)
due_created old new p (outcome.Refused verdict reply) is image now = inl (is.verdict, is.reply, is.not_blank image now)
due_created old new p (outcome.OtherParty asked found) is image now = absurd is
due_created old new p (outcome.Damaged place) is image now = absurd is
due_created old new p outcome.Fault is image now = inr (inl refl)
due_created old new p outcome.NoMemory is image now = inr (inr refl)

pub nobody_due : (old new : View) (image : List ℕ) (verdict : Verdict) (reply : Option (List ℕ)) → old.now ≡ Some image
    → IsNobody old new verdict reply → FindsNobody image verdict reply
nobody_due old new image verdict reply now none = record { blank = none.blank image now; said = none.verdict; written = none.reply }

due_shown : (old new : View) (o : Outcome) → ShowsParty old new o → (image : List ℕ) → old.now ≡ Some image → DueOr o (IsDueShow image o)
due_shown old new (outcome.Done reply) is image now = inl (is.party, so image is.party is.space (is.reads image now), is.holds.text)
due_shown old new (outcome.Refused verdict reply) is image now = inl (nobody_due old new image verdict reply now is)
due_shown old new (outcome.OtherParty asked found) is image now = absurd is
due_shown old new (outcome.Damaged place) is image now = inl (is.first image now)
due_shown old new outcome.Fault is image now = inr (inl refl)
due_shown old new outcome.NoMemory is image now = inr (inr refl)

due_rewritten : (format : Format → Option Format) (old new : View) (o : Outcome) → RewritesParty format old new o → (image : List ℕ) → old.now ≡ Some image → DueOr o (IsDueRewriting format image o)
due_rewritten format old new (outcome.Done reply) k image now = inl (record {
  party = k.party;
  own = k.space.format;
  stood = as_format image k.party k.space (k.reads image now);
  fits = k.holds.fits;
  nothing = k.holds.nothing;
})
due_rewritten format old new (outcome.Refused verdict reply) (inl k) image now = inl (inl (record {
  party = k.party;
  own = k.space.format;
  stood = as_format image k.party k.space (k.reads image now);
  too_large = k.holds.too_large;
  said = k.holds.verdict;
  nothing = k.holds.nothing;
}))
due_rewritten format old new (outcome.Refused verdict reply) (inr none) image now = inl (inr (nobody_due old new image verdict reply now none))
due_rewritten format old new (outcome.OtherParty asked found) is image now = absurd is
due_rewritten format old new (outcome.Damaged place) is image now = inl (is.first image now)
due_rewritten format old new outcome.Fault is image now = inr (inl refl)
due_rewritten format old new outcome.NoMemory is image now = inr (inr refl)

due_wiped : (old new : View) (o : Outcome) → WipesParty old new o → (image : List ℕ) → old.now ≡ Some image → DueOr o (IsDueWiping image o)
due_wiped old new (outcome.Done reply) k image now = inl (record { party = k.party; stood = so image k.party k.space (k.reads image now); nothing = k.holds.nothing })
due_wiped old new (outcome.Refused verdict reply) is image now = inl (nobody_due old new image verdict reply now is)
due_wiped old new (outcome.OtherParty asked found) is image now = absurd is
due_wiped old new (outcome.Damaged place) is image now = inl (is.first image now)
due_wiped old new outcome.Fault is image now = inr (inl refl)
due_wiped old new outcome.NoMemory is image now = inr (inr refl)

-- why a decision is answered by a refusal
abbrev Cause : Decision → Space → Verdict → Option (List ℕ) → Type 0
Cause d space verdict reply = IsAsDecided d verdict reply ⊎ IsTooLong d space verdict reply

module _ (name : List ℕ) (old new : View) (i : Input) (moment : ℕ) (image : List ℕ) (now : old.now ≡ Some image) where
  refused_due : (verdict : Verdict) (reply : Option (List ℕ))
      → OfOwnParty name old (λ party space. IsRefusedTurn old new (decision party i moment) party space verdict reply) ⊎ IsNobody old new verdict reply
      → Refuses name image i moment verdict reply ⊎ FindsNobody image verdict reply
  refused_due verdict reply (inr none) = inr (nobody_due old new image verdict reply now none)
  refused_due verdict reply (inl k) = inl (record { party = k.party; space = k.space; stood = k.reads image now; own = k.own; cause = k.holds.cause })

  due_turned : (o : Outcome) → TakesTurn name old new i moment o → DueOr o (IsDue name i moment image o)
  due_turned (outcome.Done reply) k = inl (record {
    party = k.party;
    space = k.space;
    stood = k.reads image now;
    own = k.own;
    accepted = k.holds.accepts;
    fits = k.holds.fits;
    written = k.holds.reply;
  })
  due_turned (outcome.Refused verdict reply) is = inl (refused_due verdict reply is)
  due_turned (outcome.OtherParty asked found) k = inl (record {
    party = k.party;
    stood = so image k.party k.space (k.reads image now);
    called = k.holds.called;
    own = k.holds.stood;
    differs = λ same. k.holds.differs (k.holds.stood ∙ same);
  })
  due_turned (outcome.Damaged place) is = inl (is.first image now)
  due_turned outcome.Fault is = inr (inl refl)
  due_turned outcome.NoMemory is = inr (inr refl)

-- ---- one outcome is due

one_creation : (image : List ℕ) (a b : Outcome) → IsDueCreation image a → IsDueCreation image b → a ≡ b
one_creation image (outcome.Done r) (outcome.Done t) a b = done_same r t (a.0 ∙ sym b.0)
one_creation image (outcome.Done r) (outcome.Refused w t) a b = blank_or image a.1 b.2
one_creation image (outcome.Done r) (outcome.OtherParty asked found) a b = absurd b
one_creation image (outcome.Done r) (outcome.Damaged place) a b = absurd b
one_creation image (outcome.Done r) outcome.Fault a b = absurd b
one_creation image (outcome.Done r) outcome.NoMemory a b = absurd b
one_creation image (outcome.Refused v r) (outcome.Done t) a b = blank_or image b.1 a.2
one_creation image (outcome.Refused v r) (outcome.Refused w t) a b = refused_same v w r t (a.0 ∙ sym b.0) (a.1 ∙ sym b.1)
one_creation image (outcome.Refused v r) (outcome.OtherParty asked found) a b = absurd b
one_creation image (outcome.Refused v r) (outcome.Damaged place) a b = absurd b
one_creation image (outcome.Refused v r) outcome.Fault a b = absurd b
one_creation image (outcome.Refused v r) outcome.NoMemory a b = absurd b
one_creation image (outcome.OtherParty asked found) b a c = absurd a
one_creation image (outcome.Damaged place) b a c = absurd a
one_creation image outcome.Fault b a c = absurd a
one_creation image outcome.NoMemory b a c = absurd a

pub created_due : (old new : View) (p : Party) (o : Outcome) → CreatesParty old new p o → GivesDue old IsDueCreation o
created_due old new p o is = gives old o IsDueCreation (due_created old new p o is) one_creation

refused_or : {A : Type 0} (d : Decision) (space : Space) (v : Verdict) (r : Option (List ℕ)) → d.verdict ≡ Accept → fits space d.change ≡ true → Cause d space v r → A
refused_or d space v r accepted fit (inl k) = absurd (k.refuses accepted)
refused_or d space v r accepted fit (inr k) = let no : true ≡ false = sym fit ∙ k.full in absurd cc

same_refusal : (d : Decision) (space : Space) (v w : Verdict) (r t : Option (List ℕ)) → Cause d space v r → Cause d space w t
    → outcome.Refused v r ≡ outcome.Refused w t
same_refusal d space v w r t (inl a) (inl b) = refused_same v w r t (a.verdict ∙ sym b.verdict) (a.reply ∙ sym b.reply)
same_refusal d space v w r t (inl a) (inr b) = absurd (a.refuses b.accepts)
same_refusal d space v w r t (inr a) (inl b) = absurd (b.refuses a.accepts)
same_refusal d space v w r t (inr a) (inr b) = refused_same v w r t (a.verdict ∙ sym b.verdict) (a.reply ∙ sym b.reply)

module _ (one_party : (image : List ℕ) (first second : Party) → Stands image first → Stands image second → first ≡ second)
    (not_blank : (image : List ℕ) (party : Party) → Stands image party → is_blank image ≡ false)
    (undamaged : (image : List ℕ) (party : Party) (place : ℕ) → Stands image party → IsFirstDamage image place → ⊥)
    (one_damage : (image : List ℕ) (first second : ℕ) → IsFirstDamage image first → IsFirstDamage image second → first ≡ second) where
  pub stands_or_not : {A : Type 0} (image : List ℕ) (p : Party) (v : Verdict) (r : Option (List ℕ)) → Stands image p → FindsNobody image v r → A
  stands_or_not image p v r stands none = blank_or image none.blank (not_blank image p stands)

  pub both_nobody : (image : List ℕ) (v w : Verdict) (r t : Option (List ℕ)) → FindsNobody image v r → FindsNobody image w t
      → outcome.Refused v r ≡ outcome.Refused w t
  both_nobody image v w r t a b = refused_same v w r t (a.said ∙ sym b.said) (a.written ∙ sym b.written)

  one_show : (image : List ℕ) (a b : Outcome) → IsDueShow image a → IsDueShow image b → a ≡ b
  one_show image (outcome.Done r) (outcome.Done t) a b =
      let same = one_party image a.0 b.0 a.1 b.1 in
      done_same r t (a.2 ∙ (ap (λ (p : Party). Some (shown p)) same ∙ sym b.2))
  one_show image (outcome.Done r) (outcome.Refused w t) a b = stands_or_not image a.0 w t a.1 b
  one_show image (outcome.Done r) (outcome.OtherParty asked found) a b = absurd b
  one_show image (outcome.Done r) (outcome.Damaged place) a b = absurd (undamaged image a.0 place a.1 b)
  one_show image (outcome.Done r) outcome.Fault a b = absurd b
  one_show image (outcome.Done r) outcome.NoMemory a b = absurd b
  one_show image (outcome.Refused v r) (outcome.Done t) a b = stands_or_not image b.0 v r b.1 a
  one_show image (outcome.Refused v r) (outcome.Refused w t) a b = both_nobody image v w r t a b
  one_show image (outcome.Refused v r) (outcome.OtherParty asked found) a b = absurd b
  one_show image (outcome.Refused v r) (outcome.Damaged place) a b = blank_or image a.blank b.not_blank
  one_show image (outcome.Refused v r) outcome.Fault a b = absurd b
  one_show image (outcome.Refused v r) outcome.NoMemory a b = absurd b
  one_show image (outcome.OtherParty asked found) b a c = absurd a
  one_show image (outcome.Damaged place) (outcome.Done t) a b = absurd (undamaged image b.0 place b.1 a)
  one_show image (outcome.Damaged place) (outcome.Refused w t) a b = blank_or image b.blank a.not_blank
  one_show image (outcome.Damaged place) (outcome.OtherParty asked found) a b = absurd b
  one_show image (outcome.Damaged place) (outcome.Damaged other) a b = ap outcome.Damaged (one_damage image place other a b)
  one_show image (outcome.Damaged place) outcome.Fault a b = absurd b
  one_show image (outcome.Damaged place) outcome.NoMemory a b = absurd b
  one_show image outcome.Fault b a c = absurd a
  one_show image outcome.NoMemory b a c = absurd a

  pub shown_due : (old new : View) (o : Outcome) → ShowsParty old new o → GivesDue old IsDueShow o
  shown_due old new o is = gives old o IsDueShow (due_shown old new o is) one_show

  -- ---- a writing of the whole party

  module _ (one_format : (image : List ℕ) (first second : Format) (party other : Party) → StandsAs image first party → StandsAs image second other → first ≡ second)
      (format : Format → Option Format) where
    fits_or : {A : Type 0} (image : List ℕ) (r t : Option (List ℕ)) (w : Verdict) → FitsOneFrame format image r
        → PassesOneFrame format image w t ⊎ FindsNobody image w t → A
    fits_or image r t w a (inl b) =
        let same = one_party image b.party a.party (in_format image b.party b.own b.stood) (in_format image a.party a.own a.stood) in
        let large = subst (IsTooLargeIn (format b.own)) same b.too_large in
        absurd (a.fits (subst (λ (f : Format). IsTooLargeIn (format f) a.party) (one_format image b.own a.own b.party a.party b.stood a.stood) large))
    fits_or image r t w a (inr b) = stands_or_not image a.party w t (in_format image a.party a.own a.stood) b

    undamaged_or : {A : Type 0} (image : List ℕ) (place : ℕ) (w : Verdict) (t : Option (List ℕ)) → IsFirstDamage image place
        → PassesOneFrame format image w t ⊎ FindsNobody image w t → A
    undamaged_or image place w t a (inl b) = absurd (undamaged image b.party place (in_format image b.party b.own b.stood) a)
    undamaged_or image place w t a (inr b) = blank_or image b.blank a.not_blank

    same_full : (image : List ℕ) (v w : Verdict) (r t : Option (List ℕ)) → PassesOneFrame format image v r ⊎ FindsNobody image v r
        → PassesOneFrame format image w t ⊎ FindsNobody image w t → outcome.Refused v r ≡ outcome.Refused w t
    same_full image v w r t (inl a) (inl b) = refused_same v w r t (a.said ∙ sym b.said) (a.nothing ∙ sym b.nothing)
    same_full image v w r t (inl a) (inr b) = stands_or_not image a.party w t (in_format image a.party a.own a.stood) b
    same_full image v w r t (inr a) (inl b) = stands_or_not image b.party v r (in_format image b.party b.own b.stood) a
    same_full image v w r t (inr a) (inr b) = both_nobody image v w r t a b

    one_rewriting : (image : List ℕ) (a b : Outcome) → IsDueRewriting format image a → IsDueRewriting format image b → a ≡ b
    one_rewriting image (outcome.Done r) (outcome.Done t) a b = done_same r t (a.nothing ∙ sym b.nothing)
    one_rewriting image (outcome.Done r) (outcome.Refused w t) a b = fits_or image r t w a b
    one_rewriting image (outcome.Done r) (outcome.OtherParty asked found) a b = absurd b
    one_rewriting image (outcome.Done r) (outcome.Damaged place) a b = absurd (undamaged image a.party place (in_format image a.party a.own a.stood) b)
    one_rewriting image (outcome.Done r) outcome.Fault a b = absurd b
    one_rewriting image (outcome.Done r) outcome.NoMemory a b = absurd b
    one_rewriting image (outcome.Refused v r) (outcome.Done t) a b = fits_or image t r v b a
    one_rewriting image (outcome.Refused v r) (outcome.Refused w t) a b = same_full image v w r t a b
    one_rewriting image (outcome.Refused v r) (outcome.OtherParty asked found) a b = absurd b
    one_rewriting image (outcome.Refused v r) (outcome.Damaged place) a b = undamaged_or image place v r b a
    one_rewriting image (outcome.Refused v r) outcome.Fault a b = absurd b
    one_rewriting image (outcome.Refused v r) outcome.NoMemory a b = absurd b
    one_rewriting image (outcome.OtherParty asked found) b a c = absurd a
    one_rewriting image (outcome.Damaged place) (outcome.Done t) a b = absurd (undamaged image b.party place (in_format image b.party b.own b.stood) a)
    one_rewriting image (outcome.Damaged place) (outcome.Refused w t) a b = undamaged_or image place w t a b
    one_rewriting image (outcome.Damaged place) (outcome.OtherParty asked found) a b = absurd b
    one_rewriting image (outcome.Damaged place) (outcome.Damaged other) a b = ap outcome.Damaged (one_damage image place other a b)
    one_rewriting image (outcome.Damaged place) outcome.Fault a b = absurd b
    one_rewriting image (outcome.Damaged place) outcome.NoMemory a b = absurd b
    one_rewriting image outcome.Fault b a c = absurd a
    one_rewriting image outcome.NoMemory b a c = absurd a

    pub rewritten_due : (old new : View) (o : Outcome) → RewritesParty format old new o → GivesDue old (IsDueRewriting format) o
    rewritten_due old new o is = gives old o (IsDueRewriting format) (due_rewritten format old new o is) one_rewriting

  -- ---- a wiping

  one_wiping : (image : List ℕ) (a b : Outcome) → IsDueWiping image a → IsDueWiping image b → a ≡ b
  one_wiping image (outcome.Done r) (outcome.Done t) a b = done_same r t (a.nothing ∙ sym b.nothing)
  one_wiping image (outcome.Done r) (outcome.Refused w t) a b = stands_or_not image a.party w t a.stood b
  one_wiping image (outcome.Done r) (outcome.OtherParty asked found) a b = absurd b
  one_wiping image (outcome.Done r) (outcome.Damaged place) a b = absurd (undamaged image a.party place a.stood b)
  one_wiping image (outcome.Done r) outcome.Fault a b = absurd b
  one_wiping image (outcome.Done r) outcome.NoMemory a b = absurd b
  one_wiping image (outcome.Refused v r) (outcome.Done t) a b = stands_or_not image b.party v r b.stood a
  one_wiping image (outcome.Refused v r) (outcome.Refused w t) a b = both_nobody image v w r t a b
  one_wiping image (outcome.Refused v r) (outcome.OtherParty asked found) a b = absurd b
  one_wiping image (outcome.Refused v r) (outcome.Damaged place) a b = blank_or image a.blank b.not_blank
  one_wiping image (outcome.Refused v r) outcome.Fault a b = absurd b
  one_wiping image (outcome.Refused v r) outcome.NoMemory a b = absurd b
  one_wiping image (outcome.OtherParty asked found) b a c = absurd a
  one_wiping image (outcome.Damaged place) (outcome.Done t) a b = absurd (undamaged image b.party place b.stood a)
  one_wiping image (outcome.Damaged place) (outcome.Refused w t) a b = blank_or image b.blank a.not_blank
  one_wiping image (outcome.Damaged place) (outcome.OtherParty asked found) a b = absurd b
  one_wiping image (outcome.Damaged place) (outcome.Damaged other) a b = ap outcome.Damaged (one_damage image place other a b)
  one_wiping image (outcome.Damaged place) outcome.Fault a b = absurd b
  one_wiping image (outcome.Damaged place) outcome.NoMemory a b = absurd b
  one_wiping image outcome.Fault b a c = absurd a
  one_wiping image outcome.NoMemory b a c = absurd a

  pub wiped_due : (old new : View) (o : Outcome) → WipesParty old new o → GivesDue old IsDueWiping o
  wiped_due old new o is = gives old o IsDueWiping (due_wiped old new o is) one_wiping

  -- ---- a turn

  module _ (one_space : (image : List ℕ) (first second : Party) (s t : Space) → StandsWith image first s → StandsWith image second t → (first ≡ second) × (s ≡ t))
      (name : List ℕ) (i : Input) (moment : ℕ) where
    accepts_or : {A : Type 0} (image : List ℕ) (r t : Option (List ℕ)) (w : Verdict) → Accepts name image i moment r
        → Refuses name image i moment w t ⊎ FindsNobody image w t → A
    accepts_or image r t w a (inl b) =
        let same = one_space image a.party b.party a.space b.space a.stood b.stood in
        let fit = subst (λ (s : Space). fits s (decision a.party i moment).change ≡ true) same.1 a.fits in
        refused_or (decision b.party i moment) b.space w t (subst (λ (p : Party). (decision p i moment).verdict ≡ Accept) same.0 a.accepted)
        (subst (λ (p : Party). fits b.space (decision p i moment).change ≡ true) same.0 fit) b.cause
    accepts_or image r t w a (inr b) = stands_or_not image a.party w t (so image a.party a.space a.stood) b

    both_accept : (image : List ℕ) (r t : Option (List ℕ)) → Accepts name image i moment r → Accepts name image i moment t → outcome.Done r ≡ outcome.Done t
    both_accept image r t a b =
        let same = one_space image a.party b.party a.space b.space a.stood b.stood in
        done_same r t (a.written ∙ (ap (λ (p : Party). (decision p i moment).reply) same.0 ∙ sym b.written))

    damaged_or : {A : Type 0} (image : List ℕ) (place : ℕ) (w : Verdict) (t : Option (List ℕ)) → IsFirstDamage image place
        → Refuses name image i moment w t ⊎ FindsNobody image w t → A
    damaged_or image place w t a (inl b) = absurd (undamaged image b.party place (so image b.party b.space b.stood) a)
    damaged_or image place w t a (inr b) = blank_or image b.blank a.not_blank

    both_refuse : (image : List ℕ) (v w : Verdict) (r t : Option (List ℕ)) → Refuses name image i moment v r ⊎ FindsNobody image v r
        → Refuses name image i moment w t ⊎ FindsNobody image w t → outcome.Refused v r ≡ outcome.Refused w t
    both_refuse image v w r t (inl a) (inl b) =
        let same = one_space image b.party a.party b.space a.space b.stood a.stood in
        same_refusal (decision a.party i moment) a.space v w r t a.cause
        (subst (λ (s : Space). Cause (decision a.party i moment) s w t) same.1 (subst (λ (p : Party). Cause (decision p i moment) b.space w t) same.0 b.cause))
    both_refuse image v w r t (inl a) (inr b) = stands_or_not image a.party w t (so image a.party a.space a.stood) b
    both_refuse image v w r t (inr a) (inl b) = stands_or_not image b.party v r (so image b.party b.space b.stood) a
    both_refuse image v w r t (inr a) (inr b) = both_nobody image v w r t a b

    -- the party of the name, and another
    own_or : {A : Type 0} (image asked found : List ℕ) (p : Party) → Stands image p → p.own ≡ name → FindsOther name image asked found → A
    own_or image asked found p stood own b = absurd (b.differs (subst (λ (q : Party). q.own ≡ name) (one_party image p b.party stood b.stood) own))

    refuses_or : {A : Type 0} (image asked found : List ℕ) (v : Verdict) (r : Option (List ℕ)) → Refuses name image i moment v r ⊎ FindsNobody image v r
        → FindsOther name image asked found → A
    refuses_or image asked found v r (inl a) b = own_or image asked found a.party (so image a.party a.space a.stood) a.own b
    refuses_or image asked found v r (inr a) b = stands_or_not image b.party v r b.stood a

    both_other : (image asked found called other : List ℕ) → FindsOther name image asked found → FindsOther name image called other → outcome.OtherParty asked found ≡ outcome.OtherParty called other
    both_other image asked found called other a b =
        let name_is : asked ≡ called = a.called ∙ sym b.called in
        let own_is : found ≡ other = a.own ∙ (ap (λ (p : Party). p.own) (one_party image a.party b.party a.stood b.stood) ∙ sym b.own) in
        cc

    one_turn : (image : List ℕ) (a b : Outcome) → IsDue name i moment image a → IsDue name i moment image b → a ≡ b
    one_turn image (outcome.Done r) (outcome.Done t) a b = both_accept image r t a b
    one_turn image (outcome.Done r) (outcome.Refused w t) a b = accepts_or image r t w a b
    one_turn image (outcome.Done r) (outcome.OtherParty asked found) a b = own_or image asked found a.party (so image a.party a.space a.stood) a.own b
    one_turn image (outcome.Done r) (outcome.Damaged place) a b = absurd (undamaged image a.party place (so image a.party a.space a.stood) b)
    one_turn image (outcome.Done r) outcome.Fault a b = absurd b
    one_turn image (outcome.Done r) outcome.NoMemory a b = absurd b
    one_turn image (outcome.Refused v r) (outcome.Done t) a b = accepts_or image t r v b a
    one_turn image (outcome.Refused v r) (outcome.Refused w t) a b = both_refuse image v w r t a b
    one_turn image (outcome.Refused v r) (outcome.OtherParty asked found) a b = refuses_or image asked found v r a b
    one_turn image (outcome.Refused v r) (outcome.Damaged place) a b = damaged_or image place v r b a
    one_turn image (outcome.Refused v r) outcome.Fault a b = absurd b
    one_turn image (outcome.Refused v r) outcome.NoMemory a b = absurd b
    one_turn image (outcome.OtherParty asked found) (outcome.Done t) a b = own_or image asked found b.party (so image b.party b.space b.stood) b.own a
    one_turn image (outcome.OtherParty asked found) (outcome.Refused w t) a b = refuses_or image asked found w t b a
    one_turn image (outcome.OtherParty asked found) (outcome.OtherParty called other) a b = both_other image asked found called other a b
    one_turn image (outcome.OtherParty asked found) (outcome.Damaged place) a b = absurd (undamaged image a.party place a.stood b)
    one_turn image (outcome.OtherParty asked found) outcome.Fault a b = absurd b
    one_turn image (outcome.OtherParty asked found) outcome.NoMemory a b = absurd b
    one_turn image (outcome.Damaged place) (outcome.Done t) a b = absurd (undamaged image b.party place (so image b.party b.space b.stood) a)
    one_turn image (outcome.Damaged place) (outcome.Refused w t) a b = damaged_or image place w t a b
    one_turn image (outcome.Damaged place) (outcome.OtherParty asked found) a b = absurd (undamaged image b.party place b.stood a)
    one_turn image (outcome.Damaged place) (outcome.Damaged other) a b = ap outcome.Damaged (one_damage image place other a b)
    one_turn image (outcome.Damaged place) outcome.Fault a b = absurd b
    one_turn image (outcome.Damaged place) outcome.NoMemory a b = absurd b
    one_turn image outcome.Fault b a c = absurd a
    one_turn image outcome.NoMemory b a c = absurd a

    pub turned_due : (old new : View) (o : Outcome) → TakesTurn name old new i moment o → GivesDue old (IsDue name i moment) o
    turned_due old new o is = gives old o (IsDue name i moment) (λ image now. due_turned name old new i moment image now o is) one_turn
