-- By two images one outcome is due.
use Rattle.std.proofs.Common.{◌≡◌, ◌⊎◌, inl, inr, ℕ, false, List, length, true, Option, Some, None, refl, sym, ◌∙◌, ap}
use Rattle.key_journal.specs.Journal.{is_blank}
use Rattle.party_state.specs.State.{Party}
use Rattle.key_store.specs.Store.{Stands, IsFirstDamage}
use Rattle.journal_state.specs.States as journal
use Rattle.member.specs.Member.{Member}
use Rattle.spool_store.specs.Beginning.{HoldsOther}
use Rattle.spool_store.specs.Contents.{Progress, Goes, HoldsPlans, IsSpoolDamage}
use Rattle.x_spool.specs.Dues.{FindsMember, IsDueOther, IsDueOut, IsDueDone, IsDueOtherBatch, IsDueDamaged, IsDueBatch, IsSame, ReadsBatch}
use Rattle.x_spool.specs.declared.outcome.SpoolOutcome.{SpoolOutcome}
use Rattle.x_spool.specs.declared.outcome.SpoolOutcome.TheVariants as outcome
use Rattle.x_spool.proofs.Standing.{OneParty, OneProgress, NotBlank, differ, same_progress, stands_of}

module _ (one_party : OneParty)
    (party_full : (image : List ℕ) (p : Party) → Stands image p → is_blank image ≡ false)
    (party_sound : (image : List ℕ) (p : Party) (place : ℕ) → Stands image p → IsFirstDamage image place → ⊥)
    (party_damage : (image : List ℕ) (a b : ℕ) → IsFirstDamage image a → IsFirstDamage image b → a ≡ b)
    (one_progress : OneProgress) (spool_full : NotBlank)
    (spool_sound : (book : List ℕ) (s : Option Progress) (place : ℕ) → journal.StandsFor Goes None book s → IsSpoolDamage book place → ⊥)
    (spool_damage : (book : List ℕ) (a b : ℕ) → IsSpoolDamage book a → IsSpoolDamage book b → a ≡ b)
    (name image book text : List ℕ) where
  -- where the party of the name stands, the other findings of its image are none
  module _ (x : Member) (found : FindsMember name image x) where
    not_other : (asked own : List ℕ) → IsDueOther name image asked own → ⊥
    not_other asked own other = other.differs (other.own ∙ (ap (λ (p : Party). p.own) (one_party image other.p x.party other.stands (stands_of x image found.stands)) ∙ found.own))

    not_blank : is_blank image ≡ true → ⊥
    not_blank blank = differ (is_blank image) blank (party_full image x.party (stands_of x image found.stands))

    undamaged : (place : ℕ) → IsFirstDamage image place → ⊥
    undamaged place first = party_sound image x.party place (stands_of x image found.stands) first

  sound_book : (p : Progress) (place : ℕ) → HoldsPlans book p → IsSpoolDamage book place → ⊥
  sound_book p place holds first = spool_sound book (Some p) place holds first

  reads_sound : (place : ℕ) → ReadsBatch book text → IsSpoolDamage book place → ⊥
  reads_sound place (inl blank) first = differ (is_blank book) blank first.not_blank
  reads_sound place (inr has) first = sound_book has.same place has.holds first

  reads_same : ReadsBatch book text → HoldsOther book text → ⊥
  reads_same (inl blank) other = differ (is_blank book) blank (spool_full book (Some other.other) other.holds)
  reads_same (inr has) other = other.differs (ap (λ (p : Progress). p.text) (same_progress one_progress book other.other has.same other.holds has.holds) ∙ has.is)

  out_same : (e : ℕ) → IsDueOut name image book text e → HoldsOther book text → ⊥
  out_same e out other = other.differs (ap (λ (p : Progress). p.text) (same_progress one_progress book other.other out.progress other.holds out.holds) ∙ out.same)

  one_entry : (e f : ℕ) → IsDueOut name image book text e → IsDueOut name image book text f → outcome.OutOfStep e ≡ outcome.OutOfStep f
  one_entry e f a b =
      let number : e ≡ f = a.number ∙ (ap (λ (p : Progress). length p.plans) (same_progress one_progress book a.progress b.progress a.holds b.holds) ∙ sym b.number) in
      ap outcome.OutOfStep number

  abbrev Damage : ℕ → Type 0
  Damage place = IsFirstDamage image place ⊎ IsDueDamaged name image book place

  done_undamaged : (place : ℕ) → IsDueDone name image book text → Damage place → ⊥
  done_undamaged place done (inl first) = undamaged done.member done.found place first
  done_undamaged place done (inr d) = reads_sound place done.reads d.first

  out_undamaged : (e place : ℕ) → IsDueOut name image book text e → Damage place → ⊥
  out_undamaged e place out (inl first) = undamaged out.member out.found place first
  out_undamaged e place out (inr d) = sound_book out.progress place out.holds d.first

  batch_undamaged : (place : ℕ) → IsDueOtherBatch name image book text → Damage place → ⊥
  batch_undamaged place b (inl first) = undamaged b.member b.found place first
  batch_undamaged place b (inr d) = sound_book b.other.other place b.other.holds d.first

  other_undamaged : (asked own : List ℕ) (place : ℕ) → IsDueOther name image asked own → Damage place → ⊥
  other_undamaged asked own place other (inl first) = party_sound image other.p place other.stands first
  other_undamaged asked own place other (inr d) = not_other d.member d.found asked own other

  blank_undamaged : (place : ℕ) → is_blank image ≡ true → Damage place → ⊥
  blank_undamaged place blank (inl first) = differ (is_blank image) blank first.not_blank
  blank_undamaged place blank (inr d) = not_blank d.member d.found blank

  other_blank : (asked own : List ℕ) → IsDueOther name image asked own → is_blank image ≡ true → ⊥
  other_blank asked own other blank = differ (is_blank image) blank (party_full image other.p other.stands)

  one_place : (a b : ℕ) → Damage a → Damage b → a ≡ b
  one_place a b (inl first) (inl second) = party_damage image a b first second
  one_place a b (inl first) (inr d) = absurd (undamaged d.member d.found a first)
  one_place a b (inr d) (inl second) = absurd (undamaged d.member d.found b second)
  one_place a b (inr first) (inr second) = spool_damage book a b first.first second.first

  both_other : (asked found called own : List ℕ) → IsDueOther name image asked found → IsDueOther name image called own → outcome.OtherParty asked found ≡ outcome.OtherParty called own
  both_other asked found called own a b =
      let name_is : asked ≡ called = a.called ∙ sym b.called in
      let own_is : found ≡ own = a.own ∙ (ap (λ (p : Party). p.own) (one_party image a.p b.p a.stands b.stands) ∙ sym b.own) in
      cc

  abbrev Due : SpoolOutcome → Type 0
  Due o = IsDueBatch name image book text o

  pub one_due : (a b : SpoolOutcome) → Due a → Due b → IsSame a b
  one_due (outcome.Done t) (outcome.Done u) a b = tt
  one_due (outcome.Done t) outcome.OtherBatch a b = absurd (reads_same a.reads b.other)
  one_due (outcome.Done t) (outcome.OutOfStep f) a b = absurd (a.never_out f b)
  one_due (outcome.Done t) (outcome.OtherParty asked own) a b = absurd (not_other a.member a.found asked own b)
  one_due (outcome.Done t) outcome.Blank a b = absurd (not_blank a.member a.found b)
  one_due (outcome.Done t) (outcome.Damaged place) a b = absurd (done_undamaged place a b)
  one_due (outcome.Done t) outcome.Fault a b = absurd b
  one_due (outcome.Done t) outcome.NoMemory a b = absurd b
  one_due outcome.OtherBatch (outcome.Done u) a b = absurd (reads_same b.reads a.other)
  one_due outcome.OtherBatch outcome.OtherBatch a b = refl
  one_due outcome.OtherBatch (outcome.OutOfStep f) a b = absurd (out_same f b a.other)
  one_due outcome.OtherBatch (outcome.OtherParty asked own) a b = absurd (not_other a.member a.found asked own b)
  one_due outcome.OtherBatch outcome.Blank a b = absurd (not_blank a.member a.found b)
  one_due outcome.OtherBatch (outcome.Damaged place) a b = absurd (batch_undamaged place a b)
  one_due outcome.OtherBatch outcome.Fault a b = absurd b
  one_due outcome.OtherBatch outcome.NoMemory a b = absurd b
  one_due (outcome.OutOfStep e) (outcome.Done u) a b = absurd (b.never_out e a)
  one_due (outcome.OutOfStep e) outcome.OtherBatch a b = absurd (out_same e a b.other)
  one_due (outcome.OutOfStep e) (outcome.OutOfStep f) a b = one_entry e f a b
  one_due (outcome.OutOfStep e) (outcome.OtherParty asked own) a b = absurd (not_other a.member a.found asked own b)
  one_due (outcome.OutOfStep e) outcome.Blank a b = absurd (not_blank a.member a.found b)
  one_due (outcome.OutOfStep e) (outcome.Damaged place) a b = absurd (out_undamaged e place a b)
  one_due (outcome.OutOfStep e) outcome.Fault a b = absurd b
  one_due (outcome.OutOfStep e) outcome.NoMemory a b = absurd b
  one_due (outcome.OtherParty asked own) (outcome.Done u) a b = absurd (not_other b.member b.found asked own a)
  one_due (outcome.OtherParty asked own) outcome.OtherBatch a b = absurd (not_other b.member b.found asked own a)
  one_due (outcome.OtherParty asked own) (outcome.OutOfStep f) a b = absurd (not_other b.member b.found asked own a)
  one_due (outcome.OtherParty asked found) (outcome.OtherParty called own) a b = both_other asked found called own a b
  one_due (outcome.OtherParty asked own) outcome.Blank a b = absurd (other_blank asked own a b)
  one_due (outcome.OtherParty asked own) (outcome.Damaged place) a b = absurd (other_undamaged asked own place a b)
  one_due (outcome.OtherParty asked own) outcome.Fault a b = absurd b
  one_due (outcome.OtherParty asked own) outcome.NoMemory a b = absurd b
  one_due outcome.Blank (outcome.Done u) a b = absurd (not_blank b.member b.found a)
  one_due outcome.Blank outcome.OtherBatch a b = absurd (not_blank b.member b.found a)
  one_due outcome.Blank (outcome.OutOfStep f) a b = absurd (not_blank b.member b.found a)
  one_due outcome.Blank (outcome.OtherParty asked own) a b = absurd (other_blank asked own b a)
  one_due outcome.Blank outcome.Blank a b = refl
  one_due outcome.Blank (outcome.Damaged place) a b = absurd (blank_undamaged place a b)
  one_due outcome.Blank outcome.Fault a b = absurd b
  one_due outcome.Blank outcome.NoMemory a b = absurd b
  one_due (outcome.Damaged place) (outcome.Done u) a b = absurd (done_undamaged place b a)
  one_due (outcome.Damaged place) outcome.OtherBatch a b = absurd (batch_undamaged place b a)
  one_due (outcome.Damaged place) (outcome.OutOfStep f) a b = absurd (out_undamaged f place b a)
  one_due (outcome.Damaged place) (outcome.OtherParty asked own) a b = absurd (other_undamaged asked own place b a)
  one_due (outcome.Damaged place) outcome.Blank a b = absurd (blank_undamaged place b a)
  one_due (outcome.Damaged place) (outcome.Damaged other) a b = ap outcome.Damaged (one_place place other a b)
  one_due (outcome.Damaged place) outcome.Fault a b = absurd b
  one_due (outcome.Damaged place) outcome.NoMemory a b = absurd b
  one_due outcome.Fault other a b = absurd a
  one_due outcome.NoMemory other a b = absurd a
