-- The notice of a turn over two disks.
use Rattle.std.proofs.Common.{◌≡◌, inl, inr, ℕ, List, Option, Some, None, Ok, refl, sym, ◌∙◌, subst}
use Rattle.x_disk.specs.Disk.{View}
use Rattle.x_disk.specs.Shelf.{IsAlike}
use Rattle.key_journal.specs.declared.cause.Cause.TheVariants as cause
use Rattle.csm_grammar.specs.declared.arrival.Arrival.{Arrival}
use Rattle.party_state.specs.declared.command.Input.{Input}
use Rattle.party_state.specs.declared.command.Input.TheVariants.{Arrived}
use Rattle.party_state.specs.State.{Party}
use Rattle.member.specs.Deciding.{decision}
use Rattle.disk_pair.specs.declared.disks.Disks.{Disks}
use Rattle.disk_pair.proofs.Around.{IsFailed, IsTold}
use Rattle.mirror_store.specs.Pairs.{Recovers, Twin}
use Rattle.mirror_store.specs.Opening.{AreRead, IsPairOpened}
use Rattle.mirror_store.specs.declared.pair.PairCause.{PairCause}
use Rattle.mirror_store.specs.declared.pair.PairCause.TheVariants.{First, Second, OtherParty, TooLarge}
use Rattle.x_party.specs.Notices.{class_word, kept_notice, notice_of}
use Rattle.x_party.specs.declared.outcome.Outcome.{Outcome}
use Rattle.x_party.specs.declared.outcome.Outcome.TheVariants as outcome
use Rattle.x_pair.specs.Notices.{HasPairNotice, notice_for}
use Rattle.x_pair.specs.Steps.{failure_of, outcome_of_pair}

-- the notice of what the party that is opened decides of the message
abbrev IsOpenedNotice : View → View → Arrival → ℕ → Option (List ℕ) → Type 0
IsOpenedNotice first second a moment notice = (i j : List ℕ) (party : Party) → AreRead first second i j → Recovers i j party
    → notice ≡ Some (notice_of (class_word a.parsed.message) (decision party (Arrived a) moment).change)

module _ {D : Type 0} (told : D → View) (old : Disks D) (m : Twin D) (opened : IsPairOpened told old (Ok m)) (one_party : (i j : List ℕ) (p q : Party) → Recovers i j p → Recovers i j q → p ≡ q)
    (state : Party) (stood : state ≡ m.first.party) (input : Input) (class : Option (List ℕ)) (moment : ℕ) (notice : Option (List ℕ)) (is : notice ≡ notice_for class (decision state input moment).change)
    (a : Arrival) (arrived : input ≡ Arrived a) (named : class ≡ Some (class_word a.parsed.message)) where
  opened_notice : IsOpenedNotice (told old.first) (told old.second) a moment notice
  opened_notice = λ i j party read recovers.
      subst (λ (p : Party). notice ≡ Some (notice_of (class_word a.parsed.message) (decision p (Arrived a) moment).change)) (stood ∙ one_party i j m.first.party party (opened.exact i j read) recovers)
      (subst (λ (x : Input). notice ≡ Some (notice_of (class_word a.parsed.message) (decision state x moment).change)) arrived
      (subst (λ (c : Option (List ℕ)). notice ≡ notice_for c (decision state input moment).change) named is))

  -- it is kept where the turn is done
  pub kept : (o : Outcome) → HasPairNotice (told old.first) (told old.second) a moment o (kept_notice o notice)
  kept (outcome.Done reply) = opened_notice
  kept (outcome.Refused verdict reply) = refl
  kept (outcome.OtherParty asked found) = refl
  kept (outcome.Damaged place) = refl
  kept outcome.Fault = refl
  kept outcome.NoMemory = refl

-- where no party is opened there is none
pub unopened : (first second : View) (a : Arrival) (moment : ℕ) (reason : PairCause) → HasPairNotice first second a moment (outcome_of_pair reason) (kept_notice (outcome_of_pair reason) None)
unopened first second a moment (First cause.Blank) = refl
unopened first second a moment (First cause.NotEmpty) = refl
unopened first second a moment (First (cause.Damaged place)) = refl
unopened first second a moment (First cause.Fault) = refl
unopened first second a moment (First cause.NoMemory) = refl
unopened first second a moment (Second cause.Blank) = refl
unopened first second a moment (Second cause.NotEmpty) = refl
unopened first second a moment (Second (cause.Damaged place)) = refl
unopened first second a moment (Second cause.Fault) = refl
unopened first second a moment (Second cause.NoMemory) = refl
unopened first second a moment (OtherParty one other) = refl
unopened first second a moment TooLarge = refl

-- nor where the disks aren't fetched
pub unfetched : (first second : View) (a : Arrival) (moment : ℕ) (o : Outcome) (before after : ℕ) → IsFailed failure_of o before after → HasPairNotice first second a moment o None
unfetched first second a moment o before after (inl is) = subst (λ (x : Outcome). HasPairNotice first second a moment x None) (sym is) refl
unfetched first second a moment o before after (inr is) = subst (λ (x : Outcome). HasPairNotice first second a moment x None) (sym is.0) refl

-- what was told of the disks that were fetched is told of those on the shelf, where they are put back
module _ (first second out_first out_second : View) (first_out : IsAlike first out_first) (second_out : IsAlike second out_second) (a : Arrival) (moment : ℕ) (notice : Option (List ℕ)) where
  notice_out : (o : Outcome) → HasPairNotice out_first out_second a moment o (kept_notice o notice) → HasPairNotice first second a moment o (kept_notice o notice)
  notice_out (outcome.Done reply) has = λ i j party read recovers. has i j party (record { first = first_out.now ∙ read.first; second = second_out.now ∙ read.second }) recovers
  notice_out (outcome.Refused verdict reply) has = refl
  notice_out (outcome.OtherParty asked found) has = refl
  notice_out (outcome.Damaged place) has = refl
  notice_out outcome.Fault has = refl
  notice_out outcome.NoMemory has = refl

  pub closed : (o result : Outcome) (before after : ℕ) → IsTold failure_of o before after result → HasPairNotice out_first out_second a moment o (kept_notice o notice) → HasPairNotice first second a moment result (kept_notice result notice)
  closed o result before after (inl is) has = subst (λ (x : Outcome). HasPairNotice first second a moment x (kept_notice x notice)) (sym is) (notice_out o has)
  closed o result before after (inr (inl is)) has = subst (λ (x : Outcome). HasPairNotice first second a moment x (kept_notice x notice)) (sym is) refl
  closed o result before after (inr (inr is)) has = subst (λ (x : Outcome). HasPairNotice first second a moment x (kept_notice x notice)) (sym is.0) refl
