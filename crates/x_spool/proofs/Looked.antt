-- A spool is opened, and its outbox is told.
use Rattle.std.proofs.Common.{◌≡◌, ◌⊎◌, inl, inr, ℕ, ◌-◌, List, length, Option, Some, None, Ok, Err, refl, sym, ◌∙◌, ap, subst, arith}
use Rattle.x_base.specs.Edge.{Rose}
use Rattle.x_disk.specs.Disk.{View, IsUntouched}
use Rattle.x_disk.specs.Shelf.{ShelfView}
use Rattle.key_journal.specs.Journal.{is_blank}
use Rattle.key_journal.specs.declared.cause.Cause.{Cause}
use Rattle.key_journal.specs.declared.cause.Cause.TheVariants as cause
use Rattle.key_journal.specs.declared.cause.Unmade.{Unmade}
use Rattle.journal_state.specs.States as journal
use Rattle.spool_store.specs.Contents.{Progress, Goes, IsSpoolDamage}
use Rattle.spool_store.specs.Opening.{IsOpenRefusal, IsSpoolOpened}
use Rattle.spool_store.specs.Spools.{Spooled, outbox_of}
use Rattle.x_disk.proofs.Alike.{alike_trans, untouched_around}
use Rattle.disk_pair.proofs.Around.{rose_from, rose_some}
use Rattle.x_spool.specs.Outboxes.{IsDueOutbox, IsNoFailure, IsOutbox, GivesOutbox, LeavesOne, ShowsOutbox}
use Rattle.x_spool.specs.Looks.{HandsOutbox, HasLooked, IsEndOf, IsReturned, IsTaken, look_of}
use Rattle.x_spool.specs.declared.outcome.OutboxOutcome.{OutboxOutcome}
use Rattle.x_spool.specs.declared.outcome.OutboxOutcome.TheVariants as outbox
use Rattle.x_spool.proofs.Standing.{OneProgress, NotBlank, differ, same_progress}

-- by an image one outcome is due
module _ (one : OneProgress) (full : NotBlank)
    (sound : (book : List ℕ) (s : Option Progress) (place : ℕ) → journal.StandsFor Goes None book s → IsSpoolDamage book place → ⊥)
    (damage : (book : List ℕ) (a b : ℕ) → IsSpoolDamage book a → IsSpoolDamage book b → a ≡ b) (book : List ℕ) where
  same_look : (t u : List ℕ) (m n : ℕ) → IsOutbox book t m → IsOutbox book u n → outbox.Done t m ≡ outbox.Done u n
  same_look t u m n a b =
      let same : a.progress ≡ b.progress = same_progress one book a.progress b.progress a.holds b.holds in
      let text : t ≡ u = a.outbox ∙ (ap (λ (p : Progress). outbox_of p.plans) same ∙ sym b.outbox) in
      let missing : m ≡ n = a.missing_is ∙ (ap (λ (p : Progress). length p.entries - length p.plans) same ∙ sym b.missing_is) in
      cc

  pub one_look : (a b : OutboxOutcome) → IsDueOutbox book a → IsDueOutbox book b → a ≡ b
  one_look (outbox.Done t m) (outbox.Done u n) a b = same_look t u m n a b
  one_look (outbox.Done t m) outbox.Blank a b = absurd (differ (is_blank book) b (full book (Some a.progress) a.holds))
  one_look (outbox.Done t m) (outbox.Damaged place) a b = absurd (sound book (Some a.progress) place a.holds b)
  one_look (outbox.Done t m) outbox.Fault a b = absurd b
  one_look (outbox.Done t m) outbox.NoMemory a b = absurd b
  one_look outbox.Blank (outbox.Done u n) a b = absurd (differ (is_blank book) a (full book (Some b.progress) b.holds))
  one_look outbox.Blank outbox.Blank a b = refl
  one_look outbox.Blank (outbox.Damaged place) a b = absurd (differ (is_blank book) a b.not_blank)
  one_look outbox.Blank outbox.Fault a b = absurd b
  one_look outbox.Blank outbox.NoMemory a b = absurd b
  one_look (outbox.Damaged place) (outbox.Done u n) a b = absurd (sound book (Some b.progress) place b.holds a)
  one_look (outbox.Damaged place) outbox.Blank a b = absurd (differ (is_blank book) b a.not_blank)
  one_look (outbox.Damaged place) (outbox.Damaged other) a b = ap outbox.Damaged (damage book place other a b)
  one_look (outbox.Damaged place) outbox.Fault a b = absurd b
  one_look (outbox.Damaged place) outbox.NoMemory a b = absurd b
  one_look outbox.Fault other a b = absurd a
  one_look outbox.NoMemory other a b = absurd a

pub gives : ((book : List ℕ) (a b : OutboxOutcome) → IsDueOutbox book a → IsDueOutbox book b → a ≡ b) → (disk : View) (o : OutboxOutcome) → ShowsOutbox disk o → GivesOutbox disk o
gives one disk (outbox.Done t m) shows = λ book other now due. inl (one book (outbox.Done t m) other (shows book now tt) due)
gives one disk outbox.Blank shows = λ book other now due. inl (one book outbox.Blank other (shows book now tt) due)
gives one disk (outbox.Damaged place) shows = λ book other now due. inl (one book (outbox.Damaged place) other (shows book now tt) due)
gives one disk outbox.Fault shows = λ book other now due. inr (inl refl)
gives one disk outbox.NoMemory shows = λ book other now due. inr (inr refl)

-- what is told of a disk whose spool is opened, or isn't
module _ {D : Type 0} (told : D → View) (old : D) where
  refused : (reason : Cause) (book : List ℕ) → IsOpenRefusal book reason → IsNoFailure (look_of reason) → IsDueOutbox book (look_of reason)
  refused cause.Blank book is answered = is
  refused cause.NotEmpty book is answered = absurd is
  refused (cause.Damaged place) book is answered = is
  refused cause.Fault book is answered = absurd answered
  refused cause.NoMemory book is answered = absurd answered

  fault_cause : (reason : Cause) → look_of reason ≡ outbox.Fault → reason ≡ cause.Fault
  fault_cause cause.Blank is = absurd (cc is)
  fault_cause cause.NotEmpty is = absurd (cc is)
  fault_cause (cause.Damaged place) is = absurd (cc is)
  fault_cause cause.Fault is = refl
  fault_cause cause.NoMemory is = absurd (cc is)

  unopened : (u : Unmade D) → IsSpoolOpened told old (Err u) → HasLooked told old u.disk (look_of u.cause)
  unopened u opened = record {
    shows = λ book now answered. refused u.cause book (opened.refused book now) answered;
    untouched = opened.untouched;
    faults = opened.faults;
    fault = λ is. opened.fault (fault_cause u.cause is);
  }

  pub not_looked : (u : Unmade D) (o : OutboxOutcome) → o ≡ look_of u.cause → IsSpoolOpened told old (Err u) → HasLooked told old u.disk o
  not_looked u o is opened = subst (HasLooked told old u.disk) (sym is) (unopened u opened)

  module _ (s : Spooled D) (opened : IsSpoolOpened told old (Ok s)) (disk : D) (same : disk ≡ s.disk) where
    looked : (o : OutboxOutcome) → ShowsOutbox (told old) o → (o ≡ outbox.Fault → ⊥) → HasLooked told old disk o
    looked o shows none = subst (λ (d : D). HasLooked told old d o) (sym same) (record { shows = shows; untouched = opened.untouched; faults = opened.faults; fault = λ is. absurd (none is) })

    pub told_by : (o : OutboxOutcome) → HandsOutbox s.progress o → HasLooked told old disk o
    told_by (outbox.Done text missing) is = looked (outbox.Done text missing) (λ book now answered. record { progress = s.progress; holds = opened.reads book now; outbox = is.0; missing_is = is.1 }) (λ bad. cc bad)
    told_by outbox.NoMemory is = looked outbox.NoMemory (λ book now answered. absurd answered) (λ bad. cc bad)
    told_by outbox.Blank is = absurd is
    told_by (outbox.Damaged place) is = absurd is
    told_by outbox.Fault is = absurd is

-- the disk wasn't fetched
module _ {D : Type 0} (told : D → View) (name : List ℕ) (old new : ShelfView) (o : OutboxOutcome) (out : IsTaken told name old new (Err o)) where
  unanswered : (o ≡ outbox.NoMemory) ⊎ ((o ≡ outbox.Fault) × Rose old.faults new.faults) → IsNoFailure o → ⊥
  unanswered (inl is) answered = subst IsNoFailure is answered
  unanswered (inr is) answered = subst IsNoFailure is.0 answered

  failed_rose : (o ≡ outbox.NoMemory) ⊎ ((o ≡ outbox.Fault) × Rose old.faults new.faults) → o ≡ outbox.Fault → Rose old.faults new.faults
  failed_rose (inl is) fault = let both : outbox.NoMemory ≡ outbox.Fault = sym is ∙ fault in absurd (cc both)
  failed_rose (inr is) fault = is.1

-- the whole call
module _ {D : Type 0} (told : D → View) (name : List ℕ) (old mid new : ShelfView) (taken put : D) (o result : OutboxOutcome) (out : IsTaken told name old mid (Ok taken)) (did : HasLooked told taken put o)
    (back : IsReturned told name put o mid new result) where
  pub all_shows : ShowsOutbox (old.entry name) result
  all_shows = go back.closed
    where
      go : IsEndOf o mid.faults new.faults result → ShowsOutbox (old.entry name) result
      go (inl is) = subst (ShowsOutbox (old.entry name)) (sym is) (λ book now answered. did.shows book (out.disk.now ∙ now) answered)
      go (inr (inl is)) = subst (ShowsOutbox (old.entry name)) (sym is.0) (λ book now answered. absurd answered)
      go (inr (inr is)) = subst (ShowsOutbox (old.entry name)) (sym is) (λ book now answered. absurd answered)

  pub all_untouched : IsUntouched (old.entry name) (new.entry name)
  all_untouched = untouched_around (old.entry name) (told taken) (told put) (new.entry name) out.disk back.disk did.untouched

  fault_closed : IsEndOf o mid.faults new.faults result → result ≡ outbox.Fault → Rose mid.faults new.faults
  fault_closed (inl is) fault = back.seen (rose_some (told taken).faults (told put).faults out.fresh (did.fault (sym is ∙ fault)))
  fault_closed (inr (inl is)) fault = is.1
  fault_closed (inr (inr is)) fault = let both : outbox.NoMemory ≡ outbox.Fault = sym is ∙ fault in absurd (cc both)

  pub all_shelf : LeavesOne name result (new.is_back name) old.entry new.entry old.faults new.faults
  all_shelf = record {
    back = back.back;
    others = λ third apart. alike_trans (old.entry third) (mid.entry third) (new.entry third) (out.others third apart) (back.others third apart);
    fault = λ is. rose_from old.faults mid.faults new.faults out.later (fault_closed back.closed is);
    later = omega (arith, out.later, back.later);
  }
