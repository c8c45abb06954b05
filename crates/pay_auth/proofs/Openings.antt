-- A ledger is opened, or created where the image is blank.
use Rattle.std.proofs.Common.{◌≡◌, ◌⊎◌, inl, inr, ℕ, ◌≤◌, Bool, true, false, List, [], Some, is_some, Result, Ok, Err, refl, sym, ◌∙◌, ap, subst, arith}
use Rattle.x_base.specs.Edge.{Rose}
use Rattle.x_disk.specs.Disk.{View, Tells, LeavesOnly, IsUntouched}
use Rattle.x_disk.proofs.Runs.{joined, weaker}
use Rattle.key_journal.specs.Journal.{is_blank}
use Rattle.key_journal.specs.Opening.{IsFree}
use Rattle.key_journal.specs.declared.cause.Cause.{Cause}
use Rattle.key_journal.specs.declared.cause.Cause.TheVariants as cause
use Rattle.key_journal.specs.declared.cause.Unmade.{Unmade}
use Rattle.journal_state.specs.States.{IsBlankOrFor}
use Rattle.journal_state.specs.Loading.{IsRefusal, IsLoaded}
use Rattle.journal_state.specs.Making.{IsMade}
use Rattle.pay_auth.specs.declared.entry.Entry.{Entry}
use Rattle.pay_auth.specs.Bodies.{PutsBody}
use Rattle.pay_auth.specs.Ledgers.{HasEntries, LedgerView}
use Rattle.pay_auth.specs.Opening.{IsLedgerRefusal, IsLedgerOpened}

differ : (b : Bool) → b ≡ true → b ≡ false → ⊥
differ b set clear = let both : true ≡ false = sym set ∙ clear in cc both

-- a disk that is left untouched leaves what it may leave
either : (old new : View) → IsUntouched old new → Tells old → LeavesOnly old new (λ c. IsBlankOrFor PutsBody [] [] c ⊎ old.may_leave c)
either old new untouched tells = weaker old new old.may_leave (λ c. IsBlankOrFor PutsBody [] [] c ⊎ old.may_leave c) untouched.any_moment (λ c left. inr left)

free_refusal : (image : List ℕ) (reason : Cause) → IsFree reason → IsLedgerRefusal image reason
free_refusal image cause.Blank free = free
free_refusal image cause.NotEmpty free = free
free_refusal image (cause.Damaged place) free = absurd free
free_refusal image cause.Fault free = tt
free_refusal image cause.NoMemory free = tt

ledger_refusal : (image : List ℕ) (reason : Cause) → (reason ≡ cause.Blank → ⊥) → IsRefusal PutsBody [] image reason → IsLedgerRefusal image reason
ledger_refusal image cause.Blank other refused = other refl
ledger_refusal image cause.NotEmpty other refused = refused
ledger_refusal image (cause.Damaged place) other refused = refused
ledger_refusal image cause.Fault other refused = tt
ledger_refusal image cause.NoMemory other refused = tt

-- a blank image gives no other cause
blank_free : (image : List ℕ) (reason : Cause) → is_blank image ≡ true → (reason ≡ cause.Blank → ⊥) → IsRefusal PutsBody [] image reason → IsFree reason
blank_free image cause.Blank blank other refused = other refl
blank_free image cause.NotEmpty blank other refused = refused
blank_free image (cause.Damaged place) blank other refused = absurd (differ (is_blank image) blank refused.not_blank)
blank_free image cause.Fault blank other refused = tt
blank_free image cause.NoMemory blank other refused = tt

-- a cause that isn't told
unnamed : (reason : Cause) → reason ≡ cause.Blank → IsFree reason ⊎ (reason ≡ cause.NotEmpty) → ⊥
unnamed reason is (inl none) = subst IsFree is none
unnamed reason is (inr full) = let no : cause.Blank ≡ cause.NotEmpty = sym is ∙ full in cc no

rose_later : (a b c : ℕ) → a ≤ b → Rose b c → Rose a c
rose_later a b c le (inl less) = inl (omega (arith, le, less))
rose_later a b c le (inr most) = inr most

module _ {D : Type 0} (told : D → View) (old : D) where
  -- the image stands
  pub opened : (l : LedgerView D) → IsLoaded PutsBody [] told old (Ok l) → IsLedgerOpened told old (Ok l)
  opened l loaded = record {
    stands = loaded.stands;
    exact = λ image entries now reads. elim reads [ inl blank ↦ absurd (differ (is_blank image) blank.0 (loaded.not_blank image now)) | inr has ↦ loaded.exact image entries now has ];
    reads = λ image now. inr (loaded.stands.stands image (loaded.untouched.now ∙ now));
    refused = tt;
    names = tt;
    never_refused = tt;
    untouched = λ image now some. loaded.untouched;
    any_moment = either (told old) (told l.disk) loaded.untouched;
    fault = tt;
    faults = loaded.faults;
    tells = ap is_some loaded.untouched.now;
  }

  -- it is neither blank nor stands
  pub unopened : (u : Unmade D) → (u.cause ≡ cause.Blank → ⊥) → IsLoaded PutsBody [] told old (Err u) → IsLedgerOpened told old (Err u)
  unopened u other loaded = record {
    stands = tt;
    exact = tt;
    reads = tt;
    refused = λ image now. ledger_refusal image u.cause other (loaded.refused image now);
    names = other;
    never_refused = λ image entries now reads. elim reads [
      | inl blank ↦ blank_free image u.cause blank.0 other (loaded.refused image now)
      | inr has ↦ loaded.never_refused image entries now has
    ];
    untouched = λ image now some. loaded.untouched;
    any_moment = either (told old) (told u.disk) loaded.untouched;
    fault = loaded.fault;
    faults = loaded.faults;
    tells = ap is_some loaded.untouched.now;
  }

  -- it is blank
  module _ (u : Unmade D) (blank_is : u.cause ≡ cause.Blank) (loaded : IsLoaded PutsBody [] told old (Err u)) (not_blank : (image : List ℕ) (entries : List Entry) → HasEntries image entries → is_blank image ≡ false) where
    blank : (image : List ℕ) → (told old).now ≡ Some image → is_blank image ≡ true
    blank image now = subst (IsRefusal PutsBody [] image) blank_is (loaded.refused image now)

    made_moments : (new : View) → (Tells (told u.disk) → LeavesOnly (told u.disk) new (λ c. IsBlankOrFor PutsBody [] [] c ⊎ (told u.disk).may_leave c)) → Tells (told old)
        → LeavesOnly (told old) new (λ c. IsBlankOrFor PutsBody [] [] c ⊎ (told old).may_leave c)
    made_moments new made tells =
        joined (told old) (told u.disk) new (λ c. IsBlankOrFor PutsBody [] [] c ⊎ (told old).may_leave c) (either (told old) (told u.disk) loaded.untouched tells)
        (weaker (told u.disk) new (λ c. IsBlankOrFor PutsBody [] [] c ⊎ (told u.disk).may_leave c) (λ c. IsBlankOrFor PutsBody [] [] c ⊎ (told old).may_leave c)
        (made (ap is_some loaded.untouched.now ∙ tells)) (λ c left. elim left [ inl there ↦ inl there | inr before ↦ inr (loaded.untouched.images c before) ]))

    pub created : (result : Result (LedgerView D) (Unmade D)) → IsMade PutsBody [] told [] u.disk result → IsLedgerOpened told old result
    created (Ok l) made = record {
      stands = made.stands;
      exact = λ image entries now reads. elim reads [ inl none ↦ made.made ∙ sym none.1 | inr has ↦ absurd (differ (is_blank image) (blank image now) (not_blank image entries has)) ];
      reads = λ image now. inl (blank image now, made.made);
      refused = tt;
      names = tt;
      never_refused = tt;
      untouched = λ image now some. absurd (differ (is_blank image) (blank image now) some);
      any_moment = made_moments (told l.disk) made.any_moment;
      fault = tt;
      faults = omega (arith, loaded.faults, made.faults);
      tells = made.tells ∙ ap is_some loaded.untouched.now;
    }
    created (Err v) made = record {
      stands = tt;
      exact = tt;
      reads = tt;
      refused = λ image now. free_refusal image v.cause (free image now);
      names = λ is. unnamed v.cause is made.names;
      never_refused = λ image entries now reads. free image now;
      untouched = λ image now some. absurd (differ (is_blank image) (blank image now) some);
      any_moment = made_moments (told v.disk) made.any_moment;
      fault = λ is. rose_later (told old).faults (told u.disk).faults (told v.disk).faults loaded.faults (made.fault is);
      faults = omega (arith, loaded.faults, made.faults);
      tells = made.tells ∙ ap is_some loaded.untouched.now;
    }
      where
        free : (image : List ℕ) → (told old).now ≡ Some image → IsFree v.cause
        free image now = elim (made.exact image (loaded.untouched.now ∙ now)) [ inl none ↦ none | inr full ↦ absurd (differ (is_blank image) (blank image now) full.1) ]
