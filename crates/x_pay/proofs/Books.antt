-- A ledger is opened beside its party: what a crash leaves of it meanwhile, and what is told where none is opened.
use Rattle.std.proofs.Common.{◌≡◌, ◌⊎◌, inl, inr, ℕ, Bool, true, false, List, [], Option, Some, None, is_some, Err, refl, sym, ◌∙◌, ap, subst, arith}
use Rattle.x_base.specs.Edge.{Rose}
use Rattle.x_disk.specs.Disk.{View, IsSound, Tells, LeavesOnly, IsUntouched}
use Rattle.x_disk.proofs.Runs.{began, weaker}
use Rattle.key_journal.specs.Journal.{is_blank}
use Rattle.key_journal.specs.declared.cause.Cause.{Cause}
use Rattle.key_journal.specs.declared.cause.Cause.TheVariants as cause
use Rattle.key_journal.specs.declared.cause.Unmade.{Unmade}
use Rattle.party_state.specs.State.{Party}
use Rattle.key_store.specs.Store.{Stored}
use Rattle.node_core.specs.Named.{IsOpenedNamed, IsNotOpenedNamed, IsWhyNotOpened}
use Rattle.node_core.specs.declared.named.WhyNotOpened.{WhyNotOpened}
use Rattle.node_core.specs.declared.named.WhyNotOpened.TheVariants as why
use Rattle.journal_state.specs.States.{IsBlankOrFor}
use Rattle.disk_pair.specs.declared.disks.Disks.{Disks}
use Rattle.x_disk.proofs.Alike.{untouched_self}
use Rattle.pay_auth.specs.declared.entry.Entry.{Entry}
use Rattle.pay_auth.specs.Bodies.{PutsBody}
use Rattle.pay_auth.specs.Ledgers.{HasEntries, ReadsEntries, IsLedgerDamage}
use Rattle.pay_auth.specs.Opening.{IsLedgerRefusal, IsLedgerOpened}
use Rattle.x_pay.specs.Outcomes.{Payment, nothing, IsOwnParty, MakesPayment, MayLeave, Before, Old}
use Rattle.x_pay.specs.Steps.{HasActed, outcome_of, outcome_of_why}
use Rattle.x_pay.specs.declared.outcome.PayOutcome.{PayOutcome}
use Rattle.x_pay.specs.declared.outcome.PayOutcome.TheVariants as outcome

pub tells_of : (v : View) (image : List ℕ) → v.now ≡ Some image → Tells v
tells_of v image now = ap is_some now

-- the image of a disk that tells
pub told_image : (now : Option (List ℕ)) → is_some now ≡ true → (image : List ℕ) × (now ≡ Some image)
told_image (Some image) is = (image, refl)
told_image None is = absurd cc

pub fault_cause : (reason : Cause) → outcome_of reason ≡ outcome.Fault → reason ≡ cause.Fault
fault_cause cause.Blank is = absurd (cc is)
fault_cause cause.NotEmpty is = absurd (cc is)
fault_cause (cause.Damaged place) is = absurd (cc is)
fault_cause cause.Fault is = refl
fault_cause cause.NoMemory is = absurd (cc is)

pub own_party : {D : Type 0} (told : D → View) (name : List ℕ) (old : D) (node : Stored D) → IsOpenedNamed told name old node → IsOwnParty name (told old) node.party
own_party told name old node opened = record {
  reads = λ image now. record { format = node.format; stands = opened.store.stands image (opened.untouched.now ∙ now) };
  own = opened.own;
}

-- an image of the old entries, which are none where it was blank
pub old_left : (w : Payment) (p : Party) (entries : List Entry) (book : List ℕ) (before : List ℕ → Type 0) → is_blank book ≡ true → ReadsEntries book entries
    → ((image : List ℕ) (es : List Entry) → HasEntries image es → is_blank image ≡ false) → (c : List ℕ) → IsBlankOrFor PutsBody [] [] c ⊎ before c → MayLeave w p entries before c
old_left w p entries book before blank (inl none) not_blank c (inl (inl is)) = Old (inl (is, none.1))
old_left w p entries book before blank (inl none) not_blank c (inl (inr has)) = Old (inr (subst (HasEntries c) (sym none.1) has))
old_left w p entries book before blank (inr full) not_blank c (inl left) = let both : true ≡ false = sym blank ∙ not_blank book entries full in absurd cc
old_left w p entries book before blank reads not_blank c (inr left) = Before left

module _ (not_blank : (image : List ℕ) (es : List Entry) → HasEntries image es → is_blank image ≡ false) (w : Payment) (p : Party) (entries : List Entry) (book : List ℕ) (reads : ReadsEntries book entries) where
  -- what a crash leaves while the ledger is opened
  pub opening_leaves : (old new : View) → old.now ≡ Some book → ((image : List ℕ) → old.now ≡ Some image → is_blank image ≡ false → IsUntouched old new)
      → (Tells old → LeavesOnly old new (λ c. IsBlankOrFor PutsBody [] [] c ⊎ old.may_leave c)) → LeavesOnly old new (MayLeave w p entries old.may_leave)
  opening_leaves old new now untouched run = by_test (is_blank book) refl
    where
      by_test : (b : Bool) → is_blank book ≡ b → LeavesOnly old new (MayLeave w p entries old.may_leave)
      by_test true blank = weaker old new (λ c. IsBlankOrFor PutsBody [] [] c ⊎ old.may_leave c) (MayLeave w p entries old.may_leave) (run (tells_of old book now)) (old_left w p entries book old.may_leave blank reads not_blank)
      by_test false full = weaker old new old.may_leave (MayLeave w p entries old.may_leave) (untouched book now full).any_moment (λ c left. Before left)

-- a blank image reads as no entries
pub none_read : (book : List ℕ) → ((entries : List Entry) → ReadsEntries book entries → ⊥) → is_blank book ≡ false
none_read book none = by_test (is_blank book) refl
  where
    by_test : (b : Bool) → is_blank book ≡ b → is_blank book ≡ false
    by_test true blank = absurd (none [] (inl (blank, refl)))
    by_test false full = full

-- the party of the name isn't opened, and its ledger stays closed
module _ {D : Type 0} (told : D → View) (name : List ℕ) (old : Disks D) (new : D) (sound : IsSound (told old.second)) where
  makes : (w : WhyNotOpened) → IsWhyNotOpened name (told old.first) (told new) w → MakesPayment nothing name (told old.first) (told old.second) (told old.second) (outcome_of_why name w)
  makes (why.OtherParty found) is = record { p = is.p; reads = is.reads; called = refl; own = is.own; differs = is.differs; untouched = untouched_self (told old.second) sound }
  makes (why.Unmade cause.Blank) is = record { blank = is.refused; untouched = untouched_self (told old.second) sound }
  makes (why.Unmade cause.NotEmpty) is = absurd (is.names refl)
  makes (why.Unmade (cause.Damaged place)) is = inl (record { first = is.refused; untouched = untouched_self (told old.second) sound })
  makes (why.Unmade cause.Fault) is = tt
  makes (why.Unmade cause.NoMemory) is = tt

  shows : (w : WhyNotOpened) → IsWhyNotOpened name (told old.first) (told new) w → outcome_of_why name w ≡ outcome.Fault → Rose (told old.first).faults (told new).faults
  shows (why.OtherParty found) is fault = absurd (cc fault)
  shows (why.Unmade reason) is fault = is.fault (fault_cause reason fault)

  pub nobody_acted : (w : WhyNotOpened) (o : PayOutcome) → o ≡ outcome_of_why name w → IsNotOpenedNamed told name old.first new w → HasActed nothing name told old (record { first = new; second = old.second }) o
  nobody_acted w o same none = subst (HasActed nothing name told old (record { first = new; second = old.second })) (sym same) (record {
    makes = makes w none.reason;
    safe = record {
      party = none.untouched;
      ledger = λ p entries image book now stands own told_book reads.
          began (told old.second) (MayLeave nothing p entries (told old.second).may_leave) sound (λ c left. Before left);
      nobody = λ image now nobody. untouched_self (told old.second) sound;
      damaged = λ book now damaged. untouched_self (told old.second) sound;
      tells = refl;
    };
    first_faults = none.faults;
    second_faults = omega arith;
    fault = λ is. inl (shows w none.reason is);
  })

-- the party is opened, and its ledger isn't
module _ {D : Type 0} (told : D → View) (name : List ℕ) (old : Disks D) (node : Stored D) (u : Unmade D) (own : IsOpenedNamed told name old.first node) (refused : IsLedgerOpened told old.second (Err u))
    (not_blank : (image : List ℕ) (es : List Entry) → HasEntries image es → is_blank image ≡ false) where
  damaged_book : (place : ℕ) → ((image : List ℕ) → (told old.second).now ≡ Some image → IsLedgerDamage image place) → MakesPayment nothing name (told old.first) (told old.second) (told u.disk) (outcome.Damaged place)
  damaged_book place first = inr (record {
    p = node.party;
    is_own = own_party told name old.first node own;
    first = first;
    untouched = λ tells. let it = told_image (told old.second).now tells in refused.untouched it.0 it.1 (first it.0 it.1).not_blank;
  })

  tells_why : (reason : Cause) → (reason ≡ cause.Blank → ⊥) → ((image : List ℕ) → (told old.second).now ≡ Some image → IsLedgerRefusal image reason)
      → MakesPayment nothing name (told old.first) (told old.second) (told u.disk) (outcome_of reason)
  tells_why cause.Blank names refused_so = absurd (names refl)
  tells_why cause.NotEmpty names refused_so = damaged_book 0 (λ image now. absurd (refused_so image now))
  tells_why (cause.Damaged place) names refused_so = damaged_book place refused_so
  tells_why cause.Fault names refused_so = tt
  tells_why cause.NoMemory names refused_so = tt

  closed : HasActed nothing name told old (record { first = node.disk; second = u.disk }) (outcome_of u.cause)
  closed = record {
    makes = tells_why u.cause refused.names refused.refused;
    safe = record {
      party = own.untouched;
      ledger = λ p entries image book now stands owns told_book reads.
          opening_leaves not_blank nothing p entries book reads (told old.second) (told u.disk) told_book refused.untouched refused.any_moment;
      nobody = λ image now nobody. absurd (nobody node.party ((own_party told name old.first node own).reads image now) own.own);
      damaged = λ book now none. refused.untouched book now (none_read book none);
      tells = refused.tells;
    };
    first_faults = own.faults;
    second_faults = refused.faults;
    fault = λ is. inr (refused.fault (fault_cause u.cause is));
  }

  pub closed_acted : (first : D) (o : PayOutcome) → first ≡ node.disk → o ≡ outcome_of u.cause → HasActed nothing name told old (record { first = first; second = u.disk }) o
  closed_acted first o first_is outcome_is =
      subst (λ (out : PayOutcome). HasActed nothing name told old (record { first = first; second = u.disk }) out) (sym outcome_is)
      (subst (λ (d : D). HasActed nothing name told old (record { first = d; second = u.disk }) (outcome_of u.cause)) (sym first_is) closed)
