-- The outcome of a call is the one that is due.
use Rattle.std.proofs.Common.{◌≡◌, inl, inr, List, ℕ, refl}
use Rattle.x_disk.specs.Disk.{View}
use Rattle.x_pay.specs.Outcomes.{Payment, MakesPayment}
use Rattle.x_pay.specs.Dues.{IsDuePayment, GivesDue}
use Rattle.x_pay.specs.declared.outcome.PayOutcome.{PayOutcome}
use Rattle.x_pay.specs.declared.outcome.PayOutcome.TheVariants as outcome

module _ (w : Payment) (name : List ℕ) (one_due : (image book : List ℕ) (a b : PayOutcome) → IsDuePayment w name image book a → IsDuePayment w name image book b → a ≡ b)
    (party_disk ledger_disk after : View) where
  pub due : (o : PayOutcome) → MakesPayment w name party_disk ledger_disk after o → GivesDue w name party_disk ledger_disk o
  due (outcome.Done text) is = λ image book other now told_book due. inl (one_due image book (outcome.Done text) other (record {
    p = is.p;
    entries = is.entries;
    entry = is.entry;
    found = record { party = record { stands = is.is_own.reads image now; own = is.is_own.own }; reads = is.reads book told_book };
    passes = is.passes;
  }) due)
  due (outcome.Refused cause) is = λ image book other now told_book due. inl (one_due image book (outcome.Refused cause) other (record {
    p = is.p;
    entries = is.entries;
    found = record { party = record { stands = is.is_own.reads image now; own = is.is_own.own }; reads = is.reads book told_book };
    refuses = is.refuses;
  }) due)
  due (outcome.OtherParty asked found) is = λ image book other now told_book due.
      inl (one_due image book (outcome.OtherParty asked found) other (record { p = is.p; stands = is.reads image now; called = is.called; own = is.own; differs = is.differs }) due)
  due outcome.Blank is = λ image book other now told_book due. inl (one_due image book outcome.Blank other (is.blank image now) due)
  due (outcome.Damaged place) (inl is) = λ image book other now told_book due. inl (one_due image book (outcome.Damaged place) other (inl (is.first image now)) due)
  due (outcome.Damaged place) (inr is) = λ image book other now told_book due. inl (one_due image book (outcome.Damaged place) other
      (inr (record { p = is.p; party = record { stands = is.is_own.reads image now; own = is.is_own.own }; first = is.first book told_book })) due)
  due outcome.Fault is = λ image book other now told_book due. inr (inl refl)
  due outcome.NoMemory is = λ image book other now told_book due. inr (inr refl)
