-- The ledger of an opened party acts.
use Rattle.std.proofs.Common.{◌≡◌, inl, inr, ℕ, ◌≤◌, false, List, [], is_some, Result, Ok, Err, refl, sym, ◌∙◌, subst, arith}
use Rattle.x_base.specs.Edge.{Rose}
use Rattle.x_disk.specs.Disk.{View, IsSound, Tells, LeavesOnly}
use Rattle.x_disk.specs.declared.disk.DiskErr.{DiskErr}
use Rattle.x_disk.specs.declared.disk.DiskErr.TheVariants as disk
use Rattle.x_disk.proofs.Runs.{began, joined, weaker}
use Rattle.key_journal.specs.Journal.{is_blank}
use Rattle.key_journal.specs.States.{Failed}
use Rattle.key_journal.specs.Causes.{cause_of}
use Rattle.party_state.specs.State.{Party}
use Rattle.key_store.specs.Store.{Stored}
use Rattle.journal_state.specs.States.{StandsForOldOrNext}
use Rattle.journal_state.specs.Results.{kept_disk}
use Rattle.journal_state.specs.Keeping.{IsReplaced}
use Rattle.disk_pair.specs.declared.disks.Disks.{Disks}
use Rattle.disk_pair.proofs.Around.{rose_from}
use Rattle.pay_auth.specs.declared.entry.Entry.{Entry}
use Rattle.pay_auth.specs.declared.turn.PayTurn.{PayTurn}
use Rattle.pay_auth.specs.declared.turn.PayTurn.TheVariants as turn
use Rattle.pay_auth.specs.Entries.{put_entry}
use Rattle.pay_auth.specs.Bodies.{PutsBody}
use Rattle.pay_auth.specs.Ledgers.{HasEntries, LedgerView}
use Rattle.pay_auth.specs.Turns.{IsPayTurn}
use Rattle.x_pay.specs.Outcomes.{Payment, nothing, MakesPayment, MayLeave, Before, Old, New}
use Rattle.x_pay.specs.Steps.{AreOpened, HasActed, turn_disk, outcome_of, outcome_of_turn}
use Rattle.x_pay.specs.declared.outcome.PayOutcome.{PayOutcome}
use Rattle.x_pay.specs.declared.outcome.PayOutcome.TheVariants as outcome
use Rattle.x_pay.proofs.Books.{own_party, opening_leaves, tells_of, told_image}

failed_by : (d : DiskErr) → outcome_of (cause_of d) ≡ outcome.Fault → d ≡ disk.Fault
failed_by disk.Fault is = refl
failed_by disk.NoMemory is = absurd (cc is)

module _ {D : Type 0} (told : D → View) (sound : (d : D) → IsSound (told d)) (name : List ℕ) (old : Disks D) (node : Stored D) (book : LedgerView D) (opened : AreOpened told name old node book)
    (not_blank : (image : List ℕ) (es : List Entry) → HasEntries image es → is_blank image ≡ false) (w : Payment) where
  -- what a crash leaves from the opening of the ledger on
  abbrev Leaves : View → Type 0
  Leaves new = Tells (told book.disk) → (p : Party) (entries : List Entry) → node.party ≡ p → book.state ≡ entries → LeavesOnly (told book.disk) new (MayLeave w p entries (told old.second).may_leave)

  acted : (d : D) (o : PayOutcome) → MakesPayment w name (told old.first) (told old.second) (told d) o → Leaves (told d) → is_some (told d).now ≡ is_some (told book.disk).now
      → (told book.disk).faults ≤ (told d).faults → (o ≡ outcome.Fault → Rose (told book.disk).faults (told d).faults) → HasActed w name told old (record { first = node.disk; second = d }) o
  acted d o makes leaves tells later shows = record {
    makes = makes;
    safe = record {
      party = opened.party.untouched;
      ledger = λ p entries image bytes now stands own told_book reads.
          joined (told old.second) (told book.disk) (told d) (MayLeave w p entries (told old.second).may_leave)
          (opening_leaves not_blank w p entries bytes reads (told old.second) (told book.disk) told_book opened.ledger.untouched opened.ledger.any_moment)
          (leaves (opened.ledger.tells ∙ tells_of (told old.second) bytes told_book) p entries (opened.party.exact image p now stands) (opened.ledger.exact bytes entries told_book reads));
      nobody = λ image now nobody. absurd (nobody node.party ((own_party told name old.first node opened.party).reads image now) opened.party.own);
      damaged = λ bytes now none. absurd (none book.state (opened.ledger.reads bytes now));
      tells = tells ∙ opened.ledger.tells;
    };
    first_faults = opened.party.faults;
    second_faults = omega (arith, opened.ledger.faults, later);
    fault = λ is. inr (rose_from (told old.second).faults (told book.disk).faults (told d).faults opened.ledger.faults (shows is));
  }

  -- no call was made over the ledger's disk
  at_rest : Leaves (told book.disk)
  at_rest tells p entries party_is entries_are =
      let read = told_image (told book.disk).now tells in
      began (told book.disk) (MayLeave w p entries (told old.second).may_leave) (sound book.disk)
      (λ c left. Old (inr (subst (HasEntries c) entries_are
      (subst (λ (i : List ℕ). HasEntries i book.state) (sym (opened.ledger.stands.durable.only read.0 c read.1 left)) (opened.ledger.stands.stands read.0 read.1)))))

  replaced : (entry : Entry) (text : List ℕ) (result : Result (LedgerView D) (Failed D)) → w.Passes node.party book.state entry text
      → IsReplaced PutsBody [] told book (put_entry entry book.state) result → Leaves (told (kept_disk result))
  replaced entry text result passes kept tells p entries party_is entries_are =
      weaker (told book.disk) (told (kept_disk result)) (StandsForOldOrNext PutsBody [] book.state (put_entry entry book.state)) (MayLeave w p entries (told old.second).may_leave) (kept.any_moment tells)
      (λ c left. elim left [
        | inl was ↦ Old (inr (subst (HasEntries c) entries_are was))
        | inr is ↦ New entry text (subst (λ (q : Party). w.Passes q entries entry text) party_is (subst (λ (es : List Entry). w.Passes node.party es entry text) entries_are passes))
            (subst (λ (es : List Entry). HasEntries c (put_entry entry es)) entries_are is)
      ])

  rested : (ledger : LedgerView D) (o : PayOutcome) → ledger ≡ book → MakesPayment w name (told old.first) (told old.second) (told book.disk) o → (o ≡ outcome.Fault → ⊥)
      → HasActed w name told old (record { first = node.disk; second = ledger.disk }) o
  rested ledger o same makes other = subst (λ (l : LedgerView D). HasActed w name told old (record { first = node.disk; second = l.disk }) o) (sym same)
      (acted book.disk o makes at_rest refl (omega arith) (λ is. absurd (other is)))

  broken_makes : (d : DiskErr) (new : View) → MakesPayment w name (told old.first) (told old.second) new (outcome_of (cause_of d))
  broken_makes disk.Fault new = tt
  broken_makes disk.NoMemory new = tt

  pub turned : (t : PayTurn D) → IsPayTurn told book (w.Refuses node.party) (w.Passes node.party) t → HasActed w name told old (record { first = node.disk; second = turn_disk t }) (outcome_of_turn t)
  turned (turn.Done ledger out) is = acted ledger.disk (outcome.Done out) (record {
    p = node.party;
    entries = book.state;
    entry = is.entry;
    is_own = own_party told name old.first node opened.party;
    reads = opened.ledger.reads;
    passes = is.passes;
    kept = record {
      durable = is.kept.stands.durable;
      stands = λ image now. subst (HasEntries image) is.kept.state (is.kept.stands.stands image now);
    };
  }) (replaced is.entry out (Ok ledger) is.passes is.kept) is.kept.tells is.kept.faults (λ bad. absurd (cc bad))
  turned (turn.Refused ledger why) is = rested ledger (outcome.Refused why) is.1 (record {
    p = node.party;
    entries = book.state;
    is_own = own_party told name old.first node opened.party;
    reads = opened.ledger.reads;
    refuses = is.0;
    stay = record { durable = opened.ledger.stands.durable; stands = opened.ledger.stands.stands };
  }) (λ bad. cc bad)
  turned (turn.Broken b) is = acted b.disk (outcome_of (cause_of b.cause)) (broken_makes b.cause (told b.disk)) (replaced is.entry is.text (Err b) is.passes is.kept) is.kept.tells is.kept.faults
      (λ bad. is.kept.cause.fault (failed_by b.cause bad))
  turned (turn.NoMemory ledger) is = rested ledger outcome.NoMemory is.same tt (λ bad. cc bad)

-- where nothing comes to a test, that holds of every payment
any_makes : (w : Payment) (name : List ℕ) (party_disk ledger_disk new : View) (o : PayOutcome) → MakesPayment nothing name party_disk ledger_disk new o → MakesPayment w name party_disk ledger_disk new o
any_makes w name party_disk ledger_disk new (outcome.Done text) is = absurd is.passes
any_makes w name party_disk ledger_disk new (outcome.Refused why) is = absurd is.refuses
any_makes w name party_disk ledger_disk new (outcome.OtherParty asked found) is = is
any_makes w name party_disk ledger_disk new outcome.Blank is = is
any_makes w name party_disk ledger_disk new (outcome.Damaged place) is = is
any_makes w name party_disk ledger_disk new outcome.Fault is = tt
any_makes w name party_disk ledger_disk new outcome.NoMemory is = tt

any_leaves : (w : Payment) (p : Party) (entries : List Entry) (before : List ℕ → Type 0) (c : List ℕ) → MayLeave nothing p entries before c → MayLeave w p entries before c
any_leaves w p entries before c (Before left) = Before left
any_leaves w p entries before c (Old reads) = Old reads
any_leaves w p entries before c (New entry text passes stands) = absurd passes

pub any_acted : {D : Type 0} (told : D → View) (w : Payment) (name : List ℕ) (old new : Disks D) (o : PayOutcome) → HasActed nothing name told old new o → HasActed w name told old new o
any_acted told w name old new o did = record {
  makes = any_makes w name (told old.first) (told old.second) (told new.second) o did.makes;
  safe = record {
    party = did.safe.party;
    ledger = λ p entries image book now stands own told_book reads.
        weaker (told old.second) (told new.second) (MayLeave nothing p entries (told old.second).may_leave) (MayLeave w p entries (told old.second).may_leave)
        (did.safe.ledger p entries image book now stands own told_book reads) (any_leaves w p entries (told old.second).may_leave);
    nobody = did.safe.nobody;
    damaged = did.safe.damaged;
    tells = did.safe.tells;
  };
  first_faults = did.first_faults;
  second_faults = did.second_faults;
  fault = did.fault;
}

-- what is handed on of a turn
pub acted_by : {D : Type 0} (told : D → View) (w : Payment) (name : List ℕ) (old : Disks D) (node first : D) (t : PayTurn D) (ended : D × PayOutcome) → first ≡ node → ended.0 ≡ turn_disk t → ended.1 ≡ outcome_of_turn t
    → HasActed w name told old (record { first = node; second = turn_disk t }) (outcome_of_turn t) → HasActed w name told old (record { first = first; second = ended.0 }) ended.1
acted_by {D} told w name old node first t ended first_is second_is outcome_is did =
    subst (λ (o : PayOutcome). HasActed w name told old (record { first = first; second = ended.0 }) o) (sym outcome_is)
    (subst (λ (d : D). HasActed w name told old (record { first = first; second = d }) (outcome_of_turn t)) (sym second_is)
    (subst (λ (d : D). HasActed w name told old (record { first = d; second = turn_disk t }) (outcome_of_turn t)) (sym first_is) did))
