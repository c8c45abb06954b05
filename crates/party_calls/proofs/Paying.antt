-- How a payment ends, and what follows of it.
use Rattle.std.proofs.Common.{◌≡◌, ◌⊎◌, inl, inr, ℕ, ◌<◌, false, List, length, Option, Some, None, IfSome, refl, sym, ap, ◌∙◌, subst}
use Rattle.x_base.specs.Edge.{Rose}
use Rattle.x_disk.specs.Disk.{View, IsSound, IsUntouched}
use Rattle.x_disk.specs.Shelf.{alike_refl}
use Rattle.x_disk.proofs.Runs.{began}
use Rattle.x_line.specs.declared.order.Order.{Order}
use Rattle.x_pay.specs.Dues.{GivesDue}
use Rattle.x_pay.specs.Outcomes.{Payment, MayLeave, Before, IsNoFailure, LeavesShelf}
use Rattle.x_pay.specs.Payments.{accepting}
use Rattle.x_pay.specs.declared.outcome.PayOutcome.{PayOutcome}
use Rattle.x_pay.specs.declared.outcome.PayOutcome.TheVariants as outcome
use Rattle.call_ends.specs.Transfer.{IsAtEnd, IsFront, IsQuiet}
use Rattle.call_ends.specs.Causes.{HasCause, IsSilent}
use Rattle.call_ends.specs.declared.status.Status.{Status}
use Rattle.call_ends.specs.declared.status.Status.TheVariants as status
use Rattle.party_calls.specs.Ends.{IsOfParty}
use Rattle.party_calls.specs.Paid.{EndsPayment, FollowsPayment, IsAccepted, IsPayment, TakesPayment, payment_limit, payment_taken, status_of_payment}
use Rattle.party_calls.specs.Obeys.{LeavesOthers, LeavesRest, OthersOf, is_reading, ledger_of, party_of}

payment_ended : (o : PayOutcome) (s : Status) (before after : Option (List ℕ)) → EndsPayment o s before after → (s ≡ status_of_payment o) ⊎ (s ≡ status.WriteFault)
payment_ended (outcome.Done text) s before after (inl puts) = inl puts.0
payment_ended (outcome.Done text) s before after (inr puts) = inr puts.0
payment_ended (outcome.Refused cause) s before after ends = inl ends.0
payment_ended (outcome.OtherParty asked found) s before after ends = inl ends.0
payment_ended outcome.Blank s before after ends = inl ends.0
payment_ended (outcome.Damaged place) s before after ends = inl ends.0
payment_ended outcome.Fault s before after ends = inl ends.0
payment_ended outcome.NoMemory s before after ends = inl ends.0

-- a disk fault is the outcome's
fault_of : (o : PayOutcome) → status.DiskFault ≡ status_of_payment o → o ≡ outcome.Fault
fault_of (outcome.Done text) is = absurd cc
fault_of (outcome.Refused cause) is = absurd cc
fault_of (outcome.OtherParty asked found) is = absurd cc
fault_of outcome.Blank is = absurd cc
fault_of (outcome.Damaged place) is = absurd cc
fault_of outcome.Fault is = refl
fault_of outcome.NoMemory is = absurd cc

-- no outcome is a fault of the source
pub never_read : (o : PayOutcome) (s : Status) (before after : Option (List ℕ)) → EndsPayment o s before after → s ≡ status.ReadFault → ⊥
never_read o s before after ends is = go o (payment_ended o s before after ends)
  where
    go : (o : PayOutcome) → (s ≡ status_of_payment o) ⊎ (s ≡ status.WriteFault) → ⊥
    go o (inr write) = let no : status.ReadFault ≡ status.WriteFault = sym is ∙ write in cc no
    go (outcome.Done text) (inl same) = let no : status.ReadFault ≡ status.Done = sym is ∙ same in cc no
    go (outcome.Refused cause) (inl same) = cc (sym is ∙ same)
    go (outcome.OtherParty asked found) (inl same) = cc (sym is ∙ same)
    go outcome.Blank (inl same) = cc (sym is ∙ same)
    go (outcome.Damaged place) (inl same) = cc (sym is ∙ same)
    go outcome.Fault (inl same) = cc (sym is ∙ same)
    go outcome.NoMemory (inl same) = cc (sym is ∙ same)

module _ (o : PayOutcome) (s : Status) (before after : Option (List ℕ)) (put puts disk disks : ℕ) (ends : EndsPayment o s before after)
    (put_cause : s ≡ status.WriteFault → Rose put puts) where
  pub payment_follows : (w : Payment) (party : List ℕ) (party_disk ledger_disk : View) → GivesDue w party party_disk ledger_disk o → (o ≡ outcome.Fault → Rose disk disks)
      → IsQuiet put puts → IsQuiet disk disks → FollowsPayment w party party_disk ledger_disk s
  payment_follows w party party_disk ledger_disk given disk_cause put_quiet disk_quiet =
      λ image book other now told is. go other (given image book other now told is) (payment_ended o s before after ends)
    where
      go : (other : PayOutcome) → (o ≡ other) ⊎ ((o ≡ outcome.Fault) ⊎ (o ≡ outcome.NoMemory)) → (s ≡ status_of_payment o) ⊎ (s ≡ status.WriteFault)
          → (s ≡ status_of_payment other) ⊎ (s ≡ status.NoMemory)
      go other came (inr fault) = absurd (put_quiet (put_cause fault))
      go other (inl is) (inl same) = inl (same ∙ ap status_of_payment is)
      go other (inr (inl fault)) (inl same) = absurd (disk_quiet (disk_cause fault))
      go other (inr (inr memory)) (inl same) = inr (same ∙ ap status_of_payment memory)

  payment_fault : (o ≡ outcome.Fault → Rose disk disks) → s ≡ status.DiskFault → Rose disk disks
  payment_fault cause is = go (payment_ended o s before after ends) where
    go : (s ≡ status_of_payment o) ⊎ (s ≡ status.WriteFault) → Rose disk disks
    go (inl same) = cause (fault_of o (sym is ∙ same))
    go (inr fault) = let no : status.DiskFault ≡ status.WriteFault = sym is ∙ fault in absurd cc

  pub payment_rest : (party ledger : List ℕ) (is_back : List ℕ → Type 0) (unwritten : Type 0) (old new : List ℕ → View)
      → LeavesShelf party ledger o (is_back party) (is_back ledger) old new disk disks → (IsOfParty s → IsNoFailure o) → (IsSilent s → unwritten)
      → LeavesRest party ledger s is_back unwritten old new put puts disk disks
  payment_rest party ledger is_back unwritten old new shelf answered silent = record {
    back = λ of. shelf.back (answered of);
    thirds = shelf.thirds;
    silent = silent;
    write_fault = put_cause;
    disk_fault = payment_fault shelf.fault;
  }

-- ---- among the orders

pub leaves_two : (o : Order) (party ledger : List ℕ) (s : Status) (is_back : List ℕ → Type 0) (unread unwritten : Type 0) (old new : List ℕ → View) (put puts disk disks : ℕ)
    → party_of o ≡ Some party → ledger_of o ≡ Some ledger → LeavesRest party ledger s is_back unwritten old new put puts disk disks → (is_reading o ≡ false → unread)
    → LeavesOthers o s is_back unread old new
leaves_two o party ledger s is_back unread unwritten old new put puts disk disks is book rest same = record {
  back = λ of. subst (λ (x : Option (List ℕ)). IfSome x is_back) (sym is) (rest.back of).0;
  ledger_back = λ of. subst (λ (x : Option (List ℕ)). IfSome x is_back) (sym book) (rest.back of).1;
  others = λ playing. subst (λ (x : Option (List ℕ)). OthersOf x (ledger_of o) old new) (sym is) (subst (λ (y : Option (List ℕ)). OthersOf (Some party) y old new) (sym book) rest.thirds);
  unread = same;
}

module _ (read reads put puts disk disks : ℕ) where
  pub cause_paid : (o : PayOutcome) (s : Status) (before after : Option (List ℕ)) → EndsPayment o s before after → (s ≡ status.WriteFault → Rose put puts) → (s ≡ status.DiskFault → Rose disk disks)
      → HasCause s read reads put puts disk disks
  cause_paid o s before after ends put_cause disk_cause = go (payment_ended o s before after ends)
    where
      each : (o : PayOutcome) → s ≡ status_of_payment o → HasCause (status_of_payment o) read reads put puts disk disks
      each (outcome.Done text) is = tt
      each (outcome.Refused cause) is = tt
      each (outcome.OtherParty asked found) is = tt
      each outcome.Blank is = tt
      each (outcome.Damaged place) is = tt
      each outcome.Fault is = disk_cause is
      each outcome.NoMemory is = tt

      go : (s ≡ status_of_payment o) ⊎ (s ≡ status.WriteFault) → HasCause s read reads put puts disk disks
      go (inl is) = subst (λ (x : Status). HasCause x read reads put puts disk disks) (sym is) (each o is)
      go (inr is) = subst (λ (x : Status). HasCause x read reads put puts disk disks) (sym is) (put_cause is)

  pub cause_accepted : (party ledger : List ℕ) (left rest : Option (List ℕ)) (old new : List ℕ → View) (s : Status) (before after : Option (List ℕ)) → IsAccepted party ledger left rest old new s before after
      → (s ≡ status.ReadFault → Rose read reads) → (s ≡ status.WriteFault → Rose put puts) → (s ≡ status.DiskFault → Rose disk disks) → HasCause s read reads put puts disk disks
  cause_accepted party ledger left rest old new s before after (inl (inl is, same, none)) read_cause put_cause disk_cause =
      subst (λ (x : Status). HasCause x read reads put puts disk disks) (sym is) (read_cause is)
  cause_accepted party ledger left rest old new s before after (inl (inr is, same, none)) read_cause put_cause disk_cause =
      subst (λ (x : Status). HasCause x read reads put puts disk disks) (sym is) tt
  cause_accepted party ledger left rest old new s before after (inr (bytes, taken, paid)) read_cause put_cause disk_cause =
      cause_paid paid.outcome s before after paid.ends put_cause disk_cause

-- ---- the bytes that are taken in

pub takes_payment : (left rest : Option (List ℕ)) (text bytes : List ℕ) → IsFront payment_limit left text → (length text < payment_limit → IsAtEnd left rest) → bytes ≡ text → TakesPayment left rest bytes
takes_payment left rest text bytes front end same = subst (TakesPayment left rest) (sym same) (record { front = front; end = end })

pub of_payment : (left : Option (List ℕ)) (text bytes party : List ℕ) (party_disk ledger_disk : View) (s : Status) → IsFront payment_limit left text → bytes ≡ text
    → FollowsPayment (accepting bytes) party party_disk ledger_disk s → IfSome left (λ all. FollowsPayment (accepting (payment_taken all)) party party_disk ledger_disk s)
of_payment None text bytes party party_disk ledger_disk s front same follows = tt
of_payment (Some all) text bytes party party_disk ledger_disk s front same follows = subst (λ (x : List ℕ). FollowsPayment (accepting x) party party_disk ledger_disk s) (same ∙ front) follows

pub no_payment : (left : Option (List ℕ)) (party : List ℕ) (party_disk ledger_disk : View) → IfSome left (λ all. FollowsPayment (accepting (payment_taken all)) party party_disk ledger_disk status.NoMemory)
no_payment None party party_disk ledger_disk = tt
no_payment (Some all) party party_disk ledger_disk = λ image book o now told is. inr refl

pub nothing_left : (party ledger : List ℕ) (s : Status) (is_back : List ℕ → Type 0) (unwritten : Type 0) (entry : List ℕ → View) (put disk : ℕ) → (IsOfParty s → ⊥) → unwritten
    → (s ≡ status.WriteFault → ⊥) → (s ≡ status.DiskFault → ⊥) → LeavesRest party ledger s is_back unwritten entry entry put put disk disk
nothing_left party ledger s is_back unwritten entry put disk none same write fault = record {
  back = λ of. absurd (none of);
  thirds = λ third apart other. alike_refl (entry third);
  silent = λ silent. same;
  write_fault = λ is. absurd (write is);
  disk_fault = λ is. absurd (fault is);
}

-- ---- where no memory is left, nothing is done

untouched : (v : View) → IsSound v → IsUntouched v v
untouched v is = record { now = refl; images = λ c left. left; any_moment = began v v.may_leave is (λ c left. left) }

pub idle_payment : (w : Payment) (party ledger : List ℕ) (entry : List ℕ → View) (written : Option (List ℕ)) → ((name : List ℕ) → IsSound (entry name))
    → IsPayment w party ledger entry entry status.NoMemory written written
idle_payment w party ledger entry written sound = record {
  outcome = outcome.NoMemory;
  made = tt;
  safe = record {
    party = untouched (entry party) (sound party);
    ledger = λ p entries image book now stands own told reads. began (entry ledger) (MayLeave w p entries (entry ledger).may_leave) (sound ledger) (λ c left. Before left);
    nobody = λ image now none. untouched (entry ledger) (sound ledger);
    damaged = λ book now none. untouched (entry ledger) (sound ledger);
    tells = refl;
  };
  ends = (refl, refl);
}
