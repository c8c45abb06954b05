-- How a batch ends, and what follows of it.
use Rattle.std.proofs.Common.{◌≡◌, ◌⊎◌, inl, inr, ℕ, zero, suc, ◌<◌, ◌≤◌, false, List, [], length, Option, Some, None, IfSome, refl, sym, ap, ◌∙◌, subst, arith}
use Rattle.std.specs.Prelude.{◌++◌}
use Rattle.std.proofs.lemmas.List.{append-nil}
use Rattle.x_base.specs.Edge.{Rose}
use Rattle.x_disk.specs.Disk.{View}
use Rattle.csm_batch.specs.declared.entry.Entry.{Entry}
use Rattle.csm_batch.specs.Batches.{IsBatch, IsFirstBad}
use Rattle.csm_batch.specs.Laws.{BadInFront, OneReading}
use Rattle.csm_spool.specs.InStep.{PairsInStep}
use Rattle.x_spool.specs.Dues.{GivesDue, IsSame}
use Rattle.x_spool.specs.Outcomes.{IsDoneOrFailed, IsNoFailure, StaysInStep}
use Rattle.x_spool.specs.Outboxes as outboxes
use Rattle.x_spool.specs.Outboxes.{GivesOutbox, LeavesOne}
use Rattle.x_spool.specs.Shelves.{LeavesShelf}
use Rattle.x_spool.specs.declared.outcome.SpoolOutcome.{SpoolOutcome}
use Rattle.x_spool.specs.declared.outcome.SpoolOutcome.TheVariants as outcome
use Rattle.x_spool.specs.declared.outcome.OutboxOutcome.{OutboxOutcome}
use Rattle.x_spool.specs.declared.outcome.OutboxOutcome.TheVariants as outbox
use Rattle.x_line.specs.declared.order.Order.{Order}
use Rattle.call_ends.specs.Transfer.{GivesOutput, IsAtEnd, IsFront, IsQuiet, Took}
use Rattle.call_ends.specs.Causes.{HasCause, IsSilent}
use Rattle.call_ends.specs.declared.status.Refusal.TheVariants.{Unplanned}
use Rattle.call_ends.specs.declared.status.Status.{Status}
use Rattle.call_ends.specs.declared.status.Status.TheVariants as status
use Rattle.call_ends.specs.Puts.{Puts}
use Rattle.party_calls.specs.Ends.{IsOfParty}
use Rattle.party_calls.specs.Obeys.{LeavesOthers, LeavesRest, OthersOf, is_reading, ledger_of, party_of}
use Rattle.party_calls.specs.Dues.{IsOrNoMemory}
use Rattle.party_calls.specs.Spooled.{EndsBatch, EndsOutbox, FollowsBatch, FollowsOutbox, IsBatched, IsUnbatched, LeavesSpool, TakesBatch, batch_limit, status_of_batch, status_of_missing, status_of_outbox}

batch_ended : (o : SpoolOutcome) (s : Status) (before after : Option (List ℕ)) → EndsBatch o s before after → (s ≡ status_of_batch o) ⊎ (s ≡ status.WriteFault)
batch_ended (outcome.Done out) s before after (inl puts) = inl puts.0
batch_ended (outcome.Done out) s before after (inr puts) = inr puts.0
batch_ended outcome.OtherBatch s before after ends = inl ends.0
batch_ended (outcome.OutOfStep entry) s before after ends = inl ends.0
batch_ended (outcome.OtherParty asked found) s before after ends = inl ends.0
batch_ended outcome.Blank s before after ends = inl ends.0
batch_ended (outcome.Damaged place) s before after ends = inl ends.0
batch_ended outcome.Fault s before after ends = inl ends.0
batch_ended outcome.NoMemory s before after ends = inl ends.0

-- a disk fault is the outcome's
fault_of : (o : SpoolOutcome) → status.DiskFault ≡ status_of_batch o → o ≡ outcome.Fault
fault_of (outcome.Done out) is = absurd cc
fault_of outcome.OtherBatch is = absurd cc
fault_of (outcome.OutOfStep entry) is = absurd cc
fault_of (outcome.OtherParty asked found) is = absurd cc
fault_of outcome.Blank is = absurd cc
fault_of (outcome.Damaged place) is = absurd cc
fault_of outcome.Fault is = refl
fault_of outcome.NoMemory is = absurd cc

-- no outcome is a fault of the source
pub never_read : (o : SpoolOutcome) (s : Status) (before after : Option (List ℕ)) → EndsBatch o s before after → s ≡ status.ReadFault → ⊥
never_read o s before after ends is = go o (batch_ended o s before after ends)
  where
    go : (o : SpoolOutcome) → (s ≡ status_of_batch o) ⊎ (s ≡ status.WriteFault) → ⊥
    go o (inr write) = let no : status.ReadFault ≡ status.WriteFault = sym is ∙ write in cc no
    go (outcome.Done out) (inl same) = let no : status.ReadFault ≡ status.Done = sym is ∙ same in cc no
    go outcome.OtherBatch (inl same) = cc (sym is ∙ same)
    go (outcome.OutOfStep entry) (inl same) = cc (sym is ∙ same)
    go (outcome.OtherParty asked found) (inl same) = cc (sym is ∙ same)
    go outcome.Blank (inl same) = cc (sym is ∙ same)
    go (outcome.Damaged place) (inl same) = cc (sym is ∙ same)
    go outcome.Fault (inl same) = cc (sym is ∙ same)
    go outcome.NoMemory (inl same) = cc (sym is ∙ same)

-- one outcome has one status, whatever is handed out
same_status : (a b : SpoolOutcome) → IsSame a b → status_of_batch a ≡ status_of_batch b
same_status (outcome.Done out) (outcome.Done other) is = refl
same_status (outcome.Done out) outcome.OtherBatch is = ap status_of_batch is
same_status (outcome.Done out) (outcome.OutOfStep entry) is = ap status_of_batch is
same_status (outcome.Done out) (outcome.OtherParty asked found) is = ap status_of_batch is
same_status (outcome.Done out) outcome.Blank is = ap status_of_batch is
same_status (outcome.Done out) (outcome.Damaged place) is = ap status_of_batch is
same_status (outcome.Done out) outcome.Fault is = ap status_of_batch is
same_status (outcome.Done out) outcome.NoMemory is = ap status_of_batch is
same_status outcome.OtherBatch b is = ap status_of_batch is
same_status (outcome.OutOfStep entry) b is = ap status_of_batch is
same_status (outcome.OtherParty asked found) b is = ap status_of_batch is
same_status outcome.Blank b is = ap status_of_batch is
same_status (outcome.Damaged place) b is = ap status_of_batch is
same_status outcome.Fault b is = ap status_of_batch is
same_status outcome.NoMemory b is = ap status_of_batch is

-- ---- a batch that was taken

module _ (o : SpoolOutcome) (s : Status) (before after : Option (List ℕ)) (put puts disk disks : ℕ) (ends : EndsBatch o s before after)
    (put_cause : s ≡ status.WriteFault → Rose put puts) where
  batch_fault : (o ≡ outcome.Fault → Rose disk disks) → s ≡ status.DiskFault → Rose disk disks
  batch_fault cause is = go (batch_ended o s before after ends) where
    go : (s ≡ status_of_batch o) ⊎ (s ≡ status.WriteFault) → Rose disk disks
    go (inl same) = cause (fault_of o (sym is ∙ same))
    go (inr fault) = let no : status.DiskFault ≡ status.WriteFault = sym is ∙ fault in absurd (cc no)

  pub batch_rest : (party spool : List ℕ) (is_back : List ℕ → Type 0) (unwritten : Type 0) (old new : List ℕ → View)
      → LeavesShelf party spool o (is_back party) (is_back spool) old new disk disks → (IsOfParty s → IsNoFailure o) → (IsSilent s → unwritten)
      → LeavesRest party spool s is_back unwritten old new put puts disk disks
  batch_rest party spool is_back unwritten old new shelf answered silent = record {
    back = λ of. shelf.back (answered of);
    thirds = shelf.thirds;
    silent = silent;
    write_fault = put_cause;
    disk_fault = batch_fault shelf.fault;
  }

  module _ (disk_cause : o ≡ outcome.Fault → Rose disk disks) (put_quiet : IsQuiet put puts) (disk_quiet : IsQuiet disk disks) where
    of_due : (other : SpoolOutcome) → IsSame o other ⊎ ((o ≡ outcome.Fault) ⊎ (o ≡ outcome.NoMemory)) → IsOrNoMemory s (status_of_batch other)
    of_due other came = go came (batch_ended o s before after ends)
      where
        go : IsSame o other ⊎ ((o ≡ outcome.Fault) ⊎ (o ≡ outcome.NoMemory)) → (s ≡ status_of_batch o) ⊎ (s ≡ status.WriteFault) → IsOrNoMemory s (status_of_batch other)
        go came (inr fault) = absurd (put_quiet (put_cause fault))
        go (inl is) (inl same) = inl (same ∙ same_status o other is)
        go (inr (inl fault)) (inl same) = absurd (disk_quiet (disk_cause fault))
        go (inr (inr memory)) (inl same) = inr (same ∙ ap status_of_batch memory)

    of_done : IsDoneOrFailed o → IsOrNoMemory s status.Done
    of_done is = go o refl is (batch_ended o s before after ends)
      where
        go : (out : SpoolOutcome) → o ≡ out → IsDoneOrFailed out → (s ≡ status_of_batch o) ⊎ (s ≡ status.WriteFault) → IsOrNoMemory s status.Done
        go out same is (inr fault) = absurd (put_quiet (put_cause fault))
        go (outcome.Done text) same is (inl told) = inl (told ∙ ap status_of_batch same)
        go outcome.Fault same is (inl told) = absurd (disk_quiet (disk_cause same))
        go outcome.NoMemory same is (inl told) = inr (told ∙ ap status_of_batch same)
        go outcome.OtherBatch same is (inl told) = absurd is
        go (outcome.OutOfStep entry) same is (inl told) = absurd is
        go (outcome.OtherParty asked found) same is (inl told) = absurd is
        go outcome.Blank same is (inl told) = absurd is
        go (outcome.Damaged place) same is (inl told) = absurd is

    pub batch_follows : OneReading → (party spool text : List ℕ) (entries : List Entry) (old new : List ℕ → View) → IsBatch text entries
        → StaysInStep party text entries (old party) (old spool) (new party) (new spool) o → GivesDue party text (old party) (old spool) o → FollowsBatch party spool text old s
    batch_follows one party spool text entries old new batch in_step given = record {
      bad = λ number bad. absurd (one.never_both text entries number batch bad);
      due = λ others image book other is now told due. of_due other (given image book other now told due);
      done = λ others x y image is tells pairs now finds.
          (let same : others ≡ entries = one.one_batch text others entries is batch in
          of_done (in_step.complete x y image tells (subst (λ (es : List Entry). PairsInStep (old party) (old spool) text x es) same pairs) now finds));
    }

    pub batch_follows_all : OneReading → (left rest : Option (List ℕ)) (party spool text : List ℕ) (entries : List Entry) (old new : List ℕ → View) → IsBatch text entries → TakesBatch left rest text
        → StaysInStep party text entries (old party) (old spool) (new party) (new spool) o → GivesDue party text (old party) (old spool) o → IfSome left (λ all. FollowsBatch party spool all old s)
    batch_follows_all one None rest party spool text entries old new batch takes in_step given = tt
    batch_follows_all one (Some all) rest party spool text entries old new batch takes in_step given =
        subst (λ (x : List ℕ). FollowsBatch party spool x old s) (sym takes.0) (batch_follows one party spool text entries old new batch in_step given)

-- ---- no batch was taken

module _ (one : OneReading) (party spool : List ℕ) (old : List ℕ → View) (s : Status) where
  no_memory : (all : List ℕ) → s ≡ status.NoMemory → FollowsBatch party spool all old s
  no_memory all is = record { bad = λ number bad. inr is; due = λ entries image book o batch now told due. inr is; done = λ entries x y image batch tells pairs now finds. inr is }

  pub unbatched_follows : (left : Option (List ℕ)) → (s ≡ status.ReadFault → ⊥) → IsUnbatched left s → IfSome left (λ all. FollowsBatch party spool all old s)
  unbatched_follows None read none = tt
  unbatched_follows (Some all) read (inl (inl fault)) = absurd (read fault)
  unbatched_follows (Some all) read (inl (inr memory)) = no_memory all memory
  unbatched_follows (Some all) read (inr (number, is, first)) = record {
    bad = λ other bad. inl (is ∙ ap (λ (n : ℕ). status.BadScenario n) (one.one_bad all number other first bad));
    due = λ entries image book o batch now told due. absurd (one.never_both all entries number batch first);
    done = λ entries x y image batch tells pairs now finds. absurd (one.never_both all entries number batch first);
  }

-- with such a status no answer came
pub unbatched_silent : (left : Option (List ℕ)) (s : Status) → IsUnbatched left s → IsOfParty s → ⊥
unbatched_silent left s (inl (inl is)) of = subst IsOfParty is of
unbatched_silent left s (inl (inr is)) of = subst IsOfParty is of
unbatched_silent left s (inr (number, is, first)) of = subst IsOfParty is of

pub unbatched_other : (left : Option (List ℕ)) (s : Status) → IsUnbatched left s → (s ≡ status.WriteFault → ⊥) × (s ≡ status.DiskFault → ⊥)
unbatched_other left s (inl (inl is)) = (λ other. (let no : status.ReadFault ≡ status.WriteFault = sym is ∙ other in cc no), λ other. (let no : status.ReadFault ≡ status.DiskFault = sym is ∙ other in cc no))
unbatched_other left s (inl (inr is)) = (λ other. (let no : status.NoMemory ≡ status.WriteFault = sym is ∙ other in cc no), λ other. (let no : status.NoMemory ≡ status.DiskFault = sym is ∙ other in cc no))
unbatched_other left s (inr (number, is, first)) =
    (λ other. (let no : status.BadScenario number ≡ status.WriteFault = sym is ∙ other in cc no), λ other. (let no : status.BadScenario number ≡ status.DiskFault = sym is ∙ other in cc no))

-- ---- the bytes of a batch

-- what was taken before the limit is all
pub all_taken : (left rest : Option (List ℕ)) (text : List ℕ) → Took left rest text → (length text < batch_limit → IsAtEnd left rest) → length text ≤ 1048576 → TakesBatch left rest text
all_taken None rest text took end short = tt
all_taken (Some all) None text took end short = absurd took
all_taken (Some all) (Some others) text took end short =
    let last : Some others ≡ Some [] = end (omega (arith, short)) in
    let none : others ≡ [] = cc last in
    (took ∙ (ap (λ (x : List ℕ). text ++ x) none ∙ append-nil text), last)

pub bad_line : BadInFront → (left : Option (List ℕ)) (text : List ℕ) (number : ℕ) → IsFront batch_limit left text → IsFirstBad text number → IfSome left (λ all. IsFirstBad all number)
bad_line in_front None text number front bad = tt
bad_line in_front (Some all) text number front bad = in_front all number (subst (λ (x : List ℕ). IsFirstBad x number) front bad)

-- a batch was read of the bytes that were taken
pub batch_read : (left rest : Option (List ℕ)) (text bytes own : List ℕ) → Took left rest text → (length text < batch_limit → IsAtEnd left rest) → bytes ≡ text → own ≡ bytes → length own ≤ 1048576 → TakesBatch left rest own
batch_read left rest text bytes own took end same is short =
    let whole : own ≡ text = is ∙ same in
    subst (λ (x : List ℕ). TakesBatch left rest x) (sym whole) (all_taken left rest text took end (subst (λ (x : List ℕ). length x ≤ 1048576) whole short))

pub bad_batch : BadInFront → (left : Option (List ℕ)) (text bytes : List ℕ) (number : ℕ) → IsFront batch_limit left text → bytes ≡ text → IsFirstBad bytes number → IsUnbatched left (status.BadScenario number)
bad_batch in_front left text bytes number front same is = inr (number, refl, bad_line in_front left text number front (subst (λ (x : List ℕ). IsFirstBad x number) same is))

-- ---- among the orders

module _ (read reads put puts disk disks : ℕ) where
  each_cause : (o : SpoolOutcome) (s : Status) → s ≡ status_of_batch o → (s ≡ status.DiskFault → Rose disk disks) → HasCause (status_of_batch o) read reads put puts disk disks
  each_cause (outcome.Done out) s is disk_cause = tt
  each_cause outcome.OtherBatch s is disk_cause = tt
  each_cause (outcome.OutOfStep entry) s is disk_cause = tt
  each_cause (outcome.OtherParty asked found) s is disk_cause = tt
  each_cause outcome.Blank s is disk_cause = tt
  each_cause (outcome.Damaged place) s is disk_cause = tt
  each_cause outcome.Fault s is disk_cause = disk_cause is
  each_cause outcome.NoMemory s is disk_cause = tt

  pub cause_batched : (party spool : List ℕ) (left rest : Option (List ℕ)) (old new : List ℕ → View) (s : Status) (before after : Option (List ℕ)) → IsBatched party spool left rest old new s before after
      → (s ≡ status.ReadFault → Rose read reads) → (s ≡ status.WriteFault → Rose put puts) → (s ≡ status.DiskFault → Rose disk disks) → HasCause s read reads put puts disk disks
  cause_batched party spool left rest old new s before after (inl (inl (inl is), same, none)) read_cause put_cause disk_cause = subst (λ (x : Status). HasCause x read reads put puts disk disks) (sym is) (read_cause is)
  cause_batched party spool left rest old new s before after (inl (inl (inr is), same, none)) read_cause put_cause disk_cause = subst (λ (x : Status). HasCause x read reads put puts disk disks) (sym is) tt
  cause_batched party spool left rest old new s before after (inl (inr (number, is, first), same, none)) read_cause put_cause disk_cause = subst (λ (x : Status). HasCause x read reads put puts disk disks) (sym is) tt
  cause_batched party spool left rest old new s before after (inr (text, entries, batch, takes, did)) read_cause put_cause disk_cause = go (batch_ended did.outcome s before after did.ends)
    where
      go : (s ≡ status_of_batch did.outcome) ⊎ (s ≡ status.WriteFault) → HasCause s read reads put puts disk disks
      go (inl is) = subst (λ (x : Status). HasCause x read reads put puts disk disks) (sym is) (each_cause did.outcome s is disk_cause)
      go (inr is) = subst (λ (x : Status). HasCause x read reads put puts disk disks) (sym is) (put_cause is)

-- ---- the outbox

missing_ended : (missing : ℕ) → status.DiskFault ≡ status_of_missing missing → ⊥
missing_ended zero is = cc is
missing_ended (suc missing) is = cc is

-- so many entries have no plan
pub some_missing : (missing : ℕ) → (missing ≡ 0 → ⊥) → status.Refused (Unplanned missing) ≡ status_of_missing missing
some_missing zero some = absurd (some refl)
some_missing (suc missing) some = refl

missing_silent : (missing : ℕ) → IsSilent (status_of_missing missing) → ⊥
missing_silent zero silent = silent
missing_silent (suc missing) silent = silent

missing_write : (missing : ℕ) → status.WriteFault ≡ status_of_missing missing → ⊥
missing_write zero is = cc is
missing_write (suc missing) is = cc is

-- an outbox is put
module _ (text : List ℕ) (missing : ℕ) (answer s : Status) (before after : Option (List ℕ)) (told : answer ≡ status_of_missing missing) where
  outbox_silent : Puts (Some text) [] answer s before after → IsSilent s → ⊥
  outbox_silent (inl puts) silent = missing_silent missing (subst IsSilent (puts.0 ∙ told) silent)
  outbox_silent (inr part) silent = subst IsSilent part.0 silent

  outbox_write : (put puts : ℕ) → (s ≡ answer) ⊎ Rose put puts → s ≡ status.WriteFault → Rose put puts
  outbox_write put puts (inl same) fault = absurd (missing_write missing (sym fault ∙ (same ∙ told)))
  outbox_write put puts (inr rose) fault = rose

  pub outbox_put : (unwritten : Type 0) (put puts : ℕ) → Puts (Some text) [] answer s before after → (s ≡ answer) ⊎ Rose put puts → GivesOutput s (IsSilent s) unwritten put puts
  outbox_put unwritten put puts done fault = record { silent = λ silent. absurd (outbox_silent done silent); fault = outbox_write put puts fault }

outbox_ended : (o : OutboxOutcome) (s : Status) (before after : Option (List ℕ)) → EndsOutbox o s before after → (s ≡ status_of_outbox o) ⊎ (s ≡ status.WriteFault)
outbox_ended (outbox.Done text missing) s before after (inl puts) = inl puts.0
outbox_ended (outbox.Done text missing) s before after (inr puts) = inr puts.0
outbox_ended outbox.Blank s before after ends = inl ends.0
outbox_ended (outbox.Damaged place) s before after ends = inl ends.0
outbox_ended outbox.Fault s before after ends = inl ends.0
outbox_ended outbox.NoMemory s before after ends = inl ends.0

outbox_fault : (o : OutboxOutcome) → status.DiskFault ≡ status_of_outbox o → o ≡ outbox.Fault
outbox_fault (outbox.Done text missing) is = absurd (missing_ended missing is)
outbox_fault outbox.Blank is = absurd (cc is)
outbox_fault (outbox.Damaged place) is = absurd (cc is)
outbox_fault outbox.Fault is = refl
outbox_fault outbox.NoMemory is = absurd (cc is)

missing_cause : (missing read reads put puts disk disks : ℕ) → HasCause (status_of_missing missing) read reads put puts disk disks
missing_cause zero read reads put puts disk disks = tt
missing_cause (suc missing) read reads put puts disk disks = tt

module _ (o : OutboxOutcome) (s : Status) (before after : Option (List ℕ)) (put puts disk disks : ℕ) (ends : EndsOutbox o s before after) (put_cause : s ≡ status.WriteFault → Rose put puts)
    (disk_cause : o ≡ outbox.Fault → Rose disk disks) where
  pub outbox_follows : (old : View) → GivesOutbox old o → IsQuiet put puts → IsQuiet disk disks → FollowsOutbox old s
  outbox_follows old given put_quiet disk_quiet = λ book other now due. go other (given book other now due) (outbox_ended o s before after ends)
    where
      go : (other : OutboxOutcome) → (o ≡ other) ⊎ ((o ≡ outbox.Fault) ⊎ (o ≡ outbox.NoMemory)) → (s ≡ status_of_outbox o) ⊎ (s ≡ status.WriteFault) → IsOrNoMemory s (status_of_outbox other)
      go other came (inr fault) = absurd (put_quiet (put_cause fault))
      go other (inl is) (inl same) = inl (same ∙ ap status_of_outbox is)
      go other (inr (inl fault)) (inl same) = absurd (disk_quiet (disk_cause fault))
      go other (inr (inr memory)) (inl same) = inr (same ∙ ap status_of_outbox memory)

  outbox_disk : s ≡ status.DiskFault → Rose disk disks
  outbox_disk is = go (outbox_ended o s before after ends) where
    go : (s ≡ status_of_outbox o) ⊎ (s ≡ status.WriteFault) → Rose disk disks
    go (inl same) = disk_cause (outbox_fault o (sym is ∙ same))
    go (inr fault) = let no : status.DiskFault ≡ status.WriteFault = sym is ∙ fault in absurd (cc no)

  pub outbox_rest : (name : List ℕ) (is_back : List ℕ → Type 0) (unwritten : Type 0) (old new : List ℕ → View) → LeavesOne name o (is_back name) old new disk disks
      → (IsOfParty s → outboxes.IsNoFailure o) → (IsSilent s → unwritten) → LeavesSpool name s is_back unwritten old new put puts disk disks
  outbox_rest name is_back unwritten old new shelf answered silent = record {
    back = λ of. shelf.back (answered of);
    others = shelf.others;
    silent = silent;
    write_fault = put_cause;
    disk_fault = outbox_disk;
  }

  each_outbox : (other : OutboxOutcome) → o ≡ other → (read reads : ℕ) → HasCause (status_of_outbox other) read reads put puts disk disks
  each_outbox (outbox.Done text missing) is read reads = missing_cause missing read reads put puts disk disks
  each_outbox outbox.Blank is read reads = tt
  each_outbox (outbox.Damaged place) is read reads = tt
  each_outbox outbox.Fault is read reads = disk_cause is
  each_outbox outbox.NoMemory is read reads = tt

  pub outbox_cause : (read reads : ℕ) → HasCause s read reads put puts disk disks
  outbox_cause read reads = go (outbox_ended o s before after ends) where
    go : (s ≡ status_of_outbox o) ⊎ (s ≡ status.WriteFault) → HasCause s read reads put puts disk disks
    go (inl is) = subst (λ (x : Status). HasCause x read reads put puts disk disks) (sym is) (each_outbox o refl read reads)
    go (inr is) = subst (λ (x : Status). HasCause x read reads put puts disk disks) (sym is) (put_cause is)

pub outbox_leaves : (o : Order) (name : List ℕ) (s : Status) (is_back : List ℕ → Type 0) (unread unwritten : Type 0) (old new : List ℕ → View) (put puts disk disks : ℕ)
    → party_of o ≡ Some name → ledger_of o ≡ None → LeavesSpool name s is_back unwritten old new put puts disk disks → (is_reading o ≡ false → unread) → LeavesOthers o s is_back unread old new
outbox_leaves o name s is_back unread unwritten old new put puts disk disks is none rest same = record {
  back = λ of. subst (λ (x : Option (List ℕ)). IfSome x is_back) (sym is) (rest.back of);
  ledger_back = λ of. subst (λ (x : Option (List ℕ)). IfSome x is_back) (sym none) tt;
  others = λ playing. subst (λ (x : Option (List ℕ)). OthersOf x (ledger_of o) old new) (sym is) (subst (λ (y : Option (List ℕ)). OthersOf (Some name) y old new) (sym none) rest.others);
  unread = same;
}
