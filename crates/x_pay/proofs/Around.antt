-- Both disks are fetched, something is done, and both are put back.
use Rattle.std.proofs.Common.{◌≡◌, ◌⊎◌, inl, inr, ℕ, List, is_some, Result, Ok, Err, sym, ◌∙◌, ap, subst}
use Rattle.x_base.specs.Edge.{Rose}
use Rattle.x_disk.specs.Disk.{View, IsSound, IsUntouched}
use Rattle.x_disk.specs.Shelf.{ShelfView, IsAlike}
use Rattle.x_disk.specs.declared.disk.DiskErr.{DiskErr}
use Rattle.x_disk.proofs.Runs.{weaker}
use Rattle.party_state.specs.State.{Party}
use Rattle.disk_pair.specs.declared.disks.Disks.{Disks}
use Rattle.disk_pair.specs.Pairs.{AreFetched, ArePutBack, told_after}
use Rattle.x_disk.proofs.Alike.{durable_alike, leaves_around, untouched_alike, untouched_around}
use Rattle.disk_pair.proofs.Around.{IsTold, around_leaves, closed, unfetched, unfetched_leaves}
use Rattle.pay_auth.specs.declared.entry.Entry.{Entry}
use Rattle.x_pay.specs.Outcomes.{Payment, IsOwnParty, KeepsEntries, MakesPayment, IsSafePayment, MayLeave, Before, Old, New, IsNoFailure, LeavesShelf}
use Rattle.x_pay.specs.Steps.{HasActed, failure_of}
use Rattle.x_pay.specs.declared.outcome.PayOutcome.{PayOutcome}
use Rattle.x_pay.specs.declared.outcome.PayOutcome.TheVariants as outcome

-- a failure tells nothing
failed_makes : (w : Payment) (name : List ℕ) (party_disk ledger_disk new : View) (o : PayOutcome) (rose : Type 0) → (o ≡ outcome.NoMemory) ⊎ ((o ≡ outcome.Fault) × rose) → MakesPayment w name party_disk ledger_disk new o
failed_makes w name party_disk ledger_disk new o rose (inl is) = subst (MakesPayment w name party_disk ledger_disk new) (sym is) tt
failed_makes w name party_disk ledger_disk new o rose (inr is) = subst (MakesPayment w name party_disk ledger_disk new) (sym is.0) tt

apart : outcome.NoMemory ≡ outcome.Fault → ⊥
apart same = cc same

-- neither disk was fetched
module _ {D : Type 0} (told : D → View) (w : Payment) (name other : List ℕ) (old new : ShelfView) (e : DiskErr) (o : PayOutcome) (is : o ≡ failure_of e) (out : AreFetched told name other old new (Err e))
    (first : IsSound (old.entry name)) (second : IsSound (old.entry other)) where
  pub unfetched_makes : MakesPayment w name (old.entry name) (old.entry other) (new.entry other) o
  unfetched_makes = failed_makes w name (old.entry name) (old.entry other) (new.entry other) o (Rose old.faults new.faults) (unfetched told name other failure_of old new e o is out)

  pub unfetched_safe : IsSafePayment w name (old.entry name) (new.entry name) (old.entry other) (new.entry other)
  unfetched_safe = record {
    party = untouched_alike (old.entry name) (new.entry name) first out.first_stays;
    ledger = λ p entries image book now stands own told_book reads.
        weaker (old.entry other) (new.entry other) (old.entry other).may_leave (MayLeave w p entries (old.entry other).may_leave)
        (untouched_alike (old.entry other) (new.entry other) second out.second_stays).any_moment (λ c left. Before left);
    nobody = λ image now nobody. untouched_alike (old.entry other) (new.entry other) second out.second_stays;
    damaged = λ book now none. untouched_alike (old.entry other) (new.entry other) second out.second_stays;
    tells = ap is_some out.second_stays.now;
  }

  pub unfetched_shelf : LeavesShelf name other o (new.is_back name) (new.is_back other) old.entry new.entry old.faults new.faults
  unfetched_shelf = unfetched_leaves told name other failure_of IsNoFailure (λ no. no) (λ no. no) apart old new e o is out

-- what was done between them, of the disks that were fetched and put back
module _ (w : Payment) (name : List ℕ) (first second out_first out_second mid_first mid_second new_first new_second : View)
    (first_out : IsAlike first out_first) (second_out : IsAlike second out_second) (first_back : IsAlike mid_first new_first) (second_back : IsAlike mid_second new_second) where
  around_ledger : IsUntouched out_second mid_second → IsUntouched second new_second
  around_ledger = untouched_around second out_second mid_second new_second second_out second_back

  kept_alike : (entries : List Entry) → KeepsEntries mid_second entries → KeepsEntries new_second entries
  kept_alike entries keeps = record { durable = durable_alike mid_second new_second keeps.durable second_back; stands = λ image now. keeps.stands image (sym second_back.now ∙ now) }

  own_alike : (p : Party) → IsOwnParty name out_first p → IsOwnParty name first p
  own_alike p own = record { reads = λ image now. own.reads image (first_out.now ∙ now); own = own.own }

  makes_alike : (o : PayOutcome) → MakesPayment w name out_first out_second mid_second o → MakesPayment w name first second new_second o
  makes_alike (outcome.Done text) is = record {
    p = is.p;
    entries = is.entries;
    entry = is.entry;
    is_own = own_alike is.p is.is_own;
    reads = λ image now. is.reads image (second_out.now ∙ now);
    passes = is.passes;
    kept = kept_alike _ is.kept;
  }
  makes_alike (outcome.Refused why) is = record {
    p = is.p;
    entries = is.entries;
    is_own = own_alike is.p is.is_own;
    reads = λ image now. is.reads image (second_out.now ∙ now);
    refuses = is.refuses;
    stay = kept_alike is.entries is.stay;
  }
  makes_alike (outcome.OtherParty asked found) is = record {
    p = is.p;
    reads = λ image now. is.reads image (first_out.now ∙ now);
    called = is.called;
    own = is.own;
    differs = is.differs;
    untouched = around_ledger is.untouched;
  }
  makes_alike outcome.Blank is = record { blank = λ image now. is.blank image (first_out.now ∙ now); untouched = around_ledger is.untouched }
  makes_alike (outcome.Damaged place) (inl is) = inl (record { first = λ image now. is.first image (first_out.now ∙ now); untouched = around_ledger is.untouched })
  makes_alike (outcome.Damaged place) (inr is) = inr (record {
    p = is.p;
    is_own = own_alike is.p is.is_own;
    first = λ image now. is.first image (second_out.now ∙ now);
    untouched = λ tells. around_ledger (is.untouched (ap is_some second_out.now ∙ tells));
  })
  makes_alike outcome.Fault is = tt
  makes_alike outcome.NoMemory is = tt

  pub closed_makes : (o result : PayOutcome) (before after : ℕ) → IsTold failure_of o before after result → MakesPayment w name out_first out_second mid_second o → MakesPayment w name first second new_second result
  closed_makes o result before after (inl is) makes = subst (MakesPayment w name first second new_second) (sym is) (makes_alike o makes)
  closed_makes o result before after (inr failed) makes = failed_makes w name first second new_second result (Rose before after) failed

  leaves_alike : (p : Party) (entries : List Entry) (c : List ℕ) → MayLeave w p entries out_second.may_leave c → MayLeave w p entries second.may_leave c
  leaves_alike p entries c (Before left) = Before (second_out.images c left)
  leaves_alike p entries c (Old reads) = Old reads
  leaves_alike p entries c (New entry text passes stands) = New entry text passes stands

  pub safe_around : IsSafePayment w name out_first mid_first out_second mid_second → IsSafePayment w name first new_first second new_second
  safe_around safe = record {
    party = untouched_around first out_first mid_first new_first first_out first_back safe.party;
    ledger = λ p entries image book now stands own told_book reads.
        weaker second new_second (MayLeave w p entries out_second.may_leave) (MayLeave w p entries second.may_leave)
        (leaves_around second out_second mid_second new_second second_out second_back (MayLeave w p entries out_second.may_leave)
        (safe.ledger p entries image book (first_out.now ∙ now) stands own (second_out.now ∙ told_book) reads)) (leaves_alike p entries);
    nobody = λ image now nobody. around_ledger (safe.nobody image (first_out.now ∙ now) nobody);
    damaged = λ book now none. around_ledger (safe.damaged book (second_out.now ∙ now) none);
    tells = ap is_some second_back.now ∙ (safe.tells ∙ ap is_some second_out.now);
  }

-- the whole call
module _ {D : Type 0} (told : D → View) (w : Payment) (name other : List ℕ) (old mid new : ShelfView) (taken put : Disks D) (r : Result Unit DiskErr) (o result : PayOutcome)
    (out : AreFetched told name other old mid (Ok taken)) (did : HasActed w name told taken put o) (back : ArePutBack told name other put mid new r) (is : result ≡ told_after failure_of o r) where
  pub all_makes : MakesPayment w name (old.entry name) (old.entry other) (new.entry other) result
  all_makes = closed_makes w name (old.entry name) (old.entry other) (told taken.first) (told taken.second) (told put.first) (told put.second) (new.entry name) (new.entry other)
      out.first out.second back.first back.second o result mid.faults new.faults (closed told name other failure_of put mid new r o result is back) did.makes

  pub all_safe : IsSafePayment w name (old.entry name) (new.entry name) (old.entry other) (new.entry other)
  all_safe = safe_around w name (old.entry name) (old.entry other) (told taken.first) (told taken.second) (told put.first) (told put.second) (new.entry name) (new.entry other)
      out.first out.second back.first back.second did.safe

  pub all_shelf : LeavesShelf name other result (new.is_back name) (new.is_back other) old.entry new.entry old.faults new.faults
  all_shelf = around_leaves told name other failure_of IsNoFailure (λ no. no) (λ no. no) apart old mid new taken put r o result out back is did.fault
