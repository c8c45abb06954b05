-- Both disks are fetched, something is done, and both are put back.
use Rattle.std.proofs.Common.{◌≡◌, ◌⊎◌, inl, inr, ℕ, List, is_some, Result, Ok, Err, sym, ◌∙◌, ap, subst}
use Rattle.x_disk.specs.Disk.{View, IsSound}
use Rattle.x_disk.specs.Shelf.{ShelfView, IsAlike}
use Rattle.x_disk.specs.declared.disk.DiskErr.{DiskErr}
use Rattle.member.specs.Member.{Member}
use Rattle.csm_batch.specs.declared.entry.Entry.{Entry}
use Rattle.csm_spool.specs.InStep.{PairsInStep}
use Rattle.disk_pair.specs.declared.disks.Disks.{Disks}
use Rattle.disk_pair.specs.Pairs.{AreFetched, ArePutBack, told_after}
use Rattle.x_disk.proofs.Alike.{durable_alike, untouched_alike, untouched_around}
use Rattle.disk_pair.proofs.Around.{IsFailed, IsTold, around_leaves, closed, unfetched, unfetched_leaves}
use Rattle.x_spool.specs.Onward.{AnswersWhole, GoesOnward}
use Rattle.x_spool.specs.Outcomes.{AreUntouched, BothStay, IsDoneOrFailed, IsNoFailure, IsSafeBatch, LeavesBatch, MakesBatch, StaysInStep}
use Rattle.x_spool.specs.Shelves.{LeavesShelf}
use Rattle.x_spool.specs.Steps.{HasActed, failure_of}
use Rattle.x_spool.specs.declared.outcome.SpoolOutcome.{SpoolOutcome}
use Rattle.x_spool.specs.declared.outcome.SpoolOutcome.TheVariants as outcome
use Rattle.x_spool.proofs.Onwards as onward

abbrev IsFailure : SpoolOutcome → Type 0
IsFailure o = (o ≡ outcome.NoMemory) ⊎ (o ≡ outcome.Fault)

-- a failure tells nothing
module _ (name text : List ℕ) (entries : List Entry) (party_disk spool_disk party_after spool_after : View) where
  failed_left : (o : SpoolOutcome) → IsFailure o → LeavesBatch text entries party_disk spool_disk party_after spool_after o
  failed_left o (inl is) = subst (LeavesBatch text entries party_disk spool_disk party_after spool_after) (sym is) tt
  failed_left o (inr is) = subst (LeavesBatch text entries party_disk spool_disk party_after spool_after) (sym is) tt

  unanswered : (o : SpoolOutcome) → IsFailure o → IsNoFailure o → ⊥
  unanswered o (inl is) answered = subst IsNoFailure is answered
  unanswered o (inr is) answered = subst IsNoFailure is answered

  failed_makes : (o : SpoolOutcome) → IsFailure o → MakesBatch name text entries party_disk spool_disk party_after spool_after o
  failed_makes o is = record { due = λ image book now told_book answered. absurd (unanswered o is answered); left = failed_left o is }

  failed_whole : (o : SpoolOutcome) → IsFailure o → (x : Member) → AnswersWhole text entries spool_disk party_after spool_after x o
  failed_whole o (inl is) x = subst (AnswersWhole text entries spool_disk party_after spool_after x) (sym is) tt
  failed_whole o (inr is) x = subst (AnswersWhole text entries spool_disk party_after spool_after x) (sym is) tt

  -- what is left of the two disks is left whatever is told
  failed_onward : (o result : SpoolOutcome) → IsFailure result → GoesOnward name text entries party_disk spool_disk party_after spool_after o → GoesOnward name text entries party_disk spool_disk party_after spool_after result
  failed_onward o result is goes = record { answers = λ image x now finds. failed_whole result is x; left = goes.left }

  failed_done : (o : SpoolOutcome) → IsFailure o → IsDoneOrFailed o
  failed_done o (inl is) = subst IsDoneOrFailed (sym is) tt
  failed_done o (inr is) = subst IsDoneOrFailed (sym is) tt

is_failure : (o : SpoolOutcome) (before after : ℕ) → IsFailed failure_of o before after → IsFailure o
is_failure o before after (inl is) = inl is
is_failure o before after (inr is) = inr is.0

apart : outcome.NoMemory ≡ outcome.Fault → ⊥
apart same = cc same

-- neither disk was fetched
module _ {D : Type 0} (told : D → View) (text : List ℕ) (entries : List Entry) (name other : List ℕ) (old new : ShelfView) (e : DiskErr) (o : SpoolOutcome) (is : o ≡ failure_of e) (out : AreFetched told name other old new (Err e)) where
  failure : IsFailure o
  failure = is_failure o old.faults new.faults (unfetched told name other failure_of old new e o is out)

  pub unfetched_makes : MakesBatch name text entries (old.entry name) (old.entry other) (new.entry name) (new.entry other) o
  unfetched_makes = failed_makes name text entries (old.entry name) (old.entry other) (new.entry name) (new.entry other) o failure

  pub unfetched_stays : IsSound (old.entry name) → IsSound (old.entry other) → StaysInStep name text entries (old.entry name) (old.entry other) (new.entry name) (new.entry other) o
  unfetched_stays first_sound second_sound = let
      both : AreUntouched (old.entry name) (old.entry other) (new.entry name) (new.entry other) = record {
        party = untouched_alike (old.entry name) (new.entry name) first_sound out.first_stays;
        spool = untouched_alike (old.entry other) (new.entry other) second_sound out.second_stays;
      } in record {
        pairs = λ x party_tells spool_tells start i j first second. start i j (out.first_stays.images i first) (out.second_stays.images j second);
        complete = λ x y image tells start now finds. failed_done name text entries (old.entry name) (old.entry other) (new.entry name) (new.entry other) o failure;
        safe = record { nobody = λ image now nobody. both; unread = λ book told_book none. both; out = λ image book e now told_book due. both; finished = λ image book x p now told_book finds holds is. both };
        party_tells = ap is_some out.first_stays.now;
        spool_tells = ap is_some out.second_stays.now;
      }

  pub unfetched_onward : GoesOnward name text entries (old.entry name) (old.entry other) (new.entry name) (new.entry other) o
  unfetched_onward =
      onward.all_rests name text entries (old.entry name) (old.entry other) (new.entry name) (new.entry other) o (failed_whole name text entries (old.entry name) (old.entry other) (new.entry name) (new.entry other) o failure)
      out.first_stays.images out.second_stays.images

  pub unfetched_shelf : LeavesShelf name other o (new.is_back name) (new.is_back other) old.entry new.entry old.faults new.faults
  unfetched_shelf = unfetched_leaves told name other failure_of IsNoFailure (λ no. no) (λ no. no) apart old new e o is out

-- what was done between them, of the disks that were fetched and put back
module _ (name text : List ℕ) (entries : List Entry) (first second out_first out_second mid_first mid_second new_first new_second : View)
    (first_out : IsAlike first out_first) (second_out : IsAlike second out_second) (first_back : IsAlike mid_first new_first) (second_back : IsAlike mid_second new_second) where
  start : (x : Member) → PairsInStep first second text x entries → PairsInStep out_first out_second text x entries
  start x was i j left right = was i j (first_out.images i left) (second_out.images j right)

  both_around : BothStay out_first out_second mid_first mid_second → BothStay first second new_first new_second
  both_around both = record {
    party = untouched_around first out_first mid_first new_first first_out first_back both.party;
    spool = λ tells. untouched_around second out_second mid_second new_second second_out second_back (both.spool (ap is_some second_out.now ∙ tells));
  }

  untouched_both : AreUntouched out_first out_second mid_first mid_second → AreUntouched first second new_first new_second
  untouched_both both = record {
    party = untouched_around first out_first mid_first new_first first_out first_back both.party;
    spool = untouched_around second out_second mid_second new_second second_out second_back both.spool;
  }

  safe_around : IsSafeBatch name text out_first out_second mid_first mid_second → IsSafeBatch name text first second new_first new_second
  safe_around safe = record {
    nobody = λ image now nobody. untouched_both (safe.nobody image (first_out.now ∙ now) nobody);
    unread = λ book told_book none. untouched_both (safe.unread book (second_out.now ∙ told_book) none);
    out = λ image book e now told_book due. untouched_both (safe.out image book e (first_out.now ∙ now) (second_out.now ∙ told_book) due);
    finished = λ image book x p now told_book finds holds is. untouched_both (safe.finished image book x p (first_out.now ∙ now) (second_out.now ∙ told_book) finds holds is);
  }

  left_around : (o : SpoolOutcome) → LeavesBatch text entries out_first out_second mid_first mid_second o → LeavesBatch text entries first second new_first new_second o
  left_around (outcome.Done out) is = record {
    plans = is.plans;
    whole = is.whole;
    spool = record { durable = durable_alike mid_second new_second is.spool.durable second_back; holds = λ image now. is.spool.holds image (sym second_back.now ∙ now) };
    front = λ book p told_book has. is.front book p (second_out.now ∙ told_book) has;
    outbox = is.outbox;
    member = is.member;
    party = record { durable = durable_alike mid_first new_first is.party.durable first_back; stands = λ image now. is.party.stands image (sym first_back.now ∙ now) };
    ends = λ x party_tells spool_tells was. is.ends x (ap is_some first_out.now ∙ party_tells) (ap is_some second_out.now ∙ spool_tells) (start x was);
  }
  left_around outcome.OtherBatch is = both_around is
  left_around (outcome.OutOfStep e) is = both_around is
  left_around (outcome.OtherParty asked found) is = both_around is
  left_around outcome.Blank is = both_around is
  left_around (outcome.Damaged place) is = both_around is
  left_around outcome.Fault is = tt
  left_around outcome.NoMemory is = tt

  makes_around : (o : SpoolOutcome) → MakesBatch name text entries out_first out_second mid_first mid_second o → MakesBatch name text entries first second new_first new_second o
  makes_around o made = record {
    due = λ image book now told_book answered. made.due image book (first_out.now ∙ now) (second_out.now ∙ told_book) answered;
    left = left_around o made.left;
  }

  pub closed_makes : (o result : SpoolOutcome) (before after : ℕ) → IsTold failure_of o before after result → MakesBatch name text entries out_first out_second mid_first mid_second o → MakesBatch name text entries first second new_first new_second result
  closed_makes o result before after (inl is) made = subst (MakesBatch name text entries first second new_first new_second) (sym is) (makes_around o made)
  closed_makes o result before after (inr failed) made = failed_makes name text entries first second new_first new_second result (is_failure result before after failed)

  closed_done : (o result : SpoolOutcome) (before after : ℕ) → IsTold failure_of o before after result → IsDoneOrFailed o → IsDoneOrFailed result
  closed_done o result before after (inl is) done = subst IsDoneOrFailed (sym is) done
  closed_done o result before after (inr failed) done = failed_done name text entries first second new_first new_second result (is_failure result before after failed)

  pub closed_stays : (o result : SpoolOutcome) (before after : ℕ) → IsTold failure_of o before after result → StaysInStep name text entries out_first out_second mid_first mid_second o → StaysInStep name text entries first second new_first new_second result
  closed_stays o result before after closed did = record {
    pairs = λ x party_tells spool_tells was i j left right.
        did.pairs x (ap is_some first_out.now ∙ party_tells) (ap is_some second_out.now ∙ spool_tells) (start x was) i j (first_back.images i left) (second_back.images j right);
    complete = λ x y image tells was now finds. closed_done o result before after closed (did.complete x y image (ap is_some second_out.now ∙ tells) (start x was) (first_out.now ∙ now) finds);
    safe = safe_around did.safe;
    party_tells = ap is_some first_back.now ∙ (did.party_tells ∙ ap is_some first_out.now);
    spool_tells = ap is_some second_back.now ∙ (did.spool_tells ∙ ap is_some second_out.now);
  }

  onward_around : (o : SpoolOutcome) → GoesOnward name text entries out_first out_second mid_first mid_second o → GoesOnward name text entries first second new_first new_second o
  onward_around o goes =
      onward.before name text entries first second out_first out_second new_first new_second first_out.now second_out.now first_out.images second_out.images o
      (onward.after name text entries out_first out_second mid_first mid_second new_first new_second first_back second_back o goes)

  pub closed_onward : (o result : SpoolOutcome) (before after : ℕ) → IsTold failure_of o before after result → GoesOnward name text entries out_first out_second mid_first mid_second o → GoesOnward name text entries first second new_first new_second result
  closed_onward o result before after (inl is) goes = subst (GoesOnward name text entries first second new_first new_second) (sym is) (onward_around o goes)
  closed_onward o result before after (inr failed) goes = failed_onward name text entries first second new_first new_second o result (is_failure result before after failed) (onward_around o goes)

-- the whole call
module _ {D : Type 0} (told : D → View) (text : List ℕ) (entries : List Entry) (name other : List ℕ) (old mid new : ShelfView) (taken put : Disks D) (r : Result Unit DiskErr) (o result : SpoolOutcome)
    (out : AreFetched told name other old mid (Ok taken)) (did : HasActed name text entries told taken put o) (back : ArePutBack told name other put mid new r) (is : result ≡ told_after failure_of o r) where
  pub all_makes : MakesBatch name text entries (old.entry name) (old.entry other) (new.entry name) (new.entry other) result
  all_makes = closed_makes name text entries (old.entry name) (old.entry other) (told taken.first) (told taken.second) (told put.first) (told put.second) (new.entry name) (new.entry other)
      out.first out.second back.first back.second o result mid.faults new.faults (closed told name other failure_of put mid new r o result is back) did.made

  pub all_stays : StaysInStep name text entries (old.entry name) (old.entry other) (new.entry name) (new.entry other) result
  all_stays = closed_stays name text entries (old.entry name) (old.entry other) (told taken.first) (told taken.second) (told put.first) (told put.second) (new.entry name) (new.entry other)
      out.first out.second back.first back.second o result mid.faults new.faults (closed told name other failure_of put mid new r o result is back) did.in_step

  pub all_onward : GoesOnward name text entries (old.entry name) (old.entry other) (new.entry name) (new.entry other) result
  all_onward = closed_onward name text entries (old.entry name) (old.entry other) (told taken.first) (told taken.second) (told put.first) (told put.second) (new.entry name) (new.entry other)
      out.first out.second back.first back.second o result mid.faults new.faults (closed told name other failure_of put mid new r o result is back) did.onward

  pub all_shelf : LeavesShelf name other result (new.is_back name) (new.is_back other) old.entry new.entry old.faults new.faults
  all_shelf = around_leaves told name other failure_of IsNoFailure (λ no. no) (λ no. no) apart old mid new taken put r o result out back is did.fault
