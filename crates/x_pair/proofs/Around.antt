-- Both disks are fetched, something is done, and both are put back.
use Rattle.std.proofs.Common.{◌≡◌, ◌⊎◌, inl, inr, ℕ, List, is_some, Result, Ok, Err, sym, ◌∙◌, ap, subst}
use Rattle.x_disk.specs.Disk.{View, IsSound, IsUntouched}
use Rattle.x_disk.specs.Shelf.{ShelfView, IsAlike}
use Rattle.x_disk.specs.declared.disk.DiskErr.{DiskErr}
use Rattle.x_disk.proofs.Runs.{weaker}
use Rattle.party_state.specs.State.{Party}
use Rattle.change_code.specs.Cost.{space_of_whole}
use Rattle.change_code.specs.declared.format.Format.TheVariants.{Two}
use Rattle.key_store.specs.Store.{IsBlankOrFirst}
use Rattle.disk_pair.specs.declared.disks.Disks.{Disks}
use Rattle.disk_pair.specs.Pairs.{AreFetched, ArePutBack, told_after}
use Rattle.mirror_store.specs.Pairs.{IsMadeAnew, IsAsBefore}
use Rattle.mirror_store.specs.Opening.{AreRead}
use Rattle.x_party.specs.Images.{OrBefore}
use Rattle.x_party.specs.Outcomes.{IsNoFailure}
use Rattle.x_party.specs.declared.outcome.Outcome.{Outcome}
use Rattle.x_party.specs.declared.outcome.Outcome.TheVariants as outcome
use Rattle.x_pair.specs.Outcomes.{Work, OfOpened, MakesOf, MakesPair, IsAsOpened, KeepsNext, IsSafePair, MayLeave, Opened, After, AsItWas, Before, left_on_first, left_on_second, LeavesBoth}
use Rattle.x_pair.specs.Creations.{CreatesPair, IsSafeCreation, IsDueOrFailed, StandsWhereDone}
use Rattle.x_pair.specs.Steps.{HasActed, HasCreated, HasFaults, failure_of}
use Rattle.x_disk.proofs.Alike.{durable_alike, leaves_around, untouched_alike, untouched_around}
use Rattle.x_party.proofs.Alike.{stands_alike}
use Rattle.disk_pair.proofs.Around.{IsFailed, IsTold, around_leaves, closed, unfetched, unfetched_leaves}

-- a failure tells nothing

failed_makes : (w : Work) (i j : List ℕ) (a b : View) (o : Outcome) (before after : ℕ) → IsFailed failure_of o before after → MakesOf w i j a b o
failed_makes w i j a b o before after (inl is) = subst (MakesOf w i j a b) (sym is) tt
failed_makes w i j a b o before after (inr is) = subst (MakesOf w i j a b) (sym is.0) tt

failed_due : (i j : List ℕ) (o : Outcome) (before after : ℕ) → IsFailed failure_of o before after → IsDueOrFailed i j o
failed_due i j o before after (inl is) = subst (IsDueOrFailed i j) (sym is) tt
failed_due i j o before after (inr is) = subst (IsDueOrFailed i j) (sym is.0) tt

failed_stands : (o : Outcome) (before after : ℕ) (a b : View) (party : Party) → IsFailed failure_of o before after → StandsWhereDone o a b party
failed_stands o before after a b party (inl is) = subst (λ (x : Outcome). StandsWhereDone x a b party) (sym is) tt
failed_stands o before after a b party (inr is) = subst (λ (x : Outcome). StandsWhereDone x a b party) (sym is.0) tt

apart : outcome.NoMemory ≡ outcome.Fault → ⊥
apart same = cc same

-- what an opening may leave of a disk
abbrev IsLeftOrBefore : View → List ℕ → Party → List ℕ → Type 0
IsLeftOrBefore v was party image = (IsMadeAnew was party image ⊎ IsAsBefore was image) ⊎ v.may_leave image

-- neither disk was fetched
module _ {D : Type 0} (told : D → View) (name other : List ℕ) (old new : ShelfView) (e : DiskErr) (o : Outcome) (is : o ≡ failure_of e) (out : AreFetched told name other old new (Err e))
    (first : IsSound (old.entry name)) (second : IsSound (old.entry other)) where
  pub failed : IsFailed failure_of o old.faults new.faults
  failed = unfetched told name other failure_of old new e o is out

  pub unfetched_makes : (w : Work) → MakesPair w (old.entry name) (old.entry other) (new.entry name) (new.entry other) o
  unfetched_makes w = λ i j read. failed_makes w i j (new.entry name) (new.entry other) o old.faults new.faults failed

  first_still : IsUntouched (old.entry name) (new.entry name)
  first_still = untouched_alike (old.entry name) (new.entry name) first out.first_stays

  second_still : IsUntouched (old.entry other) (new.entry other)
  second_still = untouched_alike (old.entry other) (new.entry other) second out.second_stays

  pub unfetched_safe : (w : Work) → IsSafePair w (old.entry name) (old.entry other) (new.entry name) (new.entry other)
  unfetched_safe w = record {
    on_first = λ i j party read recovers. weaker (old.entry name) (new.entry name) (old.entry name).may_leave (MayLeave w left_on_first i j party i (old.entry name).may_leave) first_still.any_moment (λ c left. Before left);
    on_second = λ i j party read recovers. weaker (old.entry other) (new.entry other) (old.entry other).may_leave (MayLeave w left_on_second i j party j (old.entry other).may_leave) second_still.any_moment (λ c left. Before left);
    order = λ i j party read recovers. inl (record {
      moments = weaker (old.entry other) (new.entry other) (old.entry other).may_leave (IsLeftOrBefore (old.entry other) j party) second_still.any_moment (λ c left. inr left);
      stays = λ either. second_still;
    });
    nobody = λ i j read none. (first_still, second_still);
    quiet = λ i j party read stand none. (first_still, second_still);
    first_stays = λ i j party read recovers none filled. first_still;
    second_stays = λ i j party read recovers none blank. second_still;
    too_large = λ i j read large. (first_still, second_still);
    first_tells = ap is_some out.first_stays.now;
    second_tells = ap is_some out.second_stays.now;
  }

  pub unfetched_creates : (party : Party) → CreatesPair party (old.entry name) (old.entry other) (new.entry name) (new.entry other) o
  unfetched_creates party = record {
    is_due = λ i j read. failed_due i j o old.faults new.faults failed;
    stand = failed_stands o old.faults new.faults (new.entry name) (new.entry other) party failed;
  }

  pub unfetched_creation : (party : Party) → IsSafeCreation party (old.entry name) (old.entry other) (new.entry name) (new.entry other)
  unfetched_creation party = record {
    first_stays = λ i j read filled. first_still;
    second_stays = λ i j read filled. second_still;
    on_first = λ tells. weaker (old.entry name) (new.entry name) (old.entry name).may_leave (OrBefore (old.entry name) (IsBlankOrFirst party)) first_still.any_moment (λ c left. inr left);
    on_second = λ tells. weaker (old.entry other) (new.entry other) (old.entry other).may_leave (OrBefore (old.entry other) (IsBlankOrFirst party)) second_still.any_moment (λ c left. inr left);
    order = inl second_still;
    first_tells = ap is_some out.first_stays.now;
    second_tells = ap is_some out.second_stays.now;
  }

  pub unfetched_shelf : LeavesBoth name other o (new.is_back name) (new.is_back other) old.entry new.entry old.faults new.faults
  unfetched_shelf = unfetched_leaves told name other failure_of IsNoFailure (λ no. no) (λ no. no) apart old new e o is out

-- what was done between them, of the disks that were fetched and put back
module _ (first second out_first out_second mid_first mid_second new_first new_second : View)
    (first_out : IsAlike first out_first) (second_out : IsAlike second out_second) (first_back : IsAlike mid_first new_first) (second_back : IsAlike mid_second new_second) where
  read_out : (i j : List ℕ) → AreRead first second i j → AreRead out_first out_second i j
  read_out i j read = record { first = first_out.now ∙ read.first; second = second_out.now ∙ read.second }

  both_around : IsUntouched out_first mid_first × IsUntouched out_second mid_second → IsUntouched first new_first × IsUntouched second new_second
  both_around still = (untouched_around first out_first mid_first new_first first_out first_back still.0, untouched_around second out_second mid_second new_second second_out second_back still.1)

  module _ (w : Work) where
    opened_alike : (i j : List ℕ) (o : Outcome) → OfOpened w i j mid_first mid_second o → OfOpened w i j new_first new_second o
    opened_alike i j o is = record {
      member = is.member;
      next = is.next;
      recovers = is.recovers;
      space = is.space;
      small = is.small;
      says = is.says;
      stand = record {
        on_first = stands_alike mid_first new_first is.next.party is.next.space is.stand.on_first first_back;
        durable = durable_alike mid_second new_second is.stand.durable second_back;
        on_second = λ image now. is.stand.on_second image (sym second_back.now ∙ now);
      };
    }

    makes_alike : (i j : List ℕ) (o : Outcome) → MakesOf w i j mid_first mid_second o → MakesOf w i j new_first new_second o
    makes_alike i j (outcome.Done reply) is = opened_alike i j (outcome.Done reply) is
    makes_alike i j (outcome.Refused verdict reply) (inl is) = inl (opened_alike i j (outcome.Refused verdict reply) is)
    makes_alike i j (outcome.Refused verdict reply) (inr is) = inr is
    makes_alike i j (outcome.OtherParty a b) (inl is) = inl (opened_alike i j (outcome.OtherParty a b) is)
    makes_alike i j (outcome.OtherParty a b) (inr is) = inr is
    makes_alike i j (outcome.Damaged place) is = is
    makes_alike i j outcome.Fault is = tt
    makes_alike i j outcome.NoMemory is = tt

    closed_makes : (o result : Outcome) (before after : ℕ) → IsTold failure_of o before after result → MakesPair w out_first out_second mid_first mid_second o → MakesPair w first second new_first new_second result
    closed_makes o result before after (inl is) makes = λ i j read. subst (MakesOf w i j new_first new_second) (sym is) (makes_alike i j o (makes i j (read_out i j read)))
    closed_makes o result before after (inr failed) makes = λ i j read. failed_makes w i j new_first new_second result before after failed

    leaves_first : (image other : List ℕ) (party : Party) (was c : List ℕ) → MayLeave w left_on_first image other party was out_first.may_leave c → MayLeave w left_on_first image other party was first.may_leave c
    leaves_first image other party was c (Opened stands) = Opened stands
    leaves_first image other party was c (After next may stands) = After next may stands
    leaves_first image other party was c (AsItWas is) = AsItWas is
    leaves_first image other party was c (Before left) = Before (first_out.images c left)

    leaves_second : (image other : List ℕ) (party : Party) (was c : List ℕ) → MayLeave w left_on_second image other party was out_second.may_leave c → MayLeave w left_on_second image other party was second.may_leave c
    leaves_second image other party was c (Opened stands) = Opened stands
    leaves_second image other party was c (After next may stands) = After next may stands
    leaves_second image other party was c (AsItWas is) = AsItWas is
    leaves_second image other party was c (Before left) = Before (second_out.images c left)

    order_around : (i j : List ℕ) (party : Party) → IsAsOpened out_second mid_second i j party ⊎ KeepsNext w mid_first i j party → IsAsOpened second new_second i j party ⊎ KeepsNext w new_first i j party
    order_around i j party (inl is) = inl (record {
      moments = weaker second new_second (IsLeftOrBefore out_second j party) (IsLeftOrBefore second j party)
          (leaves_around second out_second mid_second new_second second_out second_back (IsLeftOrBefore out_second j party) is.moments)
          (λ c either. elim either [ inl here ↦ inl here | inr left ↦ inr (second_out.images c left) ]);
      stays = λ either. untouched_around second out_second mid_second new_second second_out second_back (is.stays either);
    })
    order_around i j party (inr is) = inr (record { next = is.next; changes = is.changes; kept = stands_alike mid_first new_first is.next.party is.next.space is.kept first_back })

    safe_around : IsSafePair w out_first out_second mid_first mid_second → IsSafePair w first second new_first new_second
    safe_around safe = record {
      on_first = λ i j party read recovers.
          weaker first new_first (MayLeave w left_on_first i j party i out_first.may_leave) (MayLeave w left_on_first i j party i first.may_leave)
          (leaves_around first out_first mid_first new_first first_out first_back (MayLeave w left_on_first i j party i out_first.may_leave) (safe.on_first i j party (read_out i j read) recovers)) (leaves_first i j party i);
      on_second = λ i j party read recovers.
          weaker second new_second (MayLeave w left_on_second i j party j out_second.may_leave) (MayLeave w left_on_second i j party j second.may_leave)
          (leaves_around second out_second mid_second new_second second_out second_back (MayLeave w left_on_second i j party j out_second.may_leave) (safe.on_second i j party (read_out i j read) recovers)) (leaves_second i j party j);
      order = λ i j party read recovers. order_around i j party (safe.order i j party (read_out i j read) recovers);
      nobody = λ i j read none. both_around (safe.nobody i j (read_out i j read) none);
      quiet = λ i j party read stand none. both_around (safe.quiet i j party (read_out i j read) stand none);
      first_stays = λ i j party read recovers none filled. untouched_around first out_first mid_first new_first first_out first_back (safe.first_stays i j party (read_out i j read) recovers none filled);
      second_stays = λ i j party read recovers none blank. untouched_around second out_second mid_second new_second second_out second_back (safe.second_stays i j party (read_out i j read) recovers none blank);
      too_large = λ i j read large. both_around (safe.too_large i j (read_out i j read) large);
      first_tells = ap is_some first_back.now ∙ (safe.first_tells ∙ ap is_some first_out.now);
      second_tells = ap is_some second_back.now ∙ (safe.second_tells ∙ ap is_some second_out.now);
    }

  module _ (party : Party) where
    stands_back : (o : Outcome) → StandsWhereDone o mid_first mid_second party → StandsWhereDone o new_first new_second party
    stands_back (outcome.Done reply) is = (stands_alike mid_first new_first party (space_of_whole Two party) is.0 first_back, stands_alike mid_second new_second party (space_of_whole Two party) is.1 second_back)
    stands_back (outcome.Refused verdict reply) is = tt
    stands_back (outcome.OtherParty a b) is = tt
    stands_back (outcome.Damaged place) is = tt
    stands_back outcome.Fault is = tt
    stands_back outcome.NoMemory is = tt

    closed_creates : (o result : Outcome) (before after : ℕ) → IsTold failure_of o before after result → CreatesPair party out_first out_second mid_first mid_second o → CreatesPair party first second new_first new_second result
    closed_creates o result before after (inl is) makes = subst (λ (x : Outcome). CreatesPair party first second new_first new_second x) (sym is) (record {
      is_due = λ i j read. makes.is_due i j (read_out i j read);
      stand = stands_back o makes.stand;
    })
    closed_creates o result before after (inr failed) makes = record {
      is_due = λ i j read. failed_due i j result before after failed;
      stand = failed_stands result before after new_first new_second party failed;
    }

    before_first : (c : List ℕ) → OrBefore out_first (IsBlankOrFirst party) c → OrBefore first (IsBlankOrFirst party) c
    before_first c (inl is) = inl is
    before_first c (inr left) = inr (first_out.images c left)

    before_second : (c : List ℕ) → OrBefore out_second (IsBlankOrFirst party) c → OrBefore second (IsBlankOrFirst party) c
    before_second c (inl is) = inl is
    before_second c (inr left) = inr (second_out.images c left)

    creation_around : IsSafeCreation party out_first out_second mid_first mid_second → IsSafeCreation party first second new_first new_second
    creation_around safe = record {
      first_stays = λ i j read filled. untouched_around first out_first mid_first new_first first_out first_back (safe.first_stays i j (read_out i j read) filled);
      second_stays = λ i j read filled. untouched_around second out_second mid_second new_second second_out second_back (safe.second_stays i j (read_out i j read) filled);
      on_first = λ tells. weaker first new_first (OrBefore out_first (IsBlankOrFirst party)) (OrBefore first (IsBlankOrFirst party))
          (leaves_around first out_first mid_first new_first first_out first_back (OrBefore out_first (IsBlankOrFirst party)) (safe.on_first (ap is_some first_out.now ∙ tells))) before_first;
      on_second = λ tells. weaker second new_second (OrBefore out_second (IsBlankOrFirst party)) (OrBefore second (IsBlankOrFirst party))
          (leaves_around second out_second mid_second new_second second_out second_back (OrBefore out_second (IsBlankOrFirst party)) (safe.on_second (ap is_some second_out.now ∙ tells))) before_second;
      order = elim safe.order [
        | inl still ↦ inl (untouched_around second out_second mid_second new_second second_out second_back still)
        | inr kept ↦ inr (stands_alike mid_first new_first party (space_of_whole Two party) kept first_back)
      ];
      first_tells = ap is_some first_back.now ∙ (safe.first_tells ∙ ap is_some first_out.now);
      second_tells = ap is_some second_back.now ∙ (safe.second_tells ∙ ap is_some second_out.now);
    }

-- the whole call
module _ {D : Type 0} (told : D → View) (name other : List ℕ) (old mid new : ShelfView) (taken put : Disks D) (r : Result Unit DiskErr) (o result : Outcome)
    (out : AreFetched told name other old mid (Ok taken)) (back : ArePutBack told name other put mid new r) (is : result ≡ told_after failure_of o r) where
  pub told_so : IsTold failure_of o mid.faults new.faults result
  told_so = closed told name other failure_of put mid new r o result is back

  pub all_makes : (w : Work) → HasActed w told taken put o → MakesPair w (old.entry name) (old.entry other) (new.entry name) (new.entry other) result
  all_makes w did = closed_makes (old.entry name) (old.entry other) (told taken.first) (told taken.second) (told put.first) (told put.second) (new.entry name) (new.entry other)
      out.first out.second back.first back.second w o result mid.faults new.faults told_so did.makes

  pub all_safe : (w : Work) → HasActed w told taken put o → IsSafePair w (old.entry name) (old.entry other) (new.entry name) (new.entry other)
  all_safe w did = safe_around (old.entry name) (old.entry other) (told taken.first) (told taken.second) (told put.first) (told put.second) (new.entry name) (new.entry other)
      out.first out.second back.first back.second w did.safe

  pub all_creates : (party : Party) → HasCreated party told taken put o → CreatesPair party (old.entry name) (old.entry other) (new.entry name) (new.entry other) result
  all_creates party did = closed_creates (old.entry name) (old.entry other) (told taken.first) (told taken.second) (told put.first) (told put.second) (new.entry name) (new.entry other)
      out.first out.second back.first back.second party o result mid.faults new.faults told_so did.makes

  pub all_creation : (party : Party) → HasCreated party told taken put o → IsSafeCreation party (old.entry name) (old.entry other) (new.entry name) (new.entry other)
  all_creation party did = creation_around (old.entry name) (old.entry other) (told taken.first) (told taken.second) (told put.first) (told put.second) (new.entry name) (new.entry other)
      out.first out.second back.first back.second party did.safe

  pub all_shelf : HasFaults told taken put o → LeavesBoth name other result (new.is_back name) (new.is_back other) old.entry new.entry old.faults new.faults
  all_shelf faults = around_leaves told name other failure_of IsNoFailure (λ no. no) (λ no. no) apart old mid new taken put r o result out back is faults.fault
