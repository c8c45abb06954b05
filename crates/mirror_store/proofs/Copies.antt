-- A disk is made to stand for a party: what a crash leaves.
use Rattle.std.proofs.Common.{◌≡◌, ◌⊎◌, inl, inr, ℕ, List, true, false, Ok, Err, refl, sym, ◌∙◌, ap, subst, arith}
use Rattle.x_disk.specs.Disk.{View, Tells, LeavesOnly, IsSound}
use Rattle.x_disk.specs.declared.disk.DiskErr.{DiskErr}
use Rattle.x_disk.specs.declared.disk.DiskErr.TheVariants as disk
use Rattle.x_disk.proofs.Runs.{weaker}
use Rattle.key_journal.specs.Causes.{cause_of}
use Rattle.key_journal.specs.Journal.{is_blank}
use Rattle.key_journal.specs.States.{Failed}
use Rattle.key_journal.specs.Opening.{IsFree}
use Rattle.key_journal.specs.declared.cause.Cause.{Cause}
use Rattle.key_journal.specs.declared.cause.Cause.TheVariants as cause
use Rattle.party_state.specs.State.{Party}
use Rattle.change_code.specs.declared.space.Space.{Space}
use Rattle.change_code.specs.Cost.{space_of_whole}
use Rattle.key_store.specs.Store.{Stored, StandsWith, StandsAnew, IsStore, IsBlankOrFirst, space}
use Rattle.key_store.specs.Replacing.{IsOldOrOther, IsReplacing}
use Rattle.mirror_store.specs.Framing.{IsBlankOrBefore, IsCopying}
use Rattle.mirror_store.specs.declared.uncopied.Uncopied.TheVariants as uncopied
use Rattle.mirror_store.proofs.Moments.{rests, store_left}
use Rattle.change_code.specs.declared.format.Format.TheVariants.{Two}
use Rattle.change_code.specs.Whole.{IsTooLarge}

one_made : (v : View) (made copy : Party) → made ≡ copy → (c : List ℕ) → IsBlankOrFirst made c ⊎ v.may_leave c → StandsAnew c copy ⊎ IsBlankOrBefore v c
one_made v made copy is c (inl (inl blank)) = inr (inl blank)
one_made v made copy is c (inl (inr stands)) = inl (subst (λ (p : Party). StandsAnew c p) is stands)
one_made v made copy is c (inr left) = inr (inr left)

pub made_moments : (v w : View) (made copy : Party) → made ≡ copy → (Tells v → LeavesOnly v w (λ c. IsBlankOrFirst made c ⊎ v.may_leave c)) → Tells v → LeavesOnly v w (λ c. StandsAnew c copy ⊎ IsBlankOrBefore v c)
made_moments v w made copy is run tells = weaker v w (λ c. IsBlankOrFirst made c ⊎ v.may_leave c) (λ c. StandsAnew c copy ⊎ IsBlankOrBefore v c) (run tells) (one_made v made copy is)

one_other : (old other copy : Party) (space : Space) → other ≡ copy → (c : List ℕ) → IsOldOrOther old space Two other c → StandsAnew c copy ⊎ StandsWith c old space
one_other old other copy space is c (inl stood) = inr stood
one_other old other copy space is c (inr stands) = inl (subst (λ (p : Party). StandsAnew c p) is stands)

pub other_moments : (v w : View) (old other copy : Party) (space : Space) → other ≡ copy → (Tells v → LeavesOnly v w (IsOldOrOther old space Two other)) → Tells v → LeavesOnly v w (λ c. StandsAnew c copy ⊎ StandsWith c old space)
other_moments v w old other copy space is run tells = weaker v w (IsOldOrOther old space Two other) (λ c. StandsAnew c copy ⊎ StandsWith c old space) (run tells) (one_other old other copy space is)

-- over a blank image no disk is told as not empty
pub free_over_blank : (reason : Cause) (b : List ℕ) → is_blank b ≡ true → IsFree reason ⊎ ((reason ≡ cause.NotEmpty) × (is_blank b ≡ false)) → IsFree reason
free_over_blank reason b is (inl free) = free
free_over_blank reason b is (inr not_empty) = let no : true ≡ false = sym is ∙ not_empty.1 in absurd (cc no)

free_cause : (d : DiskErr) → IsFree (cause_of d)
free_cause disk.Fault = tt
free_cause disk.NoMemory = tt

fault_of : (d : DiskErr) → cause_of d ≡ cause.Fault → d ≡ disk.Fault
fault_of disk.Fault is = refl
fault_of disk.NoMemory is = absurd (cc is)

module _ {D : Type 0} (told : D → View) (old : Stored D) (framed copy : Party) (is : framed ≡ copy) where
  pub switched : (s : Stored D) → IsReplacing told old framed (Ok s) → (IsTooLarge Two copy → ⊥) → IsCopying told old.disk (λ c. StandsWith c old.party (space old)) copy (Ok s)
  switched s r small = record {
    stands = r.stands;
    party = r.party ∙ is;
    left = r.left ∙ ap (space_of_whole Two) is;
    small = small;
    refused = tt;
    stays = λ large. absurd (small large);
    moments = other_moments (told old.disk) (told s.disk) old.party framed copy (space old) is r.any_moment;
    faults = r.faults;
    tells = r.tells;
  }

  pub switch_failed : (b : Failed D) → IsReplacing told old framed (Err b) → (IsTooLarge Two copy → ⊥) → IsCopying told old.disk (λ c. StandsWith c old.party (space old)) copy (Err (uncopied.Failed (record { disk = b.disk; cause = cause_of b.cause })))
  switch_failed b r small = record {
    stands = tt;
    party = tt;
    left = tt;
    small = tt;
    refused = (λ image now. free_cause b.cause, λ same. r.cause.fault (fault_of b.cause same));
    stays = λ large. absurd (small large);
    moments = other_moments (told old.disk) (told b.disk) old.party framed copy (space old) is r.any_moment;
    faults = r.faults;
    tells = r.tells;
  }

-- nothing was written
module _ {D : Type 0} (told : D → View) (old : Stored D) (copy : Party) (sound : IsSound (told old.disk)) (store : IsStore (told old.disk) old.gate old.end old.format old.party) where
  still : Tells (told old.disk) → LeavesOnly (told old.disk) (told old.disk) (λ c. StandsAnew c copy ⊎ StandsWith c old.party (space old))
  still tells = rests (told old.disk) (λ c. StandsAnew c copy ⊎ StandsWith c old.party (space old)) sound (λ c left. inr (store_left (told old.disk) old.gate old.end old.format old.party store tells c left))

  pub switch_too_large : IsTooLarge Two copy → IsCopying told old.disk (λ c. StandsWith c old.party (space old)) copy (Err (uncopied.TooLarge old.disk))
  switch_too_large large = record { stands = tt; party = tt; left = tt; small = tt; refused = large; stays = λ is. refl; moments = still; faults = omega arith; tells = refl }

  pub switch_no_memory : IsCopying told old.disk (λ c. StandsWith c old.party (space old)) copy (Err (uncopied.Failed (record { disk = old.disk; cause = cause.NoMemory })))
  switch_no_memory = record { stands = tt; party = tt; left = tt; small = tt; refused = (λ image now. tt, λ same. absurd (cc same)); stays = λ is. refl; moments = still; faults = omega arith; tells = refl }
