-- A disk is fetched and opened, or put back.
use Rattle.std.proofs.Common.{◌≡◌, ◌⊎◌, inl, inr, ℕ, ◌<◌, ◌≤◌, List, Some, sym, ◌∙◌, subst, arith, refl}
use Rattle.x_base.specs.Edge.{Rose}
use Rattle.x_disk.specs.Disk.{View, LeavesOnly, LeavesNoMore, IsUntouched}
use Rattle.x_disk.specs.Shelf.{IsAlike}
use Rattle.x_disk.proofs.Runs.{weaker, begins_alike}
use Rattle.key_journal.specs.declared.cause.Cause.{Cause}
use Rattle.key_journal.specs.declared.cause.Cause.TheVariants as cause
use Rattle.party_state.specs.State.{Party}
use Rattle.change_code.specs.declared.format.Format.{Format}
use Rattle.key_store.specs.Store.{IsStore, IsRefusal}
use Rattle.x_party.specs.Outcomes.{IsNoFailure}
use Rattle.x_party.specs.Steps.{IsOpened, IsNotOpened, HasNoParty, IsOutcome, outcome_of}
use Rattle.x_party.specs.declared.outcome.Outcome.{Outcome}
use Rattle.x_party.specs.declared.outcome.Outcome.TheVariants as outcome
use Rattle.x_party.proofs.Alike.{untouched_between}

pub opened : (old v w : View) (gate end : ℕ) (f : Format) (party : Party) → IsAlike old v → IsStore w gate end f party → w.now ≡ v.now → LeavesNoMore v w → LeavesOnly v w v.may_leave → IsOpened old w gate end f party
opened old v w gate end f party out store same images run = record {
  store = store;
  untouched = record {
    now = same ∙ out.now;
    images = λ c left. out.images c (images c left);
    any_moment = weaker old w v.may_leave old.may_leave (begins_alike old v w v.may_leave out run) out.images;
  };
}

no_party : (old v new : View) (reason : Cause) → old.now ≡ v.now → IsUntouched old new → (reason ≡ cause.NotEmpty → ⊥)
    → ((image : List ℕ) → v.now ≡ Some image → IsRefusal image reason) → HasNoParty old new (outcome_of reason)
no_party old v new cause.Blank same untouched named refused =
    record { blank = λ image now. refused image (sym same ∙ now); verdict = refl; reply = refl; untouched = untouched }
no_party old v new cause.NotEmpty same untouched named refused = absurd (named refl)
no_party old v new (cause.Damaged place) same untouched named refused = record { first = λ image now. refused image (sym same ∙ now); untouched = untouched }
no_party old v new cause.Fault same untouched named refused = tt
no_party old v new cause.NoMemory same untouched named refused = tt

closed_party : (old new : View) (o result : Outcome) (before after : ℕ) → IsOutcome o before after result → HasNoParty old new o → HasNoParty old new result
closed_party old new o result before after (inl is) none = subst (HasNoParty old new) (sym is) none
closed_party old new o result before after (inr (inl fault)) none = subst (HasNoParty old new) (sym fault.0) tt
closed_party old new o result before after (inr (inr is)) none = subst (HasNoParty old new) (sym is) tt

pub not_opened : (old v w new : View) (reason : Cause) (o : Outcome) (before after : ℕ) → IsAlike old v → w.now ≡ v.now → LeavesNoMore v w → LeavesOnly v w v.may_leave
    → (reason ≡ cause.NotEmpty → ⊥) → ((image : List ℕ) → v.now ≡ Some image → IsRefusal image reason)
    → IsAlike w new → IsOutcome (outcome_of reason) before after o → IsNotOpened old new o
not_opened old v w new reason o before after out same images run named refused back closed =
    let untouched = untouched_between old v w new out same images run back in
    record {
      untouched = untouched;
      refused = closed_party old new (outcome_of reason) o before after closed (no_party old v new reason (sym out.now) untouched named refused);
    }

-- a failure puts nothing back
pub failed_back : (o : Outcome) (back : Type 0) → (o ≡ outcome.Fault) ⊎ (o ≡ outcome.NoMemory) → IsNoFailure o → back
failed_back o back (inl fault) answered = absurd (subst IsNoFailure fault answered)
failed_back o back (inr memory) answered = absurd (subst IsNoFailure memory answered)

pub rose_some : (before after : ℕ) → Rose before after → 0 < after
rose_some before after (inl less) = omega (arith, less)
rose_some before after (inr most) = omega (arith, most)

fault_cause : (reason : Cause) → outcome_of reason ≡ outcome.Fault → reason ≡ cause.Fault
fault_cause cause.Blank is = absurd (cc is)
fault_cause cause.NotEmpty is = absurd (cc is)
fault_cause (cause.Damaged place) is = absurd (cc is)
fault_cause cause.Fault is = refl
fault_cause cause.NoMemory is = absurd (cc is)

-- a fault is the put back's, or one that it shows
pub fault_closed : (o result : Outcome) (before after : ℕ) → IsOutcome o before after result → (o ≡ outcome.Fault → Rose before after) → result ≡ outcome.Fault → Rose before after
fault_closed o result before after (inl is) shows fault = shows (sym is ∙ fault)
fault_closed o result before after (inr (inl is)) shows fault = is.1
fault_closed o result before after (inr (inr is)) shows fault = let no : outcome.NoMemory ≡ outcome.Fault = sym is ∙ fault in absurd (cc no)

rose_from : (first mid last : ℕ) → first ≤ mid → Rose mid last → Rose first last
rose_from first mid last le (inl less) = inl (omega (arith, le, less))
rose_from first mid last le (inr most) = inr most

-- a fault of the disk shows in the shelf's count as it is put back
pub shown_fault : (o result : Outcome) (first mid last was is : ℕ) → first ≤ mid → (o ≡ outcome.Fault → Rose was is) → (0 < is → Rose mid last)
    → IsOutcome o mid last result → result ≡ outcome.Fault → Rose first last
shown_fault o result first mid last was is le cause seen closed fault =
    rose_from first mid last le (fault_closed o result mid last closed (λ same. seen (rose_some was is (cause same))) fault)

pub open_fault : (reason : Cause) (result : Outcome) (first mid last was is : ℕ) → first ≤ mid → (reason ≡ cause.Fault → Rose was is) → (0 < is → Rose mid last)
    → IsOutcome (outcome_of reason) mid last result → result ≡ outcome.Fault → Rose first last
open_fault reason result first mid last was is le cause seen closed fault =
    shown_fault (outcome_of reason) result first mid last was is le (λ same. cause (fault_cause reason same)) seen closed fault
