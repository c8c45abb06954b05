-- A key comes from the source, and its check value is written.
use Rattle.std.proofs.Common.{◌≡◌, ◌⊎◌, inl, inr, ℕ, List, Option, Some, None, IfSome, Result, Ok, Err, refl, sym, ap, ◌∙◌, subst}
use Rattle.x_base.specs.Edge.{Rose}
use Rattle.x_disk.specs.Disk.{View}
use Rattle.call_ends.specs.Transfer.{IsQuiet}
use Rattle.key_parts.specs.Parts.{entered_of}
use Rattle.key_parts.specs.declared.part.Form.{Form}
use Rattle.key_parts.specs.declared.part.Part.{Part}
use Rattle.x_party.specs.Dues.{GivesDue}
use Rattle.x_party.specs.Outcomes.{IsNoFailure, LeavesShelf}
use Rattle.x_party.specs.declared.outcome.Outcome.{Outcome}
use Rattle.x_party.specs.declared.outcome.Outcome.TheVariants as outcome
use Rattle.x_pair.specs.Outcomes.{LeavesBoth}
use Rattle.call_ends.specs.Causes.{HasCause}
use Rattle.call_ends.specs.declared.status.Status.{Status}
use Rattle.call_ends.specs.declared.status.Status.TheVariants as status
use Rattle.party_calls.specs.Dues.{Follows}
use Rattle.party_calls.specs.Ends.{IsOfParty, status_of_outcome}
use Rattle.call_ends.specs.Digits.{AreRead, IsNoKey, digits_taken}
use Rattle.party_calls.specs.Entered.{ExpectsKey, ExpectsRead, valued}

-- what is read of all that is taken
read_of : (form : Form) (left rest : Option (List ℕ)) (read : Result Part ℕ) → AreRead form left rest read → IfSome left (λ all. entered_of form (digits_taken all) ≡ read)
read_of form None rest read are = tt
read_of form (Some all) rest read (bytes, taken, is) = subst (λ (b : List ℕ). entered_of form b ≡ read) taken.front is

module _ (form : Form) (left rest : Option (List ℕ)) (s : Status) (Due : Part → Type 0) where
  expects_with : (read : Result Part ℕ) → AreRead form left rest read → ExpectsRead read s Due → IfSome left (λ all. ExpectsKey form all s Due)
  expects_with read are due = go left (read_of form left rest read are)
    where
      go : (left : Option (List ℕ)) → IfSome left (λ all. entered_of form (digits_taken all) ≡ read) → IfSome left (λ all. ExpectsKey form all s Due)
      go None is = tt
      go (Some all) is = subst (λ (r : Result Part ℕ). ExpectsRead r s Due) (sym is) due

  pub expects_entered : (part : Part) → AreRead form left rest (Ok part) → Due part → IfSome left (λ all. ExpectsKey form all s Due)
  expects_entered part are due = expects_with (Ok part) are due

  no_memory : (read : Result Part ℕ) → s ≡ status.NoMemory → ((part : Part) → s ≡ status.NoMemory → Due part) → ExpectsRead read s Due
  no_memory (Err line) is any = inr is
  no_memory (Ok part) is any = any part is

  pub expects_no_key : (read reads : ℕ) → IsNoKey form left rest s → (s ≡ status.ReadFault → Rose read reads) → IsQuiet read reads → ((part : Part) → s ≡ status.NoMemory → Due part)
      → IfSome left (λ all. ExpectsKey form all s Due)
  expects_no_key read reads (inl (inl fault)) cause quiet any = absurd (quiet (cause fault))
  expects_no_key read reads (inl (inr memory)) cause quiet any = go left
    where
      go : (left : Option (List ℕ)) → IfSome left (λ all. ExpectsKey form all s Due)
      go None = tt
      go (Some all) = no_memory (entered_of form (digits_taken all)) memory any
  expects_no_key read reads (inr (line, is, are)) cause quiet any = expects_with (Err line) are (inl is)

-- no status of it is one of a party that answered, or writes
module _ (form : Form) (left rest : Option (List ℕ)) (s : Status) where
  pub not_of_party : IsNoKey form left rest s → IsOfParty s → ⊥
  not_of_party (inl (inl is)) of = subst IsOfParty is of
  not_of_party (inl (inr is)) of = subst IsOfParty is of
  not_of_party (inr (line, is, are)) of = subst IsOfParty is of

  pub cause_of_none : (read reads put puts disk disks : ℕ) → IsNoKey form left rest s → (s ≡ status.ReadFault → Rose read reads) → HasCause s read reads put puts disk disks
  cause_of_none read reads put puts disk disks (inl (inl is)) cause = subst (λ (x : Status). HasCause x read reads put puts disk disks) (sym is) (cause is)
  cause_of_none read reads put puts disk disks (inl (inr is)) cause = subst (λ (x : Status). HasCause x read reads put puts disk disks) (sym is) tt
  cause_of_none read reads put puts disk disks (inr (line, is, are)) cause = subst (λ (x : Status). HasCause x read reads put puts disk disks) (sym is) tt

pub follows_memory : (old : View) (due : List ℕ → Outcome → Type 0) (s : Status) → s ≡ status.NoMemory → Follows old due s
follows_memory old due s is = λ image o now of. inr is

-- ---- an outcome with a check value in place of its reply

module _ (value : List ℕ) where
  valued_status : (o : Outcome) → status_of_outcome (valued value o) ≡ status_of_outcome o
  valued_status (outcome.Done reply) = refl
  valued_status (outcome.Refused verdict reply) = refl
  valued_status (outcome.OtherParty asked found) = refl
  valued_status (outcome.Damaged place) = refl
  valued_status outcome.Fault = refl
  valued_status outcome.NoMemory = refl

  valued_failure : (o : Outcome) → IsNoFailure (valued value o) → IsNoFailure o
  valued_failure (outcome.Done reply) none = none
  valued_failure (outcome.Refused verdict reply) none = none
  valued_failure (outcome.OtherParty asked found) none = none
  valued_failure (outcome.Damaged place) none = none
  valued_failure outcome.Fault none = none
  valued_failure outcome.NoMemory none = none

  valued_fault : (o : Outcome) → valued value o ≡ outcome.Fault → o ≡ outcome.Fault
  valued_fault (outcome.Done reply) is = absurd (cc is)
  valued_fault (outcome.Refused verdict reply) is = absurd (cc is)
  valued_fault (outcome.OtherParty asked found) is = absurd (cc is)
  valued_fault (outcome.Damaged place) is = absurd (cc is)
  valued_fault outcome.Fault is = refl
  valued_fault outcome.NoMemory is = absurd (cc is)

  -- the outcome that is due, with the check value
  abbrev pub WithValue : (List ℕ → Outcome → Type 0) → List ℕ → Outcome → Type 0
  WithValue due image o = (d : Outcome) × due image d × (o ≡ valued value d)

  pub gives_valued : (old : View) (due : List ℕ → Outcome → Type 0) (o : Outcome) → GivesDue old due o → GivesDue old (WithValue due) (valued value o)
  gives_valued old due o given = λ image other now is. go other is.0 is.2 (given image is.0 now is.1)
    where
      go : (other d : Outcome) → other ≡ valued value d → (o ≡ d) ⊎ ((o ≡ outcome.Fault) ⊎ (o ≡ outcome.NoMemory)) → (valued value o ≡ other) ⊎ ((valued value o ≡ outcome.Fault) ⊎ (valued value o ≡ outcome.NoMemory))
      go other d same (inl is) = inl (ap (valued value) is ∙ sym same)
      go other d same (inr (inl is)) = inr (inl (ap (valued value) is))
      go other d same (inr (inr is)) = inr (inr (ap (valued value) is))

  pub follows_valued : (old : View) (due : List ℕ → Outcome → Type 0) (s : Status) → Follows old (WithValue due) s → Follows old due s
  follows_valued old due s follows = λ image o now is. go o (follows image (valued value o) now (o, is, refl))
    where
      go : (o : Outcome) → (s ≡ status_of_outcome (valued value o)) ⊎ (s ≡ status.NoMemory) → (s ≡ status_of_outcome o) ⊎ (s ≡ status.NoMemory)
      go o (inl is) = inl (is ∙ valued_status o)
      go o (inr is) = inr is

  pub leaves_valued : (name : List ℕ) (o : Outcome) (is_back : Type 0) (old new : List ℕ → View) (before after : ℕ) → LeavesShelf name o is_back old new before after → LeavesShelf name (valued value o) is_back old new before after
  leaves_valued name o is_back old new before after shelf = record {
    back = λ none. shelf.back (valued_failure o none);
    others = shelf.others;
    fault = λ is. shelf.fault (valued_fault o is);
    later = shelf.later;
  }

  pub leaves_pair_valued : (name mirror : List ℕ) (o : Outcome) (first_back second_back : Type 0) (old new : List ℕ → View) (before after : ℕ) → LeavesBoth name mirror o first_back second_back old new before after
      → LeavesBoth name mirror (valued value o) first_back second_back old new before after
  leaves_pair_valued name mirror o first_back second_back old new before after shelf = record {
    back = λ none. shelf.back (valued_failure o none);
    thirds = shelf.thirds;
    fault = λ is. shelf.fault (valued_fault o is);
    later = shelf.later;
  }
