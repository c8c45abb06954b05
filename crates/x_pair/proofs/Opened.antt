-- A pair is opened, or not, and what is told of it.
use Rattle.std.proofs.Common.{◌≡◌, ◌⊎◌, inl, inr, ℕ, List, Result, Ok, Err, refl, sym, subst}
use Rattle.x_base.specs.Edge.{Rose}
use Rattle.x_disk.specs.Disk.{View, LeavesOnly}
use Rattle.x_disk.proofs.Runs.{weaker}
use Rattle.key_journal.specs.declared.cause.Cause.TheVariants as cause
use Rattle.party_state.specs.State.{Party}
use Rattle.change_code.specs.Whole.{IsTooLarge}
use Rattle.change_code.specs.declared.format.Format.TheVariants.{Two}
use Rattle.change_code.specs.declared.space.Space.{Space}
use Rattle.key_store.specs.Store.{Stands, space}
use Rattle.member.specs.Member.{Member}
use Rattle.disk_pair.specs.declared.disks.Disks.{Disks}
use Rattle.node_core.specs.Turns.{member_of}
use Rattle.mirror_store.specs.Pairs.{PairStands, Recovers, IsMadeAnew, IsAsBefore, Twin, IsTwin}
use Rattle.mirror_store.specs.Answers.{twin_disks, opened_disks}
use Rattle.mirror_store.specs.Opening.{AreRead, HasFirstSpace, HasPairFault, IsPairRefusal, IsPairOpened}
use Rattle.mirror_store.specs.declared.pair.PairCause.{PairCause}
use Rattle.mirror_store.specs.declared.pair.PairCause.TheVariants.{First, Second, OtherParty, TooLarge}
use Rattle.mirror_store.specs.declared.pair.PairUnmade.{PairUnmade}
use Rattle.x_party.specs.declared.outcome.Outcome.{Outcome}
use Rattle.x_party.specs.declared.outcome.Outcome.TheVariants as outcome
use Rattle.x_pair.specs.Outcomes.{Work, BothStand, MakesOf, MayLeave, Opened, AsItWas, Before, left_on_first, left_on_second, IsAsOpened, IsSafePair}
use Rattle.x_pair.specs.Steps.{HasActed, outcome_of_pair}
use Rattle.x_party.proofs.Alike.{store_stands}

pub both_stand : {D : Type 0} (told : D → View) (m : Twin D) → IsTwin told m → BothStand (told m.first.disk) (told m.second.disk) (member_of m.first)
both_stand told m twin = record {
  on_first = store_stands (told m.first.disk) m.first.gate m.first.end m.first.format m.first.party twin.first_stands;
  durable = twin.second_stands.durable;
  on_second = λ image now. subst (Stands image) twin.same (record { format = m.second.format; stands = twin.second_stands.stands image now });
}

-- why no party is opened
refusal_makes : (w : Work) (i j : List ℕ) (a b : View) (reason : PairCause) → IsPairRefusal i j reason → MakesOf w i j a b (outcome_of_pair reason)
refusal_makes w i j a b (First cause.Blank) is = inr (inl (record { first_blank = is.0; second_blank = is.1; said = refl; written = refl }))
refusal_makes w i j a b (First cause.NotEmpty) is = absurd is
refusal_makes w i j a b (First (cause.Damaged place)) is = inl is
refusal_makes w i j a b (First cause.Fault) is = tt
refusal_makes w i j a b (First cause.NoMemory) is = tt
refusal_makes w i j a b (Second cause.Blank) is = absurd is
refusal_makes w i j a b (Second cause.NotEmpty) is = absurd is
refusal_makes w i j a b (Second (cause.Damaged place)) is = inr is
refusal_makes w i j a b (Second cause.Fault) is = tt
refusal_makes w i j a b (Second cause.NoMemory) is = tt
refusal_makes w i j a b (OtherParty one other) is = inr is
refusal_makes w i j a b TooLarge is = inr (inr (record { too_large = is; said = refl; written = refl }))

pub refused_rose : {D : Type 0} (told : D → View) (old new : Disks D) (reason : PairCause) → HasPairFault told old new reason → outcome_of_pair reason ≡ outcome.Fault
    → Rose (told old.first).faults (told new.first).faults ⊎ Rose (told old.second).faults (told new.second).faults
refused_rose told old new (First cause.Blank) fault is = absurd (cc is)
refused_rose told old new (First cause.NotEmpty) fault is = absurd (cc is)
refused_rose told old new (First (cause.Damaged place)) fault is = absurd (cc is)
refused_rose told old new (First cause.Fault) fault is = inl (fault.first refl)
refused_rose told old new (First cause.NoMemory) fault is = absurd (cc is)
refused_rose told old new (Second cause.Blank) fault is = absurd (cc is)
refused_rose told old new (Second cause.NotEmpty) fault is = absurd (cc is)
refused_rose told old new (Second (cause.Damaged place)) fault is = absurd (cc is)
refused_rose told old new (Second cause.Fault) fault is = inr (fault.second refl)
refused_rose told old new (Second cause.NoMemory) fault is = absurd (cc is)
refused_rose told old new (OtherParty a b) fault is = absurd (cc is)
refused_rose told old new TooLarge fault is = absurd (cc is)

-- what a crash in an opening leaves
opened_leaves : (w : Work) (room : Member → Space) (first second : List ℕ) (party : Party) (was : List ℕ) (before : List ℕ → Type 0) (c : List ℕ) → (IsMadeAnew was party c ⊎ IsAsBefore was c) ⊎ before c → MayLeave w room first second party was before c
opened_leaves w room first second party was before c (inl (inl is)) = Opened is
opened_leaves w room first second party was before c (inl (inr is)) = AsItWas is
opened_leaves w room first second party was before c (inr left) = Before left

pub opening_leaves : (w : Work) (room : Member → Space) (old mid : View) (first second was : List ℕ) (party : Party) → LeavesOnly old mid (λ c. (IsMadeAnew was party c ⊎ IsAsBefore was c) ⊎ old.may_leave c) → LeavesOnly old mid (MayLeave w room first second party was old.may_leave)
opening_leaves w room old mid first second was party run = weaker old mid (λ c. (IsMadeAnew was party c ⊎ IsAsBefore was c) ⊎ old.may_leave c) (MayLeave w room first second party was old.may_leave) run (opened_leaves w room first second party was old.may_leave)

-- and of the second disk
pub second_opened : {D : Type 0} (told : D → View) (old : Disks D) (result : Result (Twin D) (PairUnmade D)) → IsPairOpened told old result → (i j : List ℕ) (party : Party)
    → AreRead (told old.first) (told old.second) i j → Recovers i j party → IsAsOpened (told old.second) (told (opened_disks result).second) i j party
second_opened told old result opened i j party read recovers = record {
  moments = opened.second_moments i j party read recovers;
  stays = λ either. elim either [ inl stand ↦ (opened.quiet i j party read stand).1 | inr blank ↦ opened.second_stays i j read blank ];
}

module _ {D : Type 0} (told : D → View) (old : Disks D) (w : Work) where
  -- an opening that nothing follows, whatever it gives
  opening_safe : (result : Result (Twin D) (PairUnmade D)) → IsPairOpened told old result
      → IsSafePair w (told old.first) (told old.second) (told (opened_disks result).first) (told (opened_disks result).second)
  opening_safe result opened = record {
    on_first = λ i j party read recovers. opening_leaves w left_on_first (told old.first) (told (opened_disks result).first) i j i party (opened.first_moments i j party read recovers);
    on_second = λ i j party read recovers. opening_leaves w left_on_second (told old.second) (told (opened_disks result).second) i j j party (opened.second_moments i j party read recovers);
    order = λ i j party read recovers. inl (second_opened told old result opened i j party read recovers);
    nobody = opened.stays;
    quiet = λ i j party read stands none. opened.quiet i j party read stands;
    first_stays = λ i j party read recovers none filled. opened.first_stays i j read filled;
    second_stays = λ i j party read recovers none blank. opened.second_stays i j read blank;
    too_large = λ i j read is. opened.too_large i j is.party read is.recovers is.too_large;
    first_tells = opened.keeps.first_tells;
    second_tells = opened.keeps.second_tells;
  }

  pub not_opened : (u : PairUnmade D) → IsPairOpened told old (Err u) → HasActed w told old u.disks (outcome_of_pair u.cause)
  not_opened u opened = record {
    makes = λ i j read. refusal_makes w i j (told u.disks.first) (told u.disks.second) u.cause (opened.refused i j read);
    safe = opening_safe (Err u) opened;
    faults = record {
      first_later = opened.keeps.first_faults;
      second_later = opened.keeps.second_faults;
      fault = refused_rose told old u.disks u.cause opened.fault;
    };
  }

  -- the pair is opened, and nothing more is done
  pub rested : (m : Twin D) → IsPairOpened told old (Ok m) → (new : Disks D) → new ≡ twin_disks m → (o : Outcome)
      → ((i j : List ℕ) → Recovers i j m.first.party → HasFirstSpace i m.first.party (space m.first) → ((PairStands i j m.first.party → ⊥) → IsTooLarge Two m.first.party → ⊥) → BothStand (told m.first.disk) (told m.second.disk) (member_of m.first) → MakesOf w i j (told m.first.disk) (told m.second.disk) o)
      → (o ≡ outcome.Fault → ⊥) → HasActed w told old new o
  rested m opened new is o makes none = subst (λ (n : Disks D). HasActed w told old n o) (sym is) (record {
    makes = λ i j read. makes i j (opened.exact i j read) (opened.left i j read) (opened.small i j read) (both_stand told m opened.stand);
    safe = opening_safe (Ok m) opened;
    faults = record {
      first_later = opened.keeps.first_faults;
      second_later = opened.keeps.second_faults;
      fault = λ fault. absurd (none fault);
    };
  })
