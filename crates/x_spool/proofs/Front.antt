-- The party is opened in front of what is done over the spool, or it isn't.
use Rattle.std.proofs.Common.{◌≡◌, inl, inr, ℕ, List, Some, refl, sym, ◌∙◌, ap, subst, arith}
use Rattle.std.specs.Prelude.{is_some}
use Rattle.x_base.specs.Edge.{Rose}
use Rattle.x_disk.specs.Disk.{View, Tells, IsSound}
use Rattle.key_journal.specs.declared.cause.Cause.TheVariants as cause
use Rattle.party_state.specs.State.{Party}
use Rattle.key_store.specs.Store.{Stored}
use Rattle.node_core.specs.Named.{IsReasonFor, IsNotOpenedNamed, IsOpenedNamed, IsWhyNotOpened}
use Rattle.node_core.specs.declared.named.WhyNotOpened.{WhyNotOpened}
use Rattle.node_core.specs.declared.named.WhyNotOpened.TheVariants as why
use Rattle.member.specs.Member.{Member}
use Rattle.csm_batch.specs.declared.entry.Entry.{Entry}
use Rattle.csm_spool.specs.InStep.{PairsInStep}
use Rattle.disk_pair.specs.declared.disks.Disks.{Disks}
use Rattle.x_disk.proofs.Alike.{untouched_self, untouched_then}
use Rattle.disk_pair.proofs.Around.{rose_from}
use Rattle.x_spool.specs.Dues.{IsDueBatch}
use Rattle.x_spool.specs.Onward.{AnswersWhole}
use Rattle.x_spool.specs.Outcomes.{AreUntouched, BothStay, IsDoneOrFailed, IsNoFailure, IsSafeBatch, LeavesBatch}
use Rattle.x_spool.specs.Steps.{HasActed, outcome_of_why, two_disks}
use Rattle.x_spool.specs.declared.outcome.SpoolOutcome.{SpoolOutcome}
use Rattle.x_spool.specs.declared.outcome.SpoolOutcome.TheVariants as outcome
use Rattle.x_spool.proofs.Onwards as onward
use Rattle.x_spool.proofs.Standing.{stands_of}

-- the party's disk was opened
module _ {D : Type 0} (told : D → View) (name text : List ℕ) (entries : List Entry) (old : Disks D) (node : Stored D) (opened : IsOpenedNamed told name old.first node) where
  fewer : (x : Member) → PairsInStep (told old.first) (told old.second) text x entries → PairsInStep (told node.disk) (told old.second) text x entries
  fewer x start i j left right = start i j (opened.untouched.images i left) right

  tells_on : Tells (told old.first) → Tells (told node.disk)
  tells_on tells = ap is_some opened.untouched.now ∙ tells

  stays : (new : Disks D) → BothStay (told node.disk) (told old.second) (told new.first) (told new.second) → BothStay (told old.first) (told old.second) (told new.first) (told new.second)
  stays new both = record { party = untouched_then (told old.first) (told node.disk) (told new.first) opened.untouched both.party; spool = both.spool }

  untouched : (new : Disks D) → AreUntouched (told node.disk) (told old.second) (told new.first) (told new.second) → AreUntouched (told old.first) (told old.second) (told new.first) (told new.second)
  untouched new both = record { party = untouched_then (told old.first) (told node.disk) (told new.first) opened.untouched both.party; spool = both.spool }

  safe_on : (new : Disks D) → IsSafeBatch name text (told node.disk) (told old.second) (told new.first) (told new.second) → IsSafeBatch name text (told old.first) (told old.second) (told new.first) (told new.second)
  safe_on new safe = record {
    nobody = λ image now nobody. untouched new (safe.nobody image (opened.untouched.now ∙ now) nobody);
    unread = λ book told_book none. untouched new (safe.unread book told_book none);
    out = λ image book e now told_book due. untouched new (safe.out image book e (opened.untouched.now ∙ now) told_book due);
    finished = λ image book x p now told_book finds holds is. untouched new (safe.finished image book x p (opened.untouched.now ∙ now) told_book finds holds is);
  }

  left_on : (new : Disks D) (o : SpoolOutcome) → LeavesBatch text entries (told node.disk) (told old.second) (told new.first) (told new.second) o
      → LeavesBatch text entries (told old.first) (told old.second) (told new.first) (told new.second) o
  left_on new (outcome.Done out) is = record {
    plans = is.plans;
    whole = is.whole;
    spool = is.spool;
    front = is.front;
    outbox = is.outbox;
    member = is.member;
    party = is.party;
    ends = λ x party_tells spool_tells start. is.ends x (tells_on party_tells) spool_tells (fewer x start);
  }
  left_on new outcome.OtherBatch is = stays new is
  left_on new (outcome.OutOfStep e) is = stays new is
  left_on new (outcome.OtherParty asked found) is = stays new is
  left_on new outcome.Blank is = stays new is
  left_on new (outcome.Damaged place) is = stays new is
  left_on new outcome.Fault is = tt
  left_on new outcome.NoMemory is = tt

  behind : (new : Disks D) (o : SpoolOutcome) → HasActed name text entries told (two_disks node.disk old.second) new o → HasActed name text entries told old new o
  behind new o did = record {
    made = record {
      due = λ image book now told_book answered. did.made.due image book (opened.untouched.now ∙ now) told_book answered;
      left = left_on new o did.made.left;
    };
    in_step = record {
      pairs = λ x party_tells spool_tells start. did.in_step.pairs x (tells_on party_tells) spool_tells (fewer x start);
      complete = λ x y image tells start now finds. did.in_step.complete x y image tells (fewer x start) (opened.untouched.now ∙ now) finds;
      safe = safe_on new did.in_step.safe;
      party_tells = did.in_step.party_tells ∙ ap is_some opened.untouched.now;
      spool_tells = did.in_step.spool_tells;
    };
    onward = onward.before name text entries (told old.first) (told old.second) (told node.disk) (told old.second) (told new.first) (told new.second) opened.untouched.now refl opened.untouched.images (λ c at. at) o did.onward;
    first_faults = omega (arith, opened.faults, did.first_faults);
    second_faults = did.second_faults;
    fault = λ is. elim (did.fault is) [ inl rose ↦ inl (rose_from (told old.first).faults (told node.disk).faults (told new.first).faults opened.faults rose) | inr rose ↦ inr rose ];
  }

  pub named : (new : Disks D) (o : SpoolOutcome) → HasActed node.party.own text entries told (two_disks node.disk old.second) new o → HasActed name text entries told old new o
  named new o did = behind new o (subst (λ (n : List ℕ). HasActed n text entries told (two_disks node.disk old.second) new o) opened.own did)

-- no party of the name was opened
module _ {D : Type 0} (told : D → View) (sound : (d : D) → IsSound (told d)) (name text : List ℕ) (entries : List Entry) (old : Disks D) (new : D) (w : WhyNotOpened) (none : IsNotOpenedNamed told name old.first new w) where
  due : (w : WhyNotOpened) → IsWhyNotOpened name (told old.first) (told new) w → (image book : List ℕ) → (told old.first).now ≡ Some image → (told old.second).now ≡ Some book → IsNoFailure (outcome_of_why name w)
      → IsDueBatch name image book text (outcome_of_why name w)
  due (why.OtherParty found) is = λ image book now told_book answered. record { p = is.p; stands = is.reads image now; called = refl; own = is.own; differs = is.differs }
  due (why.Unmade cause.Blank) is = λ image book now told_book answered. is.refused image now
  due (why.Unmade cause.NotEmpty) is = absurd (is.names refl)
  due (why.Unmade (cause.Damaged place)) is = λ image book now told_book answered. inl (is.refused image now)
  due (why.Unmade cause.Fault) is = λ image book now told_book answered. absurd answered
  due (why.Unmade cause.NoMemory) is = λ image book now told_book answered. absurd answered

  rest : BothStay (told old.first) (told old.second) (told new) (told old.second)
  rest = record { party = none.untouched; spool = λ tells. untouched_self (told old.second) (sound old.second) }

  untouched_all : AreUntouched (told old.first) (told old.second) (told new) (told old.second)
  untouched_all = record { party = none.untouched; spool = untouched_self (told old.second) (sound old.second) }

  left : (w : WhyNotOpened) → LeavesBatch text entries (told old.first) (told old.second) (told new) (told old.second) (outcome_of_why name w)
  left (why.OtherParty found) = rest
  left (why.Unmade cause.Blank) = rest
  left (why.Unmade cause.NotEmpty) = rest
  left (why.Unmade (cause.Damaged place)) = rest
  left (why.Unmade cause.Fault) = tt
  left (why.Unmade cause.NoMemory) = tt

  shows : (w : WhyNotOpened) → IsWhyNotOpened name (told old.first) (told new) w → outcome_of_why name w ≡ outcome.Fault → Rose (told old.first).faults (told new).faults
  shows (why.OtherParty found) is fault = absurd (cc fault)
  shows (why.Unmade cause.Blank) is fault = absurd (cc fault)
  shows (why.Unmade cause.NotEmpty) is fault = absurd (cc fault)
  shows (why.Unmade (cause.Damaged place)) is fault = absurd (cc fault)
  shows (why.Unmade cause.Fault) is fault = is.fault refl
  shows (why.Unmade cause.NoMemory) is fault = absurd (cc fault)

  failed : (w : WhyNotOpened) (p : Party) → IsReasonFor name p w → p.own ≡ name → IsDoneOrFailed (outcome_of_why name w)
  failed (why.OtherParty found) p is own = absurd (is.1 own)
  failed (why.Unmade cause.Blank) p is own = absurd is
  failed (why.Unmade cause.NotEmpty) p is own = absurd is
  failed (why.Unmade (cause.Damaged place)) p is own = absurd is
  failed (why.Unmade cause.Fault) p is own = tt
  failed (why.Unmade cause.NoMemory) p is own = tt

  undone : (w : WhyNotOpened) (x : Member) → AnswersWhole text entries (told old.second) (told new) (told old.second) x (outcome_of_why name w)
  undone (why.OtherParty found) x = tt
  undone (why.Unmade cause.Blank) x = tt
  undone (why.Unmade cause.NotEmpty) x = tt
  undone (why.Unmade (cause.Damaged place)) x = tt
  undone (why.Unmade cause.Fault) x = tt
  undone (why.Unmade cause.NoMemory) x = tt

  pub nobody : (o : SpoolOutcome) → o ≡ outcome_of_why name w → HasActed name text entries told old (two_disks new old.second) o
  nobody o same = subst (HasActed name text entries told old (two_disks new old.second)) (sym same) (record {
    made = record { due = due w none.reason; left = left w };
    in_step = record {
      pairs = λ x party_tells spool_tells start i j first second. start i j (none.untouched.images i first) second;
      complete = λ x y image tells start now finds. failed w y.party (none.never image y.party now (stands_of y image finds.stands)) finds.own;
      safe = record { nobody = λ image now nobody. untouched_all; unread = λ book told_book unread. untouched_all; out = λ image book e now told_book due. untouched_all; finished = λ image book x p now told_book finds holds is. untouched_all };
      party_tells = ap is_some none.untouched.now;
      spool_tells = refl;
    };
    onward = onward.all_rests name text entries (told old.first) (told old.second) (told new) (told old.second) (outcome_of_why name w) (undone w) none.untouched.images (λ c at. at);
    first_faults = none.faults;
    second_faults = omega arith;
    fault = λ is. inl (shows w none.reason is);
  })
