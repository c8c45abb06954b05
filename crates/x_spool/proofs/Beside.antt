-- The spool is begun beside an opened party, and the batch is driven.
use Rattle.std.proofs.Common.{◌≡◌, ◌⊎◌, inl, inr, ℕ, ◌≤◌, Bool, true, false, List, [], ◌++◌, length, Some, Ok, Err, refl, sym, ◌∙◌, ap, subst, arith}
use Rattle.x_base.specs.Edge.{Rose}
use Rattle.x_disk.specs.Disk.{View, Tells, IsSound, IsUntouched}
use Rattle.x_disk.specs.declared.disk.DiskErr.{DiskErr}
use Rattle.x_disk.specs.declared.disk.DiskErr.TheVariants as disk
use Rattle.key_journal.specs.Causes.{cause_of}
use Rattle.key_journal.specs.Journal.{is_blank}
use Rattle.key_journal.specs.declared.cause.Cause.TheVariants as cause
use Rattle.key_store.specs.Store.{Stored, IsStore}
use Rattle.member.specs.Member.{Member}
use Rattle.node_core.specs.Turns.{member_of}
use Rattle.csm_batch.specs.declared.entry.Entry.{Entry}
use Rattle.spool_store.specs.declared.entry_plan.EntryPlan.{EntryPlan}
use Rattle.spool_store.specs.declared.cause.SpoolCause.{SpoolCause}
use Rattle.spool_store.specs.declared.cause.SpoolCause.TheVariants as spool
use Rattle.spool_store.specs.declared.cause.Unbegun.{Unbegun}
use Rattle.spool_store.specs.Beginning.{IsBegun, IsSpoolRefusal, IsFreeCause, ReadsPlans}
use Rattle.spool_store.specs.Contents.{Progress, HoldsPlans}
use Rattle.spool_store.specs.Spools.{Spooled, IsSpool, outbox_of}
use Rattle.csm_spool.specs.Beginning as beginning
use Rattle.csm_spool.specs.Courses.{EntriesLead}
use Rattle.csm_spool.specs.Drives.{IsDrive, IsFinished, IsOut, party_disk, spool_disk}
use Rattle.csm_spool.specs.Going.{GoesOn, HasGoneOn, HoldsKept, GoesAnyhow, IsLeftGoing}
use Rattle.csm_spool.specs.InStep.{InStep, PairsInStep}
use Rattle.csm_spool.specs.declared.outcome.Driven.{Driven}
use Rattle.csm_spool.specs.declared.outcome.Driven.TheVariants as drive
use Rattle.disk_pair.specs.declared.disks.Disks.{Disks}
use Rattle.x_disk.proofs.Alike.{untouched_self}
use Rattle.x_spool.specs.Dues.{FindsMember, IsDueBatch, IsDueOut, ReadsBatch}
use Rattle.x_spool.specs.Onward.{HeldThese, WentOn, AnswersWhole, IsUnplanned, IsLeftOnward, GoesOnward}
use Rattle.x_spool.specs.Outcomes.{AreUntouched, BothStay, IsDoneOrFailed, IsNoFailure, IsSafeBatch, LeavesBatch, progress_of}
use Rattle.x_spool.specs.Steps.{HasActed, HandsOut, IsEnd, driven_disks, outcome_of, outcome_of_spool, two_disks}
use Rattle.x_spool.specs.declared.outcome.SpoolOutcome.{SpoolOutcome}
use Rattle.x_spool.specs.declared.outcome.SpoolOutcome.TheVariants as outcome
use Rattle.x_spool.proofs.Onwards.{rests as stays_there}
use Rattle.x_spool.proofs.Standing.{OneParty, OneFormat, OneProgress, NotBlank, differ, now_image, same_member, same_progress, tells_of, told_image}

rose_later : (a b c : ℕ) → a ≤ b → Rose b c → Rose a c
rose_later a b c le (inl less) = inl (omega (arith, le, less))
rose_later a b c le (inr most) = inr most

failed_by : (d : DiskErr) → outcome_of (cause_of d) ≡ outcome.Fault → d ≡ disk.Fault
failed_by disk.Fault is = refl
failed_by disk.NoMemory is = absurd (cc is)

failed_done : (d : DiskErr) → IsDoneOrFailed (outcome_of (cause_of d))
failed_done disk.Fault = tt
failed_done disk.NoMemory = tt

unset : (b : Bool) → (b ≡ true → ⊥) → b ≡ false
unset true never = absurd (never refl)
unset false never = refl

module _ {D : Type 0} (told : D → View) (sound : (d : D) → IsSound (told d)) (spool_full : NotBlank) (text : List ℕ) (entries : List Entry) (node : Stored D) (old : D)
    (store : IsStore (told node.disk) node.gate node.end node.format node.party) where
  abbrev Acted : Disks D → SpoolOutcome → Type 0
  Acted new o = HasActed node.party.own text entries told (two_disks node.disk old) new o

  abbrev Due : SpoolOutcome → Type 0
  Due o = (image book : List ℕ) → (told node.disk).now ≡ Some image → (told old).now ≡ Some book → IsNoFailure o → IsDueBatch node.party.own image book text o

  abbrev Left : D → D → SpoolOutcome → Type 0
  Left first second o = LeavesBatch text entries (told node.disk) (told old) (told first) (told second) o

  abbrev Start : Member → Type 0
  Start x = PairsInStep (told node.disk) (told old) text x entries

  abbrev Completes : SpoolOutcome → Type 0
  Completes o = (x y : Member) (image : List ℕ) → Tells (told old) → Start x → (told node.disk).now ≡ Some image → FindsMember node.party.own image y → IsDoneOrFailed o

  found : (image : List ℕ) → (told node.disk).now ≡ Some image → FindsMember node.party.own image (member_of node)
  found image now = record { stands = now_image told node store image now; own = refl }

  -- in step, a spool is blank or holds the batch
  reads_step : (book image : List ℕ) (x : Member) → InStep image book text x entries → ReadsBatch book text
  reads_step book image x (inl blank) = inl blank.0
  reads_step book image x (inr u) = inr (record { same = progress_of text entries u.plans; holds = u.holds; is = refl })

  -- no spool is begun
  module _ (u : Unbegun D) (begun : IsBegun told text entries old (Err u)) (stays : beginning.StaysInStep told told text entries node old (Err u)) where
    due_unbegun : (c : SpoolCause) → ((book : List ℕ) → (told old).now ≡ Some book → IsSpoolRefusal book text c) → Due (outcome_of_spool c)
    due_unbegun (spool.Journal cause.Blank) why = λ image book now told_book answered. absurd (why book told_book)
    due_unbegun (spool.Journal cause.NotEmpty) why = λ image book now told_book answered. absurd (why book told_book)
    due_unbegun (spool.Journal (cause.Damaged place)) why = λ image book now told_book answered. inr (record { member = member_of node; found = found image now; first = why book told_book })
    due_unbegun (spool.Journal cause.Fault) why = λ image book now told_book answered. absurd answered
    due_unbegun (spool.Journal cause.NoMemory) why = λ image book now told_book answered. absurd answered
    due_unbegun spool.OtherBatch why = λ image book now told_book answered. record { member = member_of node; found = found image now; other = why book told_book }

    abbrev Rests : Type 0
    Rests = BothStay (told node.disk) (told old) (told node.disk) (told u.disk)

    rests : ((book : List ℕ) → (told old).now ≡ Some book → IsUntouched (told old) (told u.disk)) → Rests
    rests untouched = record {
      party = untouched_self (told node.disk) (sound node.disk);
      spool = λ tells. let it = told_image (told old).now tells in untouched it.0 it.1;
    }

    left_unbegun : (c : SpoolCause) → ((book : List ℕ) → (told old).now ≡ Some book → IsSpoolRefusal book text c) → Left node.disk u.disk (outcome_of_spool c)
    left_unbegun (spool.Journal cause.Blank) why = rests (λ book now. absurd (why book now))
    left_unbegun (spool.Journal cause.NotEmpty) why = rests (λ book now. absurd (why book now))
    left_unbegun (spool.Journal (cause.Damaged place)) why = rests (λ book now. begun.untouched book now (why book now).not_blank)
    left_unbegun (spool.Journal cause.Fault) why = tt
    left_unbegun (spool.Journal cause.NoMemory) why = tt
    left_unbegun spool.OtherBatch why = rests (λ book now. begun.untouched book now (spool_full book (Some (why book now).other) (why book now).holds))

    free_done : (c : SpoolCause) → IsFreeCause c → IsDoneOrFailed (outcome_of_spool c)
    free_done (spool.Journal cause.Blank) is = absurd is
    free_done (spool.Journal cause.NotEmpty) is = absurd is
    free_done (spool.Journal (cause.Damaged place)) is = absurd is
    free_done (spool.Journal cause.Fault) is = tt
    free_done (spool.Journal cause.NoMemory) is = tt
    free_done spool.OtherBatch is = absurd is

    fault_cause : (c : SpoolCause) → outcome_of_spool c ≡ outcome.Fault → c ≡ spool.Journal cause.Fault
    fault_cause (spool.Journal cause.Blank) is = absurd (cc is)
    fault_cause (spool.Journal cause.NotEmpty) is = absurd (cc is)
    fault_cause (spool.Journal (cause.Damaged place)) is = absurd (cc is)
    fault_cause (spool.Journal cause.Fault) is = refl
    fault_cause (spool.Journal cause.NoMemory) is = absurd (cc is)
    fault_cause spool.OtherBatch is = absurd (cc is)

    untouched_unbegun : (book : List ℕ) → (told old).now ≡ Some book → is_blank book ≡ false → AreUntouched (told node.disk) (told old) (told node.disk) (told u.disk)
    untouched_unbegun book told_book full = record { party = untouched_self (told node.disk) (sound node.disk); spool = begun.untouched book told_book full }

    safe_unbegun : IsSafeBatch node.party.own text (told node.disk) (told old) (told node.disk) (told u.disk)
    safe_unbegun = record {
      nobody = λ image now nobody. absurd (nobody (member_of node) (found image now));
      unread = λ book told_book none. untouched_unbegun book told_book (unset (is_blank book) (λ blank. none (inl blank)));
      out = λ image book e now told_book due. untouched_unbegun book told_book (spool_full book (Some due.progress) due.holds);
      finished = λ image book x p now told_book finds holds is. untouched_unbegun book told_book (spool_full book (Some p) holds);
    }

    complete_unbegun : Completes (outcome_of_spool u.cause)
    complete_unbegun x y image tells start now finds =
        let book = told_image (told old).now tells in
        let pair = start image book.0 ((sound node.disk).now_among image now) ((sound old).now_among book.0 book.1) in
        free_done u.cause (begun.never_refused book.0 book.1 (reads_step book.0 image x pair))

    undone : (c : SpoolCause) (x : Member) → AnswersWhole text entries (told old) (told node.disk) (told u.disk) x (outcome_of_spool c)
    undone (spool.Journal cause.Blank) x = tt
    undone (spool.Journal cause.NotEmpty) x = tt
    undone (spool.Journal (cause.Damaged place)) x = tt
    undone (spool.Journal cause.Fault) x = tt
    undone (spool.Journal cause.NoMemory) x = tt
    undone spool.OtherBatch x = tt

    -- no entry is planned: an image is left as it could be before, or of a spool that was being made
    unplanned : IsUnplanned text entries (told old) (told u.disk)
    unplanned tells book at =
        let run = begun.any_moment tells in
        elim (run.each book ((sound u.disk).counts_now (told old).moment book run.later at)) [ inl made ↦ inr made | inr was ↦ inl was ]

    pub unbegun : (first : D) (o : SpoolOutcome) → first ≡ node.disk → o ≡ outcome_of_spool u.cause → Acted (two_disks first u.disk) o
    unbegun first o first_is outcome_is =
        subst (λ (out : SpoolOutcome). Acted (two_disks first u.disk) out) (sym outcome_is)
        (subst (λ (d : D). Acted (two_disks d u.disk) (outcome_of_spool u.cause)) (sym first_is) (record {
          made = record { due = due_unbegun u.cause begun.refused; left = left_unbegun u.cause begun.refused };
          in_step = record {
            pairs = λ x party_tells spool_tells start. stays x spool_tells start;
            complete = complete_unbegun;
            safe = safe_unbegun;
            party_tells = refl;
            spool_tells = begun.tells;
          };
          onward = stays_there node.party.own text entries (told node.disk) (told old) (told node.disk) (told u.disk) (outcome_of_spool u.cause) (undone u.cause) (λ c at. at) unplanned;
          first_faults = omega arith;
          second_faults = begun.faults;
          fault = λ is. inr (begun.fault (fault_cause u.cause is));
        }))

  -- the spool is begun, and the batch is driven
  module _ (one_party : OneParty) (one_format : OneFormat) (one_progress : OneProgress) (s : Spooled D) (begun : IsBegun told text entries old (Ok s)) (stays : beginning.StaysInStep told told text entries node old (Ok s)) where
    holds : (book : List ℕ) → (told old).now ≡ Some book → ((is_blank book ≡ true) × (s.progress.plans ≡ [])) ⊎ HoldsPlans book s.progress
    holds book now = begun.reads book now

    reads : (book : List ℕ) → (told old).now ≡ Some book → ReadsBatch book text
    reads book now = elim (holds book now) [ inl blank ↦ inl blank.0 | inr has ↦ inr (record { same = s.progress; holds = has; is = begun.batch.0 }) ]

    tells_on : Tells (told old) → Tells (told s.disk)
    tells_on tells = begun.tells ∙ tells

    begun_start : (x : Member) → Tells (told old) → Start x → PairsInStep (told node.disk) (told s.disk) s.progress.text x s.progress.entries
    begun_start x tells start =
        subst (λ (t : List ℕ). PairsInStep (told node.disk) (told s.disk) t x s.progress.entries) (sym begun.batch.0)
        (subst (λ (es : List Entry). PairsInStep (told node.disk) (told s.disk) text x es) (sym begun.batch.1) (stays x tells start))

    -- what is out of step by the images is so by the party and the spool that were opened
    out_of : (image book : List ℕ) → (told node.disk).now ≡ Some image → (told old).now ≡ Some book → (e : ℕ) → IsDueOut node.party.own image book text e → IsOut (member_of node) s.progress
    out_of image book now told_book e d = go (holds book told_book)
      where
        go : ((is_blank book ≡ true) × (s.progress.plans ≡ [])) ⊎ HoldsPlans book s.progress → IsOut (member_of node) s.progress
        go (inl blank) = absurd (differ (is_blank book) blank.0 (spool_full book (Some d.progress) d.holds))
        go (inr has) =
            subst (λ (m : Member). IsOut m s.progress) (same_member told node store image now one_party one_format d.member d.found.stands)
            (subst (λ (p : Progress). IsOut d.member p) (same_progress one_progress book d.progress s.progress d.holds has) d.out)

    -- so is what is finished
    finished_of : (image book : List ℕ) (x : Member) (p : Progress) → (told node.disk).now ≡ Some image → (told old).now ≡ Some book → FindsMember node.party.own image x → HoldsPlans book p → IsFinished x p → IsFinished (member_of node) s.progress
    finished_of image book x p now told_book finds has_p is = go (holds book told_book)
      where
        go : ((is_blank book ≡ true) × (s.progress.plans ≡ [])) ⊎ HoldsPlans book s.progress → IsFinished (member_of node) s.progress
        go (inl blank) = absurd (differ (is_blank book) blank.0 (spool_full book (Some p) has_p))
        go (inr has) =
            subst (λ (m : Member). IsFinished m s.progress) (same_member told node store image now one_party one_format x finds.stands)
            (subst (λ (q : Progress). IsFinished x q) (same_progress one_progress book p s.progress has_p has) is)

    -- a spool without plans is never out of step
    some_plans : (x : Member) → s.progress.plans ≡ [] → IsOut x s.progress → ⊥
    some_plans x none out = absurd (omega (arith, out.last.count, ap length none))

    has_plans : (x : Member) (book : List ℕ) → (told old).now ≡ Some book → IsOut x s.progress → HoldsPlans book s.progress
    has_plans x book now out = elim (holds book now) [ inl blank ↦ absurd (some_plans x blank.1 out) | inr has ↦ has ]

    -- the batch as it was, and the plans that stood
    progress_is : s.progress ≡ progress_of text entries s.progress.plans
    progress_is = ap (λ (t : List ℕ). progress_of t s.progress.entries s.progress.plans) begun.batch.0 ∙ ap (λ (es : List Entry). progress_of text es s.progress.plans) begun.batch.1

    held_these : HeldThese text entries (told old) s.progress.plans
    held_these book now = subst (λ (p : Progress). ReadsPlans book p) progress_is (begun.reads book now)

    -- the party goes on from the plans that the spool's image holds
    went_on : (plans more : List EntryPlan) (y : Member) → plans ≡ s.progress.plans ++ more → GoesOn (member_of node) s.progress more y → WentOn text entries (told old) (member_of node) plans y
    went_on plans more y split goes = record {
      stood = s.progress.plans;
      held = held_these;
      more = more;
      split = split;
      goes = subst (λ (p : Progress). GoesOn (member_of node) p more y) progress_is goes;
    }

    left_onward : (after : View) (c : List ℕ) → IsLeftGoing (HasGoneOn (member_of node) s.progress) s.progress (told s.disk) after c → IsLeftOnward text entries (told old) after (member_of node) c
    left_onward after c is = record {
      stood = s.progress.plans;
      held = held_these;
      more = is.more;
      member = is.member;
      way = subst (λ (p : Progress). HasGoneOn (member_of node) p is.more is.member) progress_is is.way;
      stands = is.stands;
      kept = λ tells book at. subst (λ (p : Progress). HoldsKept p is.more book) progress_is (is.kept (tells_on tells) book at);
    }

    module _ (d : Driven D D) (run : IsDrive told told node s d) (goes : GoesAnyhow told told node s d) where
      pairs : (x : Member) → Tells (told node.disk) → Tells (told old) → Start x → PairsInStep (told (party_disk d)) (told (spool_disk d)) text x entries
      pairs x party_tells spool_tells start =
          subst (λ (t : List ℕ). PairsInStep (told (party_disk d)) (told (spool_disk d)) t x entries) begun.batch.0
          (subst (λ (es : List Entry). PairsInStep (told (party_disk d)) (told (spool_disk d)) s.progress.text x es) begun.batch.1
          (run.in_step x party_tells (tells_on spool_tells) (begun_start x spool_tells start)))

      -- no call was made once the spool was begun
      untouched_since : (book : List ℕ) → (told old).now ≡ Some book → is_blank book ≡ false → (party_disk d ≡ node.disk) × (spool_disk d ≡ s.disk) → AreUntouched (told node.disk) (told old) (told (party_disk d)) (told (spool_disk d))
      untouched_since book told_book full same = record {
        party = subst (λ (p : D). IsUntouched (told node.disk) (told p)) (sym same.0) (untouched_self (told node.disk) (sound node.disk));
        spool = subst (λ (p : D). IsUntouched (told old) (told p)) (sym same.1) (begun.untouched book told_book full);
      }

      safe : IsSafeBatch node.party.own text (told node.disk) (told old) (told (party_disk d)) (told (spool_disk d))
      safe = record {
        nobody = λ image now nobody. absurd (nobody (member_of node) (found image now));
        unread = λ book told_book none. absurd (none (reads book told_book));
        out = λ image book e now told_book due. untouched_since book told_book (spool_full book (Some due.progress) due.holds) (run.rests (out_of image book now told_book e due));
        finished = λ image book x p now told_book finds holds is.
            untouched_since book told_book (spool_full book (Some p) holds) (run.finished (finished_of image book x p now told_book finds holds is));
      }

      -- whoever commanded the party before, it goes on from the member for which its image stands
      onward : (o : SpoolOutcome) → AnswersWhole text entries (told old) (told (party_disk d)) (told (spool_disk d)) (member_of node) o → GoesOnward node.party.own text entries (told node.disk) (told old) (told (party_disk d)) (told (spool_disk d)) o
      onward o answers = record {
        answers = λ image x now finds. subst (λ (m : Member). AnswersWhole text entries (told old) (told (party_disk d)) (told (spool_disk d)) m o) (sym (itself image x now finds)) answers;
        left = λ image x now finds c at.
            inr (subst (λ (m : Member). IsLeftOnward text entries (told old) (told (spool_disk d)) m c) (sym (itself image x now finds)) (left_onward (told (spool_disk d)) c (goes.left (tells_of (told node.disk) image now) c at)));
      }
        where
          itself : (image : List ℕ) (x : Member) → (told node.disk).now ≡ Some image → FindsMember node.party.own image x → x ≡ member_of node
          itself image x now finds = same_member told node store image now one_party one_format x finds.stands

      acted : (o : SpoolOutcome) → Due o → Left (party_disk d) (spool_disk d) o → AnswersWhole text entries (told old) (told (party_disk d)) (told (spool_disk d)) (member_of node) o → Completes o
          → (o ≡ outcome.Fault → Rose (told node.disk).faults (told (party_disk d)).faults ⊎ Rose (told s.disk).faults (told (spool_disk d)).faults) → Acted (driven_disks d) o
      acted o due left answers completes fault = record {
        made = record { due = due; left = left };
        in_step = record {
          pairs = pairs;
          complete = completes;
          safe = safe;
          party_tells = run.keeps.party_tells;
          spool_tells = run.keeps.spool_tells ∙ begun.tells;
        };
        onward = onward o answers;
        first_faults = run.keeps.party_faults;
        second_faults = omega (arith, begun.faults, run.keeps.spool_faults);
        fault = λ is. elim (fault is) [ inl rose ↦ inl rose | inr rose ↦ inr (rose_later (told old).faults (told s.disk).faults (told (spool_disk d)).faults begun.faults rose) ];
      }

      wanting : Acted (driven_disks d) outcome.NoMemory
      wanting = acted outcome.NoMemory (λ image book now told_book answered. absurd answered) tt tt (λ x y image tells start now finds. tt) (λ bad. absurd (cc bad))

      broken : (reason : DiskErr) → (reason ≡ disk.Fault → Rose (told node.disk).faults (told (party_disk d)).faults ⊎ Rose (told s.disk).faults (told (spool_disk d)).faults) → Acted (driven_disks d) (outcome_of (cause_of reason))
      broken disk.Fault rose = acted outcome.Fault (λ image book now told_book answered. absurd answered) tt tt (λ x y image tells start now finds. tt) (λ bad. rose refl)
      broken disk.NoMemory rose = wanting

    module _ (after : Stored D) (new : Spooled D) (run : IsDrive told told node s (drive.Done after new)) (goes : GoesAnyhow told told node s (drive.Done after new)) (stands : IsStore (told after.disk) after.gate after.end after.format after.party)
        (kept : IsSpool (told new.disk) new.gate new.end new.progress) where
      abbrev plans : List EntryPlan
      plans = new.progress.plans

      text_is : new.progress.text ≡ text
      text_is = run.answer.0.text ∙ begun.batch.0

      entries_are : new.progress.entries ≡ entries
      entries_are = run.answer.0.entries ∙ begun.batch.1

      holds_all : (image : List ℕ) → (told new.disk).now ≡ Some image → HoldsPlans image (progress_of text entries plans)
      holds_all image now =
          subst (λ (t : List ℕ). HoldsPlans image (progress_of t entries plans)) text_is
          (subst (λ (es : List Entry). HoldsPlans image (progress_of new.progress.text es plans)) entries_are (kept.standing.stands image now))

      -- the plans that the image held stand in front
      front_done : (book : List ℕ) (p : Progress) → (told old).now ≡ Some book → HoldsPlans book p → (more : List EntryPlan) × (plans ≡ p.plans ++ more)
      front_done book p told_book has_p = go (holds book told_book)
        where
          go : ((is_blank book ≡ true) × (s.progress.plans ≡ [])) ⊎ HoldsPlans book s.progress → (more : List EntryPlan) × (plans ≡ p.plans ++ more)
          go (inl blank) = absurd (differ (is_blank book) blank.0 (spool_full book (Some p) has_p))
          go (inr has) =
              let front = run.answer.0.front in
              (front.0, front.1 ∙ ap (λ (q : Progress). q.plans ++ front.0) (same_progress one_progress book s.progress p has has_p))

      left_done : Left after.disk new.disk (outcome.Done (outbox_of plans))
      left_done = record {
        plans = plans;
        whole = run.answer.0.plans ∙ ap length entries_are;
        spool = record { durable = kept.standing.durable; holds = holds_all };
        front = front_done;
        outbox = refl;
        member = member_of after;
        party = record { durable = stands.durable; stands = λ image now. now_image told after stands image now };
        ends = λ x party_tells spool_tells start.
            subst (λ (es : List Entry). EntriesLead x es plans (member_of after)) begun.batch.1
            (run.ends x party_tells (tells_on spool_tells) (begun_start x spool_tells start));
      }

      due_done : Due (outcome.Done (outbox_of plans))
      due_done image book now told_book answered = record {
        member = member_of node;
        found = found image now;
        reads = reads book told_book;
        never_out = λ e out. run.answer.1 (out_of image book now told_book e out);
      }

      whole_done : AnswersWhole text entries (told old) (told after.disk) (told new.disk) (member_of node) (outcome.Done (outbox_of plans))
      whole_done = record {
        plans = plans;
        whole = run.answer.0.plans ∙ ap length entries_are;
        spool = record { durable = kept.standing.durable; holds = holds_all };
        outbox = refl;
        member = member_of after;
        keeps = record { durable = stands.durable; stands = λ image now. now_image told after stands image now };
        went = went_on plans goes.through.more (member_of after) goes.through.split goes.through.goes;
      }

      done : (o : SpoolOutcome) → HandsOut (outbox_of plans) o → Acted (two_disks after.disk new.disk) o
      done o (inl is) = subst (λ (out : SpoolOutcome). Acted (two_disks after.disk new.disk) out) (sym is)
          (acted (drive.Done after new) run goes (outcome.Done (outbox_of plans)) due_done left_done whole_done (λ x y image tells start now finds. tt) (λ bad. absurd (cc bad)))
      done o (inr is) = subst (λ (out : SpoolOutcome). Acted (two_disks after.disk new.disk) out) (sym is) (wanting (drive.Done after new) run goes)

    module _ (after : Stored D) (new : Spooled D) (entry : ℕ) (run : IsDrive told told node s (drive.OutOfStep after new entry)) (goes : GoesAnyhow told told node s (drive.OutOfStep after new entry)) where
      node_same : after ≡ node
      node_same = run.answer.0

      spool_same : new ≡ s
      spool_same = run.answer.1

      is_out : IsOut (member_of node) s.progress
      is_out = run.answer.3

      due_out : Due (outcome.OutOfStep entry)
      due_out image book now told_book answered = record {
        member = member_of node;
        found = found image now;
        progress = s.progress;
        holds = has_plans (member_of node) book told_book is_out;
        same = begun.batch.0;
        out = is_out;
        number = run.answer.2;
      }

      untouched : (book : List ℕ) → (told old).now ≡ Some book → IsUntouched (told old) (told s.disk)
      untouched book now = begun.untouched book now (spool_full book (Some s.progress) (has_plans (member_of node) book now is_out))

      left_out : Left after.disk new.disk (outcome.OutOfStep entry)
      left_out = record {
        party = subst (λ (n : Stored D). IsUntouched (told node.disk) (told n.disk)) (sym node_same) (untouched_self (told node.disk) (sound node.disk));
        spool = λ tells. let it = told_image (told old).now tells in subst (λ (t : Spooled D). IsUntouched (told old) (told t.disk)) (sym spool_same) (untouched it.0 it.1);
      }

      out : Acted (two_disks after.disk new.disk) (outcome.OutOfStep entry)
      out = acted (drive.OutOfStep after new entry) run goes (outcome.OutOfStep entry) due_out left_out tt
          (λ x y image tells start now finds. absurd (run.ends x (tells_of (told node.disk) image now) (tells_on tells) (begun_start x tells start))) (λ bad. absurd (cc bad))

    pub driven : (d : Driven D D) (o : SpoolOutcome) → IsDrive told told node s d → GoesAnyhow told told node s d → IsEnd told d o → Acted (driven_disks d) o
    driven (drive.Done after new) o run goes end = done after new run goes end.0 end.1 o end.2
    driven (drive.OutOfStep after new entry) o run goes end = subst (λ (t : SpoolOutcome). Acted (two_disks after.disk new.disk) t) (sym end) (out after new entry run goes)
    driven (drive.NodeBroken b new) o run goes end = subst (λ (t : SpoolOutcome). Acted (two_disks b.disk new.disk) t) (sym end) (broken (drive.NodeBroken b new) run goes b.cause (λ is. inl (run.answer.0.fault is)))
    driven (drive.SpoolBroken after b) o run goes end = subst (λ (t : SpoolOutcome). Acted (two_disks after.disk b.disk) t) (sym end) (broken (drive.SpoolBroken after b) run goes b.cause (λ is. inr (run.answer.0.fault is)))
    driven (drive.NoMemory after new) o run goes end = subst (λ (t : SpoolOutcome). Acted (two_disks after.disk new.disk) t) (sym end) (wanting (drive.NoMemory after new) run goes)

    -- what is handed on of it
    pub ended : (d : Driven D D) (result : Disks D × SpoolOutcome) → IsDrive told told node s d → GoesAnyhow told told node s d → result.0 ≡ driven_disks d → IsEnd told d result.1 → Acted result.0 result.1
    ended d result run goes disks_are end = subst (λ (two : Disks D). Acted two result.1) (sym disks_are) (driven d result.1 run goes end)
