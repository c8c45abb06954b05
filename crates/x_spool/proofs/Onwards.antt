-- A party goes on by a batch over disks that are alike, or by none.
use Rattle.std.proofs.Common.{◌≡◌, ◌⊎◌, inl, inr, ℕ, List, is_some, sym, ap, ◌∙◌}
use Rattle.x_disk.specs.Disk.{View, LeavesNoMore}
use Rattle.x_disk.specs.Shelf.{IsAlike}
use Rattle.x_disk.proofs.Alike.{durable_alike}
use Rattle.member.specs.Member.{Member}
use Rattle.csm_batch.specs.declared.entry.Entry.{Entry}
use Rattle.spool_store.specs.declared.entry_plan.EntryPlan.{EntryPlan}
use Rattle.x_spool.specs.Onward.{HeldThese, WentOn, AnswersWhole, IsUnplanned, IsLeftOnward, GoesOnward}
use Rattle.x_spool.specs.declared.outcome.SpoolOutcome.{SpoolOutcome}
use Rattle.x_spool.specs.declared.outcome.SpoolOutcome.TheVariants as outcome

module _ (name text : List ℕ) (entries : List Entry) where
  -- the same was read of the disks, and a crash could leave no more of them
  module _ (first second out_first out_second after second_after : View) (first_now : out_first.now ≡ first.now) (second_now : out_second.now ≡ second.now) (fewer : LeavesNoMore first out_first) (fewer_spool : LeavesNoMore second out_second) where
    held_before : (stood : List EntryPlan) → HeldThese text entries out_second stood → HeldThese text entries second stood
    held_before stood held = λ book now. held book (second_now ∙ now)

    went_before : (x : Member) (plans : List EntryPlan) (y : Member) → WentOn text entries out_second x plans y → WentOn text entries second x plans y
    went_before x plans y w = record { stood = w.stood; held = held_before w.stood w.held; more = w.more; split = w.split; goes = w.goes }

    whole_before : (x : Member) (o : SpoolOutcome) → AnswersWhole text entries out_second after second_after x o → AnswersWhole text entries second after second_after x o
    whole_before x (outcome.Done out) w = record { plans = w.plans; whole = w.whole; spool = w.spool; outbox = w.outbox; member = w.member; keeps = w.keeps; went = went_before x w.plans w.member w.went }
    whole_before x outcome.OtherBatch w = tt
    whole_before x (outcome.OutOfStep e) w = tt
    whole_before x (outcome.OtherParty asked found) w = tt
    whole_before x outcome.Blank w = tt
    whole_before x (outcome.Damaged place) w = tt
    whole_before x outcome.Fault w = tt
    whole_before x outcome.NoMemory w = tt

    unplanned_before : IsUnplanned text entries out_second second_after → IsUnplanned text entries second second_after
    unplanned_before unplanned = λ tells book at. elim (unplanned (ap is_some second_now ∙ tells) book at) [ inl was ↦ inl (fewer_spool book was) | inr begun ↦ inr begun ]

    left_before : (x : Member) (c : List ℕ) → (out_first.may_leave c × IsUnplanned text entries out_second second_after) ⊎ IsLeftOnward text entries out_second second_after x c
        → (first.may_leave c × IsUnplanned text entries second second_after) ⊎ IsLeftOnward text entries second second_after x c
    left_before x c (inl was) = inl (fewer c was.0, unplanned_before was.1)
    left_before x c (inr is) = inr (record {
      stood = is.stood;
      held = held_before is.stood is.held;
      more = is.more;
      member = is.member;
      way = is.way;
      stands = is.stands;
      kept = λ tells. is.kept (ap is_some second_now ∙ tells);
    })

    pub before : (o : SpoolOutcome) → GoesOnward name text entries out_first out_second after second_after o → GoesOnward name text entries first second after second_after o
    before o goes = record {
      answers = λ image x now finds. whole_before x o (goes.answers image x (first_now ∙ now) finds);
      left = λ image x now finds c at. left_before x c (goes.left image x (first_now ∙ now) finds c at);
    }

  -- both disks are put back
  module _ (first second mid second_mid new second_new : View) (back : IsAlike mid new) (second_back : IsAlike second_mid second_new) where
    whole_after : (x : Member) (o : SpoolOutcome) → AnswersWhole text entries second mid second_mid x o → AnswersWhole text entries second new second_new x o
    whole_after x (outcome.Done out) w = record {
      plans = w.plans;
      whole = w.whole;
      spool = record { durable = durable_alike second_mid second_new w.spool.durable second_back; holds = λ image now. w.spool.holds image (sym second_back.now ∙ now) };
      outbox = w.outbox;
      member = w.member;
      keeps = record { durable = durable_alike mid new w.keeps.durable back; stands = λ image now. w.keeps.stands image (sym back.now ∙ now) };
      went = w.went;
    }
    whole_after x outcome.OtherBatch w = tt
    whole_after x (outcome.OutOfStep e) w = tt
    whole_after x (outcome.OtherParty asked found) w = tt
    whole_after x outcome.Blank w = tt
    whole_after x (outcome.Damaged place) w = tt
    whole_after x outcome.Fault w = tt
    whole_after x outcome.NoMemory w = tt

    left_after : (x : Member) (c : List ℕ) → (first.may_leave c × IsUnplanned text entries second second_mid) ⊎ IsLeftOnward text entries second second_mid x c
        → (first.may_leave c × IsUnplanned text entries second second_new) ⊎ IsLeftOnward text entries second second_new x c
    left_after x c (inl was) = inl (was.0, λ tells book at. was.1 tells book (second_back.images book at))
    left_after x c (inr is) = inr (record {
      stood = is.stood;
      held = is.held;
      more = is.more;
      member = is.member;
      way = is.way;
      stands = is.stands;
      kept = λ tells book at. is.kept tells book (second_back.images book at);
    })

    pub after : (o : SpoolOutcome) → GoesOnward name text entries first second mid second_mid o → GoesOnward name text entries first second new second_new o
    after o goes = record {
      answers = λ image x now finds. whole_after x o (goes.answers image x now finds);
      left = λ image x now finds c at. left_after x c (goes.left image x now finds c (back.images c at));
    }

  -- nothing is written to the party's disk, no batch is done, and no entry is planned
  pub rests : (first second new second_new : View) (o : SpoolOutcome) → ((x : Member) → AnswersWhole text entries second new second_new x o) → LeavesNoMore first new → IsUnplanned text entries second second_new
      → GoesOnward name text entries first second new second_new o
  rests first second new second_new o undone fewer unplanned = record { answers = λ image x now finds. undone x; left = λ image x now finds c at. inl (fewer c at, unplanned) }

  -- so it is where nothing is written to the spool's disk either
  pub all_rests : (first second new second_new : View) (o : SpoolOutcome) → ((x : Member) → AnswersWhole text entries second new second_new x o) → LeavesNoMore first new → LeavesNoMore second second_new
      → GoesOnward name text entries first second new second_new o
  all_rests first second new second_new o undone fewer fewer_spool = rests first second new second_new o undone fewer (λ tells book at. inl (fewer_spool book at))
