-- A batch goes on from where its party stands, whoever commanded that before.
use Rattle.std.proofs.Common.{◌≡◌, inl, inr, ℕ, List, [], refl, sym, subst, ◌∙◌, append-nil}
use Rattle.x_disk.specs.Disk.{View, Tells}
use Rattle.key_journal.specs.States.{Failed}
use Rattle.key_store.specs.Store.{Stored, IsStore}
use Rattle.member.specs.Member.{Member}
use Rattle.node_core.specs.Turns.{member_of, IsImageOf}
use Rattle.spool_store.specs.declared.entry_plan.EntryPlan.{EntryPlan}
use Rattle.spool_store.specs.Contents.{Progress, HoldsPlans}
use Rattle.spool_store.specs.Spools.{Spooled, IsSpool}
use Rattle.csm_spool.specs.declared.outcome.Driven.{Driven}
use Rattle.csm_spool.specs.declared.outcome.Driven.TheVariants as drive
use Rattle.csm_spool.specs.declared.catching.Caught.TheVariants as caught
use Rattle.csm_spool.specs.Courses.{EntriesLead}
use Rattle.csm_spool.specs.Catching.{CatchesUp, IsCatching}
use Rattle.csm_spool.specs.Going.{open_entries, GoesOn, HasGoneOn, GoesThrough, HoldsKept, IsLeftGoing, GoesAnyhow, RunsAnyhow}
use Rattle.csm_spool.proofs.Images.{party_images, spool_images}

module _ {D E : Type 0} (told : D → View) (told_spool : E → View) (node : Stored D) (old : Spooled E) where
  -- the last plan is settled, or taken up, and the party runs on from there
  module _ (after : Stored D) (catches : CatchesUp (member_of node) (member_of after) old.progress) where
    goes_on : (more : List EntryPlan) (y : Member) → EntriesLead (member_of after) (open_entries old.progress) more y → GoesOn (member_of node) old.progress more y
    goes_on more y course = record { there = member_of after; caught_up = catches; course = course }

    through : (result : Driven D E) → GoesThrough (EntriesLead (member_of after) (open_entries old.progress)) old.progress result → GoesThrough (GoesOn (member_of node) old.progress) old.progress result
    through (drive.Done n s) r = record { more = r.more; split = r.split; goes = goes_on r.more (member_of n) r.goes }
    through (drive.OutOfStep n s e) r = tt
    through (drive.NodeBroken b s) r = tt
    through (drive.SpoolBroken n b) r = tt
    through (drive.NoMemory n s) r = tt

    run_from : (Tells (told node.disk) → Tells (told after.disk)) → (result : Driven D E) → RunsAnyhow told told_spool after old result → GoesAnyhow told told_spool node old result
    run_from tells_on result run = record {
      through = through result run.through;
      left = λ tells c at.
          let is = run.left (tells_on tells) c at in
          record { more = is.more; member = is.member; way = inr (goes_on is.more is.member is.way); stands = is.stands; kept = is.kept };
    }

  pub behind : (after : Stored D) (new : Spooled E) → IsCatching told told_spool node old (caught.Behind after new) → (result : Driven D E) → RunsAnyhow told told_spool after new result → GoesAnyhow told told_spool node old result
  behind after new c result run = run_from after c.answer.0 (λ tells. c.keeps.party_tells ∙ tells) result (subst (λ (s : Spooled E). RunsAnyhow told told_spool after s result) c.answer.1 run)

  -- nothing was planned: the spool is as it was
  module _ (kept : IsSpool (told_spool old.disk) old.gate old.end old.progress) where
    unplanned : (new : Spooled E) → new ≡ old → Tells (told_spool old.disk) → (book : List ℕ) → (told_spool new.disk).may_leave book → HoldsKept old.progress [] book
    unplanned new same tells book left =
        let at : (told_spool old.disk).may_leave book = subst (λ (s : Spooled E). (told_spool s.disk).may_leave book) same left in
        record {
          plans = [];
          are = inl refl;
          holds = subst (λ (l : List EntryPlan). let p : Progress = record { text = old.progress.text; entries = old.progress.entries; plans = l } in HoldsPlans book p) (sym (append-nil old.progress.plans))
              (spool_images (told_spool old.disk) old.gate old.end old.progress kept tells book at);
        }

    left_so : (new : Spooled E) → new ≡ old → (member : Member) (c : List ℕ) → HasGoneOn (member_of node) old.progress [] member → IsImageOf member c → IsLeftGoing (HasGoneOn (member_of node) old.progress) old.progress (told_spool old.disk) (told_spool new.disk) c
    left_so new same member c way stands = record { more = []; member = member; way = way; stands = stands; kept = unplanned new same }

    -- the party is as it was
    still : IsStore (told node.disk) node.gate node.end node.format node.party → (after : Stored D) (new : Spooled E) → after ≡ node → new ≡ old → Tells (told node.disk) → (c : List ℕ) → (told after.disk).may_leave c
        → IsLeftGoing (HasGoneOn (member_of node) old.progress) old.progress (told_spool old.disk) (told_spool new.disk) c
    still store after new same still_spool tells c at =
        left_so new still_spool (member_of node) c (inl (refl, refl)) (party_images told node store tells c (subst (λ (n : Stored D). (told n.disk).may_leave c) same at))

    pub out : IsStore (told node.disk) node.gate node.end node.format node.party → (after : Stored D) (new : Spooled E) (entry : ℕ) → IsCatching told told_spool node old (caught.OutOfStep after new) → GoesAnyhow told told_spool node old (drive.OutOfStep after new entry)
    out store after new entry c = record { through = tt; left = still store after new c.answer.1 c.answer.2 }

    pub halted : IsStore (told node.disk) node.gate node.end node.format node.party → (after : Stored D) (new : Spooled E) → IsCatching told told_spool node old (caught.NoMemory after new) → GoesAnyhow told told_spool node old (drive.NoMemory after new)
    halted store after new c = record { through = tt; left = still store after new c.answer.0 c.answer.1 }

    pub broken : (b : Failed D) (new : Spooled E) → IsCatching told told_spool node old (caught.NodeBroken b new) → GoesAnyhow told told_spool node old (drive.NodeBroken b new)
    broken b new c = let cut = c.answer.0 in record {
      through = tt;
      left = λ tells i at. elim (cut.leaves tells i at) [
        | inl before ↦ left_so new c.answer.1 (member_of node) i (inl (refl, refl)) before
        | inr there ↦ left_so new c.answer.1 cut.there i (inr (record { there = cut.there; caught_up = inr cut.takes; course = refl })) there
      ];
    }
