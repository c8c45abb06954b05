-- The rest of a batch, from a party that is behind the plans that stand.
use Rattle.std.proofs.Common.{◌≡◌, ◌≢◌, ◌⊎◌, inl, inr, ℕ, zero, suc, ◌+◌, ◌<◌, ◌≤◌, List, [], ◌∷◌, ◌++◌, length, drop, slice_get, Some, refl, sym, ap, subst, ◌∙◌, arith, append-nil, append_assoc, length-append}
use Rattle.x_base.specs.Edge.{Rose}
use Rattle.x_disk.specs.Disk.{View, Tells}
use Rattle.x_disk.specs.declared.disk.DiskErr.{DiskErr}
use Rattle.key_journal.specs.States.{Failed, FaultsRose}
use Rattle.key_store.specs.Store.{Stored, IsStore}
use Rattle.member.specs.Member.{Member}
use Rattle.node_core.specs.Turns.{member_of, IsImageOf}
use Rattle.csm_batch.specs.declared.entry.Entry.{Entry}
use Rattle.spool_store.specs.declared.entry_plan.EntryPlan.{EntryPlan}
use Rattle.csm_spool.specs.declared.outcome.Driven.TheVariants as drive
use Rattle.spool_store.specs.Contents.{Progress, HoldsPlans, with_plan}
use Rattle.csm_spool.specs.Courses.{EntriesLead}
use Rattle.csm_spool.specs.InStep.{InStep}
use Rattle.spool_store.specs.Committing.{HoldsEither}
use Rattle.csm_spool.specs.Drives.{KeepsBoth, IsRun}
use Rattle.csm_spool.specs.Going.{open_entries, AreKept, HoldsKept, IsLeftGoing, RunsAnyhow}
use Rattle.spool_store.specs.Spools.{Spooled, IsSpool}
use Rattle.csm_spool.specs.Stepping.{IsNext, IsOn, IsNodeCut, IsSpoolCut}
use Rattle.csm_spool.proofs.Steps.{course_on, commit, carried, at_rest}
use Rattle.csm_spool.proofs.Images.{party_images, spool_images}
use Rattle.csm_spool.proofs.Entries.{within}
use Rattle.csm_spool.proofs.PlanEdits.{unchanged}

pub rose_later : (a b c : ℕ) → a ≤ b → Rose b c → Rose a c
rose_later a b c le (inl less) = inl (omega (arith, le, less))
rose_later a b c le (inr most) = inr most

pub keeps_on : (p s p1 s1 p2 s2 : View) → KeepsBoth p s p1 s1 → KeepsBoth p1 s1 p2 s2 → KeepsBoth p s p2 s2
keeps_on p s p1 s1 p2 s2 a b = record {
  party_faults = omega (arith, a.party_faults, b.party_faults);
  spool_faults = omega (arith, a.spool_faults, b.spool_faults);
  party_tells = b.party_tells ∙ a.party_tells;
  spool_tells = b.spool_tells ∙ a.spool_tells;
}

pub cause_on : (v0 v1 v2 : View) (cause : DiskErr) → v0.faults ≤ v1.faults → FaultsRose v1 v2 cause → FaultsRose v0 v2 cause
cause_on v0 v1 v2 cause le rose = record { later = omega (arith, le, rose.later); fault = λ is. rose_later v0.faults v1.faults v2.faults le (rose.fault is) }

none_or_some : (l : List ℕ) → (l ≡ []) ⊎ (l ≢ [])
none_or_some [] = inl refl
none_or_some (b ∷ l) = inr (λ is. absurd (cc is))

-- an entry behind the first ones
behind : (entries : List Entry) (k n m : ℕ) (e : Entry) → m ≡ k + n → slice_get entries m ≡ Some e → slice_get (drop k entries) n ≡ Some e
behind entries zero n m e is at = let same : m ≡ n = omega (arith, is) in subst (λ (i : ℕ). slice_get entries i ≡ Some e) same at
behind [] (suc k) n m e is at = absurd (cc at)
behind (f ∷ entries) (suc k) n zero e is at = absurd (omega (arith, is))
behind (f ∷ entries) (suc k) n (suc m) e is at = behind entries k n m e (omega (arith, is)) at

module _ {D E : Type 0} (told : D → View) (told_spool : E → View) (first : Stored D) (old : Spooled E) where
  -- some entries are done
  pub record IsRunning (node : Stored D) (spool : Spooled E) : Type 0 where
    pub text : spool.progress.text ≡ old.progress.text
    pub entries : spool.progress.entries ≡ old.progress.entries
    -- the plans that stood are in front, and the entries behind them lead by the others from the party that came
    pub onward : (more : List EntryPlan) × (spool.progress.plans ≡ old.progress.plans ++ more) × EntriesLead (member_of first) (open_entries old.progress) more (member_of node)
    pub course : (x : Member) → EntriesLead x old.progress.entries old.progress.plans (member_of first) → EntriesLead x old.progress.entries spool.progress.plans (member_of node)
    pub keeps : KeepsBoth (told first.disk) (told_spool old.disk) (told node.disk) (told_spool spool.disk)
    pub over : length old.progress.entries ≤ length old.progress.plans → (node ≡ first) × (spool ≡ old)

  pub begun : IsRunning first old
  begun = record { text = refl; entries = refl; onward = ([], sym (append-nil old.progress.plans), refl); course = λ x c. c; keeps = record { party_faults = omega arith; spool_faults = omega arith; party_tells = refl; spool_tells = refl }; over = λ all. (refl, refl) }

  module _ (node : Stored D) (spool : Spooled E) (run : IsRunning node spool) where
    -- the progress, of the batch as it was
    abbrev now : Progress
    now = record { text = old.progress.text; entries = old.progress.entries; plans = spool.progress.plans }

    now_is : spool.progress ≡ now
    now_is =
        ap (λ (t : List ℕ). let p : Progress = record { text = t; entries = spool.progress.entries; plans = spool.progress.plans } in p) run.text
        ∙ ap (λ (es : List Entry). let p : Progress = record { text = old.progress.text; entries = es; plans = spool.progress.plans } in p) run.entries

    next_now : (here there : Member) (plan : EntryPlan) → IsNext spool.progress here plan there → IsNext now here plan there
    next_now here there plan next = subst (λ (p : Progress). IsNext p here plan there) now_is next

    -- where each entry had its plan there is no next one, and nothing was called
    no_next : length old.progress.entries ≤ length old.progress.plans → (here there : Member) (plan : EntryPlan) → IsNext spool.progress here plan there → ⊥
    no_next all here there plan next =
        let same = (run.over all).1 in
        let more : length spool.progress.plans < length spool.progress.entries = within spool.progress next.entry next.at in
        omega (arith, all, more, ap (λ (s : Spooled E). length s.progress.plans) same, ap (λ (s : Spooled E). length s.progress.entries) same)

    -- the entries behind the plans that stood lead on by the next plan
    leads_on : (there : Member) (plan : EntryPlan) → IsNext spool.progress (member_of node) plan there → EntriesLead (member_of first) (open_entries old.progress) (run.onward.0 ++ plan ∷ []) there
    leads_on there plan next =
        let n = next_now (member_of node) there plan next in
        let count : length spool.progress.plans ≡ length old.progress.plans + length run.onward.0 = ap (λ (l : List EntryPlan). length l) run.onward.1 ∙ length-append old.progress.plans run.onward.0 in
        let at = behind old.progress.entries (length old.progress.plans) (length run.onward.0) (length spool.progress.plans) n.entry count n.at in
        course_on (member_of first) (open_entries old.progress) run.onward.0 (member_of node) there n.entry plan run.onward.2 at n.leads

    still : (after : Stored D) (new : Spooled E) → after ≡ node → new ≡ spool → length old.progress.entries ≤ length old.progress.plans → (after.disk ≡ first.disk) × (new.disk ≡ old.disk)
    still after new same also all = (ap (λ (n : Stored D). n.disk) (same ∙ (run.over all).0), ap (λ (s : Spooled E). s.disk) (also ∙ (run.over all).1))

    pub on : (after : Stored D) (new : Spooled E) → IsOn node spool after new → KeepsBoth (told node.disk) (told_spool spool.disk) (told after.disk) (told_spool new.disk) → IsRunning after new
    on after new h keeps = record {
      text = ap (λ (p : Progress). p.text) h.goes ∙ run.text;
      entries = ap (λ (p : Progress). p.entries) h.goes ∙ run.entries;
      onward = (
        run.onward.0 ++ h.plan ∷ [],
        ap (λ (p : Progress). p.plans) h.goes
            ∙ (ap (λ (l : List EntryPlan). l ++ h.plan ∷ []) run.onward.1 ∙ append_assoc old.progress.plans run.onward.0 (h.plan ∷ [])),
        leads_on (member_of after) h.plan h.next,
      );
      course = λ x c.
          let n = next_now (member_of node) (member_of after) h.plan h.next in
          subst (λ (ps : List EntryPlan). EntriesLead x old.progress.entries ps (member_of after)) (sym (ap (λ (p : Progress). p.plans) h.goes))
          (course_on x old.progress.entries spool.progress.plans (member_of node) (member_of after) n.entry h.plan (run.course x c) n.at n.leads);
      keeps = keeps_on (told first.disk) (told_spool old.disk) (told node.disk) (told_spool spool.disk) (told after.disk) (told_spool new.disk) run.keeps keeps;
      over = λ all. absurd (no_next all (member_of node) (member_of after) h.plan h.next);
    }

    -- the party and the spool at rest
    resting : (after : Stored D) (new : Spooled E) → member_of after ≡ member_of node → new.progress ≡ spool.progress → IsStore (told after.disk) after.gate after.end after.format after.party → IsSpool (told_spool new.disk) new.gate new.end new.progress
        → Tells (told after.disk) → Tells (told_spool new.disk) → (x : Member) → EntriesLead x old.progress.entries old.progress.plans (member_of first) → (i j : List ℕ) → (told after.disk).may_leave i → (told_spool new.disk).may_leave j → InStep i j old.progress.text x old.progress.entries
    resting after new same still store kept party_tells spool_tells x c i j at_party at_spool =
        at_rest i j x (member_of node) now (run.course x c)
        (subst (λ (m : Member). IsImageOf m i) same (party_images told after store party_tells i at_party))
        (subst (HoldsPlans j) (still ∙ now_is) (spool_images (told_spool new.disk) new.gate new.end new.progress kept spool_tells j at_spool))

    pub ends : IsStore (told node.disk) node.gate node.end node.format node.party → IsSpool (told_spool spool.disk) spool.gate spool.end spool.progress → length spool.progress.entries ≤ length spool.progress.plans
        → IsRun told told_spool first old (drive.Done node spool)
    ends store kept over = record {
      answer = record { text = run.text; entries = run.entries; plans = omega (arith, kept.progress.few, over); front = (run.onward.0, run.onward.1) };
      ends = λ x c. run.course x c;
      in_step = λ x c party_tells spool_tells. resting node spool refl refl store kept (run.keeps.party_tells ∙ party_tells) (run.keeps.spool_tells ∙ spool_tells) x c;
      keeps = run.keeps;
      rests = still node spool refl refl;
    }

    pub halted : (after : Stored D) (new : Spooled E) → after ≡ node → new ≡ spool → IsStore (told after.disk) after.gate after.end after.format after.party → IsSpool (told_spool new.disk) new.gate new.end new.progress
        → KeepsBoth (told node.disk) (told_spool spool.disk) (told after.disk) (told_spool new.disk) → IsRun told told_spool first old (drive.NoMemory after new)
    halted after new same still_spool store kept keeps =
        let all = keeps_on (told first.disk) (told_spool old.disk) (told node.disk) (told_spool spool.disk) (told after.disk) (told_spool new.disk) run.keeps keeps in
        record {
          answer = tt;
          ends = λ x c. tt;
          in_step = λ x c party_tells spool_tells. resting after new (ap member_of same) (ap (λ (s : Spooled E). s.progress) still_spool) store kept (all.party_tells ∙ party_tells) (all.spool_tells ∙ spool_tells) x c;
          keeps = all;
          rests = still after new same still_spool;
        }

    pub node_broken : (broken : Failed D) (new : Spooled E) → IsNodeCut told node spool broken new → IsSpool (told_spool new.disk) new.gate new.end new.progress
        → KeepsBoth (told node.disk) (told_spool spool.disk) (told broken.disk) (told_spool new.disk) → IsRun told told_spool first old (drive.NodeBroken broken new)
    node_broken broken new h kept keeps =
        let all = keeps_on (told first.disk) (told_spool old.disk) (told node.disk) (told_spool spool.disk) (told broken.disk) (told_spool new.disk) run.keeps keeps in
        record {
          answer = cause_on (told first.disk) (told node.disk) (told broken.disk) broken.cause run.keeps.party_faults h.cause;
          ends = λ x c. tt;
          in_step = λ x c party_tells spool_tells i j at_party at_spool.
              carried i j x (member_of node) h.there now h.plan (run.course x c) (next_now (member_of node) h.there h.plan h.next)
              (h.leaves (run.keeps.party_tells ∙ party_tells) i at_party)
              (subst (HoldsPlans j) (h.goes ∙ ap (λ (p : Progress). with_plan p h.plan) now_is) (spool_images (told_spool new.disk) new.gate new.end new.progress kept (all.spool_tells ∙ spool_tells) j at_spool));
          keeps = all;
          rests = λ whole. absurd (no_next whole (member_of node) h.there h.plan h.next);
        }

    pub spool_broken : (after : Stored D) (broken : Failed E) → IsSpoolCut told_spool node spool after broken → IsStore (told after.disk) after.gate after.end after.format after.party
        → KeepsBoth (told node.disk) (told_spool spool.disk) (told after.disk) (told_spool broken.disk) → IsRun told told_spool first old (drive.SpoolBroken after broken)
    spool_broken after broken h store keeps =
        let all = keeps_on (told first.disk) (told_spool old.disk) (told node.disk) (told_spool spool.disk) (told after.disk) (told_spool broken.disk) run.keeps keeps in
        record {
          answer = cause_on (told_spool old.disk) (told_spool spool.disk) (told_spool broken.disk) broken.cause run.keeps.spool_faults h.cause;
          ends = λ x c. tt;
          in_step = λ x c party_tells spool_tells i j at_party at_spool.
              commit i j x (member_of node) h.there now h.plan (run.course x c) (next_now (member_of node) h.there h.plan h.next)
              (subst (λ (n : Stored D). IsImageOf (member_of n) i) h.same (party_images told after store (all.party_tells ∙ party_tells) i at_party))
              (subst (λ (p : Progress). HoldsEither p h.plan j) now_is (h.leaves (run.keeps.spool_tells ∙ spool_tells) j at_spool));
          keeps = all;
          rests = λ whole. absurd (no_next whole (member_of node) h.there h.plan h.next);
        }

    -- whoever commanded the party before

    -- the entries behind the plans that stood lead by these plans there
    abbrev Leads : List EntryPlan → Member → Type 0
    Leads = EntriesLead (member_of first) (open_entries old.progress)

    -- the batch, with these plans behind those that stood
    abbrev behind_old : List EntryPlan → Progress
    behind_old plans = record { text = old.progress.text; entries = old.progress.entries; plans = old.progress.plans ++ plans }

    stands_as : spool.progress ≡ behind_old run.onward.0
    stands_as = now_is ∙ ap (λ (l : List EntryPlan). let p : Progress = record { text = old.progress.text; entries = old.progress.entries; plans = l } in p) run.onward.1

    one_more : (plan : EntryPlan) → with_plan spool.progress plan ≡ behind_old (run.onward.0 ++ plan ∷ [])
    one_more plan =
        ap (λ (p : Progress). with_plan p plan) stands_as
        ∙ ap (λ (l : List EntryPlan). let p : Progress = record { text = old.progress.text; entries = old.progress.entries; plans = l } in p) (append_assoc old.progress.plans run.onward.0 (plan ∷ []))

    -- an image that holds these plans behind those that stood
    held : (more plans : List EntryPlan) → AreKept more plans → (p : Progress) → p ≡ behind_old plans → (book : List ℕ) → HoldsPlans book p → HoldsKept old.progress more book
    held more plans are p same book holds = record { plans = plans; are = are; holds = subst (HoldsPlans book) same holds }

    -- an image of the party and of the spool that stand
    left_at : (after : Stored D) (new : Spooled E) → member_of after ≡ member_of node → new.progress ≡ spool.progress → IsStore (told after.disk) after.gate after.end after.format after.party → IsSpool (told_spool new.disk) new.gate new.end new.progress
        → Tells (told after.disk) → (Tells (told_spool old.disk) → Tells (told_spool new.disk)) → (c : List ℕ) → (told after.disk).may_leave c → IsLeftGoing Leads old.progress (told_spool old.disk) (told_spool new.disk) c
    left_at after new same still store kept tells spool_tells c at = record {
      more = run.onward.0;
      member = member_of node;
      way = run.onward.2;
      stands = subst (λ (m : Member). IsImageOf m c) same (party_images told after store tells c at);
      kept = λ was book left. held run.onward.0 run.onward.0 (inl refl) new.progress (still ∙ stands_as) book (spool_images (told_spool new.disk) new.gate new.end new.progress kept (spool_tells was) book left);
    }

    pub ends_anyhow : IsStore (told node.disk) node.gate node.end node.format node.party → IsSpool (told_spool spool.disk) spool.gate spool.end spool.progress → RunsAnyhow told told_spool first old (drive.Done node spool)
    ends_anyhow store kept = record {
      through = record { more = run.onward.0; split = run.onward.1; goes = run.onward.2 };
      left = λ tells c at. left_at node spool refl refl store kept (run.keeps.party_tells ∙ tells) (λ was. run.keeps.spool_tells ∙ was) c at;
    }

    pub halted_anyhow : (after : Stored D) (new : Spooled E) → after ≡ node → new ≡ spool → IsStore (told after.disk) after.gate after.end after.format after.party → IsSpool (told_spool new.disk) new.gate new.end new.progress
        → KeepsBoth (told node.disk) (told_spool spool.disk) (told after.disk) (told_spool new.disk) → RunsAnyhow told told_spool first old (drive.NoMemory after new)
    halted_anyhow after new same still_spool store kept keeps = record {
      through = tt;
      left = λ tells c at.
          left_at after new (ap member_of same) (ap (λ (s : Spooled E). s.progress) still_spool) store kept (keeps.party_tells ∙ (run.keeps.party_tells ∙ tells)) (λ was. keeps.spool_tells ∙ (run.keeps.spool_tells ∙ was)) c at;
    }

    -- the party's disk failed, and the spool stands with the plan
    module _ (broken : Failed D) (new : Spooled E) (h : IsNodeCut told node spool broken new) (kept : IsSpool (told_spool new.disk) new.gate new.end new.progress) (keeps : KeepsBoth (told node.disk) (told_spool spool.disk) (told broken.disk) (told_spool new.disk)) where
      holds_plan : Tells (told_spool old.disk) → (book : List ℕ) → (told_spool new.disk).may_leave book → HoldsPlans book (with_plan spool.progress h.plan)
      holds_plan was book left = subst (HoldsPlans book) h.goes (spool_images (told_spool new.disk) new.gate new.end new.progress kept (keeps.spool_tells ∙ (run.keeps.spool_tells ∙ was)) book left)

      -- the image stands for the member behind the plan
      left_there : (c : List ℕ) → IsImageOf h.there c → IsLeftGoing Leads old.progress (told_spool old.disk) (told_spool new.disk) c
      left_there c there = record {
        more = run.onward.0 ++ h.plan ∷ [];
        member = h.there;
        way = leads_on h.there h.plan h.next;
        stands = there;
        kept = λ was book left. held (run.onward.0 ++ h.plan ∷ []) (run.onward.0 ++ h.plan ∷ []) (inl refl) (with_plan spool.progress h.plan) (one_more h.plan) book (holds_plan was book left);
      }

      -- it stands for the member before it, which is the one behind it where nothing changes
      left_here : (c : List ℕ) → IsImageOf (member_of node) c → (h.plan.change ≡ []) ⊎ (h.plan.change ≢ []) → IsLeftGoing Leads old.progress (told_spool old.disk) (told_spool new.disk) c
      left_here c here (inl none) = left_there c (subst (λ (m : Member). IsImageOf m c) (sym (unchanged (member_of node) h.there h.next.entry h.plan h.next.leads none)) here)
      left_here c here (inr some) = record {
        more = run.onward.0;
        member = member_of node;
        way = run.onward.2;
        stands = here;
        kept = λ was book left. held run.onward.0 (run.onward.0 ++ h.plan ∷ []) (inr (inr (h.plan, some, refl))) (with_plan spool.progress h.plan) (one_more h.plan) book (holds_plan was book left);
      }

      pub node_broken_anyhow : RunsAnyhow told told_spool first old (drive.NodeBroken broken new)
      node_broken_anyhow = record {
        through = tt;
        left = λ tells c at. elim (h.leaves (run.keeps.party_tells ∙ tells) c at) [ inl here ↦ left_here c here (none_or_some h.plan.change) | inr there ↦ left_there c there ];
      }

    -- the spool's disk failed: its images hold the plan or not
    module _ (after : Stored D) (broken : Failed E) (h : IsSpoolCut told_spool node spool after broken) (store : IsStore (told after.disk) after.gate after.end after.format after.party)
        (keeps : KeepsBoth (told node.disk) (told_spool spool.disk) (told after.disk) (told_spool broken.disk)) where
      held_either : (more : List EntryPlan) → AreKept more run.onward.0 → AreKept more (run.onward.0 ++ h.plan ∷ []) → (book : List ℕ) → HoldsEither spool.progress h.plan book → HoldsKept old.progress more book
      held_either more without with_it book (inl holds) = held more run.onward.0 without spool.progress stands_as book holds
      held_either more without with_it book (inr holds) = held more (run.onward.0 ++ h.plan ∷ []) with_it (with_plan spool.progress h.plan) (one_more h.plan) book holds

      left_cut : (c : List ℕ) → IsImageOf (member_of node) c → (h.plan.change ≡ []) ⊎ (h.plan.change ≢ []) → IsLeftGoing Leads old.progress (told_spool old.disk) (told_spool broken.disk) c
      left_cut c here (inl none) = record {
        more = run.onward.0 ++ h.plan ∷ [];
        member = h.there;
        way = leads_on h.there h.plan h.next;
        stands = subst (λ (m : Member). IsImageOf m c) (sym (unchanged (member_of node) h.there h.next.entry h.plan h.next.leads none)) here;
        kept = λ was book left. held_either (run.onward.0 ++ h.plan ∷ []) (inr (inl (h.plan, none, refl))) (inl refl) book (h.leaves (run.keeps.spool_tells ∙ was) book left);
      }
      left_cut c here (inr some) = record {
        more = run.onward.0;
        member = member_of node;
        way = run.onward.2;
        stands = here;
        kept = λ was book left. held_either run.onward.0 (inl refl) (inr (inr (h.plan, some, refl))) book (h.leaves (run.keeps.spool_tells ∙ was) book left);
      }

      pub spool_broken_anyhow : RunsAnyhow told told_spool first old (drive.SpoolBroken after broken)
      spool_broken_anyhow = record {
        through = tt;
        left = λ tells c at.
            left_cut c (subst (λ (n : Stored D). IsImageOf (member_of n) c) h.same (party_images told after store (keeps.party_tells ∙ (run.keeps.party_tells ∙ tells)) c at)) (none_or_some h.plan.change);
      }
