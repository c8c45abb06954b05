-- What is known of a party's disk after what is planned is carried out over it, and over the same with a fuse.
use Rattle.std.proofs.Common.{◌≡◌, ◌⊎◌, inl, inr, ⊎_elim, ℕ, ◌+◌, ◌-◌, ◌≤◌, List, [], ◌∷◌, true, Option, Some, None, is_some, refl, sym, ◌∙◌, ap, subst, arith}
use Rattle.x_base.specs.Edge.{Rose}
use Rattle.x_base.specs.declared.verdict.Verdict.{Verdict}
use Rattle.x_base.specs.declared.key_name.FullName.{FullName}
use Rattle.x_disk.specs.Disk.{View, Tells, LeavesOnly, IsSound}
use Rattle.x_disk.specs.Fuse.{WithFuse, IsFusedView, with_fuse, passes_of}
use Rattle.x_disk.specs.Shelf.{IsAlike}
use Rattle.x_disk.proofs.Runs.{weaker}
use Rattle.x_disk.specs.declared.disk.DiskErr.{DiskErr}
use Rattle.x_disk.specs.declared.disk.DiskErr.TheVariants as disk
use Rattle.key_journal.specs.Causes.{cause_of}
use Rattle.key_journal.specs.declared.cause.Cause.TheVariants as cause
use Rattle.x_disk.specs.declared.fused.Fuse.{Fuse}
use Rattle.x_disk.specs.declared.fused.Fuse.TheVariants.{Passes, Blown}
use Rattle.key_journal.specs.States.{Failed}
use Rattle.party_state.specs.declared.edit.Edit.{Edit}
use Rattle.change_code.specs.Cost.{is_change}
use Rattle.key_store.specs.Store.{Stored}
use Rattle.member.specs.Member.{Member, Plan, after}
use Rattle.member.specs.Acts.{Keeps, taking}
use Rattle.node_core.specs.Turns.{IsImageOf, IsOldOrNext, IsTurn, IsWorkDone, IsWorkCut, IsCutChange, member_of, turn_disk}
use Rattle.node_core.specs.declared.node.Turn.{Turn}
use Rattle.node_core.specs.declared.node.Turn.TheVariants as turn
use Rattle.open_parties.specs.Crash.{IsEither}
use Rattle.open_parties.specs.Failing.{ReadsEither}
use Rattle.open_parties.specs.Stops.{IsDiskAtStop}
use Rattle.open_parties.proofs.Planning.{same_none, changes_or_not}
use Rattle.open_parties.proofs.Stopping.{at_stop_none, at_stop_cut, at_stop_whole}
use Rattle.open_parties.proofs.Images.{image_of, read_left}

pub is_fault : (e : DiskErr) → cause_of e ≡ cause.Fault → e ≡ disk.Fault
is_fault disk.Fault is = refl
is_fault disk.NoMemory is = absurd (cc is)

-- a change is cut where one is made
cut_of : {D : Type 0} (told : D → View) (es : List Edit) (old : Stored D) (b : Failed D) → IsWorkCut told (Keeps es) old b → (is_change es ≡ true) × IsCutChange told es old b
cut_of told [] old b work = absurd work
cut_of told (e ∷ es) old b work = (refl, work)

-- a change that is kept takes four calls
few_calls : {D : Type 0} (told : D → View) (es : List Edit) (old new : Stored D) (calls : ℕ) → IsWorkDone told (Keeps es) old new → (told old.disk).calls_left ≡ Some calls → calls ≤ 3 → is_change es ≡ true → ⊥
few_calls told [] old new calls work calls_left few change = absurd (cc change)
few_calls told (e ∷ es) old new calls work calls_left few change = let enough : 4 ≤ calls = work.enough calls calls_left in omega (arith, enough, few)

-- the member before the edits, or the one after them where there are any
either_of : (x : Member) (es : List Edit) (image : List ℕ) → IsOldOrNext x (after x es) image → IsEither x (after x es) (is_change es ≡ true) image
either_of x es image (inl one) = inl one
either_of x es image (inr next) = changes_or_not es (IsEither x (after x es) (is_change es ≡ true) image) (λ change. inr (change, next)) (λ none. inl (subst (λ (m : Member). IsImageOf m image) (same_none x es none) next))

module _ {D : Type 0} (told : D → View) (old : Stored D) (p : Plan) where
  -- at any moment a crash leaves one of the two
  pub turn_leaves : (t : Turn D) → IsTurn told old (taking p) t → Tells (told old.disk) → LeavesOnly (told old.disk) (told (turn_disk t)) (IsEither (member_of old) (after (member_of old) p.edits) (is_change p.edits ≡ true))
  turn_leaves t is tells = weaker (told old.disk) (told (turn_disk t)) (IsOldOrNext (member_of old) (after (member_of old) p.edits)) (IsEither (member_of old) (after (member_of old) p.edits) (is_change p.edits ≡ true)) (is.any_moment tells) (either_of (member_of old) p.edits)

  module _ (node : Stored D) (verdict : Verdict) (reply : Option (List ℕ)) (under : Option FullName) (t : IsTurn told old (taking p) (turn.Done node verdict reply under)) where
    stands_next : (image : List ℕ) → (told node.disk).now ≡ Some image → IsImageOf (after (member_of old) p.edits) image
    stands_next image now = subst (λ (m : Member). IsImageOf m image) t.answer.next (image_of (told node.disk) node.gate node.end node.format node.party t.stands image now)

    pub done_at_stop : (n : ℕ) → 5 ≤ n → IsDiskAtStop (told old.disk) (told node.disk) (member_of old) (after (member_of old) p.edits) (is_change p.edits ≡ true) n
    done_at_stop n many = at_stop_whole (told old.disk) (told node.disk) (member_of old) (after (member_of old) p.edits) (is_change p.edits ≡ true) n t.tells many t.stands.durable stands_next
        (changes_or_not p.edits ((is_change p.edits ≡ true) ⊎ (is_change p.edits ≡ true → ⊥)) (λ yes. inl yes) (λ no. inr no)) (same_none (member_of old) p.edits)

    pub done_or_not : (member_of node ≡ member_of old) ⊎ ((is_change p.edits ≡ true) × (member_of node ≡ after (member_of old) p.edits))
    done_or_not = changes_or_not p.edits ((member_of node ≡ member_of old) ⊎ ((is_change p.edits ≡ true) × (member_of node ≡ after (member_of old) p.edits)))
        (λ change. inr (change, t.answer.next)) (λ none. inl (t.answer.next ∙ same_none (member_of old) p.edits none))

  pub broken_reads : (b : Failed D) → IsSound (told b.disk) → IsTurn told old (taking p) (turn.Broken b) → Tells (told old.disk) → ReadsEither (told b.disk) (member_of old) (after (member_of old) p.edits) (is_change p.edits ≡ true)
  broken_reads b sound t tells = record {
    tells = t.tells ∙ tells;
    either = λ image now. ⊎_elim (λ one. inl one) (λ next. inr ((cut_of told p.edits old b t.answer.work).0, next))
        (read_left (told old.disk) (told b.disk) (IsOldOrNext (member_of old) (after (member_of old) p.edits)) sound (t.any_moment tells) image now);
  }

-- ---- without the fuse

begins_as : (v w new : View) (P : List ℕ → Type 0) → IsAlike v w → LeavesOnly v new P → LeavesOnly w new P
begins_as v w new P alike run = record {
  later = omega (arith, run.later, alike.moment);
  each = λ c left. run.each c (subst (λ (t : ℕ). new.left_since t c) alike.moment left);
  before = λ t c le left. go t c (run.before t c (omega (arith, le, alike.moment)) left);
}
  where
    go : (t : ℕ) (c : List ℕ) → v.left_since t c ⊎ P c → w.left_since t c ⊎ P c
    go t c (inl was) = inl (alike.since_stays t c was)
    go t c (inr p) = inr p

-- a run at whose end only the fuse is taken off
plain : {v : View} (fuse : Fuse) (w : View) (P : List ℕ → Type 0) → LeavesOnly v (with_fuse fuse w) P → LeavesOnly v w P
plain fuse w P run = record { later = run.later; each = run.each; before = run.before }

module _ {D : Type 0} (told : D → View) (old : Stored D) (f : Stored (WithFuse D)) (p q : Plan) (calls n : ℕ) (planned : q ≡ p) (same : member_of f ≡ member_of old) (count_is : calls ≡ n - 1) (most : n ≤ 4)
    (fused : IsFusedView calls (told old.disk) (with_fuse f.disk.fuse (told f.disk.disk))) where
  abbrev fused_told : WithFuse D → View
  fused_told k = with_fuse k.fuse (told k.disk)

  abbrev x : Member
  x = member_of old

  abbrev y : Member
  y = after (member_of old) p.edits

  abbrev keep : Type 0
  keep = is_change p.edits ≡ true

  calls_left : passes_of f.disk.fuse ≡ Some calls
  calls_left = fused.calls_left

  few : calls ≤ 3
  few = omega (arith, count_is, most)

  alike : IsAlike (with_fuse f.disk.fuse (told f.disk.disk)) (told old.disk)
  alike = fused.disk

  tells_fused : Tells (told old.disk) → Tells (with_fuse f.disk.fuse (told f.disk.disk))
  tells_fused tells = sym (ap is_some alike.now) ∙ tells

  next_is : after (member_of f) q.edits ≡ y
  next_is = (λ i. after (same i) (planned i).edits)

  keep_is : is_change q.edits ≡ true → keep
  keep_is change = sym (ap (λ (r : Plan). is_change r.edits) planned) ∙ change

  keep_for : keep → is_change q.edits ≡ true
  keep_for change = ap (λ (r : Plan). is_change r.edits) planned ∙ change

  either_for : (image : List ℕ) → IsOldOrNext (member_of f) (after (member_of f) q.edits) image → IsOldOrNext x y image
  either_for image (inl one) = inl (subst (λ (m : Member). IsImageOf m image) same one)
  either_for image (inr next) = inr (subst (λ (m : Member). IsImageOf m image) next_is next)

  unfuse : (k : WithFuse D) (P Q : List ℕ → Type 0) → LeavesOnly (with_fuse f.disk.fuse (told f.disk.disk)) (with_fuse k.fuse (told k.disk)) P → ((image : List ℕ) → P image → Q image) → LeavesOnly (told old.disk) (told k.disk) Q
  unfuse k P Q run more = weaker (told old.disk) (told k.disk) P Q (begins_as (with_fuse f.disk.fuse (told f.disk.disk)) (told old.disk) (told k.disk) P alike (plain k.fuse (told k.disk) P run)) more

  pub fused_leaves : (t : Turn (WithFuse D)) → IsTurn fused_told f (taking q) t → Tells (told old.disk) → LeavesOnly (told old.disk) (told (turn_disk t).disk) (IsEither x y keep)
  fused_leaves t is tells = unfuse (turn_disk t) (IsOldOrNext (member_of f) (after (member_of f) q.edits)) (IsEither x y keep) (is.any_moment (tells_fused tells)) (λ image one. either_of x p.edits image (either_for image one))

  pub fused_done : (node : Stored (WithFuse D)) (verdict : Verdict) (reply : Option (List ℕ)) (under : Option FullName) → IsTurn fused_told f (taking q) (turn.Done node verdict reply under)
      → IsDiskAtStop (told old.disk) (told node.disk.disk) x y keep n
  fused_done node verdict reply under t =
      at_stop_none (told old.disk) (told node.disk.disk) x y keep n (t.tells ∙ sym (ap is_some alike.now)) (record { only = t.stands.durable.only; stable = t.stands.durable.stable })
      (λ image now. subst (λ (m : Member). IsImageOf m image) member_is (image_of (fused_told node.disk) node.gate node.end node.format node.party t.stands image now)) none
    where
      none : keep → ⊥
      none change = few_calls fused_told q.edits f node calls t.answer.work calls_left few (keep_for change)

      member_is : member_of node ≡ x
      member_is = t.answer.next ∙ (next_is ∙ same_none x p.edits none)

  blown : (fuse : Fuse) (v : View) → Rose (with_fuse f.disk.fuse (told f.disk.disk)).faults (with_fuse fuse v).faults → v.faults ≡ 0 → passes_of fuse ≡ None
  blown (Passes m) v rose quiet = absurd (none_rose rose)
    where
      none_rose : Rose (with_fuse f.disk.fuse (told f.disk.disk)).faults (v.faults + 0) → ⊥
      none_rose (inl less) = omega (arith, quiet, less)
      none_rose (inr end) = omega (arith, quiet, end)
  blown (Blown m) v rose quiet = refl

  pub fused_cut : (b : Failed (WithFuse D)) → IsSound (told b.disk.disk) → b.cause ≡ disk.Fault → IsTurn fused_told f (taking q) (turn.Broken b) → IsDiskAtStop (told old.disk) (told b.disk.disk) x y keep n
  fused_cut b sound fault t =
      let cut = cut_of fused_told q.edits f b t.answer.work in
      at_stop_cut (told old.disk) (told b.disk.disk) x y keep n (t.tells ∙ sym (ap is_some alike.now)) sound calls count_is most (keep_is cut.0)
      (λ image is. subst (λ (m : Member). IsImageOf m image) same (cut.1.stable image is))
      (λ three quiet image now. subst (λ (m : Member). IsImageOf m image) next_is (cut.1.pending (calls_left ∙ ap Some three) fault (blown b.disk.fuse (told b.disk.disk) (t.answer.cause.fault fault) quiet) image now))
      (λ tells. unfuse b.disk (IsOldOrNext (member_of f) (after (member_of f) q.edits)) (IsOldOrNext x y) (t.any_moment (tells_fused tells)) either_for)
      (λ low tells. unfuse b.disk (IsImageOf (member_of f)) (IsImageOf x) (t.early q.edits refl calls calls_left low (tells_fused tells)) (λ image one. subst (λ (m : Member). IsImageOf m image) same one))
