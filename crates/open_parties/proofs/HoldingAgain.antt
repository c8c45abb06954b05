-- What a crash leaves of a party's disk until something is held of the party again.
use Rattle.std.proofs.Common.{◌≡◌, inr, ℕ, true, List, Result, sym, subst}
use Rattle.x_disk.specs.Disk.{View, Elapses, IsSound, LeavesNoMore, LeavesOnly}
use Rattle.x_disk.specs.Shelf.{IsAlike}
use Rattle.x_disk.proofs.Runs.{began, begins_alike, ends_alike, goes_on, joined, weaker}
use Rattle.change_code.specs.Cost.{is_change}
use Rattle.key_store.specs.Store.{Stored}
use Rattle.member.specs.Acts.{taking}
use Rattle.member.specs.Member.{Member, after}
use Rattle.node_core.specs.Planned.{PlannedNode}
use Rattle.node_core.specs.Turns.{IsTurn, member_of, turn_disk}
use Rattle.node_core.specs.declared.node.Turn.{Turn}
use Rattle.open_parties.specs.Crash.{disk_begun, held_view, IsEither, IsHeldAgain, HoldsAgain, LeavesHeld, HoldsSince}
use Rattle.open_parties.specs.OpenParties.{Fills}
use Rattle.open_parties.specs.declared.open_party.OpenParty.{OpenParty}
use Rattle.open_parties.specs.declared.open_party.PartyDisk.{PartyDisk}
use Rattle.open_parties.specs.declared.open_party.PartyDisk.TheVariants.{Open, Closed, Away}
use Rattle.open_parties.specs.declared.stopped.FailedPartyDisk.{FailedPartyDisk}
use Rattle.open_parties.proofs.Carrying.{turn_leaves}

-- the power goes, whether that is answered or not: nothing else may be left
pub off_leaves : (v w : View) → IsSound v → Elapses v w → LeavesNoMore v w → LeavesOnly v w v.may_leave
off_leaves v w sound time crash = goes_on v v w v.may_leave (began v v.may_leave sound (λ c is. is)) time (λ c is. crash c is)

-- and then the disk is opened
pub restart_leaves : (v mid w : View) → IsSound v → Elapses v mid → LeavesNoMore v mid → LeavesOnly mid w mid.may_leave → LeavesOnly v w v.may_leave
restart_leaves v mid w sound time crash opened = joined v mid w v.may_leave (off_leaves v mid sound time crash) (weaker mid w mid.may_leave v.may_leave opened (λ c is. crash c is))

-- the disk is put back on the shelf
pub back_leaves : (v w : View) → IsSound v → IsAlike v w → LeavesOnly v w v.may_leave
back_leaves v w sound alike = ends_alike v v w v.may_leave (began v v.may_leave sound (λ c is. is)) alike

-- and fetched anew, until it is opened
pub again_leaves : (v mid w : View) → IsAlike v mid → LeavesOnly mid w mid.may_leave → LeavesOnly v w v.may_leave
again_leaves v mid w alike run = begins_alike v mid w v.may_leave alike (weaker mid w mid.may_leave v.may_leave run (λ c is. alike.images c is))

module _ {D : Type 0} (told : D → View) (old new : List (OpenParty D)) (place : ℕ) where
  -- a plan is carried out over the party's own disk
  module _ (p : PlannedNode D) (t : Turn D) (is : IsTurn told p.node (taking p.plan) t) where
    abbrev pub EitherOf : List ℕ → Type 0
    EitherOf image = IsEither (member_of p.node) (after (member_of p.node) p.plan.edits) (is_change p.plan.edits ≡ true) image

    pub holds_since_turn : (held : PartyDisk D) → Fills old new place held → (LeavesOnly (told p.node.disk) (told (turn_disk t)) EitherOf → LeavesHeld told (told p.node.disk) EitherOf held)
        → HoldsSince told p.node (member_of p.node) (after (member_of p.node) p.plan.edits) (is_change p.plan.edits ≡ true) old new place
    holds_since_turn held fills here = λ tells. record { held = held; fills = fills; leaves = here (turn_leaves told p.node p.plan t is tells) }

  pub holds_since : (shelved : View) (node : Stored D) (x y : Member) (keep : Type 0) → HoldsSince told node x y keep old new place → HoldsAgain told shelved node x y keep old new place
  holds_since shelved node x y keep since = λ tells. let h = since tells in inr (record { held = h.held; fills = h.fills; leaves = go h.held h.leaves })
    where
      go : (held : PartyDisk D) → LeavesHeld told (told node.disk) (IsEither x y keep) held → LeavesOnly (told node.disk) (held_view told shelved held) (IsEither x y keep)
      go (Open n) run = run
      go (Closed disk) run = run
      go Away run = absurd run

module _ {D : Type 0} (told : D → View) (shelved : View) (old new : List (OpenParty D)) (place : ℕ) where
  -- on the disk of a result
  pub holds_again_begun : (begun : Result D (FailedPartyDisk D)) (k : D) → disk_begun begun ≡ k → (held : PartyDisk D) → Fills old new place held → LeavesOnly (told k) (held_view told shelved held) (told k).may_leave
      → IsHeldAgain told shelved (told (disk_begun begun)) (told (disk_begun begun)).may_leave old new place
  holds_again_begun begun k is held fills leaves = record {
    held = held;
    fills = fills;
    leaves = subst (λ (j : D). LeavesOnly (told j) (held_view told shelved held) (told j).may_leave) (sym is) leaves;
  }

  -- behind a run that ends at that disk
  pub holds_again_on : (v : View) (k : D) (P : List ℕ → Type 0) → IsSound (told k) → LeavesOnly v (told k) P → IsHeldAgain told shelved (told k) (told k).may_leave old new place → IsHeldAgain told shelved v P old new place
  holds_again_on v k P sound run r = record {
    held = r.held;
    fills = r.fills;
    leaves = joined v (told k) (held_view told shelved r.held) P run
        (weaker (told k) (held_view told shelved r.held) (told k).may_leave P r.leaves (λ image left. run.each image (sound.counts_now v.moment image run.later left)));
  }
